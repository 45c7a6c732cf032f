pub mod OfRecords
pub mod Demand1
pub mod OfTheCode
pub mod Meets
