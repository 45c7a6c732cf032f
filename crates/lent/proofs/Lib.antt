pub mod Demand1
pub mod Runs
pub mod OfTheCode
pub mod Meets
