pub mod Chain
pub mod Demand1
pub mod Folded
pub mod Product
