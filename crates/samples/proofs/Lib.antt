pub mod Demand1
