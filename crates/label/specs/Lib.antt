pub mod Label
pub mod Numbers
pub mod Rows
pub mod Good
pub mod Arrived
pub mod Printing
pub mod Worked
