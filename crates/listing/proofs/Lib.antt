pub mod Printing
pub mod Measures
