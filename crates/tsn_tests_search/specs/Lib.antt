pub mod Solving
pub mod Numbers
