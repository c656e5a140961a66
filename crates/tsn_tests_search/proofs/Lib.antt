pub mod Solving
pub mod Crossing
pub mod Numbers
