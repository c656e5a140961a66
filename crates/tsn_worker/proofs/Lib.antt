pub mod Teams
mod Gathering
mod Bounds
pub mod BatchTellers
pub mod Bags
