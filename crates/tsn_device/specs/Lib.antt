pub mod Known
pub mod Wanted
