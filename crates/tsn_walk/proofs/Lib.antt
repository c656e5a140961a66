mod Further
mod Settling
pub mod Batching
