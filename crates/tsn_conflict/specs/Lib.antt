pub mod Kept
pub mod Raised
pub mod Laws
pub mod Rows
pub mod Pairs
pub mod Path
pub mod Outcome
pub mod Right
