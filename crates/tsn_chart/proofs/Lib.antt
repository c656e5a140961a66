pub mod Runs
pub mod Longest
pub mod Listing
pub mod Wholes
pub mod Counting
pub mod Slacks
pub mod Listening
