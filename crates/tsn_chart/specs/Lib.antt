pub mod Shares
pub mod Listeners
pub mod Rest
pub mod Table
pub mod Json
pub mod Csv
