pub mod Search
pub mod Below
