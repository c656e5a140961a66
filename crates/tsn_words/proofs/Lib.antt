pub mod Fronts
pub mod Commands
pub mod Given
pub mod Levels
pub mod Getters
pub mod Taken
pub mod Reading
