pub mod Run
pub mod Stop
pub mod Said
pub mod Outcome
pub mod Told
pub mod Runs
