pub mod GoingOn
pub mod Learned
pub mod Team
pub mod Batch
pub mod Gathered
