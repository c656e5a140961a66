pub mod Turning
pub mod Judging
pub mod Lagging
pub mod Neighbouring
pub mod Overlapping
pub mod Sending
pub mod Tabling
pub mod Using
pub mod Hopping
mod DecidedArcs
pub mod Ending
