pub mod ShownPlans
pub mod Deciding
pub mod KnownLemmas
pub mod Agreeing
