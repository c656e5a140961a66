pub mod Plans
mod Refusals
mod Verdicts
mod Loads
pub mod Shifts
mod Walks
mod Chains
mod Firsts
mod Branching
mod Ties
mod Fitting
