pub mod SaidLemmas
pub mod RunLemmas
pub mod LineLemmas
pub mod Objects
pub mod RunsLemmas
