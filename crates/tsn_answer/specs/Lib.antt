pub mod Proof
pub mod ProofLaws
pub mod Known
pub mod Optimum
pub mod Answer
pub mod Laws
