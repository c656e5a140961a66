pub mod Divisors
pub mod Placing
pub mod Sums
pub mod Wastes
