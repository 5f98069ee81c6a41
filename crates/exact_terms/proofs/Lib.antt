-- What belongs to no one function: exact terms, and the sum of two.
pub mod Exactly
pub mod Wide
pub mod Added
