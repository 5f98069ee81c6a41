-- The laws that the functions' proofs use.
pub mod Range
pub mod Brought
pub mod Moved
pub mod Words
pub mod Kept
pub mod Stepped
pub mod Joined
pub mod Computing
pub mod Vectors
