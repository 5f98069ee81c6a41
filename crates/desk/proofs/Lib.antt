-- The laws that the functions' proofs use; `Turns` has those of counted loops, for code that goes by a place.
pub mod Spelt
pub mod Made
pub mod Summed
pub mod Turns
pub mod Refused
pub mod Computing
mod Vectors
