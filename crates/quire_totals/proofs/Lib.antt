-- The laws that the functions' proofs use.
pub mod FirstDigits
pub mod InParts
