-- The laws that the functions' proofs use.
pub mod Places
pub mod Carry
pub mod Seen
pub mod First
pub mod Operand
pub mod Chain
