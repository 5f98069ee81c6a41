-- What posits, their rounding and the accumulator mean. Numbers in brackets are statements of docs/SPECIFICATION.md.
pub mod Pattern
pub mod Exact
pub mod Rounding
pub mod Operation
pub mod Digits
pub mod Accumulator
