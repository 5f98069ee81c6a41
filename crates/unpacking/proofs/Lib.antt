-- What belongs to no one function: what `either_nar`, the parts of a pattern, and its scale and significand, tell of it, and cases of the parts.
pub mod Either
pub mod Parts
pub mod Scale
pub mod Valued
mod Vectors
