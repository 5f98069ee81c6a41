-- The laws of the definitions, over the exponent size, the number of digits, the base and the count; and tables of cases that the checker computes.
pub mod Arith
pub mod Tail
pub mod Built
pub mod Size
pub mod Compare
pub mod Below
pub mod Rounding
pub mod LongPattern
pub mod Unit
pub mod Root
pub mod Packing
pub mod Signs
pub mod Value
pub mod Word
pub mod Unsigned
pub mod Finer
pub mod Operation
pub mod Quotient
pub mod Digits
pub mod Complement
pub mod State
pub mod Computing
pub mod Table
mod Sheet
mod Vectors
