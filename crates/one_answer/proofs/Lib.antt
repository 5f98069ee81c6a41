-- The theorems of one answer, crate by crate, and those of wrong engines; `Determined`, `Engines` and `Arguments` are what their proofs use.
mod Determined
mod Arithmetic
mod Accumulator
mod Desk
mod Linked
mod Engines
mod Arguments
mod Wrong
mod Handed
mod Writers
