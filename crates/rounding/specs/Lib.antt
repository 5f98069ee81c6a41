-- What the arguments of `pack` mean.
pub mod Packed
