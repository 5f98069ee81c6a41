-- What the answers of `unpack` and `scaled_of` mean.
pub mod Parts
pub mod Scaled
pub mod Unpacked
