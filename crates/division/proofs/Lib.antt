-- What belongs to no one function: the ratio of two sizes.
pub mod Divided
