-- What the contracts of this crate mean.
pub mod Words
