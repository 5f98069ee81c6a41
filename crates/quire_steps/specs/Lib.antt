-- What the contracts of this crate mean, beside the definitions of `posit`.
pub mod Sign
