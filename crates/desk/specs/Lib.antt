-- What a batch is, when the desk says no, and what its answers mean.
pub mod Batch
pub mod Desk
pub mod Answers
