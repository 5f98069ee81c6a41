-- What it means that a contract asks nothing and leaves one answer, and that a wrong engine does not meet it.
pub mod Fixes
pub mod Engines
pub mod Writers
