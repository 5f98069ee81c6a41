-- What the three demands are told by: contracts as they are made of the code, and the ways in; the desk's rows; the standard's roundings and the operations; histories,
-- their exact totals, and what it means that one was run.
pub mod Contract
pub mod Ways
pub mod Asked
pub mod Rows
pub mod Standard
pub mod Operations
pub mod History
pub mod Outside
pub mod Run
