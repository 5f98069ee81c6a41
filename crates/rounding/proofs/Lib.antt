-- What belongs to no one function: the machine's operations, what `pack` answers, and terms in its unit.
pub mod Machine
pub mod Packed
pub mod Terms
