-- What the contracts of the command line mean.
pub mod Hex  -- Hex.antt: a hexadecimal digit and its value
pub mod Lines  -- Lines.antt: a text's first line, and what follows it
