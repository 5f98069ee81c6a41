-- What belongs to no one function: the values of the constants.
mod Constants
