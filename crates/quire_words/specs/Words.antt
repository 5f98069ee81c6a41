-- Eight words as one number.
use Rattle.std.specs.Prelude.{ℕ, ◌^◌, List}
use Rattle.posit.specs.Digits.{number}

-- the number that words of 64 bits are, the first of them the most significant
abbrev pub wide : List ℕ → ℕ
wide ws = number (2 ^ 64) ws
