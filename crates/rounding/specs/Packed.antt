-- What the arguments of `pack` mean.
use Rattle.std.specs.Prelude.{ℕ, ◌+◌, ◌*◌, ◌%◌, ◌^◌, Bool}
use mir.Val.{bool_byte}

-- `pack` tells a size in units of 2 ^ - packed_unit: at the scale 1024 the leading one counts 1, and 61 digits of a fraction and one for the sticky bit stand below it.
abbrev pub packed_unit : ℕ
packed_unit = 1024 + 62

-- a leading one, a fraction of 61 digits behind it, and half a unit of the last of them for the sticky bit, at a scale
abbrev pub packed_size : ℕ → ℕ → Bool → ℕ
packed_size scale fraction sticky = (2 * (2 ^ 61 + fraction % 2 ^ 61) + bool_byte sticky) * 2 ^ scale
