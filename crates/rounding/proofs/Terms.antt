-- Exact terms, in the unit of `pack`: what the functions of the arithmetic tell each other. No public contract is told by these.
use Rattle.std.proofs.Common.{◌≡◌, ℕ, ◌+◌, ◌-◌, ◌*◌, ◌%◌, ◌^◌, ◌<◌, ◌≤◌, Bool, true, false, ℤ, pos, ◌*ℤ◌}
use mir.Val.{bool_byte}
use Rattle.posit.specs.Pattern.{unit}
use Rattle.posit.proofs.Signs.{with_sign}
use Rattle.rounding.specs.Packed.{packed_unit}

-- by how many binary digits the unit of `pack` is finer than that of sums, products and the accumulator
abbrev pub finer_by : ℕ
finer_by = packed_unit - unit 2 31

-- the leading one of g is at bit 62, the lowest bit is 0, and the scale c is one that a posit or a product may have
pub record Normal (c g : ℕ) : Type 0 where
  pub leading : 2 ^ 62 ≤ g
  pub below : g < 2 ^ 63
  pub even : g % 2 ≡ 0
  pub low : 784 ≤ c
  pub high : c ≤ 1265

-- a term without its sign, and with it
abbrev pub magnitude : ℕ → ℕ → ℕ
magnitude c g = g * 2 ^ c

abbrev pub term : Bool → ℕ → ℕ → ℤ
term negative c g = with_sign negative (magnitude c g)

-- x, a number of units of 2 ^ - unit, is this term
abbrev pub IsTerm : ℤ → Bool → ℕ → ℕ → Type 0
IsTerm x negative c g = x *ℤ pos (2 ^ finer_by) ≡ term negative c g

-- The product n of two significands, at the sum d of their scales, has this magnitude. It has 60 digits below 2 ^ - unit, 30 of each.
abbrev pub Multiplied : ℕ → ℕ → ℕ → ℕ → Type 0
Multiplied n d c g = magnitude c g ≡ n * 2 ^ d * 2 ^ (finer_by - 60)

-- the digits of a sum or a difference
abbrev pub combine : Bool → ℕ → ℕ → Bool → ℕ
combine true g kept lost = g + kept
combine false g kept lost = g - kept - bool_byte lost
