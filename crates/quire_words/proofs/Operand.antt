-- What the functions of a step tell each other of an operand, of its words and of the range. No public contract is told by these.
use Rattle.std.proofs.Common.{◌≡◌, ℕ, ◌+◌, ◌-◌, ◌*◌, ◌/◌, ◌%◌, ◌^◌, ◌<◌, Bool, true, false, cond, not, ◌&&◌, List, [], ◌∷◌}
use mathlib.Core.Bool.{beq}
use Rattle.posit.specs.Pattern.{unit}
use Rattle.posit.specs.Accumulator.{State, not_real, total, plus, minus}
use Rattle.posit.proofs.Signs.{with_sign}

-- An operand is counted in units of 2 ^ - operand_unit, one word below the accumulator's, so that a significand is only moved up.
abbrev pub operand_unit : ℕ
operand_unit = unit 2 31 + 64

-- the size of an operand in the accumulator's units
abbrev pub amount : ℕ → ℕ → ℕ
amount shift significand = significand * 2 ^ shift / 2 ^ (operand_unit - unit 2 31)

-- the accumulator has the place of an operand, and no digit of it is below the unit
abbrev pub InPlace : ℕ → ℕ → Type 0
InPlace shift significand = (shift < 512) × (significand * 2 ^ shift % 2 ^ (operand_unit - unit 2 31) ≡ 0)

-- the state that an operand stands for
abbrev pub brought : Bool → Bool → ℕ → ℕ → State
brought nar negative shift significand = cond nar not_real (total (with_sign negative (amount shift significand)))

-- the direction of a step: an operand is added, or taken
abbrev pub moved : Bool → State → State → State
moved true q x = plus 512 q x
moved false q x = minus 512 q x

-- a number of which each digit is turned round, or not: n is the largest number of as many digits
abbrev pub turned : Bool → ℕ → ℕ → ℕ
turned true n x = n - x
turned false n x = x

-- the total has left the range where it and the operand have the sign s, and the wrapped sum has not
abbrev pub escaped : Bool → Bool → Bool → Bool
escaped before s after = beq before s && not (beq after s)

-- the number of digits by their places, the lowest first
unfoldable pub upward : ℕ → List ℕ → ℕ
upward B [] = 0
upward B (w ∷ ws) = w + B * upward B ws
