-- The accumulator (4): NaR, or an exact total in units of 2 ^ - unit, in `bits` binary digits (512 beside P32E2).
use Rattle.std.specs.Prelude.{Bool, true, false, cond, List, [], ◌∷◌, ℕ, zero, suc, ◌-◌, ◌/◌, ◌^◌, ℤ, pos, negsuc, neg_ℤ, nat_abs, ◌+ℤ◌, eqb, ltb}
use Rattle.posit.specs.Pattern.{nar}
use Rattle.posit.specs.Operation.{exact, exact_product, rounded_here}
use Rattle.posit.specs.Digits.{digits, number, reading, complement}

pub data State : Type 0 where
  not_real : State
  total : ℤ → State

-- (4.9) the state after `clear`
abbrev pub clear : State
clear = total (pos 0)

-- (4.2) the questions `is_nar` and `is_zero`
unfoldable pub is_not_real : State → Bool
is_not_real not_real = true
is_not_real (total t) = false

unfoldable pub is_clear : State → Bool
is_clear not_real = false
is_clear (total (pos n)) = eqb n 0
is_clear (total (negsuc n)) = false

-- (4.3) what a posit, or the exact product of two, brings to a step: NaR from a NaR operand
module _ (es w : ℕ) where
  -- (4.5) also the state that is made from a posit
  unfoldable pub of_posit : ℕ → State
  of_posit p = cond (eqb p (nar w)) not_real (total (exact es w p))

  unfoldable pub of_product : ℕ → ℕ → State
  of_product a b = cond (eqb a (nar w)) not_real (cond (eqb b (nar w)) not_real (total (exact_product es w a b)))

-- (4.4) the range of a total: plus or minus (2 ^ (bits - 1) - 1)
abbrev pub within : ℕ → ℤ → Bool
within bits t = ltb (nat_abs t) (2 ^ (bits - 1))

-- (4.3, 4.4) A step adds. No step leads out of NaR, a NaR operand makes NaR, and so does an exact new total outside the range.
abbrev pub kept : ℕ → ℤ → State
kept bits t = cond (within bits t) (total t) not_real

unfoldable pub plus : ℕ → State → State → State
plus bits not_real x = not_real
plus bits (total t) not_real = not_real
plus bits (total t) (total x) = kept bits (t +ℤ x)

-- (4.6) the negative of the whole number; NaR stays NaR
unfoldable pub negated : State → State
negated not_real = not_real
negated (total t) = total (neg_ℤ t)

-- (4.3) to take is to add the negative
unfoldable pub minus : ℕ → State → State → State
minus bits q x = plus bits q (negated x)

-- (4.7) the rounding of the total
unfoldable pub to_posit : ℕ → ℕ → State → ℕ
to_posit es w not_real = nar w
to_posit es w (total t) = rounded_here es w t

-- (4.8) n parts: round, take that posit, repeat
unfoldable pub parts_of : ℕ → ℕ → ℕ → ℕ → State → List ℕ
parts_of es w bits zero q = []
parts_of es w bits (suc n) q = to_posit es w q ∷ parts_of es w bits n (minus bits q (of_posit es w (to_posit es w q)))

-- (4.1, 4.2) the state as one number below 2 ^ bits, in two's complement; the one pattern of - 2 ^ (bits - 1) is NaR
unfoldable pub bits_of : ℕ → State → ℕ
bits_of bits not_real = 2 ^ (bits - 1)
bits_of bits (total t) = complement (2 ^ (bits - 1)) t

unfoldable pub state_of : ℕ → ℕ → State
state_of bits n = cond (eqb n (2 ^ (bits - 1))) not_real (total (reading (2 ^ (bits - 1)) n))

-- (4.1) the words, of 64 bits, word 0 most significant
unfoldable pub words : ℕ → State → List ℕ
words bits q = digits (2 ^ 64) (bits / 64) (bits_of bits q)

unfoldable pub from_words : ℕ → List ℕ → State
from_words bits ws = state_of bits (number (2 ^ 64) ws)

-- (4.10) the image, of bytes: word 0 first, each word high byte first
unfoldable pub image : ℕ → State → List ℕ
image bits q = digits (2 ^ 8) (bits / 8) (bits_of bits q)

unfoldable pub from_image : ℕ → List ℕ → State
from_image bits bs = state_of bits (number (2 ^ 8) bs)
