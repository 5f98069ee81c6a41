-- What the standard gives an exact result: the pattern that it is rounded to, told by the relation `Rounds` and its sign, without the function that computes it.
use Rattle.std.specs.Prelude.{◌≡◌, ◌≢◌, Bool, true, false, ℕ, zero, suc, ◌*◌, ◌^◌, ℤ, pos, negsuc, neg_ℤ}
use Rattle.posit.specs.Pattern.{nar, opposite, unit}
use Rattle.posit.specs.Exact.{Exact, whole, ratio, root, Sound}
use Rattle.posit.specs.Rounding.{Rounds}

-- zero; or a size in units of 2 ^ - 240, and whether it lies below 0
pub data Result : Type 0 where
  nought : Result
  some : Bool → Exact → Result

-- a size above 0, and no division by 0
abbrev pub Proper : Result → Type 0
Proper nought = Unit {0}
Proper (some negative x) = Sound x

-- the sign of a whole number, with the size that is made of its own
abbrev pub sized : (ℕ → Exact) → ℤ → Result
sized of (pos zero) = nought
sized of (pos (suc n)) = some false (of (suc n))
sized of (negsuc n) = some true (of (suc n))

-- x units
unfoldable pub result : ℤ → Result
result x = sized whole x

-- x units divided by y units, which is x / y, or x * 2 ^ 240 / y units; a divisor below 0 turns the sign
unfoldable pub divided : ℤ → ℤ → Result
divided x (pos y) = sized (λ n. ratio (n * 2 ^ unit 2 31) y) x
divided x (negsuc y) = sized (λ n. ratio (n * 2 ^ unit 2 31) (suc y)) (neg_ℤ x)

-- the root of x units, whose square is x units, or x * 2 ^ 240 squares of the unit
unfoldable pub root_of : ℤ → Result
root_of x = sized (λ n. root (n * 2 ^ unit 2 31)) x

-- (2.6) zero is the pattern 0; a result below 0 is rounded as its size is, and the pattern negated
pub data Gives : Result → ℕ → Type 0 where
  zero_given : Gives nought 0
  size_given : {x : Exact} {p : ℕ} → Rounds 2 31 (unit 2 31) x p → Gives (some false x) p
  opposite_given : {x : Exact} {p : ℕ} → Rounds 2 31 (unit 2 31) x p → Gives (some true x) (opposite 31 p)

-- r is NaR where there is no result, and otherwise what the standard gives x
abbrev pub Answered : Type 0 → Result → ℕ → Type 0
Answered Impossible x r = (Impossible → r ≡ nar 31) × ((Impossible → ⊥) → (r ≢ nar 31) × Gives x r)
