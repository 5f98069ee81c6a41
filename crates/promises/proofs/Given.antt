-- What the definitions round a result to is what the standard gives it, and never NaR (`as_given`). What that is for a whole number of units, for a quotient and
-- for a root, and that these are proper.
use mathlib.Core.Path.{◌≡◌, refl, sym, subst}
use mathlib.Core.Logic.{◌≢◌}
use mathlib.Core.Bool.{Bool, true, false, xor}
use Prim.Native.Nat.{ℕ, zero, suc, ◌*◌, ◌^◌, ◌<◌}
use native.Mathlib.Nat.{mul-pos, mod-lt}
use native.Mathlib.Omega.{arith}
use lib.Dec.{lit<, lit≤}
use lib.IntN.{ℤ, pos, negsuc, neg_ℤ}
use lib.Pow.{pow_pos}
use Rattle.posit.specs.Pattern.{nar, opposite, Positive, unit}
use Rattle.posit.specs.Exact.{Exact, whole, ratio, root, Sound}
use Rattle.posit.specs.Rounding.{Rounds, itself, largest, smallest, lower, upper, round, signed, rounded}
use Rattle.posit.proofs.Signs.{with_sign}
use Rattle.posit.proofs.Rounding.{round_meets}
use Rattle.posit.proofs.Operation.{opposite_real}
use Rattle.promises.specs.Standard.{Result, nought, some, Proper, sized, result, divided, root_of, Gives, zero_given, size_given, opposite_given}

-- ---- what is given

-- the pattern that the definitions round a result to
abbrev pub given : Result → ℕ
given nought = 0
given (some negative x) = signed 31 negative (round 2 31 (unit 2 31) x)

given_meets : (x : Result) → Proper x → Gives x (given x)
unfolding signed
given_meets nought h = zero_given
given_meets (some false x) h = size_given (round_meets 2 31 (unit 2 31) (lit≤ tt) x h (lit< tt))
given_meets (some true x) h = opposite_given (round_meets 2 31 (unit 2 31) (lit≤ tt) x h (lit< tt))

-- a size is rounded to a positive pattern
pub rounds_positive : {x : Exact} {p : ℕ} → Rounds 2 31 (unit 2 31) x p → Positive 31 p
rounds_positive (itself p k h) = k
rounds_positive (largest h) = (lit< tt, lit< tt)
rounds_positive (smallest h) = (lit< tt, lit< tt)
rounds_positive (lower p q b d) = b.from
rounds_positive (upper p q b d) = b.to

given_real : {x : Result} {p : ℕ} → Gives x p → p ≢ nar 31
given_real zero_given e = omega arith
given_real (size_given r) e = omega (arith, rounds_positive r)
given_real (opposite_given {p = p} r) e =
    let k = rounds_positive r in
    opposite_real 31 p (omega (arith, k.1)) (λ e. omega (arith, k.1)) e

pub short_opposite : (p : ℕ) → opposite 31 p < 2 ^ 32
unfolding opposite
short_opposite p = mod-lt _ (pow_pos 32)

-- and it is a pattern of 32 bits
pub given_pattern : {x : Result} {p : ℕ} → Gives x p → p < 2 ^ 32
given_pattern zero_given = lit< tt
given_pattern (size_given r) = let k = rounds_positive r in omega (arith, k.1)
given_pattern (opposite_given {p = p} r) = short_opposite p

-- what has been rounded so, as the statements have it
pub as_given : (x : Result) {r : ℕ} → Proper x → r ≡ given x → (r ≢ nar 31) × Gives x r
as_given x h e = let g = subst (Gives x) (sym e) (given_meets x h) in (given_real g, g)

-- ---- whole numbers, quotients and roots

pub rounded_given : (t : ℤ) → rounded 2 31 (unit 2 31) t ≡ given (result t)
unfolding rounded signed result
rounded_given (pos zero) = refl
rounded_given (pos (suc n)) = refl
rounded_given (negsuc n) = refl

pub nought_divided : (y : ℤ) → divided (pos 0) y ≡ nought
unfolding divided
nought_divided (pos y) = refl
nought_divided (negsuc y) = refl

pub divided_given : (s t : Bool) (n d : ℕ) → 0 < n → 0 < d
    → given (divided (with_sign s n) (with_sign t d)) ≡ signed 31 (xor s t) (round 2 31 (unit 2 31) (ratio (n * 2 ^ unit 2 31) d))
unfolding xor divided
divided_given s t zero d z k = absurd (omega arith)
divided_given s t (suc n) zero z k = absurd (omega arith)
divided_given true true (suc n) (suc d) z k = refl
divided_given true false (suc n) (suc d) z k = refl
divided_given false true (suc n) (suc d) z k = refl
divided_given false false (suc n) (suc d) z k = refl

pub root_given : (n : ℕ) → 0 < n → given (root_of (pos n)) ≡ round 2 31 (unit 2 31) (root (n * 2 ^ unit 2 31))
unfolding root_of signed
root_given zero z = absurd (omega arith)
root_given (suc n) z = refl

-- ---- they are proper

sized_proper : (of : ℕ → Exact) → ((n : ℕ) → 0 < n → Sound (of n)) → (t : ℤ) → Proper (sized of t)
sized_proper of h (pos zero) = tt
sized_proper of h (pos (suc n)) = h (suc n) (omega arith)
sized_proper of h (negsuc n) = h (suc n) (omega arith)

pub result_proper : (t : ℤ) → Proper (result t)
unfolding result
result_proper t = sized_proper whole (λ n z. z) t

ratio_sound : (y : ℕ) → 0 < y → (n : ℕ) → 0 < n → Sound (ratio (n * 2 ^ unit 2 31) y)
ratio_sound y k n z = (mul-pos z (pow_pos (unit 2 31)), k)

pub divided_proper : (x y : ℤ) → y ≢ pos 0 → Proper (divided x y)
unfolding divided
divided_proper x (pos zero) h = absurd (h refl)
divided_proper x (pos (suc y)) h = sized_proper (λ (n : ℕ). ratio (n * 2 ^ unit 2 31) (suc y)) (ratio_sound (suc y) (omega arith)) x
divided_proper x (negsuc y) h = sized_proper (λ (n : ℕ). ratio (n * 2 ^ unit 2 31) (suc y)) (ratio_sound (suc y) (omega arith)) (neg_ℤ x)

pub root_proper : (x : ℤ) → Proper (root_of x)
unfolding root_of
root_proper x = sized_proper (λ (n : ℕ). root (n * 2 ^ unit 2 31)) (λ n z. mul-pos z (pow_pos (unit 2 31))) x
