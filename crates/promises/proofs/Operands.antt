-- The quotient and the root by the values of their operands: a pattern that is not NaR is 0 exactly when its value is, and lies above NaR exactly when its value is
-- below 0. So a division by the value 0 is NaR (`quotient_none`), and any other the rounding of the exact quotient (`quotient_some`); the same of roots.
use mathlib.Core.Path.{◌≡◌, refl, sym, ap, ap₂, subst, ◌∙◌}
use mathlib.Core.Logic.{◌≢◌}
use Prim.Native.Nat.{ℕ, zero, suc, ◌^◌, ◌≤◌, ◌<◌}
use native.Mathlib.Decide.{dec_lt, ℕ_discrete}
use native.Mathlib.Omega.{arith}
use lib.Dec.{lit<, lit≤}
use lib.IntN.{ℤ, pos, neg_ℤ}
use Rattle.posit.specs.Pattern.{nar, opposite, is_negative, unsigned, Positive, size, unit}
use Rattle.posit.specs.Rounding.{rounded}
use Rattle.posit.specs.Operation.{exact, quotient, square_root}
use Rattle.posit.proofs.Computing.{everything}
use Rattle.posit.proofs.Size.{size_positive}
use Rattle.posit.proofs.Value.{opposite_positive, value_positive, value_negative}
use Rattle.posit.proofs.Unsigned.{unsigned_positive, value_real}
use Rattle.posit.proofs.Operation.{exact_zero, own}
use Rattle.posit.proofs.Quotient.{quotient_by_zero, quotient_of_zero, quotient_real}
use Rattle.posit.proofs.Root.{root_of_zero, root_in_units}
use Rattle.promises.specs.Standard.{divided, root_of}
use Rattle.promises.specs.Operations.{BelowZero}
use Rattle.promises.proofs.Given.{given, nought_divided, divided_given, root_given}

-- a pattern that is not NaR is 0 exactly when its value is
zero_only : (p : ℕ) → p < 2 ^ 32 → p ≢ nar 31 → exact 2 31 p ≡ pos 0 → p ≡ 0
unfolding rounded
zero_only p k n e = sym (own 2 31 (lit< tt) p k n) ∙ ap (rounded 2 31 (unit 2 31)) e

zero_has : (p : ℕ) → p ≡ 0 → exact 2 31 p ≡ pos 0
zero_has p e = ap (exact 2 31) e ∙ exact_zero 2 31

size_some : (p : ℕ) → Positive 31 p → 0 < size 2 31 (unit 2 31) p
size_some p k = size_positive 2 (unit 2 31) 31 p k.0 k.1 (lit≤ tt)

below_zero : (n : ℕ) → 0 < n → BelowZero (neg_ℤ (pos n))
below_zero zero z = absurd (omega arith)
below_zero (suc n) z = tt

positive_value : (p : ℕ) → Positive 31 p → exact 2 31 p ≡ pos (size 2 31 (unit 2 31) p)
unfolding exact
positive_value p k = value_positive 2 31 (unit 2 31) p k

pub above_nar : (p : ℕ) → p < 2 ^ 32 → nar 31 < p → BelowZero (exact 2 31 p)
unfolding exact
above_nar p k l =
    subst BelowZero (sym (value_negative 2 31 (unit 2 31) p l)) (below_zero (size 2 31 (unit 2 31) (opposite 31 p)) (size_some (opposite 31 p) (opposite_positive 31 p l k)))

pub below_lies : (p : ℕ) → BelowZero (exact 2 31 p) → nar 31 ≤ p
below_lies p b = go (ℕ_discrete p 0) (dec_lt p (nar 31))
  where
    go : Dec (p ≡ 0) → Dec (p < nar 31) → nar 31 ≤ p
    go (yes e) l = absurd (subst BelowZero (zero_has p e) b)
    go (no n) (yes l) = absurd (subst BelowZero (positive_value p (omega arith, l)) b)
    go (no n) (no l) = omega arith

pub one_value : exact 2 31 (2 ^ 30) ≡ pos (2 ^ unit 2 31)
unfolding everything
one_value = refl

module _ (a b : ℕ) (k : a < 2 ^ 32) (l : b < 2 ^ 32) (m : a ≢ nar 31) (n : b ≢ nar 31) where
  pub quotient_none : exact 2 31 b ≡ pos 0 → quotient 2 31 a b ≡ nar 31
  quotient_none e = quotient_by_zero 2 31 a b m n (zero_only b l n e)

  pub quotient_some : exact 2 31 b ≢ pos 0 → quotient 2 31 a b ≡ given (divided (exact 2 31 a) (exact 2 31 b))
  unfolding exact
  quotient_some h = go (ℕ_discrete a 0)
    where
      by_some : b ≢ 0
      by_some e = h (zero_has b e)

      go : Dec (a ≡ 0) → quotient 2 31 a b ≡ given (divided (exact 2 31 a) (exact 2 31 b))
      go (yes z) =
          quotient_of_zero 2 31 a b m n by_some z
          ∙ sym (ap given (ap (λ (x : ℤ). divided x (exact 2 31 b)) (zero_has a z) ∙ nought_divided (exact 2 31 b)))
      go (no z) =
          quotient_real 2 31 a b m n by_some z k l (lit≤ tt) 0 (unit 2 31) (lit≤ tt)
          ∙ sym
          (ap given (ap₂ divided (value_real 2 31 a (unit 2 31) z m) (value_real 2 31 b (unit 2 31) by_some n))
          ∙ divided_given (is_negative 31 a) (is_negative 31 b) _ _ (size_some (unsigned 31 a) (unsigned_positive 31 a k z m)) (size_some (unsigned 31 b) (unsigned_positive 31 b l by_some n)))

pub root_some : (a : ℕ) → a < 2 ^ 31 → square_root 2 31 a ≡ given (root_of (exact 2 31 a))
unfolding root_of
root_some a l = go (ℕ_discrete a 0)
  where
    go : Dec (a ≡ 0) → square_root 2 31 a ≡ given (root_of (exact 2 31 a))
    go (yes z) = root_of_zero 2 31 a z ∙ sym (ap (λ (x : ℤ). given (root_of x)) (zero_has a z))
    go (no z) =
        root_in_units 2 31 a (omega arith, l) (lit≤ tt) 0 (unit 2 31) (unit 2 31) (lit≤ tt) refl
        ∙ sym (root_given _ (size_some a (omega arith, l)))
        ∙ sym (ap (λ (x : ℤ). given (root_of x)) (positive_value a (omega arith, l)))
