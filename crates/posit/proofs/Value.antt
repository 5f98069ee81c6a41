-- A pattern's value by its sign, and back: rounding the value of a pattern gives the pattern, for zero, positive and negative patterns (`rounded_own`).
use mathlib.Core.Path.{◌≡◌, refl, sym, ap, ◌∙◌}
use mathlib.Core.Logic.{◌≢◌}
use mathlib.Core.Bool.{Bool, true, false}
use Prim.Native.Nat.{ℕ, zero, suc, ◌-◌, ◌^◌, ◌≤◌, ◌<◌}
use native.Mathlib.Nat.{pow-suc, mod-eq_of_lt}
use native.Mathlib.Decide.{dec_lt}
use native.Mathlib.Omega.{arith}
use borrow.Author.Tests.{lt-ltb, le-ltb, ne_eqb}
use lib.Arith.{lt_of_le-ne}
use lib.IntN.{pos, neg_ℤ}
use Rattle.posit.specs.Pattern.{nar, opposite, Positive, size, value, least}
use Rattle.posit.specs.Exact.{whole}
use Rattle.posit.specs.Rounding.{round, signed, rounded}
use Rattle.posit.proofs.Signs.{with_sign}
use Rattle.posit.proofs.Size.{size_positive}
use Rattle.posit.proofs.Rounding.{fine_here, round_own}

-- ---- the opposite

pub opposite_is : (w p : ℕ) → 0 < p → p < 2 ^ suc w → opposite w p ≡ 2 ^ suc w - p
unfolding opposite
opposite_is w p z k = mod-eq_of_lt (omega arith)

pub opposite_twice : (w p : ℕ) → 0 < p → p < 2 ^ suc w → opposite w (opposite w p) ≡ p
opposite_twice w p z k = rw (opposite_is w p z k, opposite_is w (2 ^ suc w - p) (omega arith) (omega arith)) (omega arith)

-- the opposite of a negative pattern is a positive one
pub opposite_positive : (w p : ℕ) → nar w < p → p < 2 ^ suc w → Positive w (opposite w p)
opposite_positive w p z k = rw (opposite_is w p (omega arith) k) (omega arith, omega (arith, pow-suc 2 w))

-- ---- the value, by the sign

module _ (es w u : ℕ) where
  pub value_zero : value es w u 0 ≡ pos 0
  unfolding value
  value_zero = refl

  pub value_positive : (p : ℕ) → Positive w p → value es w u p ≡ pos (size es w u p)
  unfolding value
  value_positive p k = rw (ne_eqb p 0 (λ e. omega (arith, k.0)), le-ltb (2 ^ w) p (omega (arith, k.1)))

  pub value_negative : (p : ℕ) → nar w < p → value es w u p ≡ neg_ℤ (pos (size es w u (opposite w p)))
  unfolding value
  value_negative p k = rw (ne_eqb p 0 (λ e. omega arith), lt-ltb (2 ^ w) p k)

  pub rounded_positive : (n : ℕ) → 0 < n → rounded es w u (pos n) ≡ round es w u (whole n)
  unfolding rounded
  rounded_positive zero z = absurd (omega arith)
  rounded_positive (suc n) z = refl

  pub rounded_negative : (n : ℕ) → 0 < n → rounded es w u (neg_ℤ (pos n)) ≡ opposite w (round es w u (whole n))
  unfolding rounded signed
  rounded_negative zero z = absurd (omega arith)
  rounded_negative (suc n) z = refl

  pub rounded_signed : (s : Bool) (n : ℕ) → 0 < n → rounded es w u (with_sign s n) ≡ signed w s (round es w u (whole n))
  unfolding signed
  rounded_signed true n z = rounded_negative n z
  rounded_signed false n z = rounded_positive n z

  module _ (v : 0 < w) (fine : least es (suc w) ≤ u) where
    -- the size of a positive pattern is rounded to it
    own_size : (p : ℕ) → Positive w p → (0 < size es w u p) × (round es w u (whole (size es w u p)) ≡ p)
    own_size p k =
        let z : 0 < size es w u p = size_positive es u w p k.0 k.1 (fine_here es w u fine) in
        (z, round_own es w u fine (whole (size es w u p)) z v p k refl)

    pub rounded_own : (p : ℕ) → p < 2 ^ suc w → p ≢ nar w → rounded es w u (value es w u p) ≡ p
    unfolding value rounded
    rounded_own zero k n = refl
    rounded_own (suc q) k n = go (dec_lt (suc q) (2 ^ w))
      where
        positive : Positive w (suc q) → rounded es w u (value es w u (suc q)) ≡ suc q
        positive l =
            let o = own_size (suc q) l in
            ap (rounded es w u) (value_positive (suc q) l) ∙ rounded_positive (size es w u (suc q)) o.0 ∙ o.1

        negative : nar w < suc q → rounded es w u (value es w u (suc q)) ≡ suc q
        negative l =
            let o = own_size (opposite w (suc q)) (opposite_positive w (suc q) l k) in
            ap (rounded es w u) (value_negative (suc q) l)
            ∙ rounded_negative (size es w u (opposite w (suc q))) o.0
            ∙ ap (opposite w) o.1
            ∙ opposite_twice w (suc q) (omega arith) k

        go : Dec (suc q < 2 ^ w) → rounded es w u (value es w u (suc q)) ≡ suc q
        go (yes l) = positive (omega arith, l)
        go (no l) = negative (lt_of_le-ne (omega arith) (λ e. n (sym e)))
