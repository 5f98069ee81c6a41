-- A posit and a product as exact terms: their exact values, told in units of 2 ^ - packed_unit, are a significand times a power of two with a sign. What the scales and
-- significands tell of the values (`value_scaled`, `product_scaled`) is moved to these units.
use mathlib.Core.Path.{◌≡◌, sym, ap, ap₂, ◌∙◌}
use mathlib.Core.Bool.{Bool, false, xor}
use mathlib.Core.Logic.{◌⊎◌, inl, inr}
use Prim.Native.Nat.{ℕ, ◌+◌, ◌*◌, ◌/◌, ◌%◌, ◌^◌, ◌≤◌, ◌<◌, ◌-◌}
use native.Mathlib.Nat.{mul-le-mul_left, mul-le-mul_right, mul-lt-mul_of_pos_right, lt_of_le_of_lt, le_trans, le_of_lt, mul-pos}
use native.Mathlib.Omega.{arith}
use lib.Dec.{lit<, lit≤}
use lib.IntN.{ℤ, pos, ◌+ℤ◌}
use lib.Pow.{pow_pos}
use Rattle.posit.specs.Pattern.{is_negative, unit}
use Rattle.posit.specs.Exact.{whole}
use Rattle.posit.specs.Rounding.{round, rounded, signed}
use Rattle.posit.specs.Operation.{exact, exact_product}
use Rattle.posit.proofs.Arith.{same_power}
use Rattle.posit.proofs.Signs.{with_sign}
use Rattle.posit.proofs.Unsigned.{value_unit}
use Rattle.posit.proofs.Operation.{product_zero_left, product_zero_right}
use Rattle.posit.proofs.Finer.{rounded_finer, sum_finer}
use Rattle.posit.proofs.Value.{rounded_signed}
use Rattle.rounding.specs.Packed.{packed_size, packed_unit}
use Rattle.unpacking.specs.Scaled.{InScale, Real, IsScaled, scaled_unit}
use Rattle.unpacking.proofs.Valued.{value_scaled, product_scaled}
use Rattle.rounding.proofs.Terms.{Normal, IsTerm, Multiplied, finer_by}

-- ---- a posit

pub posit_term : (p c g : ℕ) → p < 2 ^ 32 → Real p → IsScaled p c g → IsTerm (exact 2 31 p) (is_negative 31 p) (c + 904) (g * 2 ^ 32)
unfolding exact
posit_term p c g short real s =
    sym (value_unit 2 31 p (unit 2 31) finer_by short real.1 (lit≤ tt))
    ∙ value_scaled p c g short real.1 s (packed_unit - scaled_unit)
    ∙ ap (with_sign (is_negative 31 p)) (same_power g c (packed_unit - scaled_unit) 32 (c + 904) (omega arith))

-- ---- a product

pub product_bounds : (c d g h : ℕ) → InScale c g → InScale d h → (2 ^ 60 ≤ g * h) × (g * h < 2 ^ 62)
product_bounds c d g h x y = (
  le_trans (mul-le-mul_left (2 ^ 30) y.leading) (mul-le-mul_right h x.leading),
  lt_of_le_of_lt (mul-le-mul_left g (le_of_lt y.below)) (mul-lt-mul_of_pos_right x.below (lit< tt)),
)

pub product_term : (a b c d g h : ℕ) → a < 2 ^ 32 → b < 2 ^ 32 → Real a → Real b → IsScaled a c g → IsScaled b d h
    → (e n : ℕ) → Multiplied (g * h) (c + d) e n → IsTerm (exact_product 2 31 a b) (xor (is_negative 31 a) (is_negative 31 b)) e n
product_term a b c d g h short short' ra rb sa sb e n m =
    product_scaled a b c d g h short short' ra.1 rb.1 sa sb (finer_by - 60) ∙ ap (with_sign (xor (is_negative 31 a) (is_negative 31 b))) (sym m)

pub product_none : (p q : ℕ) → (p ≡ 0) ⊎ (q ≡ 0) → exact_product 2 31 p q ≡ pos 0
product_none p q (inl z) = ap (λ (n : ℕ). exact_product 2 31 n q) z ∙ product_zero_left 2 31 q
product_none p q (inr z) = ap (exact_product 2 31 p) z ∙ product_zero_right 2 31 p

-- ---- a term, rounded

pub term_rounded : (s : Bool) (c g : ℕ) → Normal c g
    → rounded 2 31 packed_unit (with_sign s (g * 2 ^ c)) ≡ signed 31 s (round 2 31 packed_unit (whole (packed_size c (g / 2) false)))
term_rounded s c g n =
    let digits : g ≡ 2 * (2 ^ 61 + g / 2 % 2 ^ 61) + 0 = omega (arith, n.leading, n.below, n.even) in
    rounded_signed 2 31 packed_unit s (g * 2 ^ c) (mul-pos (omega (arith, n.leading)) (pow_pos c))
    ∙ ap (λ (m : ℕ). signed 31 s (round 2 31 packed_unit (whole (m * 2 ^ c)))) digits

-- ---- from the units of the definitions to those of the terms

module _ (x : ℤ) (s : Bool) (c g : ℕ) (is_x : IsTerm x s c g) where
  pub term_alone : rounded 2 31 (unit 2 31) x ≡ rounded 2 31 packed_unit (with_sign s (g * 2 ^ c))
  term_alone = rounded_finer 2 31 (unit 2 31) finer_by (lit≤ tt) x ∙ ap (rounded 2 31 packed_unit) is_x

  pub terms_sum : (y : ℤ) (t : Bool) (d h : ℕ) → IsTerm y t d h
      → rounded 2 31 (unit 2 31) (x +ℤ y) ≡ rounded 2 31 packed_unit (with_sign s (g * 2 ^ c) +ℤ with_sign t (h * 2 ^ d))
  terms_sum y t d h is_y = sum_finer 2 31 (unit 2 31) finer_by (lit≤ tt) x y ∙ ap₂ (λ u v. rounded 2 31 packed_unit (u +ℤ v)) is_x is_y
