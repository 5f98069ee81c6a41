-- What scale and significand tell of a pattern that is not NaR: with the sign they are its value (`value_scaled`), zero included, and two of them are the exact
-- product (`product_scaled`). Both are told in units that are i binary digits finer than those of the significands.
use Rattle.std.proofs.Common.{◌≡◌, ℕ, ◌+◌, ◌*◌, ◌^◌, ◌<◌, Bool, ◌≢◌, ℤ, pos, ◌*ℤ◌, sym, ap, ◌∙◌, ap₂, inl, zero-mul, arith, lit≤, pow-add}
use mathlib.Core.Bool.{xor}
use native.Mathlib.Decide.{ℕ_discrete}
use Rattle.posit.specs.Pattern.{nar, is_negative, unsigned, value, least}
use Rattle.posit.specs.Operation.{exact_product}
use Rattle.posit.proofs.Arith.{pow_sum}
use Rattle.posit.proofs.Signs.{with_sign, by_sign, product_signs, scaled_sign}
use Rattle.posit.proofs.Size.{size_unit}
use Rattle.posit.proofs.Value.{value_zero}
use Rattle.posit.proofs.Unsigned.{unsigned_positive, value_real, value_unit}
use Rattle.unpacking.specs.Scaled.{scaled_unit, IsScaled}

-- ---- the value

module _ (p c g : ℕ) (short : p < 2 ^ 32) (real : p ≢ nar 31) (s : IsScaled p c g) where
  pub value_scaled : (i : ℕ) → value 2 31 (scaled_unit + i) p ≡ with_sign (is_negative 31 p) (g * 2 ^ c * 2 ^ i)
  value_scaled i = go (ℕ_discrete p 0)
    where
      go : Dec (p ≡ 0) → value 2 31 (scaled_unit + i) p ≡ with_sign (is_negative 31 p) (g * 2 ^ c * 2 ^ i)
      go (yes z) = rw ((s.of_other (inl z)).1, z, zero-mul (2 ^ c), zero-mul (2 ^ i)) (value_zero 2 31 (scaled_unit + i))
      go (no z) =
          let b = unsigned 31 p in
          let above = unsigned_positive 31 p short z real in
          value_real 2 31 p (scaled_unit + i) z real
          ∙ ap (with_sign (is_negative 31 p))
          (size_unit 2 scaled_unit i 31 b above.0 above.1 (lit≤ tt) ∙ ap (λ (n : ℕ). n * 2 ^ i) (s.of_real (z, real)).size_is)

  -- the value in units of the smallest size, moved to those of the scale
  value_moved : (i : ℕ) → value 2 31 (least 2 31) p *ℤ pos (2 ^ (30 + i)) ≡ with_sign (is_negative 31 p) (g * 2 ^ c * 2 ^ i)
  value_moved i =
      let e : least 2 31 + (30 + i) ≡ scaled_unit + i = omega arith in
      sym (value_unit 2 31 p (least 2 31) (30 + i) short real (lit≤ tt)) ∙ (rw e (value_scaled i))

-- ---- the product

factors_scaled : (x y : ℤ) (j k : ℕ) → x *ℤ y *ℤ pos (j * k) ≡ (x *ℤ pos j) *ℤ (y *ℤ pos k)
factors_scaled x y j k = by_sign (λ x. Moved x y) (λ s a. by_sign (Moved (with_sign s a)) (λ t b. moved s t a b) y) x
  where
    Moved : ℤ → ℤ → Type 0
    Moved x y = x *ℤ y *ℤ pos (j * k) ≡ (x *ℤ pos j) *ℤ (y *ℤ pos k)

    moved : (s t : Bool) (a b : ℕ) → Moved (with_sign s a) (with_sign t b)
    moved s t a b =
        let e : a * b * (j * k) ≡ a * j * (b * k) = omega arith in
        rw (product_signs s t a b, scaled_sign (xor s t) (a * b) (j * k), scaled_sign s a j, scaled_sign t b k, product_signs s t (a * j) (b * k), e)

module _ (p q c d g h : ℕ) (short : p < 2 ^ 32) (short' : q < 2 ^ 32) (real : p ≢ nar 31) (real' : q ≢ nar 31) (s : IsScaled p c g) (t : IsScaled q d h) where
  pub product_scaled : (i : ℕ) → exact_product 2 31 p q *ℤ pos (2 ^ (60 + i)) ≡ with_sign (xor (is_negative 31 p) (is_negative 31 q)) (g * h * 2 ^ (c + d) * 2 ^ i)
  unfolding exact_product
  product_scaled i =
      let x = value 2 31 (least 2 31) p in
      let y = value 2 31 (least 2 31) q in
      let sign = xor (is_negative 31 p) (is_negative 31 q) in
      let split : 2 ^ (60 + i) ≡ 2 ^ 30 * 2 ^ (30 + i) = sym (pow_sum 30 (30 + i) (60 + i) (omega arith)) in
      let together : g * 2 ^ c * 1 * (h * 2 ^ d * 2 ^ i) ≡ g * h * 2 ^ (c + d) * 2 ^ i = rw (pow-add 2 c d) (omega arith) in
      ap (λ (n : ℕ). x *ℤ y *ℤ pos n) split
      ∙ factors_scaled x y (2 ^ 30) (2 ^ (30 + i))
      ∙ ap₂ ◌*ℤ◌ (value_moved p c g short real s 0) (value_moved q d h short' real' t i)
      ∙ product_signs (is_negative 31 p) (is_negative 31 q) (g * 2 ^ c * 1) (h * 2 ^ d * 2 ^ i)
      ∙ ap (with_sign sign) together
