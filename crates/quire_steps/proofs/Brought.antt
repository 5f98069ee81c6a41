-- A posit, or the exact product of two, as an operand of a step: what scale and significand tell of a value, in units of 2 ^ - operand_unit, one word finer than those of
-- the accumulator. No digit of an operand is below that unit, since the value is a whole number of it (`undivided`).
use mathlib.Core.Path.{◌≡◌, refl, sym, ap, ◌∙◌}
use mathlib.Core.Logic.{◌≢◌, inr}
use mathlib.Core.Bool.{Bool, true, false, cond, xor, ◌||◌}
use Prim.Native.Nat.{ℕ, zero, suc, ◌+◌, ◌-◌, ◌*◌, ◌/◌, ◌%◌, ◌^◌, ◌<◌}
use native.Mathlib.Nat.{mul_assoc, mul-pos, mul-div_cancel, mul-mod_left, zero-mul, mul-zero}
use native.Mathlib.Decide.{ℕ_discrete}
use native.Mathlib.Omega.{arith}
use borrow.Author.Tests.{eq-eqb, ne_eqb}
use lib.Dec.{eqb, lit≤}
use lib.IntN.{ℤ, pos, neg_ℤ, nat_abs, ◌*ℤ◌, pos-ne-negsuc}
use lib.Pow.{pow_pos, pow-add}
use Rattle.posit.specs.Pattern.{nar, is_negative, value, unit}
use Rattle.posit.specs.Operation.{exact, exact_product}
use Rattle.posit.specs.Accumulator.{not_real, total, of_posit, of_product}
use Rattle.posit.proofs.Signs.{with_sign, by_sign, scaled_sign}
use Rattle.posit.proofs.Unsigned.{value_unit}
use Rattle.unpacking.specs.Scaled.{scaled_unit, IsScaled}
use Rattle.unpacking.proofs.Valued.{value_scaled, product_scaled}
use Rattle.quire_words.proofs.Operand.{operand_unit, amount}
use Rattle.quire_steps.proofs.Range.{size_of}

-- ---- a value that was moved up by a word

-- a size above 0 has one sign
unlike : (n : ℕ) → 0 < n → pos n ≢ neg_ℤ (pos n)
unlike zero h e = omega arith
unlike (suc n) h e = pos-ne-negsuc (suc n) n e

same_sign : (s t : Bool) (m n : ℕ) → 0 < n → with_sign t (m * n) ≡ with_sign s (m * n) → with_sign s m ≡ with_sign t m
same_sign true true m n h e = refl
same_sign false false m n h e = refl
same_sign true false zero n h e = refl
same_sign true false (suc m) n h e = absurd (unlike (suc m * n) (mul-pos {m = suc m} (omega arith) h) e)
same_sign false true zero n h e = refl
same_sign false true (suc m) n h e = absurd (unlike (suc m * n) (mul-pos {m = suc m} (omega arith) h) (sym e))

-- what an operand's unit goes into the accumulator's
abbrev word : ℕ
word = 2 ^ (operand_unit - unit 2 31)

multiple : (t s : Bool) (m n : ℕ) → with_sign t m *ℤ pos (word) ≡ with_sign s n → (with_sign t (m * word) ≡ with_sign s n) × (n ≡ m * word)
multiple t s m n e =
    let told = sym (scaled_sign t m (word)) ∙ e in
    (told, sym (sym (size_of t (m * word)) ∙ ap nat_abs told ∙ size_of s n))

undivided : (x : ℤ) (s : Bool) (n : ℕ) → x *ℤ pos (word) ≡ with_sign s n → (with_sign s (n / word) ≡ x) × (n % word ≡ 0)
undivided x s n = by_sign (λ x. x *ℤ pos (word) ≡ with_sign s n → (with_sign s (n / word) ≡ x) × (n % word ≡ 0)) go x
  where
    go : (t : Bool) (m : ℕ) → with_sign t m *ℤ pos (word) ≡ with_sign s n → (with_sign s (n / word) ≡ with_sign t m) × (n % word ≡ 0)
    go t m e =
        let k = multiple t s m n e in
        rw (k.1, mul-div_cancel m (pow_pos (operand_unit - unit 2 31)), mul-mod_left m (word)) (same_sign s t m (word) (pow_pos (operand_unit - unit 2 31)) (rw k.1 at k.0), refl)

amount_is : (x : ℤ) (s : Bool) (g c i : ℕ) → x *ℤ pos (word) ≡ with_sign s (g * 2 ^ c * 2 ^ i) → (with_sign s (amount (c + i) g) ≡ x) × (g * 2 ^ (c + i) % word ≡ 0)
amount_is x s g c i e = undivided x s (g * 2 ^ (c + i)) (e ∙ ap (with_sign s) (mul_assoc g (2 ^ c) (2 ^ i) ∙ ap (λ (n : ℕ). g * n) (sym (pow-add 2 c i))))

-- ---- operands

module _ (p c g : ℕ) (short : p < 2 ^ 32) (s : IsScaled p c g) where
  abbrev i : ℕ
  i = operand_unit - scaled_unit

  posit_amount : p ≢ nar 31 → (with_sign (is_negative 31 p) (amount (c + i) g) ≡ value 2 31 (unit 2 31) p) × (g * 2 ^ (c + i) % word ≡ 0)
  posit_amount n =
      amount_is (value 2 31 (unit 2 31) p) (is_negative 31 p) g c i
      (sym (value_unit 2 31 p (unit 2 31) (operand_unit - unit 2 31) short n (lit≤ tt)) ∙ value_scaled p c g short n s i)

  pub posit_brought : cond (eqb p (nar 31)) not_real (total (with_sign (is_negative 31 p) (amount (c + i) g))) ≡ of_posit 2 31 p
  unfolding of_posit exact
  posit_brought = go (ℕ_discrete p (nar 31))
    where
      go : Dec (p ≡ nar 31) → cond (eqb p (nar 31)) not_real (total (with_sign (is_negative 31 p) (amount (c + i) g))) ≡ of_posit 2 31 p
      go (yes e) = rw (eq-eqb p (nar 31) e)
      go (no n) = rw (ne_eqb p (nar 31) n) (ap total (posit_amount n).0)

  pub posit_whole : g * 2 ^ (c + i) % word ≡ 0
  posit_whole = go (ℕ_discrete p (nar 31))
    where
      go : Dec (p ≡ nar 31) → g * 2 ^ (c + i) % word ≡ 0
      go (yes e) = rw ((s.of_other (inr e)).1, zero-mul)
      go (no n) = (posit_amount n).1

module _ (p q c d g h : ℕ) (short : p < 2 ^ 32) (short' : q < 2 ^ 32) (s : IsScaled p c g) (t : IsScaled q d h) where
  abbrev j : ℕ
  j = operand_unit - 2 * scaled_unit

  product_amount : p ≢ nar 31 → q ≢ nar 31
      → (with_sign (xor (is_negative 31 p) (is_negative 31 q)) (amount (c + d + j) (g * h)) ≡ exact_product 2 31 p q) × (g * h * 2 ^ (c + d + j) % word ≡ 0)
  product_amount n m = amount_is (exact_product 2 31 p q) (xor (is_negative 31 p) (is_negative 31 q)) (g * h) (c + d) j (product_scaled p q c d g h short short' n m s t j)

  abbrev Brought : Type 0
  Brought = cond (eqb p (nar 31) || eqb q (nar 31)) not_real (total (with_sign (xor (is_negative 31 p) (is_negative 31 q)) (amount (c + d + j) (g * h)))) ≡ of_product 2 31 p q

  pub product_brought : Brought
  unfolding of_product
  product_brought = go (ℕ_discrete p (nar 31)) (ℕ_discrete q (nar 31))
    where
      go : Dec (p ≡ nar 31) → Dec (q ≡ nar 31) → Brought
      go (yes e) f = rw (eq-eqb p (nar 31) e)
      go (no n) (yes f) = rw (ne_eqb p (nar 31) n, eq-eqb q (nar 31) f)
      go (no n) (no m) = rw (ne_eqb p (nar 31) n, ne_eqb q (nar 31) m) (ap total (product_amount n m).0)

  pub product_whole : g * h * 2 ^ (c + d + j) % word ≡ 0
  product_whole = go (ℕ_discrete p (nar 31)) (ℕ_discrete q (nar 31))
    where
      go : Dec (p ≡ nar 31) → Dec (q ≡ nar 31) → g * h * 2 ^ (c + d + j) % word ≡ 0
      go (yes e) f = rw ((s.of_other (inr e)).1, zero-mul h, zero-mul (2 ^ (c + d + j)))
      go (no n) (yes f) = rw ((t.of_other (inr f)).1, mul-zero, zero-mul)
      go (no n) (no m) = (product_amount n m).1
