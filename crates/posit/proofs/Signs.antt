-- Whole numbers by sign and size: their sums and products, and how a factor above 0 goes through them.
use mathlib.Core.Path.{◌≡◌, refl, sym, ap, ap₂, ◌∙◌}
use mathlib.Core.Bool.{Bool, true, false, cond, not, xor}
use Prim.Native.Nat.{ℕ, zero, suc, ◌+◌, ◌-◌, ◌*◌, ◌≤◌, ◌<◌, zero-le}
use native.Mathlib.Nat.{add-zero, sub-zero, sub_self, zero-mul, add-mul, mul-le-mul_right, mul_comm, mul-zero, mul-sub}
use native.Mathlib.Decide.{dec_lt}
use native.Mathlib.Omega.{arith}
use borrow.Author.Tests.{lt-ltb, le-ltb}
use lib.IntN.{ℤ, pos, negsuc, neg_ℤ, sub_ℕ, ◌+ℤ◌, ◌*ℤ◌, +ℤ_comm, neg_ℤ-neg_ℤ, neg_ℤ-+ℤ, *ℤ_comm, zero-*ℤ, *ℤ-zero}

-- minus n where the sign says so
abbrev pub with_sign : Bool → ℕ → ℤ
with_sign s n = cond s (neg_ℤ (pos n)) (pos n)

-- ---- differences

sub_high : (a b : ℕ) → b ≤ a → sub_ℕ a b ≡ pos (a - b)
sub_high a b h = rw (le-ltb a b h)

sub_low : (a b : ℕ) → a ≤ b → sub_ℕ a b ≡ neg_ℤ (pos (b - a))
sub_low a b h = go (dec_lt a b)
  where
    go : Dec (a < b) → sub_ℕ a b ≡ neg_ℤ (pos (b - a))
    go (yes l) =
        let e : b - a ≡ suc (b - suc a) = omega arith in
        rw (lt-ltb a b l, e)
    go (no l) =
        let e : a ≡ b = omega arith in
        rw (e, le-ltb b b (omega arith), sub_self)

minus_is : (a n : ℕ) → pos a +ℤ neg_ℤ (pos n) ≡ sub_ℕ a n
minus_is a zero = rw (add-zero, le-ltb a 0 zero-le, sub-zero)
minus_is a (suc n) = refl

-- ---- sums

-- one sign
pub sum_same : (s : Bool) (a b : ℕ) → with_sign s a +ℤ with_sign s b ≡ with_sign s (a + b)
sum_same true a b = sym (neg_ℤ-+ℤ (pos a) (pos b))
sum_same false a b = refl

-- unlike signs: the greater size has the sign
pub sum_unlike : (s : Bool) (a b : ℕ) → b ≤ a → with_sign s a +ℤ with_sign (not s) b ≡ with_sign s (a - b)
sum_unlike true a b h = +ℤ_comm (neg_ℤ (pos a)) (pos b) ∙ minus_is b a ∙ sub_low b a h
sum_unlike false a b h = minus_is a b ∙ sub_high a b h

-- ---- products

negative_left : (a b : ℕ) → neg_ℤ (pos a) *ℤ pos b ≡ neg_ℤ (pos (a * b))
negative_left zero b = rw zero-mul
negative_left (suc a) b = refl

negative_both : (a b : ℕ) → neg_ℤ (pos a) *ℤ neg_ℤ (pos b) ≡ pos (a * b)
negative_both zero b = zero-*ℤ (neg_ℤ (pos b)) ∙ (rw zero-mul)
negative_both (suc a) zero = *ℤ-zero (negsuc a) ∙ (rw mul-zero)
negative_both (suc a) (suc b) = refl

pub product_signs : (s t : Bool) (a b : ℕ) → with_sign s a *ℤ with_sign t b ≡ with_sign (xor s t) (a * b)
unfolding xor
product_signs true true a b = negative_both a b
product_signs true false a b = negative_left a b
product_signs false true a b = *ℤ_comm (pos a) (neg_ℤ (pos b)) ∙ negative_left b a ∙ ap (λ (n : ℕ). neg_ℤ (pos n)) (mul_comm b a)
product_signs false false a b = refl

pub scaled_sign : (s : Bool) (a k : ℕ) → with_sign s a *ℤ pos k ≡ with_sign s (a * k)
scaled_sign true a k = negative_left a k
scaled_sign false a k = refl

pub negated_sign : (s : Bool) (n : ℕ) → neg_ℤ (with_sign s n) ≡ with_sign (not s) n
negated_sign true n = neg_ℤ-neg_ℤ (pos n)
negated_sign false n = refl

-- every whole number has a sign and a size
pub by_sign : (P : ℤ → Type 0) → ((s : Bool) (n : ℕ) → P (with_sign s n)) → (z : ℤ) → P z
by_sign P f (pos n) = f false n
by_sign P f (negsuc n) = f true (suc n)

turned : (s t : Bool) → xor (not s) t ≡ not (xor s t)
unfolding xor
turned true true = refl
turned true false = refl
turned false true = refl
turned false false = refl

pub negated_product : (x y : ℤ) → neg_ℤ x *ℤ y ≡ neg_ℤ (x *ℤ y)
negated_product x y = by_sign (λ x. neg_ℤ x *ℤ y ≡ neg_ℤ (x *ℤ y)) (λ s a. by_sign (λ y. neg_ℤ (with_sign s a) *ℤ y ≡ neg_ℤ (with_sign s a *ℤ y)) (go s a) y) x
  where
    go : (s : Bool) (a : ℕ) (t : Bool) (b : ℕ) → neg_ℤ (with_sign s a) *ℤ with_sign t b ≡ neg_ℤ (with_sign s a *ℤ with_sign t b)
    go s a t b =
        ap (λ (z : ℤ). z *ℤ with_sign t b) (negated_sign s a)
        ∙ product_signs (not s) t a b
        ∙ ap (λ (r : Bool). with_sign r (a * b)) (turned s t)
        ∙ sym (ap neg_ℤ (product_signs s t a b) ∙ negated_sign (xor s t) (a * b))

-- ---- a factor goes through a sum

pub sub_mul : (a b k : ℕ) → (a - b) * k ≡ a * k - b * k
sub_mul a b k = rw (mul_comm (a - b) k, mul_comm a k, mul_comm b k) (mul-sub k a b)

module _ (k : ℕ) where
  same_scaled : (s : Bool) (a b : ℕ) → (with_sign s a +ℤ with_sign s b) *ℤ pos k ≡ with_sign s a *ℤ pos k +ℤ with_sign s b *ℤ pos k
  same_scaled s a b =
      ap (λ (z : ℤ). z *ℤ pos k) (sum_same s a b)
      ∙ scaled_sign s (a + b) k
      ∙ ap (with_sign s) (add-mul a b k)
      ∙ sym (sum_same s (a * k) (b * k))
      ∙ ap₂ ◌+ℤ◌ (sym (scaled_sign s a k)) (sym (scaled_sign s b k))

  unlike_scaled : (s : Bool) (a b : ℕ) → b ≤ a → (with_sign s a +ℤ with_sign (not s) b) *ℤ pos k ≡ with_sign s a *ℤ pos k +ℤ with_sign (not s) b *ℤ pos k
  unlike_scaled s a b h =
      ap (λ (z : ℤ). z *ℤ pos k) (sum_unlike s a b h)
      ∙ scaled_sign s (a - b) k
      ∙ ap (with_sign s) (sub_mul a b k)
      ∙ sym (sum_unlike s (a * k) (b * k) (mul-le-mul_right k h))
      ∙ ap₂ ◌+ℤ◌ (sym (scaled_sign s a k)) (sym (scaled_sign (not s) b k))

  -- whichever of two unlike numbers is the greater
  either_scaled : (s : Bool) (a b : ℕ) → Dec (b < a) → (with_sign s a +ℤ with_sign (not s) b) *ℤ pos k ≡ with_sign s a *ℤ pos k +ℤ with_sign (not s) b *ℤ pos k
  either_scaled s a b (yes h) = unlike_scaled s a b (omega arith)
  either_scaled true a b (no h) =
      ap (λ (z : ℤ). z *ℤ pos k) (+ℤ_comm (neg_ℤ (pos a)) (pos b)) ∙ unlike_scaled false b a (omega arith) ∙ +ℤ_comm (pos b *ℤ pos k) (neg_ℤ (pos a) *ℤ pos k)
  either_scaled false a b (no h) =
      ap (λ (z : ℤ). z *ℤ pos k) (+ℤ_comm (pos a) (neg_ℤ (pos b))) ∙ unlike_scaled true b a (omega arith) ∙ +ℤ_comm (neg_ℤ (pos b) *ℤ pos k) (pos a *ℤ pos k)

  pub sum_scaled : (x y : ℤ) → (x +ℤ y) *ℤ pos k ≡ x *ℤ pos k +ℤ y *ℤ pos k
  sum_scaled (pos a) (pos b) = same_scaled false a b
  sum_scaled (pos a) (negsuc b) = either_scaled false a (suc b) (dec_lt (suc b) a)
  sum_scaled (negsuc a) (pos b) = either_scaled true (suc a) b (dec_lt b (suc a))
  sum_scaled (negsuc a) (negsuc b) = same_scaled true (suc a) (suc b)
