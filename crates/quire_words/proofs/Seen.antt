-- A loop from the last digit down that ors the digits together: the result is 0 exactly where the number of those digits is, to any base.
use Rattle.std.proofs.Common.{◌≡◌, ℕ, suc, ◌+◌, ◌-◌, ◌*◌, ◌^◌, ◌<◌, ◌≤◌, ◌↔◌, List, length, get_or, drop, refl, mul-le-mul_left, zero-mul, mul-one, arith}
use native.Mathlib.Nat.{one-le-pow}
use lib.Bits.{bit_or, or_add_and, and_le_l, and_le_r}
use Rattle.posit.specs.Digits.{number}
use Rattle.quire_words.proofs.Places.{number_drop}

-- a digit x in front of v, with x * P ≥ x
zero_parts : (x P v : ℕ) → 0 < P → x * P + v ≡ 0 → (x ≡ 0) × (v ≡ 0)
zero_parts x P v p e = omega (arith, rw mul-one at (mul-le-mul_left x p))

or_zero : (x y : ℕ) → bit_or x y ≡ 0 → (x ≡ 0) × (y ≡ 0)
or_zero x y e = omega (arith, or_add_and x y, and_le_l x y, and_le_r x y)

or_zeros : (x y : ℕ) → x ≡ 0 → y ≡ 0 → bit_or x y ≡ 0
or_zeros x y e f = omega (arith, or_add_and x y)

pub seen_more : (B n i any : ℕ) (a : List ℕ) → 0 < B → length a ≡ n → i ≤ n → 0 < i
    → ((any ≡ 0) ↔ (number B (drop i a) ≡ 0)) → (bit_or any (get_or a (i - 1) 0) ≡ 0) ↔ (number B (drop (i - 1) a) ≡ 0)
seen_more B n i any a b ha w p h =
    let down : suc (i - 1) ≡ i = omega arith in
    let v : number B (drop (i - 1) a) ≡ get_or a (i - 1) 0 * B ^ (n - i) + number B (drop i a) = rw (ha, down) at (number_drop B a (i - 1) (omega arith)) in
    rw v (
      (λ e. let o = or_zero any (get_or a (i - 1) 0) e in rw (o.1, h.0 o.0, zero-mul) refl),
      (λ e. let z = zero_parts (get_or a (i - 1) 0) (B ^ (n - i)) (number B (drop i a)) (one-le-pow (n - i) B b) e in or_zeros any (get_or a (i - 1) 0) (h.1 z.1) z.0),
    )
