-- A number of up to 64 binary digits, moved up by its z leading zeros and down by two, is a significand for `pack`: what the two lowest digits hold goes into the
-- sticky bit. Nothing is moved up further than by two where something lies above the number already.
use mathlib.Core.Path.{◌≡◌, refl, sym, ap, ◌∙◌}
use mathlib.Core.Bool.{Bool, true, false}
use Prim.Native.Nat.{ℕ, zero, suc, ◌+◌, ◌-◌, ◌*◌, ◌/◌, ◌%◌, ◌^◌, ◌≤◌, ◌<◌}
use native.Mathlib.Nat.{mul-one, le_trans, lt_of_lt_of_le, lt_of_le_of_lt, mul-le-mul_left, mul-le-mul_right, mul-lt-mul_of_pos_right}
use native.Mathlib.Decide.{dec_lt}
use native.Mathlib.Omega.{arith}
use borrow.Author.Tests.{lt-ltb, ltb-false}
use lib.Count.{count_leading_zeros, leading_top}
use lib.Dec.{ltb, lit≤}
use lib.Pow.{pow_pos, pow_mono}
use Rattle.posit.specs.Exact.{Exact, whole, Sound, bound, told, above, Under}
use Rattle.posit.specs.Rounding.{round}
use Rattle.posit.proofs.Arith.{pow_sum}
use Rattle.posit.proofs.Compare.{AtLeast, Counts, told_lt, told_le}
use Rattle.rounding.proofs.Terms.{finer_by}
use mir.Val.{bool_byte}
use Rattle.rounding.specs.Packed.{packed_size, packed_unit}
use Rattle.rounding.proofs.Packed.{significand_stands_for}

-- a word that is not 0, moved up by its leading zeros
pub normalised : (n : ℕ) → 0 < n → n < 2 ^ 64 → (count_leading_zeros 64 n < 64) × (2 ^ 63 ≤ n * 2 ^ count_leading_zeros 64 n) × (n * 2 ^ count_leading_zeros 64 n < 2 ^ 64)
normalised n p h =
    let t = leading_top 64 n p h in
    let z = count_leading_zeros 64 n in (
      omega (arith, t.1),
      omega (arith, mul-le-mul_right (2 ^ z) t.2, pow_sum t.0 z 63 (omega (arith, t.1))),
      omega (arith, mul-lt-mul_of_pos_right t.3 (pow_pos z), pow_sum (suc t.0) z 64 (omega (arith, t.1))),
    )

digit_seen : (s : Bool) → s ≡ ltb 0 (0 + bool_byte s)
digit_seen true = refl
digit_seen false = refl

-- by at most two digits: the next number is no further than the next significand
stepped : (n z : ℕ) → z ≤ 2 → suc n * 2 ^ z ≤ 4 * suc (n * 2 ^ z / 4)
stepped n zero h = omega arith
stepped n (suc zero) h = omega arith
stepped n (suc (suc zero)) h = omega arith
stepped n (suc (suc (suc z))) h = absurd (omega arith)

two_at_most : (n z : ℕ) → 2 ^ 61 ≤ n → n * 2 ^ z < 2 ^ 64 → z ≤ 2
two_at_most n z h k = go (dec_lt 2 z)
  where
    go : Dec (2 < z) → z ≤ 2
    go (yes l) = absurd (omega (arith, le_trans (mul-le-mul_left (2 ^ 61) (pow_mono {i = 3} {j = z} l)) (mul-le-mul_right (2 ^ z) h)))
    go (no l) = omega arith

-- n with its leading one moved to bit 63, and four times less
module _ (n z c : ℕ) (top : 2 ^ 63 ≤ n * 2 ^ z) (word : n * 2 ^ z < 2 ^ 64) (low : z ≤ c) where
  level : (k : ℕ) → k * 2 ^ c ≡ k * 2 ^ z * 2 ^ (c - z)
  level k = omega (arith, ap (λ (p : ℕ). k * p) (pow_sum z (c - z) c (omega arith)))

  quarter : (k : ℕ) → k * 2 ^ (c + 2 - z) ≡ 4 * k * 2 ^ (c - z)
  quarter k = omega (arith, ap (λ (p : ℕ). k * p) (pow_sum 2 (c - z) (c + 2 - z) (omega arith)))

  module _ (x : Exact) (sound : Sound x) (s : Bool) (counts : Counts x n (2 ^ c) s) (wide : s ≡ true → 2 ^ 61 ≤ n) where
    at_least : AtLeast x (n * 2 ^ z / 4 * 2 ^ (c + 2 - z))
    at_least =
        le_trans
        (told_le x sound (rw (quarter (n * 2 ^ z / 4), level n) (mul-le-mul_right (2 ^ (c - z)) (omega arith))))
        counts.low

    under : (t : Bool) → s ≡ t → Under x (suc (n * 2 ^ z / 4) * 2 ^ (c + 2 - z))
    under false e =
        lt_of_le_of_lt (ltb-false (told x (n * 2 ^ c)) (bound x) (counts.seen ∙ e))
        (told_lt x sound (rw (quarter (suc (n * 2 ^ z / 4)), level n) (mul-lt-mul_of_pos_right (omega arith) (pow_pos (c - z)))))
    under true e =
        lt_of_lt_of_le counts.high
        (told_le x sound (rw (quarter (suc (n * 2 ^ z / 4)), level (suc n)) (mul-le-mul_right (2 ^ (c - z)) (stepped n z (two_at_most n z (wide e) word)))))

    seen : above x (n * 2 ^ z / 4 * 2 ^ (c + 2 - z)) ≡ ltb 0 (n * 2 ^ z % 4 + bool_byte s)
    seen = go (dec_lt 0 (n * 2 ^ z % 4))
      where
        go : Dec (0 < n * 2 ^ z % 4) → above x (n * 2 ^ z / 4 * 2 ^ (c + 2 - z)) ≡ ltb 0 (n * 2 ^ z % 4 + bool_byte s)
        go (yes h) =
            let less : n * 2 ^ z / 4 * 2 ^ (c + 2 - z) < n * 2 ^ c =
            rw (quarter (n * 2 ^ z / 4), level n) (mul-lt-mul_of_pos_right (omega arith) (pow_pos (c - z))) in
            lt-ltb _ (bound x) (lt_of_lt_of_le (told_lt x sound less) counts.low) ∙ sym (lt-ltb 0 (n * 2 ^ z % 4 + bool_byte s) (omega arith))
        go (no h) =
            let same : n * 2 ^ z / 4 * 2 ^ (c + 2 - z) ≡ n * 2 ^ c =
            quarter (n * 2 ^ z / 4) ∙ ap (λ (k : ℕ). k * 2 ^ (c - z)) (omega arith) ∙ sym (level n) in
            let none : n * 2 ^ z % 4 ≡ 0 = omega arith in
            ap (above x) same ∙ counts.seen ∙ digit_seen s ∙ ap (λ (k : ℕ). ltb 0 (k + bool_byte s)) (sym none)

    pub wide_rounds : round 2 31 packed_unit x ≡ round 2 31 packed_unit (whole (packed_size (c + 1 - z) (n * 2 ^ z / 4) (ltb 0 (n * 2 ^ z % 4 + bool_byte s))))
    wide_rounds =
        significand_stands_for x sound 61 (lit≤ tt) (lit≤ tt) (c + 1 - z) (n * 2 ^ z / 4) (c + 2 - z) (omega arith) (omega arith) (omega arith)
        (ltb 0 (n * 2 ^ z % 4 + bool_byte s)) (record { low = at_least; high = under s refl; seen = seen })
        ∙ ap (λ (g : ℕ). round 2 31 packed_unit (whole (packed_size (c + 1 - z) g (ltb 0 (n * 2 ^ z % 4 + bool_byte s))))) (mul-one (n * 2 ^ z / 4))

-- The first 64 digits d of x, a number of the accumulator's units: x counts d units of 2 ^ u in the unit of `pack`, and there is more where `more` says so.
pub record FirstDigits (x u d : ℕ) (more : Bool) : Type 0 where
  pub top : 2 ^ 63 ≤ d
  pub word : d < 2 ^ 64
  pub counts : Counts (whole (x * 2 ^ finer_by)) d (2 ^ u) more
  pub above : 64 ≤ u
  pub below : u < 1295
