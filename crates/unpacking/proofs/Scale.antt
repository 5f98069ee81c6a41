-- The scale of a pattern, 120 + 4k + e: the regime and the exponent are a quotient and a remainder of it (`regime_back`, `exponent_back`), and the significand at
-- this scale is the size (`scales`).
use Rattle.std.proofs.Common.{refl, ◌≡◌, ℕ, suc, ◌+◌, ◌-◌, ◌*◌, ◌/◌, ◌%◌, ◌^◌, ◌<◌, ◌≤◌, true, false, ℤ, pos, negsuc, ◌-ℤ◌, nat_abs, ap, ◌∙◌, inl, inr, le_trans, lt_of_lt_of_le, lt_irrefl, mul-le-mul_right, arith, lit<, lit≤, pow-add}
use native.Mathlib.Decide.{dec_lt, ℕ_discrete}
use lib.IntN.{+ℤ_comm}
use lib.Pow.{pow-lt}
use Rattle.posit.specs.Pattern.{nar, Positive, regime, exponent, raised, size, least, unit}
use Rattle.posit.proofs.Signs.{with_sign, sum_unlike}
use Rattle.posit.proofs.Size.{size_le, largest_size}
use Rattle.posit.proofs.Unsigned.{regime_small}
use Rattle.unpacking.specs.Parts.{significand}
use Rattle.unpacking.specs.Scaled.{scaled_unit, Scales, IsScaled}
use Rattle.unpacking.proofs.Parts.{significand_ge, significand_lt, size_parts}

-- ---- a regime of at most 30 either way

raised_finer : (k : ℤ) → nat_abs k < 31 → raised 2 scaled_unit k ≡ raised 2 (least 2 31) k + 30
raised_finer (pos k) h = omega arith
raised_finer (negsuc k) h = omega arith

pub raised_high : (k : ℤ) → nat_abs k < 31 → raised 2 (least 2 31) k ≤ unit 2 31
raised_high (pos k) h = omega arith
raised_high (negsuc k) h = omega arith

-- the regime and the exponent are a quotient and a remainder of the scale
pub regime_back : (k : ℤ) (e : ℕ) → nat_abs k < 31 → e < 4 → pos ((raised 2 (least 2 31) k + e) / 4) -ℤ pos 30 ≡ k
regime_back (pos k) e h l =
    let n : (least 2 31 + 4 * k + e) / 4 ≡ 30 + k = omega arith in
    let rest : 30 + k - 30 ≡ k = omega arith in
    rw n (sum_unlike false (30 + k) 30 (omega arith) ∙ ap pos rest)
regime_back (negsuc k) e h l =
    let n : (least 2 31 - 4 * suc k + e) / 4 ≡ 29 - k = omega arith in
    let rest : 30 - (29 - k) ≡ suc k = omega arith in
    rw n (+ℤ_comm (pos (29 - k)) (negsuc 29) ∙ sum_unlike true 30 (29 - k) (omega arith) ∙ ap (with_sign true) rest)

pub exponent_back : (k : ℤ) (e : ℕ) → nat_abs k < 31 → e < 4 → (raised 2 (least 2 31) k + e) % 4 ≡ e
exponent_back (pos k) e h l = omega arith
exponent_back (negsuc k) e h l = omega arith

-- ---- the size

-- no size is above the largest
scale_high : (b c g : ℕ) → Positive 31 b → 2 ^ 30 ≤ g → size 2 31 scaled_unit b ≡ g * 2 ^ c → c ≤ unit 2 31
scale_high b c g k leading is = go (dec_lt (unit 2 31) c)
  where
    most : g * 2 ^ c ≤ 2 ^ (scaled_unit + least 2 31)
    most = rw (← is, ← largest_size 2 scaled_unit 31 (lit< tt)) (size_le 2 scaled_unit 31 (lit≤ tt) b (2 ^ 31 - 1) k.0 (omega arith) (lit< tt))

    go : Dec (unit 2 31 < c) → c ≤ unit 2 31
    go (yes l) =
        let over : 2 ^ (scaled_unit + least 2 31) < 2 ^ (30 + c) = pow-lt {i = scaled_unit + least 2 31} {j = 30 + c} (omega arith) in
        absurd (lt_irrefl (2 ^ (scaled_unit + least 2 31)) (lt_of_lt_of_le over (le_trans (rw (pow-add 2 30 c) (mul-le-mul_right (2 ^ c) leading)) most)))
    go (no l) = omega arith

pub scales : (b : ℕ) → Positive 31 b → Scales b (raised 2 (least 2 31) (regime 31 b) + exponent 2 31 b) (significand 2 31 b)
scales b k =
    let c = raised 2 (least 2 31) (regime 31 b) + exponent 2 31 b in
    let g = significand 2 31 b in
    let e : raised 2 scaled_unit (regime 31 b) + exponent 2 31 b - 30 ≡ c = omega (arith, raised_finer (regime 31 b) (regime_small 31 b k)) in
    let is : size 2 31 scaled_unit b ≡ g * 2 ^ c = size_parts 2 31 scaled_unit b k (lit≤ tt) ∙ ap (λ (n : ℕ). g * 2 ^ n) e in
    record {
      size_is = is;
      in_scale = record { leading = significand_ge 2 31 b; below = significand_lt 2 31 b (lit< tt); high = scale_high b c g k (significand_ge 2 31 b) is };
    }

-- zero and NaR have no size
pub zero_unscaled : (p : ℕ) → p ≡ 0 → IsScaled p 0 0
zero_unscaled p z = record { of_real = λ k. absurd (k.0 z); of_other = λ _. (refl, refl) }

pub nar_unscaled : (p : ℕ) → p ≡ nar 31 → IsScaled p 0 0
nar_unscaled p n = record { of_real = λ k. absurd (k.1 n); of_other = λ _. (refl, refl) }

-- of every pattern
pub scaled_below : (p c g : ℕ) → IsScaled p c g → (c ≤ unit 2 31) × (g < 2 ^ 31)
scaled_below p c g s = go (ℕ_discrete p 0) (ℕ_discrete p (nar 31))
  where
    none : (c ≡ 0) × (g ≡ 0) → (c ≤ unit 2 31) × (g < 2 ^ 31)
    none e = omega arith

    go : Dec (p ≡ 0) → Dec (p ≡ nar 31) → (c ≤ unit 2 31) × (g < 2 ^ 31)
    go (yes z) n = none (s.of_other (inl z))
    go (no z) (yes n) = none (s.of_other (inr n))
    go (no z) (no n) = let k = (s.of_real (z, n)).in_scale in (k.high, k.below)
