-- The sum and the difference of two magnitudes g * 2 ^ c and l * 2 ^ e, with e at most c: it counts a whole number of units of 2 ^ c,
-- and is above them just where digits of l are lost. One lemma serves both, over `combine`; the greater term has the sign.
use mathlib.Core.Path.{◌≡◌, refl, sym, ap, subst₂, ◌∙◌}
use mathlib.Core.Bool.{Bool, true, false, beq}
use Prim.Native.Nat.{ℕ, zero, suc, ◌+◌, ◌-◌, ◌*◌, ◌/◌, ◌%◌, ◌^◌, ◌≤◌, ◌<◌}
use native.Mathlib.Nat.{pow-suc, lt_of_lt_of_le, le_trans, mul-le-mul_left, mul-le-mul_right, mul-lt-mul_of_pos_right, div-add-mod', mod-lt, mod-one, mul_assoc, add-mul}
use native.Mathlib.Decide.{dec_lt}
use native.Mathlib.Omega.{arith}
use borrow.Author.Tests.{lt-ltb, le-ltb, ltb-true, ltb-false}
use lib.Dec.{ltb}
use lib.IntN.{◌+ℤ◌}
use lib.Pow.{pow_pos, pow_mono}
use Rattle.posit.specs.Exact.{whole}
use Rattle.posit.specs.Rounding.{rounded}
use Rattle.posit.proofs.Arith.{pow_sum}
use Rattle.posit.proofs.Signs.{with_sign, sub_mul, sum_same, sum_unlike}
use Rattle.posit.proofs.Compare.{Counts, counts_times}
use Rattle.rounding.specs.Packed.{packed_unit}
use mir.Val.{bool_byte}
use Rattle.rounding.proofs.Terms.{Normal, combine}

-- ---- the order of two magnitudes

pub by_scale : (c g d h : ℕ) → Normal c g → Normal d h → c < d → g * 2 ^ c < h * 2 ^ d
by_scale c g d h x y l =
    lt_of_lt_of_le (mul-lt-mul_of_pos_right x.below (pow_pos c))
    (le_trans (omega (arith, mul-le-mul_left (2 ^ 62) (pow_mono {i = suc c} {j = d} l), pow-suc 2 c)) (mul-le-mul_right (2 ^ d) y.leading))

pub greater_scale : (c g e l : ℕ) → Normal c g → Normal e l → l * 2 ^ e ≤ g * 2 ^ c → e ≤ c
greater_scale c g e l x y h = go (dec_lt c e)
  where
    go : Dec (c < e) → e ≤ c
    go (yes k) = absurd (omega (arith, by_scale c g e l x y k))
    go (no k) = omega arith

-- ---- digits

-- a sum, or a difference
abbrev pub total : Bool → ℕ → ℕ → ℕ
total true a b = a + b
total false a b = a - b

-- n whole units of D and r more, which is less than one
counts_rest : (D n M r : ℕ) → M ≡ n * D + r → r < D → Counts (whole M) n D (ltb 0 r)
counts_rest D n M r e short = record { low = omega arith; high = omega arith; seen = go (dec_lt 0 r) }
  where
    go : Dec (0 < r) → ltb (n * D) M ≡ ltb 0 r
    go (yes h) = lt-ltb (n * D) M (omega arith) ∙ sym (lt-ltb 0 r h)
    go (no h) = le-ltb (n * D) M (omega arith) ∙ sym (le-ltb 0 r (omega arith))

module _ (g l D : ℕ) (positive : 0 < D) (less : l ≤ g * D) where
  parted : l / D * D + l % D ≡ l
  parted = div-add-mod' l D

  kept_le : l / D ≤ g
  kept_le = go (dec_lt g (l / D))
    where
      go : Dec (g < l / D) → l / D ≤ g
      go (yes h) = absurd (omega (arith, parted, mul-le-mul_right D h))
      go (no h) = omega arith

  kept_lt : 0 < l % D → l / D < g
  kept_lt r = go (dec_lt (l / D) g)
    where
      go : Dec (l / D < g) → l / D < g
      go (yes h) = h
      go (no h) = absurd (omega (arith, parted, mul-le-mul_right {m = g} {n = l / D} D (omega arith)))

  pub room : l / D + bool_byte (ltb 0 (l % D)) ≤ g
  room = go (dec_lt 0 (l % D))
    where
      go : Dec (0 < l % D) → l / D + bool_byte (ltb 0 (l % D)) ≤ g
      go (yes h) = rw (lt-ltb 0 (l % D) h) (omega (arith, kept_lt h))
      go (no h) = rw (le-ltb 0 (l % D) (omega arith)) (omega (arith, kept_le))

  pub digits_count : (same : Bool) → Counts (whole (total same (g * D) l)) (combine same g (l / D) (ltb 0 (l % D))) D (ltb 0 (l % D))
  digits_count true = counts_rest D (g + l / D) (g * D + l) (l % D) (omega (arith, parted)) (mod-lt l positive)
  digits_count false = go (dec_lt 0 (l % D))
    where
      go : Dec (0 < l % D) → Counts (whole (g * D - l)) (combine false g (l / D) (ltb 0 (l % D))) D (ltb 0 (l % D))
      go (yes h) =
          let n = g - l / D - 1 in
          let all : g ≡ l / D + suc n = omega (arith, kept_lt h) in
          rw (lt-ltb 0 (l % D) h)
          (rw (lt-ltb 0 (D - l % D) (omega (arith, mod-lt l positive)))
          at (counts_rest D n (g * D - l) (D - l % D) (omega (arith, parted, mod-lt l positive, ap (λ (t : ℕ). t * D) all)) (omega arith)))
      go (no h) =
          let n = g - l / D - 0 in
          let all : g ≡ l / D + n = omega (arith, kept_le) in
          rw (le-ltb 0 (l % D) (omega arith)) (counts_rest D n (g * D - l) 0 (omega (arith, parted, ap (λ (t : ℕ). t * D) all)) positive)

-- ---- magnitudes

total_mul : (same : Bool) (a b k : ℕ) → total same a b * k ≡ total same (a * k) (b * k)
total_mul true a b k = add-mul a b k
total_mul false a b k = sub_mul a b k

-- digits of an even number are lost only from two on, and then at most a quarter of it stays
lost_from_two : (l d : ℕ) → l % 2 ≡ 0 → l < 2 ^ 63 → 0 < l % 2 ^ d → l / 2 ^ d < 2 ^ 61
lost_from_two l zero even short h = absurd (omega (arith, mod-one l))
lost_from_two l (suc zero) even short h = absurd (omega arith)
lost_from_two l (suc (suc d)) even short h =
    omega (arith, div-add-mod' l (2 ^ suc (suc d)), mul-le-mul_left (l / 2 ^ suc (suc d)) (pow_mono {i = 2} {j = suc (suc d)} (omega arith)))

still_wide : (same : Bool) (g q : ℕ) → 2 ^ 62 ≤ g → q < 2 ^ 61 → 2 ^ 61 ≤ combine same g q true
still_wide true g q h k = omega arith
still_wide false g q h k = omega arith

module _ (c g e l : ℕ) (x : Normal c g) (y : Normal e l) (order : l * 2 ^ e ≤ g * 2 ^ c) where
  split : 2 ^ c ≡ 2 ^ (c - e) * 2 ^ e
  split = sym (pow_sum (c - e) e c (omega (arith, greater_scale c g e l x y order)))

  pub less : l ≤ g * 2 ^ (c - e)
  less = go (dec_lt (g * 2 ^ (c - e)) l)
    where
      go : Dec (g * 2 ^ (c - e) < l) → l ≤ g * 2 ^ (c - e)
      go (yes h) = absurd (omega (arith, mul-lt-mul_of_pos_right h (pow_pos e), ap (λ (p : ℕ). g * p) split))
      go (no h) = omega arith

  module _ (same : Bool) where
    total_is : total same (g * 2 ^ c) (l * 2 ^ e) ≡ total same (g * 2 ^ (c - e)) l * 2 ^ e
    total_is =
        ap (λ (a : ℕ). total same a (l * 2 ^ e)) (ap (λ (p : ℕ). g * p) split ∙ sym (mul_assoc g (2 ^ (c - e)) (2 ^ e)))
        ∙ sym (total_mul same (g * 2 ^ (c - e)) l (2 ^ e))

    -- the sum counts n units of 2 ^ c, and is above them where digits are lost
    abbrev pub Found : ℕ → Bool → Type 0
    Found n lost = Counts (whole (total same (g * 2 ^ c) (l * 2 ^ e))) n (2 ^ c) lost × (lost ≡ true → 2 ^ 61 ≤ n)

    pub found : Found (combine same g (l / 2 ^ (c - e)) (ltb 0 (l % 2 ^ (c - e)))) (ltb 0 (l % 2 ^ (c - e)))
    found =
        let lost = ltb 0 (l % 2 ^ (c - e)) in
        let n = combine same g (l / 2 ^ (c - e)) lost in (
          subst₂ (λ (M U : ℕ). Counts (whole M) n U lost) (sym total_is) (sym split)
              (counts_times (2 ^ e) (pow_pos e) (digits_count g l (2 ^ (c - e)) (pow_pos (c - e)) less same)),
          λ h. rw h (still_wide same g (l / 2 ^ (c - e)) x.leading (lost_from_two l (c - e) y.even y.below (ltb-true 0 (l % 2 ^ (c - e)) h))),
        )

    pub nothing : (lost : Bool) (n : ℕ) → Found n lost → n ≡ 0 → total same (g * 2 ^ c) (l * 2 ^ e) ≡ 0
    nothing true n f z = absurd (omega (arith, f.1 refl))
    nothing false n f z = omega (arith, ltb-false (n * 2 ^ c) (total same (g * 2 ^ c) (l * 2 ^ e)) f.0.seen, ap (λ (k : ℕ). k * 2 ^ c) z)

-- ---- signs

-- the greater of two numbers has the sign of the sum
pub sum_total : (s t : Bool) (a b : ℕ) → b ≤ a → with_sign s a +ℤ with_sign t b ≡ with_sign s (total (beq s t) a b)
sum_total true true a b h = sum_same true a b
sum_total true false a b h = sum_unlike true a b h
sum_total false true a b h = sum_unlike false a b h
sum_total false false a b h = sum_same false a b

pub none_rounded : (s : Bool) → rounded 2 31 packed_unit (with_sign s 0) ≡ 0
unfolding rounded
none_rounded true = refl
none_rounded false = refl
