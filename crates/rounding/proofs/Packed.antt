-- What `pack` answers is the rounding of every size that its arguments stand for: the size may be told exactly, or by fewer digits of the fraction with 0 behind
-- them and the sticky bit set. So a caller shows only which significand its exact result counts (`significand_stands_for`).
use Rattle.std.proofs.Common.{◌≡◌, ℕ, suc, ◌+◌, ◌-◌, ◌*◌, ◌/◌, ◌%◌, ◌^◌, ◌<◌, ◌≤◌, Bool, true, false, cond, ◌||◌, ltb, leb, sym, refl, ap, ◌∙◌, le_trans, lt_of_lt_of_le, add-zero, mul-le-mul_right, mod-lt, mod-eq_of_lt, mul-lt-mul_of_pos_right, mul-pos, pow-suc, mul-one, arith, lit<, lit≤, pow_pos, pow_mono, shr_lt, le-ltb, lt-ltb, le-leb}
use native.Mathlib.Nat.{pow-succ' as pow-suc'}
use native.Mathlib.Decide.{dec_lt}
use borrow.Author.Tests.{lt-leb}
use mir.Val.{bool_byte}
use Rattle.posit.specs.Pattern.{size, least}
use Rattle.posit.specs.Exact.{Exact, whole, Sound}
use Rattle.posit.specs.Rounding.{round}
use Rattle.posit.proofs.Arith.{pow_sum}
use Rattle.posit.proofs.Built.{built}
use Rattle.posit.proofs.Size.{scale, scale_ones, scale_zeros, smallest_size, largest_size, ones_double, one_built}
use Rattle.posit.proofs.Compare.{Counts, told_le}
use Rattle.posit.proofs.Rounding.{at_none, at_last}
use Rattle.posit.proofs.LongPattern.{half_even, clamped}
use Rattle.posit.proofs.Packing.{packed, built_kept, built_rest, spare_kept, spare_rest, inside, from_digits}
use Rattle.rounding.specs.Packed.{packed_unit, packed_size}

-- a run and its end, as a number
prefix_bounds : (o : Bool) (m : ℕ) → (1 ≤ built o (suc m) 0 0) × (built o (suc m) 0 0 + 2 ≤ 2 * 2 ^ suc m)
prefix_bounds true m = omega (arith, ones_double (suc m), pow_mono {i = 1} {j = suc m} (omega arith))
prefix_bounds false m = omega (arith, one_built (suc m), pow_mono {i = 1} {j = suc m} (omega arith))

more_or_rest : (s : Bool) (r : ℕ) → (s || ltb 0 r) ≡ ltb 0 (r + bool_byte s)
more_or_rest true r = sym (lt-ltb 0 (r + 1) (omega arith))
more_or_rest false r = rw add-zero

module _ (o : Bool) (m T : ℕ) (hm : m ≤ 29) (h_t : T < 2 ^ 63) where
  pub behind_lt : T / 2 ^ (33 + m) < 2 ^ (30 - m)
  behind_lt =
      let e : 30 - m + (33 + m) ≡ 63 = omega arith in
      shr_lt (30 - m) (33 + m) (rw e h_t)

  pub within : (2 ≤ built o (suc m) 0 0 * 2 ^ (30 - m) + T / 2 ^ (33 + m)) × (built o (suc m) 0 0 * 2 ^ (30 - m) + T / 2 ^ (33 + m) < 2 ^ 32 - 2)
  within =
      let all : 2 ^ suc m * 2 ^ (30 - m) ≡ 2 ^ 31 = pow_sum (suc m) (30 - m) 31 (omega arith) in
      let low = mul-le-mul_right (2 ^ (30 - m)) (prefix_bounds o m).0 in
      let high = mul-le-mul_right (2 ^ (30 - m)) (prefix_bounds o m).1 in
      omega (arith, behind_lt, pow_mono {i = 1} {j = 30 - m} (omega arith))

-- the long pattern of n digits of the fraction, cut after the digits that fit and one more
module _ (n : ℕ) (hn : 28 ≤ n) (hn' : n ≤ 61) (o : Bool) (m t : ℕ) (hm : m ≤ 29) where
  place : m + n - 28 + (61 - n) ≡ 33 + m
  place = omega arith

  kept_digits : built o (suc m) (2 + n) t / 2 ^ (m + n - 28) ≡ built o (suc m) 0 0 * 2 ^ (30 - m) + t * 2 ^ (61 - n) / 2 ^ (33 + m)
  kept_digits =
      let e : 2 + n - (m + n - 28) ≡ 30 - m = omega arith in
      rw (built_kept o (suc m) (2 + n) (m + n - 28) t (omega arith), e, ← place) (ap (λ (q : ℕ). built o (suc m) 0 0 * 2 ^ (30 - m) + q) (sym (spare_kept t (m + n - 28) (61 - n))))

  rest_digits : ltb 0 (built o (suc m) (2 + n) t % 2 ^ (m + n - 28)) ≡ ltb 0 (t * 2 ^ (61 - n) % 2 ^ (33 + m))
  rest_digits = rw (built_rest o (suc m) (2 + n) (m + n - 28) t (omega arith), ← place) (sym (spare_rest t (m + n - 28) (61 - n)))

  same_digits : (s : Bool) → t * 2 ^ (61 - n) < 2 ^ 63
      → clamped 31 (half_even (built o (suc m) (2 + n) t / 2 ^ (m + n - 28)) (s || ltb 0 (built o (suc m) (2 + n) t % 2 ^ (m + n - 28))))
      ≡ from_digits o m (t * 2 ^ (61 - n)) s
  unfolding from_digits
  same_digits s h =
      let b = within o m (t * 2 ^ (61 - n)) hm h in
      rw (kept_digits, rest_digits, more_or_rest s (t * 2 ^ (61 - n) % 2 ^ (33 + m)))
      (inside 31 (built o (suc m) 0 0 * 2 ^ (30 - m) + t * 2 ^ (61 - n) / 2 ^ (33 + m)) _ b.0 b.1)

-- Of n binary digits of the fraction, f, and of the exponent e: x counts this significand, and is above it just where s says so.
module _ (x : Exact) (sound : Sound x) (n : ℕ) (hn : 28 ≤ n) (hn' : n ≤ 61) (o : Bool) (m : ℕ) (hm : m ≤ 29) (e f : ℕ) (he : e < 4) (hf : f < 2 ^ n)
    (s : Bool) (counts : Counts x (2 ^ n + f) (2 ^ (scale 2 packed_unit o m + e - n)) s) where
  digits_lt_63 : (e * 2 ^ n + f) * 2 ^ (61 - n) < 2 ^ 63
  digits_lt_63 =
      let below : e * 2 ^ n + f < 4 * 2 ^ n = omega (arith, mul-le-mul_right (2 ^ n) he) in
      omega (arith, mul-lt-mul_of_pos_right below (pow_pos (61 - n)), pow_sum n (61 - n) 61 (omega arith))

  pub rounds_from_digits : round 2 31 packed_unit x ≡ from_digits o m ((e * 2 ^ n + f) * 2 ^ (61 - n)) s
  rounds_from_digits =
      packed 2 31 (m + n - 28) packed_unit o m n e f (omega arith) (omega arith) he hf x s counts sound (omega arith)
      ∙ same_digits n hn hn' o m (e * 2 ^ n + f) hm s digits_lt_63

-- ---- every scale

-- what `pack` answers without the sign, by its digits: F is the fraction, of 61 digits
unfoldable pub packing : ℕ → ℕ → Bool → ℕ
packing c F s =
    cond (ltb c 904) 1
    (cond (leb 1144 c) (2 ^ 31 - 1)
    (cond (ltb c 1024)
    (from_digits false (255 - c / 4) (c % 4 * 2 ^ 61 + F) s)
    (from_digits true (c / 4 - 256) (c % 4 * 2 ^ 61 + F) s)))

module _ (c : ℕ) (F : ℕ) (s : Bool) where
  pub packing_tiny : c < 904 → packing c F s ≡ 1
  unfolding packing
  packing_tiny h = rw (lt-ltb c 904 h)

  pub packing_huge : 1144 ≤ c → packing c F s ≡ 2 ^ 31 - 1
  unfolding packing
  packing_huge h = rw (le-ltb c 904 (omega arith), le-leb 1144 c h)

  pub packing_zeros : 904 ≤ c → c < 1024 → packing c F s ≡ from_digits false (255 - c / 4) (c % 4 * 2 ^ 61 + F) s
  unfolding packing
  packing_zeros h k = rw (le-ltb c 904 h, lt-leb 1144 c (omega arith), lt-ltb c 1024 k)

  pub packing_ones : 1024 ≤ c → c < 1144 → packing c F s ≡ from_digits true (c / 4 - 256) (c % 4 * 2 ^ 61 + F) s
  unfolding packing
  packing_ones h k = rw (le-ltb c 904 (omega arith), lt-leb 1144 c k, le-ltb c 1024 h)

fine : least 2 32 ≤ packed_unit
fine = lit≤ tt

-- x is told by n digits of a fraction, f, and the scale c
module _ (x : Exact) (sound : Sound x) (n : ℕ) (hn : 28 ≤ n) (hn' : n ≤ 61) (c f : ℕ) (hf : f < 2 ^ n) (s : Bool) (counts : Counts x (2 ^ n + f) (2 ^ (c + 62 - n)) s) where
  whole_power : 2 ^ n * 2 ^ (c + 62 - n) ≡ 2 ^ (c + 62)
  whole_power = pow_sum n (c + 62 - n) (c + 62) (omega arith)

  tiny : c < 904 → round 2 31 packed_unit x ≡ 1
  tiny h =
      let under : suc (2 ^ n + f) * 2 ^ (c + 62 - n) ≤ 2 ^ suc (c + 62) =
      omega (arith, mul-le-mul_right {m = suc (2 ^ n + f)} {n = 2 * 2 ^ n} (2 ^ (c + 62 - n)) (omega arith), whole_power, pow-suc 2 (c + 62)) in
      let least_is : size 2 31 packed_unit 1 ≡ 2 ^ (packed_unit - least 2 31) = smallest_size 2 packed_unit 31 (lit< tt) (lit≤ tt) in
      let high = lt_of_lt_of_le counts.high (told_le x sound (le_trans under (pow_mono {i = suc (c + 62)} {j = packed_unit - least 2 31} (omega arith)))) in
      at_none 2 31 packed_unit fine x sound (record { short = lit< tt; low = λ z. absurd (omega arith); high = λ _. rw least_is high })

  huge : 1144 ≤ c → round 2 31 packed_unit x ≡ 2 ^ 31 - 1
  huge h =
      let over : 2 ^ (c + 62) ≤ (2 ^ n + f) * 2 ^ (c + 62 - n) =
      omega (arith, mul-le-mul_right {m = 2 ^ n} {n = 2 ^ n + f} (2 ^ (c + 62 - n)) (omega arith), whole_power) in
      let most_is : size 2 31 packed_unit (2 ^ 31 - 1) ≡ 2 ^ (packed_unit + least 2 31) = largest_size 2 packed_unit 31 (lit< tt) in
      let low = le_trans (told_le x sound (le_trans (pow_mono {i = packed_unit + least 2 31} {j = c + 62} (omega arith)) over)) counts.low in
      at_last 2 31 packed_unit fine x sound (lit< tt) (record { short = lit< tt; low = λ _. rw most_is low; high = λ k. absurd (omega arith) })

  middle : (o : Bool) (m : ℕ) → m ≤ 29 → scale 2 packed_unit o m + c % 4 ≡ c + 62 → round 2 31 packed_unit x ≡ from_digits o m (c % 4 * 2 ^ 61 + f * 2 ^ (61 - n)) s
  middle o m hm e =
      let together : (c % 4 * 2 ^ n + f) * 2 ^ (61 - n) ≡ c % 4 * 2 ^ 61 + f * 2 ^ (61 - n) =
      omega (arith, ap (λ (p : ℕ). c % 4 * p) (pow_sum n (61 - n) 61 (omega arith))) in
      rounds_from_digits x sound n hn hn' o m hm (c % 4) f (omega arith) hf s (rw e counts) ∙ ap (λ (T : ℕ). from_digits o m T s) together

  pub packs : round 2 31 packed_unit x ≡ packing c (f * 2 ^ (61 - n)) s
  packs = go (dec_lt c 904) (dec_lt c 1024) (dec_lt c 1144)
    where
      go : Dec (c < 904) → Dec (c < 1024) → Dec (c < 1144) → round 2 31 packed_unit x ≡ packing c (f * 2 ^ (61 - n)) s
      go (yes h) i k = tiny h ∙ sym (packing_tiny c (f * 2 ^ (61 - n)) s h)
      go (no h) (yes i) k =
          middle false (255 - c / 4) (omega arith) (omega (arith, scale_zeros 2 packed_unit (255 - c / 4)))
          ∙ sym (packing_zeros c (f * 2 ^ (61 - n)) s (omega arith) i)
      go (no h) (no i) (yes k) =
          middle true (c / 4 - 256) (omega arith) (omega (arith, scale_ones 2 packed_unit (c / 4 - 256)))
          ∙ sym (packing_ones c (f * 2 ^ (61 - n)) s (omega arith) k)
      go (no h) (no i) (no k) = huge (omega arith) ∙ sym (packing_huge c (f * 2 ^ (61 - n)) s (omega arith))

-- the size that the arguments of `pack` stand for
module _ (c fraction : ℕ) where
  next_power : 2 ^ (c + 62 - 61) ≡ 2 * 2 ^ c
  next_power =
      let e : c + 62 - 61 ≡ suc c = omega arith in
      rw (e, pow-suc') refl

  counts_told : (s : Bool) → Counts (whole (packed_size c fraction s)) (2 ^ 61 + fraction % 2 ^ 61) (2 ^ (c + 62 - 61)) s
  counts_told true =
      record {
        low = rw next_power (omega arith);
        high = rw next_power (omega (arith, pow_pos c));
        seen = rw next_power (lt-ltb _ (packed_size c fraction true) (omega (arith, pow_pos c)));
      }
  counts_told false =
      record {
        low = rw next_power (omega arith);
        high = rw next_power (omega (arith, pow_pos c));
        seen = rw next_power (le-ltb _ (packed_size c fraction false) (omega arith));
      }

  sound_told : (s : Bool) → 0 < packed_size c fraction s
  sound_told s = mul-pos (omega arith) (pow_pos c)

  pub pack_size_is : (s : Bool) → round 2 31 packed_unit (whole (packed_size c fraction s)) ≡ packing c (fraction % 2 ^ 61) s
  pack_size_is s =
      packs (whole (packed_size c fraction s)) (sound_told s) 61 (lit≤ tt) (lit≤ tt) c (fraction % 2 ^ 61) (mod-lt fraction (pow_pos 61)) s (counts_told s)
      ∙ ap (λ (F : ℕ). packing c F s) (mul-one (fraction % 2 ^ 61))

-- For a caller: what counts a significand of n + 1 binary digits is rounded as `pack` rounds what it is handed, where s says whether it lies above.
stands_for : (x : Exact) → Sound x → (n : ℕ) → 28 ≤ n → n ≤ 61 → (c f : ℕ) → f < 2 ^ n → (s : Bool) → Counts x (2 ^ n + f) (2 ^ (c + 62 - n)) s
    → round 2 31 packed_unit x ≡ round 2 31 packed_unit (whole (packed_size c (f * 2 ^ (61 - n)) s))
stands_for x sound n hn hn' c f hf s counts =
    let small : f * 2 ^ (61 - n) < 2 ^ 61 = omega (arith, mul-lt-mul_of_pos_right hf (pow_pos (61 - n)), pow_sum n (61 - n) 61 (omega arith)) in
    packs x sound n hn hn' c f hf s counts
    ∙ ap (λ (F : ℕ). packing c F s) (sym (mod-eq_of_lt small))
    ∙ sym (pack_size_is c (f * 2 ^ (61 - n)) s)

leading_unread : (n f : ℕ) → n ≤ 61 → f * 2 ^ (61 - n) % 2 ^ 61 ≡ (2 ^ n + f) * 2 ^ (61 - n) % 2 ^ 61
leading_unread n f h = omega (arith, pow_sum n (61 - n) 61 (omega arith))

-- The same where the leading one stays: x counts G units of 2 ^ a, and the leading one of G, at bit n, is moved to bit 61.
pub significand_stands_for : (x : Exact) → Sound x → (n : ℕ) → 28 ≤ n → n ≤ 61 → (c G a : ℕ) → c + 62 - n ≡ a → 2 ^ n ≤ G → G < 2 ^ suc n → (s : Bool) → Counts x G (2 ^ a) s
    → round 2 31 packed_unit x ≡ round 2 31 packed_unit (whole (packed_size c (G * 2 ^ (61 - n)) s))
significand_stands_for x sound n hn hn' c G a place leading short s counts =
    let f = G - 2 ^ n in
    let same : 2 ^ n + f ≡ G = omega arith in
    stands_for x sound n hn hn' c f (omega (arith, pow-suc 2 n)) s (rw (same, place) counts)
    ∙ ap (λ (F : ℕ). round 2 31 packed_unit (whole ((2 * (2 ^ 61 + F) + bool_byte s) * 2 ^ c))) (leading_unread n f hn' ∙ ap (λ (g : ℕ). g * 2 ^ (61 - n) % 2 ^ 61) same)
