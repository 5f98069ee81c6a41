-- The laws of a pattern's size: it grows strictly with the pattern; one digit 0 more at the end leaves it as it is; the unit is free; the
-- smallest and the largest. Each is shown of the pattern of ones and of the patterns that are built, over the digit of the run (`by_shape`).
use mathlib.Core.Path.{◌≡◌, refl, sym, ap, ◌∙◌}
use mathlib.Core.Bool.{Bool, true, false}
use Prim.Native.Nat.{ℕ, zero, suc, ◌+◌, ◌-◌, ◌*◌, ◌^◌, ◌≤◌, ◌<◌}
use native.Mathlib.Nat.{add-zero, zero-add, add-suc, suc-add, mul-add, pow-suc, pow-succ' as pow-suc', mul-le-mul_right, mul-pos, lt_trans, le_of_lt, le_refl}
use native.Mathlib.Numerals.{add-one}
use native.Mathlib.Decide.{dec_lt}
use native.Mathlib.Omega.{arith}
use lib.Pow.{pow_pos, pow-add}
use mir.Val.{bool_byte}
use Rattle.posit.specs.Pattern.{regime_of, raised, size, least}
use Rattle.posit.proofs.Tail.{tail, tail_mono, tail_none, tail_all, tail_unit, tail_double}
use Rattle.posit.proofs.Built.{built, by_shape, size_built, size_ones}

-- ---- patterns one after the other

built_suc : (o : Bool) (m l t : ℕ) → suc (built o m l t) ≡ built o m l (suc t)
unfolding built
built_suc o zero l t = omega arith
built_suc o (suc m) l t = omega (arith, built_suc o m l t)

-- a run of ones with ones alone behind it: the next pattern has a run longer by one
longer_run : (m l : ℕ) → built true m (suc l) (2 ^ suc l) ≡ built true (suc m) l 0
unfolding built
longer_run zero l = rw zero-add (omega arith)
longer_run (suc m) l = rw (longer_run m l, add-suc m (suc l), suc-add m (suc l))

-- a run of zeros with ones alone behind it: the next pattern has a run shorter by one
shorter_run : (m l : ℕ) → built false (suc m) l (2 ^ l) ≡ built false m (suc l) 0
unfolding built
shorter_run zero l = omega (arith, pow-suc 2 l)
shorter_run (suc m) l = omega (arith, shorter_run m l)

-- from the last run of zeros to the first of ones
zeros_to_ones : (l : ℕ) → built false 1 l (2 ^ l) ≡ built true 1 l 0
unfolding built
zeros_to_ones l = rw zero-add (omega (arith, pow-suc 2 l))

only_ones : (m : ℕ) → built true m 0 1 ≡ 2 ^ suc m - 1
unfolding built
only_ones zero = refl
only_ones (suc m) = rw (only_ones m, add-one m) (omega (arith, pow-suc 2 (suc m), pow_pos (suc m)))

-- ---- the exponent that a run gives

power : {a b : ℕ} → a ≡ b → 2 ^ a ≡ 2 ^ b
power e = ap (λ (x : ℕ). 2 ^ x) e

-- with the digit o, of which there are m + 1
unfoldable pub scale : ℕ → ℕ → Bool → ℕ → ℕ
scale es u o m = raised es u (regime_of (bool_byte o) (suc m))

module _ (es u : ℕ) where
  pub scale_ones : (m : ℕ) → scale es u true m ≡ u + 2 ^ es * m
  unfolding scale
  scale_ones m = ap (λ (k : ℕ). u + 2 ^ es * k) (omega arith)

  pub scale_zeros : (m : ℕ) → scale es u false m ≡ u - 2 ^ es * suc m
  unfolding scale
  scale_zeros m = refl

  -- a unit that is fine enough leaves room for the digits behind the run
  room : (m l : ℕ) → least es (suc m + suc l) ≤ u → 2 ^ es * suc m + 2 ^ es * l ≤ u
  room m l h =
      let e : suc m + suc l - 1 ≡ suc m + l = omega arith in
      rw (← mul-add) (rw e at h)

  pub digits_fit : (o : Bool) (m l : ℕ) → least es (suc m + suc l) ≤ u → l ≤ scale es u o m
  digits_fit true m l h = rw scale_ones (omega (arith, room m l h, mul-le-mul_right l (pow_pos es)))
  digits_fit false m l h = rw scale_zeros (omega (arith, room m l h, mul-le-mul_right l (pow_pos es)))

  -- no digit but 0 behind the run
  bare : (o : Bool) (m l : ℕ) → least es (suc m + suc l) ≤ u → size es (suc m + suc l) u (built o (suc m) l 0) ≡ 2 ^ scale es u o m
  unfolding scale
  bare o m l h = size_built o l 0 (pow_pos l) m es u ∙ tail_none es (scale es u o m) l (digits_fit o m l h)

  -- the pattern after the last of a run
  rolled : (o : Bool) (m l : ℕ) → least es (suc m + suc l) ≤ u → size es (suc m + suc l) u (built o (suc m) l (2 ^ l)) ≡ 2 ^ (scale es u o m + 2 ^ es)
  rolled true m zero h = rw (only_ones (suc m), add-suc, add-zero) (size_ones es (suc m) u ∙ power (omega (arith, scale_ones m)))
  rolled true m (suc l) h =
      let width : suc m + suc (suc l) ≡ suc (suc m) + suc l = omega arith in
      rw (longer_run (suc m) l, width) (bare true (suc m) l (rw width at h) ∙ power (omega (arith, scale_ones (suc m), scale_ones m)))
  rolled false zero l h = rw (zeros_to_ones l) (bare true 0 l h ∙ power (omega (arith, scale_ones 0, scale_zeros 0, room 0 l h)))
  rolled false (suc m) l h =
      let width : suc (suc m) + suc l ≡ suc m + suc (suc l) = omega arith in
      rw (shorter_run (suc m) l, width) (bare false m (suc l) (rw width at h) ∙ power (omega (arith, scale_zeros m, scale_zeros (suc m), room (suc m) l h)))

  -- the next pattern's size is what the next number in the place of t would give
  pub next_built : (o : Bool) (m l t : ℕ) → t < 2 ^ l → least es (suc m + suc l) ≤ u
      → size es (suc m + suc l) u (suc (built o (suc m) l t)) ≡ tail es (scale es u o m) l (suc t)
  unfolding scale
  next_built o m l t k h = go (dec_lt (suc t) (2 ^ l))
    where
      go : Dec (suc t < 2 ^ l) → size es (suc m + suc l) u (suc (built o (suc m) l t)) ≡ tail es (scale es u o m) l (suc t)
      go (yes q) = rw built_suc (size_built o l (suc t) q m es u)
      go (no q) =
          let last : suc t ≡ 2 ^ l = omega arith in
          rw (built_suc, last) (rolled o m l h ∙ sym (tail_all es (scale es u o m) l (digits_fit o m l h)))

  -- ---- the laws

  size_step : (w b : ℕ) → 0 < b → b < 2 ^ w → least es w ≤ u → suc b < 2 ^ w → size es w u b < size es w u (suc b)
  unfolding scale
  size_step =
      by_shape (λ w b. least es w ≤ u → suc b < 2 ^ w → size es w u b < size es w u (suc b))
      (λ w h k. absurd (omega (arith, pow_pos (suc w))))
      (λ o m l t k h _. rw (next_built o m l t k h, size_built o l t k m es u) (tail_mono es (scale es u o m) l (digits_fit o m l h) (le_refl (suc t))))

  -- the size grows strictly with the pattern
  pub size_lt : (w : ℕ) → least es w ≤ u → (b c : ℕ) → 0 < b → b < c → c < 2 ^ w → size es w u b < size es w u c
  size_lt w h b zero z k l = absurd (omega arith)
  size_lt w h b (suc c) z k l = go (size_lt w h b c z) (dec_lt b c)
    where
      step : (a : ℕ) → 0 < a → suc a < 2 ^ w → size es w u a < size es w u (suc a)
      step a y m = size_step w a y (omega arith) h m

      go : (b < c → c < 2 ^ w → size es w u b < size es w u c) → Dec (b < c) → size es w u b < size es w u (suc c)
      go ih (yes q) = lt_trans (ih q (omega arith)) (step c (omega arith) l)
      go ih (no q) =
          let e : b ≡ c = omega arith in
          rw e (step c (omega arith) l)

  pub size_le : (w : ℕ) → least es w ≤ u → (b c : ℕ) → 0 < b → b ≤ c → c < 2 ^ w → size es w u b ≤ size es w u c
  size_le w h b c z k l = go (dec_lt b c)
    where
      go : Dec (b < c) → size es w u b ≤ size es w u c
      go (yes q) = le_of_lt (size_lt w h b c z q l)
      go (no q) =
          let e : b ≡ c = omega arith in
          rw e (le_refl (size es w u c))

  -- and so the pattern grows with the size
  pub size_lt_back : (w : ℕ) → least es w ≤ u → (b c : ℕ) → 0 < c → b < 2 ^ w → size es w u b < size es w u c → b < c
  size_lt_back w h b c z k l = go (dec_lt b c)
    where
      go : Dec (b < c) → b < c
      go (yes q) = q
      go (no q) = absurd (omega (arith, size_le w h c b z (omega arith) k))

-- ---- one digit 0 more at the end

built_double : (o : Bool) (m l t : ℕ) → built o m (suc l) (2 * t) ≡ 2 * built o m l t
unfolding built
built_double o zero l t = rw (pow-suc' 2 l) (omega arith)
built_double o (suc m) l t = rw (built_double o m l t, add-suc m (suc l), pow-suc') (omega arith)

pub ones_double : (m : ℕ) → built true m 0 0 ≡ 2 * (2 ^ m - 1)
ones_double m = omega (arith, built_suc true m 0 0, only_ones m, pow-suc 2 m, pow_pos m)

pub one_built : (m : ℕ) → built false m 0 0 ≡ 1
unfolding built
one_built zero = refl
one_built (suc m) = omega (arith, one_built m)

module _ (es u : ℕ) where
  pub size_double : (w b : ℕ) → 0 < b → b < 2 ^ w → least es (suc w) ≤ u → size es (suc w) u (2 * b) ≡ size es w u b
  unfolding scale
  size_double =
      by_shape (λ w b. least es (suc w) ≤ u → size es (suc w) u (2 * b) ≡ size es w u b)
      (λ w h.
      let width : suc (suc w) ≡ suc w + 1 = omega arith in
      rw (← ones_double (suc w), width) (bare es u true w 0 (rw width at h) ∙ power (scale_ones es u w) ∙ sym (size_ones es w u)))
      (λ o m l t k h.
      let width : suc (suc m + suc l) ≡ suc m + suc (suc l) = omega arith in
      let k' : 2 * t < 2 ^ suc l = omega (arith, pow-suc 2 l) in
      rw (← built_double o (suc m) l t, width, size_built o (suc l) (2 * t) k' m es u, size_built o l t k m es u)
      (tail_double es (scale es u o m) l (digits_fit es u o m (suc l) (rw width at h)) t))

  -- the unit is free: i binary digits more
  scale_unit : (i : ℕ) (o : Bool) (m l : ℕ) → least es (suc m + suc l) ≤ u → scale es (u + i) o m ≡ scale es u o m + i
  scale_unit i true m l h = omega (arith, scale_ones es u m, scale_ones es (u + i) m)
  scale_unit i false m l h = omega (arith, scale_zeros es u m, scale_zeros es (u + i) m, room es u m l h)

  pub size_unit : (i w b : ℕ) → 0 < b → b < 2 ^ w → least es w ≤ u → size es w (u + i) b ≡ size es w u b * 2 ^ i
  unfolding scale
  size_unit i =
      by_shape (λ w b. least es w ≤ u → size es w (u + i) b ≡ size es w u b * 2 ^ i)
      (λ w h. rw (size_ones es w (u + i), size_ones es w u, ← pow-add) (power (omega arith)))
      (λ o m l t k h.
      rw (size_built o l t k m es (u + i), size_built o l t k m es u, scale_unit i o m l h)
      (tail_unit es (scale es u o m) l (digits_fit es u o m l h) i t))

  -- the smallest and the largest
  pub smallest_size : (w : ℕ) → 0 < w → least es w ≤ u → size es w u 1 ≡ 2 ^ (u - least es w)
  smallest_size zero z h = absurd (omega arith)
  smallest_size (suc zero) z h = size_ones es 0 u ∙ power (omega arith)
  smallest_size (suc (suc w)) z h =
      let width : suc (suc w) ≡ suc w + 1 = omega arith in
      let e : suc w + 1 - 1 ≡ suc w = omega arith in
      rw (width, e) (ap (size es (suc w + 1) u) (sym (one_built (suc w))) ∙ bare es u false w 0 (rw width at h) ∙ power (scale_zeros es u w))

  pub largest_size : (w : ℕ) → 0 < w → size es w u (2 ^ w - 1) ≡ 2 ^ (u + least es w)
  largest_size zero z = absurd (omega arith)
  largest_size (suc w) z = size_ones es w u ∙ power (ap (λ (k : ℕ). u + 2 ^ es * k) (omega arith))

  pub size_positive : (w b : ℕ) → 0 < b → b < 2 ^ w → least es w ≤ u → 0 < size es w u b
  size_positive =
      by_shape (λ w b. least es w ≤ u → 0 < size es w u b)
      (λ w h. rw (size_ones es w u) (pow_pos (u + 2 ^ es * w)))
      (λ o m l t k h. rw (size_built o l t k m es u) (mul-pos (omega (arith, pow_pos l)) (pow_pos _)))

has_digits : (w b : ℕ) → 0 < b → b < 2 ^ w → 0 < w
has_digits zero b z k = omega arith
has_digits (suc w) b z k = omega arith

-- a size by the same in units of the smallest one
pub size_by_least : (es u w b : ℕ) → 0 < b → b < 2 ^ w → least es w ≤ u → size es w u b ≡ size es w (least es w) b * 2 ^ (u - least es w)
size_by_least es u w b z k h =
    let e : least es w + (u - least es w) ≡ u = omega arith in
    rw e at (size_unit es (least es w) (u - least es w) w b z k (le_refl (least es w)))

-- every size is a whole number of the smallest one
pub size_whole : (es u w b : ℕ) → 0 < b → b < 2 ^ w → least es w ≤ u → size es w u b ≡ size es w (least es w) b * size es w u 1
size_whole es u w b z k h = rw (smallest_size es u w (has_digits w b z k) h) (size_by_least es u w b z k h)
