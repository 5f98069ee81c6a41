-- A size told as a significand and a scale, and the pattern it is rounded to: the run that the scale gives, the exponent's digits and the fraction's make up a
-- long pattern, to which the long_pattern law applies. The significand may stop short of x, if x lies below the next one: what is left goes into the sticky bit.
use mathlib.Core.Path.{◌≡◌, sym, ap, ◌∙◌}
use mathlib.Core.Bool.{Bool, ◌||◌}
use Prim.Native.Nat.{ℕ, zero, suc, ◌+◌, ◌-◌, ◌*◌, ◌/◌, ◌%◌, ◌^◌, ◌≤◌, ◌<◌}
use native.Mathlib.Nat.{mul_comm, pow-suc, mul-lt-mul_of_pos_right, mul-add-div_right, mul-add-mod_self_right, mul-div-mul_right, mul-pos, zero-mul}
use native.Mathlib.Decide.{dec_lt}
use native.Mathlib.Omega.{arith}
use borrow.Author.Tests.{lt-ltb}
use lib.Dec.{ltb}
use lib.Arith.{digits_lt, digits_div, digits_mod}
use mir.Val.{bool_byte}
use lib.Pow.{pow_pos, pow-add}
use Rattle.posit.specs.Pattern.{size, least}
use Rattle.posit.specs.Exact.{Exact, Sound}
use Rattle.posit.proofs.Compare.{Counts}
use Rattle.posit.specs.Rounding.{round}
use Rattle.posit.proofs.Arith.{mul_mod_mul, pow_sum}
use Rattle.posit.proofs.Tail.{tail}
use Rattle.posit.proofs.Built.{built, built_lt, size_built}
use Rattle.posit.proofs.Size.{scale, digits_fit, next_built}
use Rattle.posit.proofs.Below.{Brackets}
use Rattle.posit.proofs.LongPattern.{half_even, clamped, near, long_pattern}

-- es digits e and n digits f behind the run
parts_below : (es n e f : ℕ) → e < 2 ^ es → f < 2 ^ n → e * 2 ^ n + f < 2 ^ (es + n)
parts_below es n e f h k = rw pow-add (digits_lt h k)

tail_parts : (es s n e f : ℕ) → es + n ≤ s → f < 2 ^ n → tail es s (es + n) (e * 2 ^ n + f) ≡ (2 ^ n + f) * 2 ^ (s + e - n)
tail_parts es s n e f h k =
    let shifted : (e * 2 ^ n + f) * 2 ^ es ≡ e * 2 ^ (es + n) + f * 2 ^ es = rw (pow-add 2 es n) (omega arith) in
    let small : f * 2 ^ es < 2 ^ (es + n) = rw (pow-add 2 es n, mul_comm (2 ^ es) (2 ^ n)) (mul-lt-mul_of_pos_right k (pow_pos es)) in
    let power : s + e - n ≡ es + (s + e - (es + n)) = omega arith in
    rw (shifted, digits_div e small, digits_mod e small, power, pow-add 2 es (s + e - (es + n)), pow-add 2 es n) (omega arith)

tail_parts_next : (es s n e f : ℕ) → es + n ≤ s → f < 2 ^ n → tail es s (es + n) (suc (e * 2 ^ n + f)) ≡ (2 ^ n + suc f) * 2 ^ (s + e - n)
tail_parts_next es s n e f h k = go (dec_lt (suc f) (2 ^ n))
  where
    go : Dec (suc f < 2 ^ n) → tail es s (es + n) (suc (e * 2 ^ n + f)) ≡ (2 ^ n + suc f) * 2 ^ (s + e - n)
    go (yes l) = ap (tail es s (es + n)) (omega arith) ∙ tail_parts es s n e (suc f) h l
    go (no l) =
        let last : suc f ≡ 2 ^ n = omega arith in
        let carried : suc (e * 2 ^ n + f) ≡ suc e * 2 ^ n + 0 = omega arith in
        let power : s + suc e - n ≡ suc (s + e - n) = omega arith in
        ap (tail es s (es + n)) carried ∙ tail_parts es s n (suc e) 0 h (pow_pos n) ∙ (rw (power, pow-suc, last) (omega arith))

-- ---- the digits that stay

-- the run and its end stand, as a number, above the digits behind them
built_prefix : (o : Bool) (m l t : ℕ) → built o m l t ≡ built o m 0 0 * 2 ^ l + t
unfolding built
built_prefix o zero l t = omega arith
built_prefix o (suc m) l t =
    let e : 2 ^ (m + suc l) ≡ 2 ^ (m + 1) * 2 ^ l = sym (pow_sum (m + 1) l (m + suc l) (omega arith)) in
    rw (e, built_prefix o m l t) (omega arith)

module _ (o : Bool) (m l j t : ℕ) (h : j ≤ l) where
  prefixed : built o m l t ≡ built o m 0 0 * 2 ^ (l - j) * 2 ^ j + t
  prefixed =
      let e : 2 ^ l ≡ 2 ^ (l - j) * 2 ^ j = sym (pow_sum (l - j) j l (omega arith)) in
      rw (built_prefix o m l t, e) (omega arith)

  pub built_kept : built o m l t / 2 ^ j ≡ built o m 0 0 * 2 ^ (l - j) + t / 2 ^ j
  built_kept = rw prefixed (mul-add-div_right {m = 2 ^ j} (pow_pos j) (built o m 0 0 * 2 ^ (l - j)) t)

  pub built_rest : built o m l t % 2 ^ j ≡ t % 2 ^ j
  built_rest = rw prefixed (mul-add-mod_self_right (built o m 0 0 * 2 ^ (l - j)) (2 ^ j) t)

module _ (es w j u : ℕ) (o : Bool) (m n e f : ℕ) (width : suc m + suc (es + n) ≡ suc w + j) (fine : least es (suc m + suc (es + n)) ≤ u)
    (he : e < 2 ^ es) (hf : f < 2 ^ n) (x : Exact) (more : Bool) (counts : Counts x (2 ^ n + f) (2 ^ (scale es u o m + e - n)) more) where
  room : es + n ≤ scale es u o m
  room = digits_fit es u o m (es + n) fine

  long_size : size es (suc m + suc (es + n)) u (built o (suc m) (es + n) (e * 2 ^ n + f)) ≡ (2 ^ n + f) * 2 ^ (scale es u o m + e - n)
  unfolding scale
  long_size = size_built o (es + n) (e * 2 ^ n + f) (parts_below es n e f he hf) m es u ∙ tail_parts es (scale es u o m) n e f room hf

  next_significand : 2 ^ n + suc f ≡ suc (2 ^ n + f)
  next_significand = omega arith

  counts_brackets : Brackets es (suc m + suc (es + n)) u x (built o (suc m) (es + n) (e * 2 ^ n + f))
  counts_brackets =
      record {
        short = built_lt o (es + n) (e * 2 ^ n + f) (parts_below es n e f he hf) (suc m);
        low = λ _. rw long_size counts.low;
        high = λ _.
            rw (next_built es u o m (es + n) (e * 2 ^ n + f) (parts_below es n e f he hf) fine ∙ tail_parts_next es (scale es u o m) n e f room hf, next_significand)
            counts.high;
      }

  pub packed : Sound x → 0 < w
      → round es w u x
      ≡ clamped w
      (half_even (built o (suc m) (es + n) (e * 2 ^ n + f) / 2 ^ j)
      (more || ltb 0 (built o (suc m) (es + n) (e * 2 ^ n + f) % 2 ^ j)))
  packed sound v =
      rw (← counts.seen, ← long_size, width)
      (long_pattern es w j u (rw width at fine) v x sound (built o (suc m) (es + n) (e * 2 ^ n + f)) (rw width at counts_brackets))

-- ---- digits 0 behind the last one that is known

module _ (t j c : ℕ) where
  pub spare_kept : t * 2 ^ c / 2 ^ (j + c) ≡ t / 2 ^ j
  spare_kept = rw (pow-add 2 j c) (mul-div-mul_right t (2 ^ j) (pow_pos c))

  spare_mod : t * 2 ^ c % 2 ^ (j + c) ≡ t % 2 ^ j * 2 ^ c
  spare_mod = rw (pow-add 2 j c) (mul_mod_mul t (pow_pos j) (pow_pos c))

  pub spare_rest : ltb 0 (t * 2 ^ c % 2 ^ (j + c)) ≡ ltb 0 (t % 2 ^ j)
  spare_rest = rw spare_mod (go (dec_lt 0 (t % 2 ^ j)))
    where
      go : Dec (0 < t % 2 ^ j) → ltb 0 (t % 2 ^ j * 2 ^ c) ≡ ltb 0 (t % 2 ^ j)
      go (yes h) = rw (lt-ltb 0 (t % 2 ^ j * 2 ^ c) (mul-pos h (pow_pos c)), lt-ltb 0 (t % 2 ^ j) h)
      go (no h) =
          let none : t % 2 ^ j ≡ 0 = omega arith in
          rw (none, zero-mul)

-- between the smallest and the largest pattern nothing is clamped
pub inside : (w h : ℕ) (more : Bool) → 2 ≤ h → h < 2 ^ suc w - 2 → clamped w (half_even h more) ≡ half_even h more
inside w h more l k = omega (arith, (near h more).0, (near h more).1, pow-suc 2 w)

-- the pattern of P32E2 that digits stand for: a run of m + 1 digits o with its end, and 63 digits T behind it, of which those that fit stay
unfoldable pub from_digits : Bool → ℕ → ℕ → Bool → ℕ
from_digits o m T s = half_even (built o (suc m) 0 0 * 2 ^ (30 - m) + T / 2 ^ (33 + m)) (ltb 0 (T % 2 ^ (33 + m) + bool_byte s))
