-- The first digits of a number X that is not 0. Of its first word h that is not 0 and the word y behind it, moved up by the z leading zeros of h, the upper word
-- is the digits; what is left of y, and what stands behind it, decides whether there is more (`two_word_digits`; `one_word_digits` where h is the last word).
use mathlib.Core.Path.{◌≡◌, refl, sym, ap, ap₂, ◌∙◌}
use mathlib.Core.Bool.{Bool, false, ◌||◌}
use mathlib.Core.List.{List}
use Prim.Native.Nat.{ℕ, suc, ◌+◌, ◌-◌, ◌*◌, ◌/◌, ◌%◌, ◌^◌, ◌≤◌, ◌<◌}
use native.Mathlib.Nat.{le_of_eq, add-zero, zero-mul, mul_comm, mul-pos, mod-lt, mod-eq_of_lt, zero-div, lt_of_mul-lt-mul_right, pow-succ' as pow-suc', div-add-mod', div-lt_iff_lt-mul, mul-le-mul_right, mul-lt-mul_of_pos_right}
use native.Mathlib.Decide.{dec_lt}
use native.Mathlib.Omega.{arith}
use borrow.Author.Tests.{lt-ltb, le-ltb}
use lib.Dec.{ltb, lit<, lit≤}
use lib.ListN.{length, get_or, drop, get_or-eq_default}
use lib.Pow.{pow_pos}
use Rattle.posit.specs.Digits.{InBase}
use Rattle.posit.proofs.Arith.{pow_sum, mul_mod_mul, pow_mul}
use Rattle.rounding.proofs.Terms.{finer_by}
use Rattle.quire_steps.proofs.Moved.{moved_down}
use Rattle.quire_words.proofs.Places.{number_none, number_drop, number_drop_lt, below_at}
use Rattle.quire_words.specs.Words.{wide}
use Rattle.exact_terms.proofs.Wide.{FirstDigits}

-- X moved up by z digits is d units of Q and something less than Q besides, and Q is n words
module _ (X z n d low : ℕ) (moved : X * 2 ^ z ≡ d * 2 ^ (64 * n) + low) (less : low < 2 ^ (64 * n)) (hz : z ≤ 63) (hn : n ≤ 7) where
  finer : X * 2 ^ finer_by ≡ (d * 2 ^ (64 * n) + low) * 2 ^ (finer_by - z)
  finer = rw (← pow_sum z (finer_by - z) finer_by (omega arith)) (omega (arith, ap (λ (t : ℕ). t * 2 ^ (finer_by - z)) moved))

  unit_is : 2 ^ (finer_by + 64 * n - z) ≡ 2 ^ (64 * n) * 2 ^ (finer_by - z)
  unit_is = sym (pow_sum (64 * n) (finer_by - z) (finer_by + 64 * n - z) (omega arith))

  more_seen : ltb 0 low ≡ ltb (d * 2 ^ (finer_by + 64 * n - z)) (X * 2 ^ finer_by)
  more_seen = rw (finer, unit_is) (go (dec_lt 0 low))
    where
      go : Dec (0 < low) → ltb 0 low ≡ ltb (d * (2 ^ (64 * n) * 2 ^ (finer_by - z))) ((d * 2 ^ (64 * n) + low) * 2 ^ (finer_by - z))
      go (yes h) =
          lt-ltb 0 low h
          ∙ sym (lt-ltb (d * (2 ^ (64 * n) * 2 ^ (finer_by - z))) ((d * 2 ^ (64 * n) + low) * 2 ^ (finer_by - z)) (omega (arith, mul-pos h (pow_pos (finer_by - z)))))
      go (no h) =
          let none : low ≡ 0 = omega arith in
          rw none (sym (le-ltb (d * (2 ^ (64 * n) * 2 ^ (finer_by - z))) ((d * 2 ^ (64 * n) + 0) * 2 ^ (finer_by - z)) (omega arith)))

  pub leads : 2 ^ 63 ≤ d → d < 2 ^ 64 → (more : Bool) → more ≡ ltb 0 low → FirstDigits X (finer_by + 64 * n - z) d more
  leads top word more e =
      record {
        top = top;
        word = word;
        counts =
            record {
              low = rw (finer, unit_is) (omega arith);
              high = rw (finer, unit_is) (omega (arith, mul-lt-mul_of_pos_right less (pow_pos (finer_by - z))));
              seen = sym (e ∙ more_seen);
            };
        above = omega arith;
        below = omega arith;
      }

-- two words h and y of K * Z, moved up by the factor Z, with rest behind them, which is less than P
module _ (K Z P h y rest : ℕ) (hh : h < K) (hy : y < K * Z) (hr : rest < P) (pz : 0 < Z) (pk : 0 < K) where
  split : ((h * (K * Z) + y) * P + rest) * Z ≡ (h * Z + y / K) * (K * Z * P) + (y % K * Z * P + rest * Z)
  split = omega (arith, ap (λ (t : ℕ). t * P * Z) (div-add-mod' y K))

  rest_below : y % K * Z * P + rest * Z < K * Z * P
  rest_below = omega (arith, mul-lt-mul_of_pos_right hr pz, mul-le-mul_right P (mul-le-mul_right Z (mod-lt y pk)))

  upper_part : y / K < Z
  upper_part = (div-lt_iff_lt-mul pk).1 (rw (mul_comm Z K) hy)

  upper_below : h * Z + y / K < K * Z
  upper_below = omega (arith, mul-le-mul_right Z hh, upper_part)

  pub anything : (ltb 0 (y % K * Z) || ltb 0 rest) ≡ ltb 0 (y % K * Z * P + rest * Z)
  anything = go (dec_lt 0 (y % K * Z)) (dec_lt 0 rest)
    where
      go : Dec (0 < y % K * Z) → Dec (0 < rest) → (ltb 0 (y % K * Z) || ltb 0 rest) ≡ ltb 0 (y % K * Z * P + rest * Z)
      go (yes a) b = rw (lt-ltb 0 (y % K * Z) a) (sym (lt-ltb 0 (y % K * Z * P + rest * Z) (omega (arith, mul-pos {m = y % K * Z} {n = P} a (omega arith)))))
      go (no a) (yes b) = rw (le-ltb 0 (y % K * Z) (omega arith), lt-ltb 0 rest b) (sym (lt-ltb 0 (y % K * Z * P + rest * Z) (omega (arith, mul-pos b pz))))
      go (no a) (no b) =
          let none : y % K * Z ≡ 0 = omega arith in
          let behind : rest ≡ 0 = omega arith in
          rw (none, behind, zero-mul P, zero-mul Z)

-- ---- words

module _ (h y z : ℕ) (hy : y < 2 ^ 64) (hz : z < 64) (top : 2 ^ 63 ≤ h * 2 ^ z) (word : h * 2 ^ z < 2 ^ 64) where
  factors : 2 ^ (64 - z) * 2 ^ z ≡ 2 ^ 64
  factors = pow_sum (64 - z) z 64 (omega arith)

  short : h < 2 ^ (64 - z)
  short = lt_of_mul-lt-mul_right (2 ^ z) (rw factors word)

  kept_of_next : y * 2 ^ z % 2 ^ 64 ≡ y % 2 ^ (64 - z) * 2 ^ z
  kept_of_next = ap (λ (n : ℕ). y * 2 ^ z % n) (sym factors) ∙ mul_mod_mul y (pow_pos (64 - z)) (pow_pos z)

  -- the digits as the code puts them together
  digits_are : h * 2 ^ z % 2 ^ 64 + y / 2 / 2 ^ (63 - z) ≡ h * 2 ^ z + y / 2 ^ (64 - z)
  digits_are = ap₂ ◌+◌ (mod-eq_of_lt word) (moved_down y z hz)

  pub digits_fit : h * 2 ^ z % 2 ^ 64 + y / 2 / 2 ^ (63 - z) < 2 ^ 64
  digits_fit = rw (digits_are, ← factors) (upper_below (2 ^ (64 - z)) (2 ^ z) 1 h y 0 short (rw factors hy) (lit< tt) (pow_pos z) (pow_pos (64 - z)))

  -- n words behind these two
  two_word_digits : (n rest : ℕ) → n ≤ 6 → rest < (2 ^ 64) ^ n
      → FirstDigits (h * (2 ^ 64) ^ suc n + (y * (2 ^ 64) ^ n + rest)) (finer_by + 64 * suc n - z) (h * 2 ^ z % 2 ^ 64 + y / 2 / 2 ^ (63 - z)) (ltb 0 (y * 2 ^ z % 2 ^ 64) || ltb 0 rest)
  two_word_digits n rest hn hr =
      let K = 2 ^ (64 - z) in
      let Z = 2 ^ z in
      let P = (2 ^ 64) ^ n in
      let hy' : y < K * Z = rw factors hy in
      let power : 2 ^ (64 * suc n) ≡ K * Z * P = pow_mul 64 (suc n) ∙ pow-suc' (2 ^ 64) n ∙ ap (λ (b : ℕ). b * P) (sym factors) in
      let whole : h * (2 ^ 64) ^ suc n + (y * P + rest) ≡ (h * (K * Z) + y) * P + rest = rw (pow-suc' (2 ^ 64) n, factors) (omega arith) in
      let pz : 0 < Z = pow_pos z in
      let pk : 0 < K = pow_pos (64 - z) in
      rw (digits_are, kept_of_next, whole)
      (leads ((h * (K * Z) + y) * P + rest) z (suc n) (h * Z + y / K) (y % K * Z * P + rest * Z)
      (rw power (split K Z P h y rest short hy' hr pz pk))
      (rw power (rest_below K Z P h y rest short hy' hr pz pk))
      (omega arith)
      (omega arith)
      (omega arith)
      (rw factors at (upper_below K Z P h y rest short hy' hr pz pk))
      (ltb 0 (y % K * Z) || ltb 0 rest)
      (anything K Z P h y rest short hy' hr pz pk))

-- the last word, with none behind it
one_word_digits : (h z : ℕ) → z < 64 → 2 ^ 63 ≤ h * 2 ^ z → h * 2 ^ z < 2 ^ 64 → FirstDigits h (finer_by - z) (h * 2 ^ z % 2 ^ 64 + 0 / 2 / 2 ^ (63 - z)) (ltb 0 (0 * 2 ^ z % 2 ^ 64) || ltb 0 0)
one_word_digits h z hz top word =
    rw (mod-eq_of_lt word, zero-div (2 ^ (63 - z)), zero-mul (2 ^ z), add-zero (h * 2 ^ z))
    (leads h z 0 (h * 2 ^ z) 0 (omega arith) (lit< tt) (omega arith) (lit≤ tt) top word false refl)

-- the words ws, of which the one at i is the first that is not 0
pub digits_of : (ws : List ℕ) → length ws ≡ 8 → InBase (2 ^ 64) ws → (i z : ℕ) → i < 8 → z < 64 → wide ws ≡ wide (drop i ws) → 2 ^ 63 ≤ get_or ws i 0 * 2 ^ z → get_or ws i 0 * 2 ^ z < 2 ^ 64
    → FirstDigits (wide ws) ((finer_by + 448) - 64 * i - z) (get_or ws i 0 * 2 ^ z % 2 ^ 64 + get_or ws (i + 1) 0 / 2 / 2 ^ (63 - z)) (ltb 0 (get_or ws (i + 1) 0 * 2 ^ z % 2 ^ 64) || ltb 0 (wide (drop (i + 2) ws)))
digits_of ws e b i z hi hz all top word = go (dec_lt i 7)
  where
    first : wide (drop i ws) ≡ get_or ws i 0 * (2 ^ 64) ^ (8 - suc i) + wide (drop (suc i) ws)
    first = rw e at (number_drop (2 ^ 64) ws i (omega arith))

    go : Dec (i < 7)
        → FirstDigits (wide ws) ((finer_by + 448) - 64 * i - z) (get_or ws i 0 * 2 ^ z % 2 ^ 64 + get_or ws (i + 1) 0 / 2 / 2 ^ (63 - z)) (ltb 0 (get_or ws (i + 1) 0 * 2 ^ z % 2 ^ 64) || ltb 0 (wide (drop (i + 2) ws)))
    go (yes l) =
        let second : wide (drop (suc i) ws) ≡ get_or ws (suc i) 0 * (2 ^ 64) ^ (8 - suc (suc i)) + wide (drop (suc (suc i)) ws) = rw e at (number_drop (2 ^ 64) ws (suc i) (omega arith)) in
        let n = 8 - suc (suc i) in
        let one : i + 1 ≡ suc i = omega arith in
        let two : i + 2 ≡ suc (suc i) = omega arith in
        let places : 8 - suc i ≡ suc n = omega arith in
        let unit : (finer_by + 448) - 64 * i - z ≡ finer_by + 64 * suc n - z = omega arith in
        rw (all, first, second, one, two, places, unit)
        (two_word_digits (get_or ws i 0) (get_or ws (suc i) 0) z (below_at (2 ^ 64) ws (suc i) b (omega arith)) hz top word n (wide (drop (suc (suc i)) ws)) (omega arith) (number_drop_lt (2 ^ 64) 8 (suc (suc i)) ws e b))
    go (no l) =
        let last : i ≡ 7 = omega arith in
        let alone : wide ws ≡ get_or ws 7 0 = (rw last at (all ∙ first)) ∙ omega (arith, number_none (2 ^ 64) 8 ws (le_of_eq e)) in
        let next : get_or ws 8 0 ≡ 0 = get_or-eq_default ws 0 (le_of_eq e) in
        let none : wide (drop 9 ws) ≡ 0 = number_none (2 ^ 64) 9 ws (omega arith) in
        rw (alone, last, next, none) (one_word_digits (get_or ws 7 0) z hz (rw last at top) (rw last at word))
