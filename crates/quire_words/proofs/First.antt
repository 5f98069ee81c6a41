-- A number by its first digit: which digit it is, and whether anything stands behind it, to any base. P is what the first digit counts.
use Rattle.std.proofs.Common.{◌≡◌, ℕ, suc, ◌+◌, ◌-◌, ◌*◌, ◌/◌, ◌%◌, ◌^◌, ◌<◌, false, not, eqb, ltb, leb, ◌≢◌, List, length, get_or, drop, sym, ap, ◌∙◌, add-zero, mul-le-mul_right, arith, le-ltb, lt-ltb, eq-eqb, ne_eqb, le-leb}
use native.Mathlib.Decide.{dec_lt}
use borrow.Author.Tests.{lt-leb}
use lib.Arith.{digits_lt, digits_div, digits_mod}
use Rattle.posit.specs.Digits.{number, InBase}
use Rattle.quire_words.specs.Words.{wide}
use Rattle.quire_words.proofs.Places.{number_drop, number_drop_lt}

pub first_digit : (B n : ℕ) (ws : List ℕ) → length ws ≡ suc n → InBase B ws → (number B ws ≡ get_or ws 0 0 * B ^ n + number B (drop 1 ws)) × (number B (drop 1 ws) < B ^ n)
first_digit B n ws e b =
    let one : suc n - 1 ≡ n = omega arith in
    (rw (e, one) at (number_drop B ws 0 (omega arith)), rw one at (number_drop_lt B (suc n) 1 ws e b))

module _ (P x v : ℕ) (low : v < P) where
  -- the digit and what stands behind it are the number's alone
  same_first : (y : ℕ) → x * P + v ≡ y * P + 0 → (x ≡ y) × (v ≡ 0)
  same_first y e = (
    sym (digits_div x low) ∙ ap (λ (n : ℕ). n / P) e ∙ digits_div y (omega arith),
    sym (digits_mod x low) ∙ ap (λ (n : ℕ). n % P) e ∙ digits_mod y (omega arith),
  )

  pub other_first : (y : ℕ) → x ≢ y → false ≡ eqb (x * P + v) (y * P)
  other_first y n = sym (ne_eqb (x * P + v) (y * P) (λ e. n (same_first y (e ∙ sym (add-zero (y * P)))).0))

  -- with that first digit, it is the digit alone where nothing stands behind it
  pub alone : (y : ℕ) → x ≡ y → not (ltb 0 v) ≡ eqb (x * P + v) (y * P)
  alone y e = go (dec_lt 0 v)
    where
      go : Dec (0 < v) → not (ltb 0 v) ≡ eqb (x * P + v) (y * P)
      go (yes l) = rw (lt-ltb 0 v l) (sym (ne_eqb (x * P + v) (y * P) (λ f. absurd (omega (arith, (same_first y (f ∙ sym (add-zero (y * P)))).1)))))
      go (no l) =
          let z : v ≡ 0 = omega arith in
          rw (le-ltb 0 v (omega arith), eq-eqb (x * P + v) (y * P) (rw (e, z, add-zero)))

  -- the number reaches h in its first digit exactly where that digit does
  reaches : (h : ℕ) → leb h x ≡ leb (h * P) (x * P + v)
  reaches h = go (dec_lt x h)
    where
      go : Dec (x < h) → leb h x ≡ leb (h * P) (x * P + v)
      go (yes l) = rw (lt-leb h x l, lt-leb (h * P) (x * P + v) (digits_lt l low))
      go (no l) = rw (le-leb h x (omega arith), le-leb (h * P) (x * P + v) (omega (arith, mul-le-mul_right {m = h} {n = x} P (omega arith))))

-- eight words are from 2 ^ 511 on exactly where the first is from 2 ^ 63 on
pub sign_seen : (ws : List ℕ) → length ws ≡ 8 → InBase (2 ^ 64) ws → leb (2 ^ 63) (get_or ws 0 0) ≡ leb (2 ^ 511) (wide ws)
sign_seen ws e b =
    let f = first_digit (2 ^ 64) 7 ws e b in
    reaches ((2 ^ 64) ^ 7) (get_or ws 0 0) (wide (drop 1 ws)) f.1 (2 ^ 63) ∙ ap (leb (2 ^ 511)) (sym f.0)
