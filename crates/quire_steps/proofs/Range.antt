-- A step on the number of a state, at any half H: n is the state's number in two's complement, the operand is m with the sign s, and r the wrapped sum. Where
-- the three signs show that the exact total has left the range, the new number is H, that of NaR; else it is r.
use mathlib.Core.Path.{◌≡◌, refl, sym, ◌∙◌}
use mathlib.Core.Logic.{◌≢◌}
use mathlib.Core.Bool.{Bool, true, false, cond}
use Prim.Native.Nat.{ℕ, zero, suc, ◌+◌, ◌-◌, ◌*◌, ◌%◌, ◌≤◌, ◌<◌}
use native.Mathlib.Nat.{sub-zero, mod_self, mod-eq_of_lt, mod-eq-sub-mod}
use native.Mathlib.Decide.{dec_lt}
use native.Mathlib.Omega.{arith}
use borrow.Author.Tests.{lt-ltb, le-ltb, le-leb, lt-leb}
use lib.Dec.{ltb, leb}
use lib.IntN.{ℤ, nat_abs, neg_ℤ, ◌+ℤ◌, +ℤ_comm}
use Rattle.posit.specs.Digits.{reading, complement}
use Rattle.posit.proofs.Complement.{reading_low, reading_high}
use Rattle.posit.proofs.Signs.{with_sign, negated_sign, sum_same, sum_unlike}
use Rattle.quire_words.proofs.Operand.{escaped}

-- what a number is in two's complement, less than the double of H being what it is counted in
abbrev pub wrap : ℕ → Bool → ℕ → ℕ
wrap H true m = 2 * H - m
wrap H false m = m

-- the number of a total that is kept where it is within the range, and is H outside
abbrev pub kept_as : ℕ → ℤ → ℕ
kept_as H t = cond (ltb (nat_abs t) H) (complement H t) H

mod_high : (x M : ℕ) → M ≤ x → x < M + M → x % M ≡ x - M
mod_high x M h l = mod-eq-sub-mod h ∙ mod-eq_of_lt (omega arith)

pub size_of : (s : Bool) (k : ℕ) → nat_abs (with_sign s k) ≡ k
size_of true zero = refl
size_of true (suc k) = refl
size_of false k = refl

module _ (H : ℕ) where
  -- a total by its sign and size
  kept_outside : (s : Bool) (k : ℕ) → H ≤ k → kept_as H (with_sign s k) ≡ H
  kept_outside s k h = rw (size_of s k, le-ltb k H h)

  kept_positive : (k : ℕ) → k < H → kept_as H (with_sign false k) ≡ k
  unfolding complement
  kept_positive k h = rw (lt-ltb k H h)

  complement_negative : (k : ℕ) → k < H → complement H (with_sign true k) ≡ (2 * H - k) % (2 * H)
  unfolding complement
  complement_negative zero h = rw (sub-zero, mod_self)
  complement_negative (suc k) h = sym (mod-eq_of_lt {n = 2 * H - suc k} {m = 2 * H} (omega arith))

  kept_negative : (k : ℕ) → k < H → kept_as H (with_sign true k) ≡ (2 * H - k) % (2 * H)
  kept_negative k h = rw (size_of true k, lt-ltb k H h) (complement_negative k h)

  -- a number from H on, by its sign and size
  reading_negative : (n : ℕ) → H ≤ n → n < 2 * H → reading H n ≡ with_sign true (2 * H - n)
  reading_negative n h l =
      let e : 2 * H - n ≡ suc (2 * H - suc n) = omega arith in
      reading_high H n h ∙ (rw e)

  -- a number without its sign
  pub size_low : (n : ℕ) → n < H → nat_abs (reading H n) ≡ n
  size_low n h = rw (reading_low H n h)

  pub size_high : (n : ℕ) → 0 < H → H ≤ n → n < 2 * H → nat_abs (reading H n) ≡ (2 * H - n) % (2 * H)
  size_high n z h l = rw (reading_negative n h l, size_of true (2 * H - n)) (sym (mod-eq_of_lt (omega arith)))

  pub size_positive : (n : ℕ) → 0 < n → n < 2 * H → 0 < nat_abs (reading H n)
  size_positive n z l = go (dec_lt n H)
    where
      go : Dec (n < H) → 0 < nat_abs (reading H n)
      go (yes h) = rw (size_low n h) z
      go (no h) = rw (reading_negative n (omega arith) l, size_of true (2 * H - n)) (omega arith)

  pub sign_and_size : (n : ℕ) → n < 2 * H → with_sign (leb H n) (nat_abs (reading H n)) ≡ reading H n
  sign_and_size n l = go (dec_lt n H)
    where
      go : Dec (n < H) → with_sign (leb H n) (nat_abs (reading H n)) ≡ reading H n
      go (yes h) = rw (reading_low H n h, lt-leb H n h)
      go (no h) = rw (reading_negative n (omega arith) l, le-leb H n (omega arith), size_of true (2 * H - n))

  -- the negative of a number, wrapped
  pub negated_as : (n : ℕ) → n ≢ H → n < 2 * H → complement H (neg_ℤ (reading H n)) ≡ (2 * H - n) % (2 * H)
  unfolding complement
  negated_as n ne l = go (dec_lt n H)
    where
      go : Dec (n < H) → complement H (neg_ℤ (reading H n)) ≡ (2 * H - n) % (2 * H)
      go (yes h) = rw (reading_low H n h) (complement_negative n h)
      go (no h) = rw (reading_negative n (omega arith) l, negated_sign true (2 * H - n)) (sym (mod-eq_of_lt (omega arith)))

  module _ (n m : ℕ) (ne : n ≢ H) (ln : n < 2 * H) (lm : m < H) where
    abbrev Steps : Bool → Type 0
    Steps s =
        kept_as H (reading H n +ℤ with_sign s m)
        ≡ cond (escaped (leb H n) s (leb H ((n + wrap H s m) % (2 * H)))) H ((n + wrap H s m) % (2 * H))

    up_low : n < H → Steps false
    up_low h = rw (reading_low H n h, sum_same false n m, lt-leb H n h, mod-eq_of_lt {n = n + m} {m = 2 * H} (omega arith)) (go (dec_lt (n + m) H))
      where
        go : Dec (n + m < H) → kept_as H (with_sign false (n + m)) ≡ cond (escaped false false (leb H (n + m))) H (n + m)
        go (yes l) = rw (lt-leb H (n + m) l) (kept_positive (n + m) l)
        go (no l) = rw (le-leb H (n + m) (omega arith)) (kept_outside false (n + m) (omega arith))

    up_high : H ≤ n → Steps false
    up_high h = rw (reading_negative n h ln, le-leb H n h) (go (dec_lt (n + m) (2 * H)))
      where
        go : Dec (n + m < 2 * H) → kept_as H (with_sign true (2 * H - n) +ℤ with_sign false m) ≡ (n + m) % (2 * H)
        go (yes l) =
            let e : 2 * H - (2 * H - n - m) ≡ n + m = omega arith in
            rw (sum_unlike true (2 * H - n) m (omega arith), kept_negative (2 * H - n - m) (omega arith), e)
        go (no l) =
            let e : m - (2 * H - n) ≡ n + m - 2 * H = omega arith in
            rw (+ℤ_comm (with_sign true (2 * H - n)) (with_sign false m), sum_unlike false m (2 * H - n) (omega arith), kept_positive (m - (2 * H - n)) (omega arith), mod_high (n + m) (2 * H) (omega arith) (omega arith))
            e

    down_low : n < H → Steps true
    down_low h = rw (reading_low H n h, lt-leb H n h) (go (dec_lt n m))
      where
        go : Dec (n < m) → kept_as H (with_sign false n +ℤ with_sign true m) ≡ (n + (2 * H - m)) % (2 * H)
        go (yes l) =
            let e : 2 * H - (m - n) ≡ n + (2 * H - m) = omega arith in
            rw (+ℤ_comm (with_sign false n) (with_sign true m), sum_unlike true m n (omega arith), kept_negative (m - n) (omega arith), e)
        go (no l) =
            let e : n - m ≡ n + (2 * H - m) - 2 * H = omega arith in
            rw (sum_unlike false n m (omega arith), kept_positive (n - m) (omega arith), mod_high (n + (2 * H - m)) (2 * H) (omega arith) (omega arith)) e

    down_high : H ≤ n → Steps true
    down_high h =
        let e : n + (2 * H - m) - 2 * H ≡ n - m = omega arith in
        rw (reading_negative n h ln, le-leb H n h, sum_same true (2 * H - n) m, mod_high (n + (2 * H - m)) (2 * H) (omega arith) (omega arith), e) (go (dec_lt (n - m) H) (dec_lt H (n - m)))
      where
        go : Dec (n - m < H) → Dec (H < n - m) → kept_as H (with_sign true (2 * H - n + m)) ≡ cond (escaped true true (leb H (n - m))) H (n - m)
        go (yes l) k = rw (lt-leb H (n - m) l) (kept_outside true (2 * H - n + m) (omega arith))
        go (no l) (yes k) =
            let e : 2 * H - (2 * H - n + m) ≡ n - m = omega arith in
            rw (le-leb H (n - m) (omega arith), kept_negative (2 * H - n + m) (omega arith), e) (mod-eq_of_lt (omega arith))
        go (no l) (no k) =
            let at : n - m ≡ H = omega arith in
            rw (le-leb H (n - m) (omega arith)) (kept_outside true (2 * H - n + m) (omega arith) ∙ sym at)

    pub steps : (s : Bool) → Steps s
    steps s = go s (dec_lt n H)
      where
        go : (s : Bool) → Dec (n < H) → Steps s
        go false (yes h) = up_low h
        go false (no h) = up_high (omega arith)
        go true (yes h) = down_low h
        go true (no h) = down_high (omega arith)
