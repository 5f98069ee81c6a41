-- A state and its number of `bits` binary digits undo each other, and so do a state and its digits to any base whose power is 2 ^ bits: words, and the image. What a
-- state must be for that is `Held`: NaR, or a total within the range.
use mathlib.Core.Path.{◌≡◌, refl, sym, ap, ◌∙◌}
use mathlib.Core.List.{List}
use Prim.Native.Nat.{ℕ, suc, ◌-◌, ◌*◌, ◌/◌, ◌^◌, ◌<◌}
use native.Mathlib.Nat.{pow-suc, mod-eq_of_lt}
use native.Mathlib.Decide.{dec_lt, ℕ_discrete}
use native.Mathlib.Omega.{arith}
use borrow.Author.Tests.{eq-eqb, ne_eqb}
use lib.IntN.{ℤ, pos, negsuc, nat_abs}
use lib.ListN.{length}
use lib.Pow.{pow_pos}
use Rattle.posit.specs.Digits.{digits, number, InBase, complement}
use Rattle.posit.specs.Accumulator.{State, not_real, total, bits_of, state_of, words, from_words, image, from_image}
use Rattle.posit.proofs.Digits.{number_lt, digits_number, number_digits}
use Rattle.posit.proofs.Complement.{InRange, complement_lt, reading_low, reading_high, complement_reading, reading_complement}

-- NaR, or a total within plus or minus (2 ^ (bits - 1) - 1)
abbrev pub Held : ℕ → State → Type 0
Held bits not_real = Unit {0}
Held bits (total t) = nat_abs t < 2 ^ (bits - 1)

module _ (bits : ℕ) (some : 0 < bits) where
  double : 2 * 2 ^ (bits - 1) ≡ 2 ^ bits
  double =
      let e : bits ≡ suc (bits - 1) = omega arith in
      omega (arith, pow-suc 2 (bits - 1), ap (λ (n : ℕ). 2 ^ n) e)

  in_range : (t : ℤ) → nat_abs t < 2 ^ (bits - 1) → InRange (2 ^ (bits - 1)) t
  in_range (pos n) h = h
  in_range (negsuc n) h = omega arith

  -- a total within the range never has the pattern of NaR
  not_nar : (t : ℤ) → nat_abs t < 2 ^ (bits - 1) → complement (2 ^ (bits - 1)) t ≡ 2 ^ (bits - 1) → ⊥
  unfolding complement
  not_nar (pos n) h e = omega arith
  not_nar (negsuc n) h e = omega arith

  pub bits_lt : (q : State) → Held bits q → bits_of bits q < 2 ^ bits
  unfolding bits_of
  bits_lt not_real h = omega (arith, double, pow_pos (bits - 1))
  bits_lt (total t) h = rw (← double) (complement_lt (2 ^ (bits - 1)) t (in_range t h))

  pub state_bits : (q : State) → Held bits q → state_of bits (bits_of bits q) ≡ q
  unfolding state_of bits_of
  state_bits not_real h = rw (eq-eqb (2 ^ (bits - 1)) (2 ^ (bits - 1)) refl)
  state_bits (total t) h =
      rw (ne_eqb (complement (2 ^ (bits - 1)) t) (2 ^ (bits - 1)) (not_nar t h)) (ap total (reading_complement (2 ^ (bits - 1)) t (in_range t h)))

  pub bits_state : (n : ℕ) → n < 2 ^ bits → bits_of bits (state_of bits n) ≡ n
  unfolding state_of bits_of
  bits_state n h = go (ℕ_discrete n (2 ^ (bits - 1)))
    where
      go : Dec (n ≡ 2 ^ (bits - 1)) → bits_of bits (state_of bits n) ≡ n
      go (yes e) = rw (eq-eqb n (2 ^ (bits - 1)) e) (sym e)
      go (no e) = rw (ne_eqb n (2 ^ (bits - 1)) e) (complement_reading (2 ^ (bits - 1)) n (rw double h))

  pub state_held : (n : ℕ) → n < 2 ^ bits → Held bits (state_of bits n)
  unfolding state_of
  state_held n h = go (ℕ_discrete n (2 ^ (bits - 1))) (dec_lt n (2 ^ (bits - 1)))
    where
      go : Dec (n ≡ 2 ^ (bits - 1)) → Dec (n < 2 ^ (bits - 1)) → Held bits (state_of bits n)
      go (yes e) k = rw (eq-eqb n (2 ^ (bits - 1)) e) tt
      go (no e) (yes k) = rw (ne_eqb n (2 ^ (bits - 1)) e, reading_low (2 ^ (bits - 1)) n k) k
      go (no e) (no k) = rw (ne_eqb n (2 ^ (bits - 1)) e, reading_high (2 ^ (bits - 1)) n (omega arith)) (omega (arith, double))

  -- ---- digits

  module _ (B c : ℕ) (base : 0 < B) (all : B ^ c ≡ 2 ^ bits) where
    pub read_spelt : (q : State) → Held bits q → state_of bits (number B (digits B c (bits_of bits q))) ≡ q
    read_spelt q h =
        ap (state_of bits) (number_digits B base c (bits_of bits q) ∙ mod-eq_of_lt (rw all (bits_lt q h))) ∙ state_bits q h

    pub spelt_read : (ds : List ℕ) → length ds ≡ c → InBase B ds → digits B c (bits_of bits (state_of bits (number B ds))) ≡ ds
    spelt_read ds e b =
        let short : number B ds < 2 ^ bits = rw (e, all) at (number_lt B ds b) in
        ap (digits B c) (bits_state (number B ds) short) ∙ ap (λ (n : ℕ). digits B n (number B ds)) (sym e) ∙ digits_number B base ds b

-- ---- words and image

-- words of 64 bits
module _ (bits : ℕ) (some : 0 < bits) (whole : (2 ^ 64) ^ (bits / 64) ≡ 2 ^ bits) where
  pub words_read : (q : State) → Held bits q → from_words bits (words bits q) ≡ q
  unfolding from_words words
  words_read = read_spelt bits some (2 ^ 64) (bits / 64) (pow_pos 64) whole

  pub read_words : (ws : List ℕ) → length ws ≡ bits / 64 → InBase (2 ^ 64) ws → words bits (from_words bits ws) ≡ ws
  unfolding from_words words
  read_words = spelt_read bits some (2 ^ 64) (bits / 64) (pow_pos 64) whole

-- bytes
module _ (bits : ℕ) (some : 0 < bits) (whole : (2 ^ 8) ^ (bits / 8) ≡ 2 ^ bits) where
  pub image_read : (q : State) → Held bits q → from_image bits (image bits q) ≡ q
  unfolding from_image image
  image_read = read_spelt bits some (2 ^ 8) (bits / 8) (pow_pos 8) whole

  pub read_image : (bs : List ℕ) → length bs ≡ bits / 8 → InBase (2 ^ 8) bs → image bits (from_image bits bs) ≡ bs
  unfolding from_image image
  read_image = spelt_read bits some (2 ^ 8) (bits / 8) (pow_pos 8) whole
