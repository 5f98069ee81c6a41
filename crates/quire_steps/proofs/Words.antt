-- Eight words and the state that they are: the words of NaR and of the clear state, the state by the words' number, the words by the state's (`spelt`), and what
-- the two questions see.
use mathlib.Core.Path.{◌≡◌, refl, sym, ap₂, ◌∙◌}
use mathlib.Core.Logic.{◌≢◌}
use mathlib.Core.Bool.{Bool, true, false, cond}
use mathlib.Core.List.{List, [], ◌∷◌}
use Prim.Native.Nat.{ℕ, ◌*◌, ◌^◌, ◌<◌}
use native.Mathlib.Decide.{dec_lt, ℕ_discrete}
use native.Mathlib.Omega.{arith}
use borrow.Author.Tests.{eq-eqb, ne_eqb, eqb-true}
use lib.Dec.{eqb}
use lib.IntN.{pos}
use lib.ListN.{length}
use lib.Pow.{pow_pos}
use Rattle.posit.specs.Digits.{number, digits, InBase, reading, complement}
use Rattle.posit.specs.Accumulator.{State, not_real, total, clear, is_not_real, is_clear, bits_of, state_of, words, from_words}
use Rattle.posit.proofs.Digits.{digits_number}
use Rattle.posit.proofs.Complement.{reading_low, reading_high}
use Rattle.quire_words.specs.Words.{wide}

-- ---- NaR and the clear state

abbrev pub nar_words : List ℕ
nar_words = 2 ^ 63 ∷ 0 ∷ 0 ∷ 0 ∷ 0 ∷ 0 ∷ 0 ∷ 0 ∷ []

pub nar_spelt : nar_words ≡ words 512 not_real
unfolding words bits_of digits
nar_spelt = refl

abbrev pub zero_words : List ℕ
zero_words = 0 ∷ 0 ∷ 0 ∷ 0 ∷ 0 ∷ 0 ∷ 0 ∷ 0 ∷ []

pub clear_spelt : zero_words ≡ words 512 clear
unfolding words bits_of digits complement
clear_spelt = refl

-- ---- words and their number

pub read_nar : (ws : List ℕ) → wide ws ≡ 2 ^ 511 → from_words 512 ws ≡ not_real
unfolding from_words state_of
read_nar ws e = rw (eq-eqb (wide ws) (2 ^ 511) e)

-- where the test of eight words has found it
pub nar_found : (ws : List ℕ) (t : Bool) → t ≡ eqb (wide ws) (2 ^ 511) → t ≡ true → from_words 512 ws ≡ not_real
nar_found ws t e found = read_nar ws (eqb-true (wide ws) (2 ^ 511) (sym e ∙ found))

pub read_clear : (ws : List ℕ) → wide ws ≡ 0 → from_words 512 ws ≡ total (pos 0)
unfolding from_words state_of reading
read_clear ws e = rw e

pub read_real : (ws : List ℕ) → wide ws ≢ 2 ^ 511 → from_words 512 ws ≡ total (reading (2 ^ 511) (wide ws))
unfolding from_words state_of
read_real ws n = rw (ne_eqb (wide ws) (2 ^ 511) n)

pub spelt : (q : State) (ws : List ℕ) → length ws ≡ 8 → InBase (2 ^ 64) ws → wide ws ≡ bits_of 512 q → ws ≡ words 512 q
unfolding words
spelt q ws e b n = sym (digits_number (2 ^ 64) (pow_pos 64) ws b) ∙ ap₂ (digits (2 ^ 64)) e n

pub read_zero : from_words 512 zero_words ≡ total (pos 0)
unfolding number
read_zero = read_clear zero_words refl

-- ---- the two questions

pub nar_seen : (ws : List ℕ) → eqb (wide ws) (2 ^ 511) ≡ is_not_real (from_words 512 ws)
unfolding from_words state_of is_not_real
nar_seen ws = go (eqb (wide ws) (2 ^ 511))
  where
    go : (b : Bool) → b ≡ is_not_real (cond b not_real (total (reading (2 ^ 511) (wide ws))))
    go true = refl
    go false = refl

clear_at : (H n : ℕ) → n < 2 * H → eqb n 0 ≡ is_clear (total (reading H n))
unfolding is_clear
clear_at H n l = go (dec_lt n H)
  where
    go : Dec (n < H) → eqb n 0 ≡ is_clear (total (reading H n))
    go (yes h) = rw (reading_low H n h)
    go (no h) = rw (reading_high H n (omega arith)) (ne_eqb n 0 (λ z. omega arith))

pub clear_seen : (ws : List ℕ) → wide ws < 2 ^ 512 → eqb (wide ws) 0 ≡ is_clear (from_words 512 ws)
unfolding is_clear
clear_seen ws l = go (ℕ_discrete (wide ws) (2 ^ 511))
  where
    go : Dec (wide ws ≡ 2 ^ 511) → eqb (wide ws) 0 ≡ is_clear (from_words 512 ws)
    go (yes e) = rw (read_nar ws e, e)
    go (no n) = rw (read_real ws n) (clear_at (2 ^ 511) (wide ws) l)
