-- The digits of a list from a place on, to any base: their number by their first digit, the bounds of each, and where one digit is written. What the type
-- [u64; n] says of a list is the last.
use Rattle.std.proofs.Common.{◌≡◌, ℕ, zero, suc, ◌+◌, ◌-◌, ◌*◌, ◌^◌, ◌<◌, ◌≤◌, List, [], ◌∷◌, length, get_or, drop, set, ◌∙◌, not-suc-le-zero, arith, length-drop, length-set, drop_of_length-le, drop-cons, get_or-set_same, drop-set-lt, w64, Fits, rules}
use borrow.Kind.Array.{r_arr, e_int, e_int_laws}
use Rattle.posit.specs.Digits.{number, InBase}
use Rattle.posit.proofs.Digits.{number_lt}
use Rattle.quire_words.specs.Words.{wide}

module _ (B : ℕ) where
  pub number_drop : (ws : List ℕ) (i : ℕ) → i < length ws → number B (drop i ws) ≡ get_or ws i 0 * B ^ (length ws - suc i) + number B (drop (suc i) ws)
  unfolding number
  number_drop ws i h = rw (drop-cons ws i 0, length-drop)

  pub number_none : (i : ℕ) (ws : List ℕ) → length ws ≤ i → number B (drop i ws) ≡ 0
  unfolding number
  number_none i ws h = rw (drop_of_length-le ws {i = i} h)

  pub below_each : (ws : List ℕ) → ((i : ℕ) → get_or ws i 0 < B) → InBase B ws
  below_each [] h = tt
  below_each (w ∷ ws) h = (h 0, below_each ws (λ i. h (suc i)))

  pub below_drop : (ws : List ℕ) (i : ℕ) → InBase B ws → InBase B (drop i ws)
  below_drop ws zero h = h
  below_drop [] (suc i) h = tt
  below_drop (w ∷ ws) (suc i) h = below_drop ws i h.1

  pub below_at : (ws : List ℕ) (i : ℕ) → InBase B ws → i < length ws → get_or ws i 0 < B
  below_at [] i h l = absurd (not-suc-le-zero l)
  below_at (w ∷ ws) zero h l = h.0
  below_at (w ∷ ws) (suc i) h l = below_at ws i h.1 (omega arith)

  pub number_drop_lt : (n i : ℕ) (ws : List ℕ) → length ws ≡ n → InBase B ws → number B (drop i ws) < B ^ (n - i)
  number_drop_lt n i ws e b = rw (length-drop, e) at (number_lt B (drop i ws) (below_drop ws i b))

-- where a list is written at i, what stands from i on
pub drop_set : (r : List ℕ) (i t : ℕ) → i < length r → drop i (set r i t) ≡ t ∷ drop (suc i) r
drop_set r i t h =
    drop-cons (set r i t) i 0 (rw length-set h) ∙ (simp (get_or-set_same r i t 0 h, drop-set-lt (suc i) r i t (omega arith)))

-- a value of the type [u64; n], as the logic has it, has n words below 2 ^ 64
pub words_typed : (n : ℕ) (xs : List ℕ) → (r_arr {k = 0} (e_int w64) (e_int_laws w64) n).is.Ok tt xs → (length xs ≡ n) × InBase (2 ^ 64) xs
words_typed n xs o = (search rules, below_each (2 ^ 64) xs (λ i. let f : Fits w64 (get_or xs i 0) = search rules in f.fits))

-- eight of them are a number of 512 bits
pub wide_typed : (xs : List ℕ) → (r_arr {k = 0} (e_int w64) (e_int_laws w64) 8).is.Ok tt xs → wide xs < 2 ^ 512
wide_typed xs o = let w = words_typed 8 xs o in rw w.0 at (number_lt (2 ^ 64) xs w.1)
