-- The total of another accumulator as what a step brings: its words, or their complement and one, are what an operand with its size and sign would write (`words_bring`), so that
-- the sum is judged as after any step (`joined_bits`). And a total without its sign (`size_bits`).
use mathlib.Core.Path.{◌≡◌, sym, ap, ◌∙◌}
use mathlib.Core.Logic.{◌≢◌}
use mathlib.Core.Bool.{Bool, true, false, cond, not, beq}
use mathlib.Core.List.{List}
use Prim.Native.Nat.{ℕ, ◌+◌, ◌-◌, ◌*◌, ◌%◌, ◌^◌, ◌≤◌, ◌<◌}
use native.Mathlib.Nat.{mod-eq_of_lt}
use native.Mathlib.Decide.{dec_lt}
use native.Mathlib.Omega.{arith}
use borrow.Author.Tests.{le-leb, lt-leb}
use mir.Val.{bool_byte}
use lib.Dec.{eqb, leb}
use lib.IntN.{nat_abs}
use Rattle.posit.specs.Digits.{reading, complement}
use Rattle.posit.specs.Accumulator.{total, bits_of, from_words}
use Rattle.quire_words.specs.Words.{wide}
use Rattle.quire_words.proofs.Operand.{moved, turned, escaped}
use Rattle.quire_steps.specs.Sign.{sign_off}
use Rattle.quire_steps.proofs.Range.{size_low, size_high, sign_and_size}
use Rattle.quire_steps.proofs.Words.{read_real}
use Rattle.quire_steps.proofs.Stepped.{directed, stepped_bits}

-- a sign that is told as a digit
pub sign_told : (b : Bool) (x : ℕ) → x ≡ bool_byte b → eqb x 1 ≡ b
sign_told true x e = rw e
sign_told false x e = rw e

-- ---- the size of a number in two's complement, at any half H

module _ (H v : ℕ) (ne : v ≢ H) (l : v < 2 * H) where
  size_above : H ≤ v → nat_abs (reading H v) ≡ 2 * H - v
  size_above h = size_high H v (omega arith) h l ∙ mod-eq_of_lt (omega arith)

  -- all but NaR's are below the half
  size_below : nat_abs (reading H v) < H
  size_below = go (dec_lt v H)
    where
      go : Dec (v < H) → nat_abs (reading H v) < H
      go (yes h) = rw (size_low H v h) h
      go (no h) = rw (size_above (omega arith)) (omega arith)

  -- n is what it is added to
  abbrev Brings : Bool → ℕ → Type 0
  Brings added n =
      n + turned (not added) (2 * H - 1) v + bool_byte (not added) ≡ n + turned (beq (leb H v) added) (2 * H - 1) (nat_abs (reading H v)) + bool_byte (beq (leb H v) added)

  words_bring : (added : Bool) (n : ℕ) → Brings added n
  words_bring added n = go added (dec_lt v H)
    where
      go : (added : Bool) → Dec (v < H) → Brings added n
      go true (yes h) = rw (lt-leb H v h, size_low H v h)
      go false (yes h) = rw (lt-leb H v h, size_low H v h)
      go true (no h) = rw (le-leb H v (omega arith), size_above (omega arith)) (omega arith)
      go false (no h) = rw (le-leb H v (omega arith), size_above (omega arith)) (omega arith)

-- ---- of two accumulators

-- ws are the words of the one, vs those of the other, and z the number of the sum
module _ (added : Bool) (ws vs : List ℕ) (z : ℕ) (ne : wide ws ≢ 2 ^ 511) (short : wide ws < 2 ^ 512) (ne' : wide vs ≢ 2 ^ 511) (short' : wide vs < 2 ^ 512)
    (sum : z ≡ (wide ws + turned (not added) (2 ^ 512 - 1) (wide vs) + bool_byte (not added)) % 2 ^ 512) where
  pub joined_bits :
      cond (escaped (leb (2 ^ 511) (wide ws)) (beq (leb (2 ^ 511) (wide vs)) added) (leb (2 ^ 511) z)) (2 ^ 511) z ≡ bits_of 512 (moved added (from_words 512 ws) (from_words 512 vs))
  joined_bits =
      let s = leb (2 ^ 511) (wide vs) in
      let m = nat_abs (reading (2 ^ 511) (wide vs)) in
      stepped_bits (beq s added) ws m z ne short (size_below (2 ^ 511) (wide vs) ne' short') (sum ∙ ap (λ (n : ℕ). n % 2 ^ 512) (words_bring (2 ^ 511) (wide vs) ne' short' added (wide ws)))
      ∙ ap (bits_of 512) (directed added s (from_words 512 ws) m)
      ∙ ap (λ x. bits_of 512 (moved added (from_words 512 ws) x)) (ap total (sign_and_size (2 ^ 511) (wide vs) short') ∙ sym (read_real vs ne'))

-- ---- without its sign

pub size_bits : (ws : List ℕ) → wide ws ≢ 2 ^ 511 → nat_abs (reading (2 ^ 511) (wide ws)) ≡ bits_of 512 (sign_off (from_words 512 ws))
unfolding sign_off bits_of complement
size_bits ws ne = rw (read_real ws ne)
