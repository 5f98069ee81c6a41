-- A step on the number of a state (`Range.steps`), told by the definitions: NaR stays, an operand is added with its sign or with the other one, and the negative is the
-- wrapped negative.
use mathlib.Core.Path.{◌≡◌, refl, sym, ap, ◌∙◌}
use mathlib.Core.Logic.{◌≢◌}
use mathlib.Core.Bool.{Bool, true, false, cond, beq}
use mathlib.Core.List.{List}
use Prim.Native.Nat.{ℕ, ◌+◌, ◌-◌, ◌*◌, ◌/◌, ◌%◌, ◌^◌, ◌<◌}
use native.Mathlib.Nat.{add-zero, mul_comm, lt_of_lt_of_le, mul-le-mul_left, mul-lt-mul_of_pos_right, div-lt_iff_lt-mul}
use native.Mathlib.Decide.{ℕ_discrete}
use native.Mathlib.Omega.{arith}
use borrow.Author.Tests.{lt-ltb}
use mir.Val.{bool_byte}
use lib.Dec.{ltb, leb}
use lib.IntN.{ℤ, pos, nat_abs, ◌+ℤ◌, +ℤ_idl}
use lib.Pow.{pow_pos, pow_mono}
use Rattle.posit.specs.Digits.{reading, complement}
use Rattle.posit.specs.Accumulator.{State, not_real, total, kept, plus, negated, minus, bits_of, from_words}
use Rattle.posit.proofs.Signs.{with_sign, negated_sign}
use Rattle.quire_words.specs.Words.{wide}
use Rattle.quire_words.proofs.Operand.{amount, brought, moved, turned, escaped}
use Rattle.quire_steps.proofs.Range.{wrap, kept_as, size_of, negated_as, steps}
use Rattle.quire_steps.proofs.Words.{read_nar, read_real}

-- ---- no step leads out of NaR, and a NaR operand into it

pub nar_moves : (added : Bool) (x : State) → moved added not_real x ≡ not_real
unfolding plus minus
nar_moves true x = refl
nar_moves false x = refl

pub moved_by_nar : (added : Bool) (q : State) → moved added q not_real ≡ not_real
unfolding plus minus negated
moved_by_nar true not_real = refl
moved_by_nar true (total t) = refl
moved_by_nar false not_real = refl
moved_by_nar false (total t) = refl

-- ---- an operand that is added

bits_kept : (t : ℤ) → bits_of 512 (kept 512 t) ≡ kept_as (2 ^ 511) t
unfolding bits_of
bits_kept t = go (ltb (nat_abs t) (2 ^ 511))
  where
    go : (b : Bool) → bits_of 512 (cond b (total t) not_real) ≡ cond b (complement (2 ^ 511) t) (2 ^ 511)
    go true = refl
    go false = refl

bits_plus : (ws : List ℕ) (t : ℤ) → wide ws ≢ 2 ^ 511 → bits_of 512 (plus 512 (from_words 512 ws) (total t)) ≡ kept_as (2 ^ 511) (reading (2 ^ 511) (wide ws) +ℤ t)
unfolding plus
bits_plus ws t n = rw (read_real ws n) (bits_kept (reading (2 ^ 511) (wide ws) +ℤ t))

-- what the complement of an operand lacks is carried in
carried_in : (s : Bool) (H n m : ℕ) → m < H → n + turned s (2 * H - 1) m + bool_byte s ≡ n + wrap H s m
carried_in true H n m h = omega arith
carried_in false H n m h = add-zero (n + m)

-- an operand that is moved up by fewer than 512 digits is within the range
pub amount_below : (m d : ℕ) → m < 2 ^ 64 → d < 512 → m * 2 ^ d / 2 ^ 64 < 2 ^ 511
amount_below m d h k =
    (div-lt_iff_lt-mul (pow_pos 64)).1
    (lt_of_lt_of_le (mul-lt-mul_of_pos_right h (pow_pos d)) (rw (mul_comm (2 ^ 511) (2 ^ 64)) (mul-le-mul_left (2 ^ 64) (pow_mono {i = d} {j = 511} (omega arith)))))

-- n is the number before, y that of the operand's words, and z that of the sum
module _ (s : Bool) (ws : List ℕ) (m z : ℕ) (ne : wide ws ≢ 2 ^ 511) (short : wide ws < 2 ^ 512) (small : m < 2 ^ 511)
    (sum : z ≡ (wide ws + turned s (2 ^ 512 - 1) m + bool_byte s) % 2 ^ 512) where
  pub stepped_bits : cond (escaped (leb (2 ^ 511) (wide ws)) s (leb (2 ^ 511) z)) (2 ^ 511) z ≡ bits_of 512 (plus 512 (from_words 512 ws) (total (with_sign s m)))
  stepped_bits =
      let wrapped : z ≡ (wide ws + wrap (2 ^ 511) s m) % 2 ^ 512 = sum ∙ ap (λ (n : ℕ). n % 2 ^ 512) (carried_in s (2 ^ 511) (wide ws) m small) in
      rw wrapped (sym (bits_plus ws (with_sign s m) ne ∙ steps (2 ^ 511) (wide ws) m ne short small s))

-- ---- the direction

-- to take an operand is to add it with the other sign
pub directed : (added s : Bool) (q : State) (m : ℕ) → plus 512 q (total (with_sign (beq s added) m)) ≡ moved added q (total (with_sign s m))
unfolding minus negated
directed true true q m = refl
directed true false q m = refl
directed false true q m = ap (λ t. plus 512 q (total t)) (sym (negated_sign true m))
directed false false q m = ap (λ t. plus 512 q (total t)) (sym (negated_sign false m))

pub directed_brought : (added n s : Bool) (q : State) (shift g : ℕ) → plus 512 q (brought n (beq s added) shift g) ≡ moved added q (brought n s shift g)
directed_brought added true s q shift g = moved_by_nar true q ∙ sym (moved_by_nar added q)
directed_brought added false s q shift g = directed added s q (amount shift g)

-- ---- from 0

pub from_zero : (n s : Bool) (m : ℕ) → m < 2 ^ 511 → plus 512 (total (pos 0)) (cond n not_real (total (with_sign s m))) ≡ cond n not_real (total (with_sign s m))
unfolding plus
from_zero true s m h = refl
from_zero false s m h = rw (+ℤ_idl (with_sign s m), size_of s m, lt-ltb m (2 ^ 511) h)

-- ---- the negative

pub negated_bits : (ws : List ℕ) → wide ws < 2 ^ 512 → (2 ^ 512 - wide ws) % 2 ^ 512 ≡ bits_of 512 (negated (from_words 512 ws))
unfolding negated bits_of
negated_bits ws l = go (ℕ_discrete (wide ws) (2 ^ 511))
  where
    go : Dec (wide ws ≡ 2 ^ 511) → (2 ^ 512 - wide ws) % 2 ^ 512 ≡ bits_of 512 (negated (from_words 512 ws))
    go (yes e) = rw (read_nar ws e, e)
    go (no n) = rw (read_real ws n) (sym (negated_as (2 ^ 511) (wide ws) n l))
