-- `judged` meets its contract: the test on the three digits is the test on the three signs (`seen`).
use mathlib.Core.Path.{◌≡◌, refl, sym, ap₂, ◌∙◌}
use mathlib.Core.Bool.{Bool, true, false}
use Prim.Native.Nat.{ℕ, ◌^◌}
use borrow.Author.Tests.{lt-ltb}
use lib.Bits.{bit_xor}
use lib.Dec.{leb, ltb}
use mir.Val.{bool_byte}
use Rattle.posit.specs.Digits.{number, digits}
use Rattle.posit.specs.Accumulator.{bits_of, words}
use Rattle.quire_words.specs.Words.{wide}
use Rattle.quire_words.proofs.Operand.{escaped}
use Rattle.quire_steps.proofs.judged.Goals as goal

-- the three signs, each as a digit, tested at once
seen : (b s a : Bool) → ltb (bit_xor (bool_byte b) (bool_byte s)) (bit_xor (bool_byte a) (bool_byte s)) ≡ escaped b s a
seen true true true = refl
seen true true false = refl
seen true false true = refl
seen true false false = refl
seen false true true = refl
seen false true false = refl
seen false false true = refl
seen false false false = refl

tested : (b s a t : Bool) (x y : ℕ) → x ≡ bool_byte b → y ≡ bool_byte a → ltb (bit_xor x (bool_byte s)) (bit_xor y (bool_byte s)) ≡ t → escaped b s a ≡ t
tested b s a t x y ex ey e = sym (seen b s a) ∙ ap₂ (λ (u v : ℕ). ltb (bit_xor u (bool_byte s)) (bit_xor v (bool_byte s))) (sym ex) (sym ey) ∙ e

pub returns-then-sign_of-s : goal.returns-then-sign_of-s
unfolding number words bits_of digits
returns-then-sign_of-s c =
    let k = c.args in
    let out = tested (leb (2 ^ 511) (wide k.before)) k.negative (leb (2 ^ 511) (wide k.after)) true _ _ c.sign_of.ensures c.sign_of-2.ensures (lt-ltb _ _ c.if-sign_of-s.true) in
    rw (out, c.not_real.ensures)
