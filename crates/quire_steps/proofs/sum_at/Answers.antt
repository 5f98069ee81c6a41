-- `sum_at` meets its contract: the two words are two columns of a chain, each turn of the loop is one more with nothing to add, and it ends where what is carried is the digit above or no word is
-- left. The loop keeps to whatever chain it was given.
use mathlib.Core.Path.{◌≡◌, refl, sym, ap, ◌∙◌}
use mathlib.Core.Logic.{◌⊎◌, ⊎_map}
use mathlib.Core.Bool.{Bool, true, false, not, beq, true≢false}
use Prim.Native.Nat.{ℕ, ◌+◌, ◌*◌, ◌/◌, ◌^◌, ◌<◌}
use native.Mathlib.Nat.{lt_trans}
use native.Mathlib.Omega.{arith}
use lib.Dec.{lit<}
use mir.Val.{bool_byte}
use lib.ListN.{length, get_or}
use Rattle.quire_words.specs.Words.{wide}
use Rattle.quire_words.proofs.Operand.{upward}
use Rattle.quire_words.proofs.Places.{words_typed, wide_typed}
use Rattle.quire_words.proofs.Chain.{Shifted, carried_on, ended}
use Rattle.quire_steps.proofs.Moved.{two_columns, chained}
use Rattle.quire_steps.proofs.Stepped.{amount_below}
use Rattle.quire_steps.proofs.sum_at.Goals as goal

alike : (a b : Bool) → not (beq a b) ≡ false → a ≡ b
alike true true e = refl
alike false false e = refl
alike true false e = absurd (true≢false e)
alike false true e = absurd (true≢false e)

pub loop-carry-preserved : goal.loop-carry-preserved
loop-carry-preserved c =
    let at = c.loop-carry in
    let left : at.i < 9 = omega arith in
    let sum = c.add_word-s.ensures ∙ ap (λ (n : ℕ). get_or at.r at.i 0 + n + bool_byte at.carry) c.turned_word-above.ensures in
    (omega arith, λ a x e h. carried_on _ _ (at.invariant.1 a x e h) (rw e left) (lit< tt) sum)

pub returns : goal.returns
returns c =
    let a = c.args.x in
    let at = c.loop-carry in
    let given = c.places_of-r.result in
    let nine : length given ≡ 9 = (words_typed 9 given c.places_of-r.type_inv).0 in
    -- no word is left, or what is carried is the digit above
    let done : (at.carry ≡ a.negative) ⊎ (at.i ≡ 9) = grind (arith, alike) in
    let columns =
    two_columns a.negative c.add_word-low.result.carry c.add_word-high.result.carry a.significand a.shift _ _ _ _ given nine (omega arith) a.in_place.0 c.turned_word.ensures c.turned_word-2.ensures
    c.add_word-low.ensures c.add_word-high.ensures in
    -- what has come of the whole chain
    let summed : Shifted a.negative (upward (2 ^ 64) at.r + bool_byte at.carry * (2 ^ 64) ^ 9) (upward (2 ^ 64) given + bool_byte a.negative * (2 ^ 64) ^ 9) (a.significand * 2 ^ a.shift) =
    rw nine at (ended (at.invariant.1 given _ nine columns) (⊎_map (λ e. e) (λ e. e ∙ sym nine) done)) in
    -- an operand is within the accumulator
    let small : a.significand * 2 ^ a.shift / 2 ^ 64 < 2 ^ 512 = lt_trans (amount_below a.significand a.shift (omega arith) a.in_place.0) (lit< tt) in
    chained a.negative at.carry _ (wide c.args.q) (a.significand * 2 ^ a.shift) _ _ (wide_typed c.words_of.result c.words_of.type_inv) small a.in_place.1
    c.places_of-r.ensures c.words_of.ensures summed
