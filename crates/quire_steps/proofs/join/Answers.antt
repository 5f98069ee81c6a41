-- `join` meets its contract: NaR on either side stays NaR; else the words that were judged have the number of the new state (`joined_bits`).
use mathlib.Core.Path.{◌≡◌, sym, ap, ◌∙◌}
use mathlib.Core.Bool.{Bool, cond, not, beq}
use Prim.Native.Nat.{ℕ, ◌+◌, ◌-◌, ◌%◌, ◌^◌}
use borrow.Author.Tests.{eqb-false}
use mir.Val.{bool_byte}
use lib.Dec.{leb}
use Rattle.posit.specs.Accumulator.{words, from_words}
use Rattle.quire_words.specs.Words.{wide}
use Rattle.quire_words.proofs.Operand.{moved, turned, escaped}
use Rattle.quire_words.proofs.Places.{words_typed, wide_typed}
use Rattle.quire_steps.proofs.Words.{nar_found, spelt}
use Rattle.quire_steps.proofs.Stepped.{nar_moves, moved_by_nar}
use Rattle.quire_steps.proofs.Joined.{sign_told, joined_bits}
use Rattle.quire_steps.proofs.join.Goals as goal
use Rattle.quire_steps.proofs.join.Goals.{then-added, else-added}

pub returns-then-is_alone : goal.returns-then-is_alone
returns-then-is_alone c =
    let a = c.args in
    let nar = nar_found a.q _ c.is_alone.ensures c.if-is_alone.true in
    c.not_real.ensures ∙ ap (words 512) (sym (ap (λ q. moved a.added q (from_words 512 a.p)) nar ∙ nar_moves a.added (from_words 512 a.p)))

pub returns-then-is_alone-2 : goal.returns-then-is_alone-2
returns-then-is_alone-2 c =
    let a = c.args in
    let nar = nar_found a.p _ c.is_alone-2.ensures c.if-is_alone-2.true in
    c.not_real-then-is_alone-2.ensures ∙ ap (words 512) (sym (ap (moved a.added (from_words 512 a.q)) nar ∙ moved_by_nar a.added (from_words 512 a.q)))

pub returns : goal.returns
returns c =
    let q = c.args.q in
    let p = c.args.p in
    let added = c.args.added in
    let r = words_typed 8 c.judged.result c.judged.type_inv in
    let ne = eqb-false (wide q) (2 ^ 511) (sym c.is_alone.ensures ∙ c.if-is_alone.false) in
    let ne' = eqb-false (wide p) (2 ^ 511) (sym c.is_alone-2.ensures ∙ c.if-is_alone-2.false) in
    let given : wide c.if-added.other ≡ turned (not added) (2 ^ 512 - 1) (wide p) = elim c.if-added.branch [ then-added w ↦ rw (w.other-is, w.if-added.true) | else-added w ↦ rw (w.other-is, w.if-added.false) w.complement-other.ensures ] in
    let sum = c.add.ensures ∙ ap (λ (n : ℕ). (wide q + n + bool_byte (not added)) % 2 ^ 512) given in
    let sign = ap (λ (b : Bool). beq b added) (sign_told (leb (2 ^ 511) (wide p)) _ c.sign_of.ensures) in
    spelt _ c.judged.result r.0 r.1
    (c.judged.ensures
    ∙ ap (λ (s : Bool). cond (escaped (leb (2 ^ 511) (wide q)) s (leb (2 ^ 511) (wide c.add.result))) (2 ^ 511) (wide c.add.result)) sign
    ∙ joined_bits added q p _ ne (wide_typed q c.well_formed.0) ne' (wide_typed p c.well_formed.1.0) sum)
