-- `step` meets its contract: NaR before or as operand stays NaR; else the words that were judged have the number of the new state (`stepped_bits`).
use mathlib.Core.Path.{◌≡◌, sym, ap, ◌∙◌}
use mathlib.Core.Bool.{true}
use Prim.Native.Nat.{◌^◌}
use native.Mathlib.Omega.{arith}
use borrow.Author.Tests.{eqb-false}
use Rattle.posit.specs.Accumulator.{not_real, total, plus, bits_of, words, from_words}
use Rattle.posit.proofs.Signs.{with_sign}
use Rattle.quire_words.specs.Words.{wide}
use Rattle.quire_words.proofs.Operand.{amount, brought}
use Rattle.quire_words.proofs.Places.{words_typed, wide_typed}
use Rattle.quire_steps.proofs.Words.{nar_found, spelt}
use Rattle.quire_steps.proofs.Stepped.{nar_moves, moved_by_nar, amount_below, stepped_bits}
use Rattle.quire_steps.proofs.step.Goals as goal

pub returns-then-is_alone : goal.returns-then-is_alone
returns-then-is_alone c =
    let a = c.args in
    let nar = nar_found a.q _ c.is_alone.ensures c.if-is_alone.true in
    c.not_real.ensures ∙ ap (words 512) (sym (ap (λ q. plus 512 q (brought a.x.nar a.x.negative a.x.shift a.x.significand)) nar ∙ nar_moves true (brought a.x.nar a.x.negative a.x.shift a.x.significand)))

pub returns-then-x : goal.returns-then-x
returns-then-x c =
    let a = c.args in
    let nar : brought a.x.nar a.x.negative a.x.shift a.x.significand ≡ not_real = rw c.if-x.true in
    c.not_real-then-x.ensures ∙ ap (words 512) (sym (ap (plus 512 (from_words 512 a.q)) nar ∙ moved_by_nar true (from_words 512 a.q)))

pub returns : goal.returns
returns c =
    let q = c.args.q in
    let x = c.args.x in
    let m = amount x.shift x.significand in
    let r = words_typed 8 c.judged.result c.judged.type_inv in
    let stands : brought x.nar x.negative x.shift x.significand ≡ total (with_sign x.negative m) = rw c.if-x.false in
    let ne = eqb-false (wide q) (2 ^ 511) (sym c.is_alone.ensures ∙ c.if-is_alone.false) in
    spelt _ c.judged.result r.0 r.1
    (c.judged.ensures
    ∙ stepped_bits x.negative q m _ ne (wide_typed q c.well_formed.0) (amount_below x.significand x.shift (omega arith) x.in_place.0) c.sum_at.ensures
    ∙ ap (λ y. bits_of 512 (plus 512 (from_words 512 q) y)) (sym stands))
