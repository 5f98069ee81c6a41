-- `qAbs` meets its contract: NaR stays, and the words without their sign have the number of the total without its sign (`size_bits`).
use mathlib.Core.Path.{sym, ap, ◌∙◌}
use Prim.Native.Nat.{◌^◌}
use borrow.Author.Tests.{eqb-false}
use Rattle.posit.specs.Accumulator.{words}
use Rattle.quire_words.specs.Words.{wide}
use Rattle.quire_words.proofs.Places.{words_typed}
use Rattle.quire_steps.specs.Sign.{sign_off}
use Rattle.quire_steps.proofs.Words.{nar_found, spelt}
use Rattle.quire_steps.proofs.Joined.{size_bits}
use Rattle.quire_steps.proofs.qAbs.Goals as goal

pub returns-then-is_alone : goal.returns-then-is_alone
unfolding sign_off
returns-then-is_alone c =
    let q = c.args.q in
    c.not_real.ensures ∙ ap (words 512) (sym (ap sign_off (nar_found q _ c.is_alone.ensures c.if-is_alone.true)))

pub returns : goal.returns
returns c =
    let q = c.args.q in
    let r = words_typed 8 c.size_of.result c.size_of.type_inv in
    spelt _ c.size_of.result r.0 r.1 (c.size_of.ensures ∙ size_bits q (eqb-false (wide q) (2 ^ 511) (sym c.is_alone.ensures ∙ c.if-is_alone.false)))
