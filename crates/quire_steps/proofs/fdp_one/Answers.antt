-- `fdp_one` meets its contract: a NaR operand makes NaR.
use mathlib.Core.Path.{◌≡◌, sym, ap, ◌∙◌}
use Rattle.posit.specs.Accumulator.{not_real, words, from_words}
use Rattle.quire_words.proofs.Operand.{brought, moved}
use Rattle.quire_steps.proofs.Stepped.{moved_by_nar}
use Rattle.quire_steps.proofs.fdp_one.Goals as goal

pub returns-then-x : goal.returns-then-x
returns-then-x c =
    let a = c.args in
    let x = c.posit_of-x.result in
    let nar : brought x.nar x.negative x.shift x.significand ≡ not_real = rw c.if-x.true in
    c.not_real.ensures ∙ ap (words 512) (sym (ap (moved a.added (from_words 512 a.q)) (sym c.posit_of-x.ensures ∙ nar) ∙ moved_by_nar a.added (from_words 512 a.q)))
