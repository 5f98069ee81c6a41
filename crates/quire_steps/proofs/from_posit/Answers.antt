-- `from_posit` meets its contract: a step from 0 leads to what the operand stands for (`from_zero`).
use mathlib.Core.Path.{ap, ◌∙◌}
use native.Mathlib.Omega.{arith}
use Rattle.posit.specs.Accumulator.{plus, words}
use Rattle.quire_words.proofs.Operand.{amount, brought}
use Rattle.quire_steps.proofs.Words.{read_zero}
use Rattle.quire_steps.proofs.Stepped.{from_zero, amount_below}
use Rattle.quire_steps.proofs.from_posit.Goals as goal

pub returns : goal.returns
returns c =
    let x = c.posit_of.result in
    c.step.ensures
    ∙ ap (λ q. words 512 (plus 512 q (brought x.nar x.negative x.shift x.significand))) read_zero
    ∙ ap (words 512) (from_zero x.nar x.negative (amount x.shift x.significand) (amount_below x.significand x.shift (omega arith) x.in_place.0) ∙ c.posit_of.ensures)
