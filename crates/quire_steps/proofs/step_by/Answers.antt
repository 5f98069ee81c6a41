-- `step_by` meets its contract: an operand with the other sign is the one that is taken (`directed_brought`).
use mathlib.Core.Path.{ap, ◌∙◌}
use Rattle.posit.specs.Accumulator.{words, from_words}
use Rattle.quire_steps.proofs.Stepped.{directed_brought}
use Rattle.quire_steps.proofs.step_by.Goals as goal

pub returns : goal.returns
returns c =
    let a = c.args in
    let e = c.directed.ensures in
    (rw (e.0, e.1, e.2, e.3) at c.step.ensures) ∙ ap (words 512) (directed_brought a.added a.x.nar a.x.negative (from_words 512 a.q) a.x.shift a.x.significand)
