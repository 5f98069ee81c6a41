-- `add_batch` meets its contract: a refusal leaves the state, and otherwise the pairs are added up.
use mathlib.Core.Path.{◌≡◌, sym, ap, ◌∙◌}
use Rattle.posit.specs.Accumulator.{words, from_words}
use Rattle.desk.specs.Answers.{number_of, after}
use Rattle.desk.specs.Desk.{batch_refusal, after_batch}
use Rattle.desk.proofs.Refused.{batch_refused, batch_done, refused, refused_number}
use Rattle.desk.proofs.batch.add_batch.Goals as goal

pub returns-in_err-admitted : goal.returns-in_err-admitted
returns-in_err-admitted c =
    let a = c.args in
    let no = c.in_err-admitted.ensures in
    let kept = batch_refused a.a.now a.b.now (from_words 512 a.q) _ (sym no) (refused_number _) in
    refused _ c.from_residual.ensures.1 (λ r. (number_of r ≡ batch_refusal a.a.now a.b.now) × (after 512 (from_words 512 a.q) r ≡ words 512 (after_batch 2 31 512 (from_words 512 a.q) a.a.now a.b.now)))
    (no, ap (words 512) (sym kept))

pub returns : goal.returns
returns c =
    let a = c.args in
    let yes = c.in_ok-admitted.ensures in
    (yes, c.sum_of.ensures ∙ ap (words 512) (sym (batch_done a.a.now a.b.now (from_words 512 a.q) (sym yes))))
