-- A refused batch leaves the accumulator, whose words are those of its state.
use mathlib.Core.Path.{◌≡◌}
use Rattle.posit.specs.Accumulator.{words, from_words}
use Rattle.desk.specs.Answers.{number_of}
use Rattle.desk.specs.Desk.{batch_refusal, after_batch}
use Rattle.desk.proofs.Refused.{refused}
use Rattle.desk.proofs.Spelt.{left_standing}
use Rattle.desk.proofs.lent.add_batch.Goals as goal

pub returns-in_err-q : goal.returns-in_err-q
returns-in_err-q c =
    let own = c.args.q.now.0 in
    let a = c.args.a.now in
    let b = c.args.b.now in
    let no = c.in_err-q.ensures in
    refused _ c.from_residual.ensures.1 (λ x. (number_of x ≡ batch_refusal a b) × (own ≡ words 512 (after_batch 2 31 512 (from_words 512 own) a b)))
    (no.0, left_standing (λ q. after_batch 2 31 512 q a b) own c.to_bits.result c.to_bits.type_inv c.to_bits.ensures no.1)
