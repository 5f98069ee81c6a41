-- A refused reading leaves the accumulator, whose words are those of its state.
use mathlib.Core.Path.{◌≡◌}
use Rattle.posit.specs.Accumulator.{words, from_words}
use Rattle.desk.specs.Answers.{number_of}
use Rattle.desk.specs.Desk.{length_refusal, read_into}
use Rattle.desk.proofs.Refused.{refused}
use Rattle.desk.proofs.Spelt.{left_standing}
use Rattle.desk.proofs.lent.read_image.Goals as goal

pub returns-in_err-q : goal.returns-in_err-q
returns-in_err-q c =
    let own = c.args.q.now.0 in
    let bs = c.args.bytes.now in
    let no = c.in_err-q.ensures in
    refused _ c.from_residual.ensures.1 (λ x. (number_of x ≡ length_refusal 512 bs) × (own ≡ words 512 (read_into 512 (from_words 512 own) bs)))
    (no.0, left_standing (λ q. read_into 512 q bs) own c.to_bits.result c.to_bits.type_inv c.to_bits.ensures no.1)
