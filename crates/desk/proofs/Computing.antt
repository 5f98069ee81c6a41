-- A declaration that says `unfolding everything` computes with every definition of the desk and below it. It means nothing itself.
use Rattle.posit.proofs.Computing as posit
use Rattle.desk.specs.Batch.{batch}
use Rattle.desk.specs.Desk.{claim_refusal, written_to, read_into, after_batch}

unfoldable pub everything : Unit {0}
unfolding posit.everything batch claim_refusal written_to read_into after_batch
everything = tt
