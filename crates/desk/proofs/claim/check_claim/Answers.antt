-- `check_claim` meets its contract: the refusals in their order, and then the comparison with the image that was rebuilt.
use mathlib.Core.Path.{◌≡◌, sym, ap, ◌∙◌}
use mathlib.Core.Bool.{Bool, true, false}
use mathlib.Core.List.{List}
use Prim.Native.Nat.{ℕ}
use native.Mathlib.Omega.{arith}
use Rattle.posit.specs.Accumulator.{clear, image, words, from_words}
use Rattle.desk.specs.Batch.{batch}
use Rattle.desk.specs.Desk.{claim_refusal}
use Rattle.desk.specs.Answers.{number_of}
use Rattle.posit.specs.Digits.{same}
use Rattle.quire_steps.proofs.Words.{zero_words}
use Rattle.desk.proofs.Summed.{rebuilt}
use Rattle.desk.proofs.Refused.{claim_refused, claim_of_other_length, claim_compared, refused, refused_number}
use Rattle.desk.proofs.claim.check_claim.Goals as goal

-- what was compared is the image of the batch from zero
compared : (a b claim ws bs : List ℕ) (r t : Bool) → ws ≡ words 512 (batch 2 31 512 (from_words 512 zero_words) a b) → bs ≡ image 512 (from_words 512 ws) → r ≡ same bs claim → r ≡ t
    → same (image 512 (batch 2 31 512 clear a b)) claim ≡ t
compared a b claim ws bs r t e f g h = ap (λ (l : List ℕ). same l claim) (sym (f ∙ ap (image 512) (rebuilt a b ws e))) ∙ sym g ∙ h

pub returns-in_err-admitted : goal.returns-in_err-admitted
returns-in_err-admitted c =
    let a = c.args in
    let no = claim_refused a.a.now a.b.now a.claim.now _ (sym c.in_err-admitted.ensures) (refused_number _) in
    refused _ c.from_residual.ensures.1 (λ r. number_of r ≡ claim_refusal 2 31 512 a.a.now a.b.now a.claim.now) (sym no)

pub returns-then-claim-ne-IMAGE_LENGTH : goal.returns-then-claim-ne-IMAGE_LENGTH
returns-then-claim-ne-IMAGE_LENGTH c =
    let a = c.args in
    sym (claim_of_other_length a.a.now a.b.now a.claim.now (sym c.in_ok-admitted.ensures) c.if-claim-ne-IMAGE_LENGTH.true)

pub returns-then-not-is_same : goal.returns-then-not-is_same
returns-then-not-is_same c =
    let a = c.args in
    let found = compared a.a.now a.b.now a.claim.now _ _ _ false c.sum_of.ensures c.image_of-rebuilt.ensures c.is_same.ensures c.if-not-is_same.true in
    sym (claim_compared a.a.now a.b.now a.claim.now false (sym c.in_ok-admitted.ensures) (omega arith) found)

pub returns : goal.returns
returns c =
    let a = c.args in
    let found = compared a.a.now a.b.now a.claim.now _ _ _ true c.sum_of.ensures c.image_of-rebuilt.ensures c.is_same.ensures c.if-not-is_same.false in
    sym (claim_compared a.a.now a.b.now a.claim.now true (sym c.in_ok-admitted.ensures) (omega arith) found)
