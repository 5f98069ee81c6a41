-- Demand 1: no public function leaves a check to its caller. All of them stand here, each once: whatever the arguments, they meet what its contract asks.
use mathlib.Core.Path.{refl}
use Rattle.rounding.specs.contracts as of_rounding
use Rattle.rounding.proofs as rounding
use Rattle.unpacking.specs.contracts as of_unpacking
use Rattle.unpacking.proofs as unpacking
use Rattle.exact_terms.specs.contracts as of_exact_terms
use Rattle.exact_terms.proofs as exact_terms
use Rattle.division.specs.contracts as of_division
use Rattle.division.proofs as division
use Rattle.square_root.specs.contracts as of_square_root
use Rattle.square_root.proofs as square_root
use Rattle.p32e2.specs.contracts as of_p32e2
use Rattle.p32e2.proofs as p32e2
use Rattle.quire_words.specs.contracts as of_quire_words
use Rattle.quire_words.proofs as quire_words
use Rattle.quire_steps.specs.contracts as of_quire_steps
use Rattle.quire_steps.proofs as quire_steps
use Rattle.quire_totals.specs.contracts as of_quire_totals
use Rattle.quire_totals.proofs as quire_totals
use Rattle.quire32.specs.contracts as of_quire32
use Rattle.quire32.proofs as quire32
use Rattle.desk.specs.contracts as of_desk
use Rattle.desk.proofs as desk
use Rattle.capi.specs.contracts as of_capi
use Rattle.capi.proofs as capi
use Rattle.promises.specs.Contract.{Answers, AnswersLent}

pub rounding_asks_nothing :
    Answers of_rounding.pack.ended rounding.pack.Reads.Pre
rounding_asks_nothing = λ κs a. tt

pub unpacking_asks_nothing :
    Answers of_unpacking.unpack.ended unpacking.unpack.Reads.Pre
    × Answers of_unpacking.either_nar.ended unpacking.either_nar.Reads.Pre
    × Answers of_unpacking.scaled.scaled_of.ended unpacking.scaled.scaled_of.Reads.Pre
    × AnswersLent of_unpacking.UnpackedPartialEq.eq.ended (λ M 𝓤 𝓛. of_unpacking.UnpackedPartialEq.eq.clauses 𝓛)
unpacking_asks_nothing = (λ κs a. tt, λ κs a. tt, λ κs a. tt, λ M 𝓤 𝓛 mem run κs a. (tt, refl))

pub exact_terms_asks_nothing :
    Answers of_exact_terms.add.ended exact_terms.add.Reads.Pre
    × Answers of_exact_terms.mul.ended exact_terms.mul.Reads.Pre
    × Answers of_exact_terms.mul_add.ended exact_terms.mul_add.Reads.Pre
exact_terms_asks_nothing = (λ κs a. tt, λ κs a. tt, λ κs a. tt)

pub division_asks_nothing :
    Answers of_division.div.ended division.div.Reads.Pre
division_asks_nothing = λ κs a. tt

pub square_root_asks_nothing :
    Answers of_square_root.sqrt.ended square_root.sqrt.Reads.Pre
square_root_asks_nothing = λ κs a. tt

pub p32e2_asks_nothing :
    Answers of_p32e2.P32E2.from_bits.ended p32e2.P32E2.from_bits.Reads.Pre
    × Answers of_p32e2.P32E2.to_bits.ended p32e2.P32E2.to_bits.Reads.Pre
    × Answers of_p32e2.P32E2.is_zero.ended p32e2.P32E2.is_zero.Reads.Pre
    × Answers of_p32e2.P32E2.is_nar.ended p32e2.P32E2.is_nar.Reads.Pre
    × Answers of_p32e2.P32E2.recip.ended p32e2.P32E2.recip.Reads.Pre
    × Answers of_p32e2.P32E2.unpack.ended p32e2.P32E2.unpack.Reads.Pre
    × Answers of_p32e2.P32E2.sqrt.ended p32e2.P32E2.sqrt.Reads.Pre
    × Answers of_p32e2.P32E2.mul_add.ended p32e2.P32E2.mul_add.Reads.Pre
    × Answers of_p32e2.P32E2.mul_sub.ended p32e2.P32E2.mul_sub.Reads.Pre
    × Answers of_p32e2.P32E2.sub_product.ended p32e2.P32E2.sub_product.Reads.Pre
    × Answers of_p32e2.P32E2.neg.ended p32e2.P32E2.neg.Reads.Pre
    × Answers of_p32e2.P32E2.add.ended p32e2.P32E2.add.Reads.Pre
    × Answers of_p32e2.P32E2.sub.ended p32e2.P32E2.sub.Reads.Pre
    × Answers of_p32e2.P32E2.mul.ended p32e2.P32E2.mul.Reads.Pre
    × Answers of_p32e2.P32E2.div.ended p32e2.P32E2.div.Reads.Pre
    × AnswersLent of_p32e2.P32E2PartialEq.eq.ended (λ M 𝓤 𝓛. of_p32e2.P32E2PartialEq.eq.clauses 𝓛)
p32e2_asks_nothing = (λ κs a. tt, λ κs a. tt, λ κs a. tt, λ κs a. tt, λ κs a. tt, λ κs a. tt, λ κs a. tt, λ κs a. tt, λ κs a. tt, λ κs a. tt, λ κs a. tt, λ κs a. tt, λ κs a. tt, λ κs a. tt, λ κs a. tt, λ M 𝓤 𝓛 mem run κs a. (tt, refl))

pub quire_words_asks_nothing :
    Answers of_quire_words.add_word.ended quire_words.add_word.Reads.Pre
    × Answers of_quire_words.add.ended quire_words.add.Reads.Pre
    × Answers of_quire_words.complement.ended quire_words.complement.Reads.Pre
    × Answers of_quire_words.sub.ended quire_words.sub.Reads.Pre
    × Answers of_quire_words.negative_of.ended quire_words.negative_of.Reads.Pre
    × Answers of_quire_words.any_from.ended quire_words.any_from.Reads.Pre
    × Answers of_quire_words.is_alone.ended quire_words.is_alone.Reads.Pre
    × Answers of_quire_words.sign_of.ended quire_words.sign_of.Reads.Pre
quire_words_asks_nothing = (λ κs a. tt, λ κs a. tt, λ κs a. tt, λ κs a. tt, λ κs a. tt, λ κs a. tt, λ κs a. tt, λ κs a. tt)

pub quire_steps_asks_nothing :
    Answers of_quire_steps.add_product.ended quire_steps.add_product.Reads.Pre
    × Answers of_quire_steps.sub_product.ended quire_steps.sub_product.Reads.Pre
    × Answers of_quire_steps.add_posit.ended quire_steps.add_posit.Reads.Pre
    × Answers of_quire_steps.sub_posit.ended quire_steps.sub_posit.Reads.Pre
    × Answers of_quire_steps.neg.ended quire_steps.neg.Reads.Pre
    × Answers of_quire_steps.qAbs.ended quire_steps.qAbs.Reads.Pre
    × Answers of_quire_steps.qAddQ.ended quire_steps.qAddQ.Reads.Pre
    × Answers of_quire_steps.qSubQ.ended quire_steps.qSubQ.Reads.Pre
    × Answers of_quire_steps.size_of.ended quire_steps.size_of.Reads.Pre
    × Answers of_quire_steps.is_zero.ended quire_steps.is_zero.Reads.Pre
    × Answers of_quire_steps.is_nar.ended quire_steps.is_nar.Reads.Pre
    × Answers of_quire_steps.cleared.ended quire_steps.cleared.Reads.Pre
    × Answers of_quire_steps.from_posit.ended quire_steps.from_posit.Reads.Pre
quire_steps_asks_nothing = (λ κs a. tt, λ κs a. tt, λ κs a. tt, λ κs a. tt, λ κs a. tt, λ κs a. tt, λ κs a. tt, λ κs a. tt, λ κs a. tt, λ κs a. tt, λ κs a. tt, λ κs a. tt, λ κs a. tt)

pub quire_totals_asks_nothing :
    Answers of_quire_totals.to_posit.ended quire_totals.to_posit.Reads.Pre
    × Answers of_quire_totals.two_posits.ended quire_totals.two_posits.Reads.Pre
    × Answers of_quire_totals.three_posits.ended quire_totals.three_posits.Reads.Pre
quire_totals_asks_nothing = (λ κs a. tt, λ κs a. tt, λ κs a. tt)

pub quire32_asks_nothing :
    Answers of_quire32.Q32E2.init.ended quire32.Q32E2.init.Reads.Pre
    × Answers of_quire32.Q32E2.from_bits.ended quire32.Q32E2.from_bits.Reads.Pre
    × Answers of_quire32.Q32E2.from_posit.ended quire32.Q32E2.from_posit.Reads.Pre
    × Answers of_quire32.Q32E2.into_two_posits.ended quire32.Q32E2.into_two_posits.Reads.Pre
    × Answers of_quire32.Q32E2.into_three_posits.ended quire32.Q32E2.into_three_posits.Reads.Pre
    × AnswersLent of_quire32.Q32E2.to_bits.ended (λ M 𝓤 𝓛. of_quire32.Q32E2.to_bits.clauses 𝓛)
    × AnswersLent of_quire32.Q32E2.is_zero.ended (λ M 𝓤 𝓛. of_quire32.Q32E2.is_zero.clauses 𝓛)
    × AnswersLent of_quire32.Q32E2.is_nar.ended (λ M 𝓤 𝓛. of_quire32.Q32E2.is_nar.clauses 𝓛)
    × AnswersLent of_quire32.Q32E2.to_posit.ended (λ M 𝓤 𝓛. of_quire32.Q32E2.to_posit.clauses 𝓛)
    × AnswersLent of_quire32.Q32E2.add_product.ended (λ M 𝓤 𝓛. of_quire32.Q32E2.add_product.clauses 𝓛)
    × AnswersLent of_quire32.Q32E2.sub_product.ended (λ M 𝓤 𝓛. of_quire32.Q32E2.sub_product.clauses 𝓛)
    × AnswersLent of_quire32.Q32E2.add_posit.ended (λ M 𝓤 𝓛. of_quire32.Q32E2.add_posit.clauses 𝓛)
    × AnswersLent of_quire32.Q32E2.sub_posit.ended (λ M 𝓤 𝓛. of_quire32.Q32E2.sub_posit.clauses 𝓛)
    × AnswersLent of_quire32.Q32E2.neg.ended (λ M 𝓤 𝓛. of_quire32.Q32E2.neg.clauses 𝓛)
    × AnswersLent of_quire32.Q32E2.qAbs.ended (λ M 𝓤 𝓛. of_quire32.Q32E2.qAbs.clauses 𝓛)
    × AnswersLent of_quire32.Q32E2.qAddQ.ended (λ M 𝓤 𝓛. of_quire32.Q32E2.qAddQ.clauses 𝓛)
    × AnswersLent of_quire32.Q32E2.qSubQ.ended (λ M 𝓤 𝓛. of_quire32.Q32E2.qSubQ.clauses 𝓛)
    × AnswersLent of_quire32.Q32E2.clear.ended (λ M 𝓤 𝓛. of_quire32.Q32E2.clear.clauses 𝓛)
quire32_asks_nothing = (λ κs a. tt, λ κs a. tt, λ κs a. tt, λ κs a. tt, λ κs a. tt, λ M 𝓤 𝓛 mem run κs a. (tt, refl), λ M 𝓤 𝓛 mem run κs a. (tt, refl), λ M 𝓤 𝓛 mem run κs a. (tt, refl), λ M 𝓤 𝓛 mem run κs a. (tt, refl), λ M 𝓤 𝓛 mem run κs a. (tt, refl), λ M 𝓤 𝓛 mem run κs a. (tt, refl), λ M 𝓤 𝓛 mem run κs a. (tt, refl), λ M 𝓤 𝓛 mem run κs a. (tt, refl), λ M 𝓤 𝓛 mem run κs a. (tt, refl), λ M 𝓤 𝓛 mem run κs a. (tt, refl), λ M 𝓤 𝓛 mem run κs a. (tt, refl), λ M 𝓤 𝓛 mem run κs a. (tt, refl), λ M 𝓤 𝓛 mem run κs a. (tt, refl))

pub desk_refusal_asks_nothing :
    AnswersLent of_desk.refusal.RefusalPartialEq.eq.ended (λ M 𝓤 𝓛. of_desk.refusal.RefusalPartialEq.eq.clauses 𝓛)
desk_refusal_asks_nothing = λ M 𝓤 𝓛 mem run κs a. (tt, refl)

pub desk_asks_nothing :
    Answers of_desk.image.image_of.ended desk.image.image_of.Reads.Pre
    × Answers of_desk.image.write_image.ended desk.image.write_image.Reads.Pre
    × Answers of_desk.image.read_image.ended desk.image.read_image.Reads.Pre
    × Answers of_desk.batch.add_batch.ended desk.batch.add_batch.Reads.Pre
    × Answers of_desk.claim.check_claim.ended desk.claim.check_claim.Reads.Pre
    × Answers of_desk.refusal.Refusal.number.ended desk.refusal.Refusal.number.Reads.Pre
    × Answers of_desk.refusal.number_of.ended desk.refusal.number_of.Reads.Pre
    × AnswersLent of_desk.lent.write_image.ended (λ M 𝓤 𝓛. of_desk.lent.write_image.clauses 𝓛)
    × AnswersLent of_desk.lent.read_image.ended (λ M 𝓤 𝓛. of_desk.lent.read_image.clauses 𝓛)
    × AnswersLent of_desk.lent.add_batch.ended (λ M 𝓤 𝓛. of_desk.lent.add_batch.clauses 𝓛)
desk_asks_nothing = (λ κs a. tt, λ κs a. tt, λ κs a. tt, λ κs a. tt, λ κs a. tt, λ κs a. tt, λ κs a. tt, λ M 𝓤 𝓛 mem run κs a. (tt, refl), λ M 𝓤 𝓛 mem run κs a. (tt, refl), λ M 𝓤 𝓛 mem run κs a. (tt, refl))

pub capi_posits_asks_nothing :
    Answers of_capi.posits.stallhitch_p32e2_neg.ended capi.posits.stallhitch_p32e2_neg.Reads.Pre
    × Answers of_capi.posits.stallhitch_p32e2_add.ended capi.posits.stallhitch_p32e2_add.Reads.Pre
    × Answers of_capi.posits.stallhitch_p32e2_sub.ended capi.posits.stallhitch_p32e2_sub.Reads.Pre
    × Answers of_capi.posits.stallhitch_p32e2_mul.ended capi.posits.stallhitch_p32e2_mul.Reads.Pre
    × Answers of_capi.posits.stallhitch_p32e2_div.ended capi.posits.stallhitch_p32e2_div.Reads.Pre
    × Answers of_capi.posits.stallhitch_p32e2_recip.ended capi.posits.stallhitch_p32e2_recip.Reads.Pre
    × Answers of_capi.posits.stallhitch_p32e2_sqrt.ended capi.posits.stallhitch_p32e2_sqrt.Reads.Pre
    × Answers of_capi.posits.stallhitch_p32e2_mul_add.ended capi.posits.stallhitch_p32e2_mul_add.Reads.Pre
    × Answers of_capi.posits.stallhitch_p32e2_mul_sub.ended capi.posits.stallhitch_p32e2_mul_sub.Reads.Pre
    × Answers of_capi.posits.stallhitch_p32e2_sub_product.ended capi.posits.stallhitch_p32e2_sub_product.Reads.Pre
capi_posits_asks_nothing = (λ κs a. tt, λ κs a. tt, λ κs a. tt, λ κs a. tt, λ κs a. tt, λ κs a. tt, λ κs a. tt, λ κs a. tt, λ κs a. tt, λ κs a. tt)

pub capi_accumulators_asks_nothing :
    Answers of_capi.accumulators.stallhitch_q32e2_clear.ended capi.accumulators.stallhitch_q32e2_clear.Reads.Pre
    × Answers of_capi.accumulators.stallhitch_q32e2_add_product.ended capi.accumulators.stallhitch_q32e2_add_product.Reads.Pre
    × Answers of_capi.accumulators.stallhitch_q32e2_sub_product.ended capi.accumulators.stallhitch_q32e2_sub_product.Reads.Pre
    × Answers of_capi.accumulators.stallhitch_q32e2_add_posit.ended capi.accumulators.stallhitch_q32e2_add_posit.Reads.Pre
    × Answers of_capi.accumulators.stallhitch_q32e2_sub_posit.ended capi.accumulators.stallhitch_q32e2_sub_posit.Reads.Pre
    × Answers of_capi.accumulators.stallhitch_q32e2_neg.ended capi.accumulators.stallhitch_q32e2_neg.Reads.Pre
    × Answers of_capi.accumulators.stallhitch_q32e2_qAbs.ended capi.accumulators.stallhitch_q32e2_qAbs.Reads.Pre
    × Answers of_capi.accumulators.stallhitch_q32e2_qAddQ.ended capi.accumulators.stallhitch_q32e2_qAddQ.Reads.Pre
    × Answers of_capi.accumulators.stallhitch_q32e2_qSubQ.ended capi.accumulators.stallhitch_q32e2_qSubQ.Reads.Pre
    × Answers of_capi.accumulators.stallhitch_q32e2_to_posit.ended capi.accumulators.stallhitch_q32e2_to_posit.Reads.Pre
    × Answers of_capi.accumulators.stallhitch_q32e2_is_zero.ended capi.accumulators.stallhitch_q32e2_is_zero.Reads.Pre
    × Answers of_capi.accumulators.stallhitch_q32e2_is_nar.ended capi.accumulators.stallhitch_q32e2_is_nar.Reads.Pre
capi_accumulators_asks_nothing = (λ κs a. tt, λ κs a. tt, λ κs a. tt, λ κs a. tt, λ κs a. tt, λ κs a. tt, λ κs a. tt, λ κs a. tt, λ κs a. tt, λ κs a. tt, λ κs a. tt, λ κs a. tt)

pub capi_claims_asks_nothing :
    Answers of_capi.claims.stallhitch_write_image.ended capi.claims.stallhitch_write_image.Reads.Pre
    × Answers of_capi.claims.stallhitch_read_image.ended capi.claims.stallhitch_read_image.Reads.Pre
    × Answers of_capi.claims.stallhitch_add_batch.ended capi.claims.stallhitch_add_batch.Reads.Pre
    × Answers of_capi.claims.stallhitch_check_claim.ended capi.claims.stallhitch_check_claim.Reads.Pre
capi_claims_asks_nothing = (λ κs a. tt, λ κs a. tt, λ κs a. tt, λ κs a. tt)
