-- One promise, one answer, of every function that C and Rust link. The statement is `Fixes` (Fixes.antt); p and p' say that two results meet the contract.
use mathlib.Core.Path.{refl, sym, ◌∙◌}
use Rattle.one_answer.specs.Fixes.{Fixes}
use Rattle.capi.specs.contracts as of_capi
use Rattle.capi.proofs as capi

pub capi_neg_fixes : Fixes of_capi.posits.stallhitch_p32e2_neg.ended capi.posits.stallhitch_p32e2_neg.Reads.Pre capi.posits.stallhitch_p32e2_neg.Reads.Post
capi_neg_fixes = record { answers = λ κs a. tt; one = λ κs a x y u v p p'. (p ∙ sym p', refl) }

pub capi_add_fixes : Fixes of_capi.posits.stallhitch_p32e2_add.ended capi.posits.stallhitch_p32e2_add.Reads.Pre capi.posits.stallhitch_p32e2_add.Reads.Post
capi_add_fixes = record { answers = λ κs a. tt; one = λ κs a x y u v p p'. (p ∙ sym p', refl) }

pub capi_sub_fixes : Fixes of_capi.posits.stallhitch_p32e2_sub.ended capi.posits.stallhitch_p32e2_sub.Reads.Pre capi.posits.stallhitch_p32e2_sub.Reads.Post
capi_sub_fixes = record { answers = λ κs a. tt; one = λ κs a x y u v p p'. (p ∙ sym p', refl) }

pub capi_mul_fixes : Fixes of_capi.posits.stallhitch_p32e2_mul.ended capi.posits.stallhitch_p32e2_mul.Reads.Pre capi.posits.stallhitch_p32e2_mul.Reads.Post
capi_mul_fixes = record { answers = λ κs a. tt; one = λ κs a x y u v p p'. (p ∙ sym p', refl) }

pub capi_div_fixes : Fixes of_capi.posits.stallhitch_p32e2_div.ended capi.posits.stallhitch_p32e2_div.Reads.Pre capi.posits.stallhitch_p32e2_div.Reads.Post
capi_div_fixes = record { answers = λ κs a. tt; one = λ κs a x y u v p p'. (p ∙ sym p', refl) }

pub capi_recip_fixes : Fixes of_capi.posits.stallhitch_p32e2_recip.ended capi.posits.stallhitch_p32e2_recip.Reads.Pre capi.posits.stallhitch_p32e2_recip.Reads.Post
capi_recip_fixes = record { answers = λ κs a. tt; one = λ κs a x y u v p p'. (p ∙ sym p', refl) }

pub capi_sqrt_fixes : Fixes of_capi.posits.stallhitch_p32e2_sqrt.ended capi.posits.stallhitch_p32e2_sqrt.Reads.Pre capi.posits.stallhitch_p32e2_sqrt.Reads.Post
capi_sqrt_fixes = record { answers = λ κs a. tt; one = λ κs a x y u v p p'. (p ∙ sym p', refl) }

pub capi_mul_add_fixes : Fixes of_capi.posits.stallhitch_p32e2_mul_add.ended capi.posits.stallhitch_p32e2_mul_add.Reads.Pre capi.posits.stallhitch_p32e2_mul_add.Reads.Post
capi_mul_add_fixes = record { answers = λ κs a. tt; one = λ κs a x y u v p p'. (p ∙ sym p', refl) }

pub capi_mul_sub_fixes : Fixes of_capi.posits.stallhitch_p32e2_mul_sub.ended capi.posits.stallhitch_p32e2_mul_sub.Reads.Pre capi.posits.stallhitch_p32e2_mul_sub.Reads.Post
capi_mul_sub_fixes = record { answers = λ κs a. tt; one = λ κs a x y u v p p'. (p ∙ sym p', refl) }

pub capi_sub_product_fixes : Fixes of_capi.posits.stallhitch_p32e2_sub_product.ended capi.posits.stallhitch_p32e2_sub_product.Reads.Pre capi.posits.stallhitch_p32e2_sub_product.Reads.Post
capi_sub_product_fixes = record { answers = λ κs a. tt; one = λ κs a x y u v p p'. (p ∙ sym p', refl) }

pub capi_q_clear_fixes : Fixes of_capi.accumulators.stallhitch_q32e2_clear.ended capi.accumulators.stallhitch_q32e2_clear.Reads.Pre capi.accumulators.stallhitch_q32e2_clear.Reads.Post
capi_q_clear_fixes = record { answers = λ κs a. tt; one = λ κs a x y u v p p'. (refl, λ i. ((p ∙ sym p') i, u.1)) }

pub capi_q_add_product_fixes : Fixes of_capi.accumulators.stallhitch_q32e2_add_product.ended capi.accumulators.stallhitch_q32e2_add_product.Reads.Pre capi.accumulators.stallhitch_q32e2_add_product.Reads.Post
capi_q_add_product_fixes = record { answers = λ κs a. tt; one = λ κs a x y u v p p'. (refl, λ i. ((p ∙ sym p') i, u.1)) }

pub capi_q_sub_product_fixes : Fixes of_capi.accumulators.stallhitch_q32e2_sub_product.ended capi.accumulators.stallhitch_q32e2_sub_product.Reads.Pre capi.accumulators.stallhitch_q32e2_sub_product.Reads.Post
capi_q_sub_product_fixes = record { answers = λ κs a. tt; one = λ κs a x y u v p p'. (refl, λ i. ((p ∙ sym p') i, u.1)) }

pub capi_q_add_posit_fixes : Fixes of_capi.accumulators.stallhitch_q32e2_add_posit.ended capi.accumulators.stallhitch_q32e2_add_posit.Reads.Pre capi.accumulators.stallhitch_q32e2_add_posit.Reads.Post
capi_q_add_posit_fixes = record { answers = λ κs a. tt; one = λ κs a x y u v p p'. (refl, λ i. ((p ∙ sym p') i, u.1)) }

pub capi_q_sub_posit_fixes : Fixes of_capi.accumulators.stallhitch_q32e2_sub_posit.ended capi.accumulators.stallhitch_q32e2_sub_posit.Reads.Pre capi.accumulators.stallhitch_q32e2_sub_posit.Reads.Post
capi_q_sub_posit_fixes = record { answers = λ κs a. tt; one = λ κs a x y u v p p'. (refl, λ i. ((p ∙ sym p') i, u.1)) }

pub capi_q_neg_fixes : Fixes of_capi.accumulators.stallhitch_q32e2_neg.ended capi.accumulators.stallhitch_q32e2_neg.Reads.Pre capi.accumulators.stallhitch_q32e2_neg.Reads.Post
capi_q_neg_fixes = record { answers = λ κs a. tt; one = λ κs a x y u v p p'. (refl, λ i. ((p ∙ sym p') i, u.1)) }

pub capi_q_abs_fixes : Fixes of_capi.accumulators.stallhitch_q32e2_qAbs.ended capi.accumulators.stallhitch_q32e2_qAbs.Reads.Pre capi.accumulators.stallhitch_q32e2_qAbs.Reads.Post
capi_q_abs_fixes = record { answers = λ κs a. tt; one = λ κs a x y u v p p'. (refl, λ i. ((p ∙ sym p') i, u.1)) }

pub capi_q_add_q_fixes : Fixes of_capi.accumulators.stallhitch_q32e2_qAddQ.ended capi.accumulators.stallhitch_q32e2_qAddQ.Reads.Pre capi.accumulators.stallhitch_q32e2_qAddQ.Reads.Post
capi_q_add_q_fixes = record { answers = λ κs a. tt; one = λ κs a x y u v p p'. (refl, λ i. ((p ∙ sym p') i, u.1)) }

pub capi_q_sub_q_fixes : Fixes of_capi.accumulators.stallhitch_q32e2_qSubQ.ended capi.accumulators.stallhitch_q32e2_qSubQ.Reads.Pre capi.accumulators.stallhitch_q32e2_qSubQ.Reads.Post
capi_q_sub_q_fixes = record { answers = λ κs a. tt; one = λ κs a x y u v p p'. (refl, λ i. ((p ∙ sym p') i, u.1)) }

pub capi_q_to_posit_fixes : Fixes of_capi.accumulators.stallhitch_q32e2_to_posit.ended capi.accumulators.stallhitch_q32e2_to_posit.Reads.Pre capi.accumulators.stallhitch_q32e2_to_posit.Reads.Post
capi_q_to_posit_fixes = record { answers = λ κs a. tt; one = λ κs a x y u v p p'. (p ∙ sym p', refl) }

pub capi_q_is_zero_fixes : Fixes of_capi.accumulators.stallhitch_q32e2_is_zero.ended capi.accumulators.stallhitch_q32e2_is_zero.Reads.Pre capi.accumulators.stallhitch_q32e2_is_zero.Reads.Post
capi_q_is_zero_fixes = record { answers = λ κs a. tt; one = λ κs a x y u v p p'. (p ∙ sym p', refl) }

pub capi_q_is_nar_fixes : Fixes of_capi.accumulators.stallhitch_q32e2_is_nar.ended capi.accumulators.stallhitch_q32e2_is_nar.Reads.Pre capi.accumulators.stallhitch_q32e2_is_nar.Reads.Post
capi_q_is_nar_fixes = record { answers = λ κs a. tt; one = λ κs a x y u v p p'. (p ∙ sym p', refl) }

pub capi_write_image_fixes : Fixes of_capi.claims.stallhitch_write_image.ended capi.claims.stallhitch_write_image.Reads.Pre capi.claims.stallhitch_write_image.Reads.Post
capi_write_image_fixes = record { answers = λ κs a. tt; one = λ κs a x y u v p p'. (p.0 ∙ sym p'.0, λ i. (u.0, ((p.1 ∙ sym p'.1) i, u.1.1))) }

pub capi_read_image_fixes : Fixes of_capi.claims.stallhitch_read_image.ended capi.claims.stallhitch_read_image.Reads.Pre capi.claims.stallhitch_read_image.Reads.Post
capi_read_image_fixes = record { answers = λ κs a. tt; one = λ κs a x y u v p p'. (p.0 ∙ sym p'.0, λ i. ((p.1 ∙ sym p'.1) i, u.1)) }

pub capi_add_batch_fixes : Fixes of_capi.claims.stallhitch_add_batch.ended capi.claims.stallhitch_add_batch.Reads.Pre capi.claims.stallhitch_add_batch.Reads.Post
capi_add_batch_fixes = record { answers = λ κs a. tt; one = λ κs a x y u v p p'. (p.0 ∙ sym p'.0, λ i. ((p.1 ∙ sym p'.1) i, u.1)) }

pub capi_check_claim_fixes : Fixes of_capi.claims.stallhitch_check_claim.ended capi.claims.stallhitch_check_claim.Reads.Pre capi.claims.stallhitch_check_claim.Reads.Post
capi_check_claim_fixes = record { answers = λ κs a. tt; one = λ κs a x y u v p p'. (p ∙ sym p', refl) }
