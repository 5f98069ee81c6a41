-- The wrong engines, each against the contracts that it would have to meet. The arguments on which it fails are computed by the definitions.
use mathlib.Core.Path.{◌≡◌, refl, ap}
use mathlib.Core.List.{[], ◌∷◌}
use mathlib.Core.Logic.{◌≢◌}
use Prim.Native.Nat.{◌^◌}
use lib.Dec.{T, ltb}
use lib.ListN.{length, take}
use Rattle.desk.proofs.Computing.{everything}
use Rattle.posit.specs.Pattern.{nar}
use Rattle.posit.specs.Digits.{number}
use Rattle.posit.specs.Accumulator.{words, from_words}
use Rattle.desk.specs.Desk.{after_batch}
use Rattle.quire_words.specs.Words.{wide}
use Rattle.std.specs.Prelude.{Ok, Err}
use Rattle.desk.specs.Answers.{number_of, after}
use Rattle.desk.specs.declared.refusal.Refusal.TheVariants.{WrongLength, Differs}
use Rattle.one_answer.specs.Engines.{NoConstant, NotAlways, Never, NotAsking, NotAskingLent}
use Rattle.one_answer.proofs.Engines.{differ, constant_fails, always_fails, never, asking_fails, asking_lent_fails}
use Rattle.one_answer.proofs.Arguments.{bits, to, eight, bytes, held, lent, to_mut, lent_mut}
use Rattle.one_answer.proofs.Arithmetic.{p32e2_neg_fixes, p32e2_add_fixes, p32e2_sub_fixes, p32e2_mul_fixes, p32e2_div_fixes, p32e2_recip_fixes, p32e2_sqrt_fixes, p32e2_mul_add_fixes, p32e2_mul_sub_fixes, p32e2_sub_product_fixes}
use Rattle.one_answer.proofs.Accumulator.{quire_steps_add_product_fixes, quire_steps_sub_product_fixes, quire_steps_add_posit_fixes, quire_steps_sub_posit_fixes, quire_steps_neg_fixes, quire_steps_q_add_q_fixes, quire_steps_q_sub_q_fixes, quire_steps_from_posit_fixes, quire_totals_to_posit_fixes, quire32_add_product_fixes, quire32_sub_product_fixes, quire32_add_posit_fixes, quire32_sub_posit_fixes, quire32_q_add_q_fixes, quire32_q_sub_q_fixes}
use Rattle.one_answer.proofs.Desk.{desk_image_of_fixes, desk_write_image_fixes, desk_read_image_fixes, desk_add_batch_fixes, desk_check_claim_fixes, desk_number_fixes, desk_number_of_fixes, desk_lent_write_image_fixes, desk_lent_read_image_fixes, desk_lent_add_batch_fixes}
use Rattle.one_answer.proofs.Linked.{capi_neg_fixes}

-- ---- the same every time: NaR, or a posit, or anything else
pub p32e2_neg_not_constant : NoConstant p32e2_neg_fixes (λ κs a r u. r.0)
unfolding everything
p32e2_neg_not_constant = constant_fails _ (λ κs a x u p. p) tt (bits 0, tt) (bits 1, tt) tt tt tt

pub p32e2_add_not_constant : NoConstant p32e2_add_fixes (λ κs a r u. r.0)
unfolding everything
p32e2_add_not_constant = constant_fails _ (λ κs a x u p. p) tt (bits 0, (bits 0, tt)) (bits 0x80000000, (bits 0, tt)) tt tt tt

pub p32e2_sub_not_constant : NoConstant p32e2_sub_fixes (λ κs a r u. r.0)
unfolding everything
p32e2_sub_not_constant = constant_fails _ (λ κs a x u p. p) tt (bits 0, (bits 0, tt)) (bits 0x80000000, (bits 0, tt)) tt tt tt

pub p32e2_mul_not_constant : NoConstant p32e2_mul_fixes (λ κs a r u. r.0)
unfolding everything
p32e2_mul_not_constant = constant_fails _ (λ κs a x u p. p) tt (bits 0, (bits 0, tt)) (bits 0x80000000, (bits 0, tt)) tt tt tt

pub p32e2_div_not_constant : NoConstant p32e2_div_fixes (λ κs a r u. r.0)
unfolding everything
p32e2_div_not_constant = constant_fails _ (λ κs a x u p. p) tt (bits 0, (bits 0x40000000, tt)) (bits 0, (bits 0, tt)) tt tt tt

pub p32e2_recip_not_constant : NoConstant p32e2_recip_fixes (λ κs a r u. r.0)
unfolding everything
p32e2_recip_not_constant = constant_fails _ (λ κs a x u p. p) tt (bits 0x40000000, tt) (bits 0, tt) tt tt tt

pub p32e2_sqrt_not_constant : NoConstant p32e2_sqrt_fixes (λ κs a r u. r.0)
unfolding everything
p32e2_sqrt_not_constant = constant_fails _ (λ κs a x u p. p) tt (bits 0, tt) (bits 0xc0000000, tt) tt tt tt

pub p32e2_mul_add_not_constant : NoConstant p32e2_mul_add_fixes (λ κs a r u. r.0)
unfolding everything
p32e2_mul_add_not_constant = constant_fails _ (λ κs a x u p. p) tt (bits 0, (bits 0, (bits 0, tt))) (bits 0x80000000, (bits 0, (bits 0, tt))) tt tt tt

pub p32e2_mul_sub_not_constant : NoConstant p32e2_mul_sub_fixes (λ κs a r u. r.0)
unfolding everything
p32e2_mul_sub_not_constant = constant_fails _ (λ κs a x u p. p) tt (bits 0, (bits 0, (bits 0, tt))) (bits 0x80000000, (bits 0, (bits 0, tt))) tt tt tt

pub p32e2_sub_product_not_constant : NoConstant p32e2_sub_product_fixes (λ κs a r u. r.0)
unfolding everything
p32e2_sub_product_not_constant = constant_fails _ (λ κs a x u p. p) tt (bits 0, (bits 0, (bits 0, tt))) (bits 0x80000000, (bits 0, (bits 0, tt))) tt tt tt

pub quire_steps_add_product_not_constant : NoConstant quire_steps_add_product_fixes (λ κs a r u. wide r)
unfolding everything
quire_steps_add_product_not_constant = constant_fails _ (λ κs a x u p. ap wide p) tt (eight 0, (bits 0, (bits 0, tt))) (eight 0, (bits 0x80000000, (bits 0, tt))) tt tt tt

pub quire_steps_sub_product_not_constant : NoConstant quire_steps_sub_product_fixes (λ κs a r u. wide r)
unfolding everything
quire_steps_sub_product_not_constant = constant_fails _ (λ κs a x u p. ap wide p) tt (eight 0, (bits 0, (bits 0, tt))) (eight 0, (bits 0x80000000, (bits 0, tt))) tt tt tt

pub quire_steps_add_posit_not_constant : NoConstant quire_steps_add_posit_fixes (λ κs a r u. wide r)
unfolding everything
quire_steps_add_posit_not_constant = constant_fails _ (λ κs a x u p. ap wide p) tt (eight 0, (bits 0, tt)) (eight 0, (bits 0x80000000, tt)) tt tt tt

pub quire_steps_sub_posit_not_constant : NoConstant quire_steps_sub_posit_fixes (λ κs a r u. wide r)
unfolding everything
quire_steps_sub_posit_not_constant = constant_fails _ (λ κs a x u p. ap wide p) tt (eight 0, (bits 0, tt)) (eight 0, (bits 0x80000000, tt)) tt tt tt

pub quire_steps_neg_not_constant : NoConstant quire_steps_neg_fixes (λ κs a r u. wide r)
unfolding everything
quire_steps_neg_not_constant = constant_fails _ (λ κs a x u p. ap wide p) tt (eight 0, tt) (eight 1, tt) tt tt tt

pub quire_steps_from_posit_not_constant : NoConstant quire_steps_from_posit_fixes (λ κs a r u. wide r)
unfolding everything
quire_steps_from_posit_not_constant = constant_fails _ (λ κs a x u p. ap wide p) tt (bits 0, tt) (bits 0x80000000, tt) tt tt tt

pub quire_totals_to_posit_not_constant : NoConstant quire_totals_to_posit_fixes (λ κs a r u. r.0)
unfolding everything
quire_totals_to_posit_not_constant = constant_fails _ (λ κs a x u p. p) tt (eight 0, tt) (eight (2 ^ 511), tt) tt tt tt

pub desk_image_of_not_constant : NoConstant desk_image_of_fixes (λ κs a r u. number 256 r)
unfolding everything
desk_image_of_not_constant = constant_fails _ (λ κs a x u p. ap (number 256) p) tt (eight 0, tt) (eight 1, tt) tt tt tt

-- ---- the same number of the desk every time, 0 or another
pub desk_write_image_not_constant : NoConstant desk_write_image_fixes (λ κs a r u. number_of r)
unfolding everything
desk_write_image_not_constant = constant_fails _ (λ κs a x u p. p.0) ([], tt) (eight 0, (to_mut [], tt)) (eight 0, (to_mut (bytes 0), tt)) tt tt tt

pub desk_read_image_not_constant : NoConstant desk_read_image_fixes (λ κs a r u. number_of r)
unfolding everything
desk_read_image_not_constant = constant_fails _ (λ κs a x u p. p.0) ([], tt) (eight 0, (to [], tt)) (eight 0, (to (bytes 0), tt)) tt tt tt

pub desk_add_batch_not_constant : NoConstant desk_add_batch_fixes (λ κs a r u. number_of r)
unfolding everything
desk_add_batch_not_constant = constant_fails _ (λ κs a x u p. p.0) ([], ([], tt)) (eight 0, (to [], (to [], tt))) (eight 0, (to (0 ∷ []), (to [], tt))) tt tt tt

pub desk_check_claim_not_constant : NoConstant desk_check_claim_fixes (λ κs a r u. number_of r)
unfolding everything
desk_check_claim_not_constant = constant_fails _ (λ κs a x u p. p) ([], ([], ([], tt))) (to [], (to [], (to (bytes 0), tt))) (to [], (to [], (to [], tt))) tt tt tt

-- the same number for every refusal
pub desk_number_not_constant : NoConstant desk_number_fixes (λ κs a r u. r)
desk_number_not_constant = constant_fails _ (λ κs a x u p. p) tt (WrongLength, tt) (Differs, tt) tt tt tt

-- the same number for every answer, refused or not
pub desk_number_of_not_constant : NoConstant desk_number_of_fixes (λ κs a r u. r)
desk_number_of_not_constant = constant_fails _ (λ κs a x u p. p) tt (Ok tt, tt) (Err Differs, tt) tt tt tt

-- ---- a claim check that accepts every claim of the right length
pub desk_check_claim_not_lax : NotAlways desk_check_claim_fixes (λ κs a r u. number_of r) (λ κs a. length a.1.1.0.now ≡ 64) (λ κs a. 0)
unfolding everything
desk_check_claim_not_lax = always_fails _ (λ κs a x u p. p) ([], ([], ([], tt))) (to [], (to [], (to (bytes 1), tt))) tt refl tt

-- ---- an accumulator that never moves, or that takes the first step from zero and then idles
pub quire_steps_add_product_not_idle : NotAlways quire_steps_add_product_fixes (λ κs a r u. wide r) (λ κs a. T (ltb 0 (wide a.0))) (λ κs a. wide a.0)
unfolding everything
quire_steps_add_product_not_idle = always_fails _ (λ κs a x u p. ap wide p) tt (eight 1, (bits 1, (bits 1, tt))) tt tt tt

pub quire_steps_sub_product_not_idle : NotAlways quire_steps_sub_product_fixes (λ κs a r u. wide r) (λ κs a. T (ltb 0 (wide a.0))) (λ κs a. wide a.0)
unfolding everything
quire_steps_sub_product_not_idle = always_fails _ (λ κs a x u p. ap wide p) tt (eight 1, (bits 1, (bits 1, tt))) tt tt tt

pub quire_steps_add_posit_not_idle : NotAlways quire_steps_add_posit_fixes (λ κs a r u. wide r) (λ κs a. T (ltb 0 (wide a.0))) (λ κs a. wide a.0)
unfolding everything
quire_steps_add_posit_not_idle = always_fails _ (λ κs a x u p. ap wide p) tt (eight 1, (bits 1, tt)) tt tt tt

pub quire_steps_sub_posit_not_idle : NotAlways quire_steps_sub_posit_fixes (λ κs a r u. wide r) (λ κs a. T (ltb 0 (wide a.0))) (λ κs a. wide a.0)
unfolding everything
quire_steps_sub_posit_not_idle = always_fails _ (λ κs a x u p. ap wide p) tt (eight 1, (bits 1, tt)) tt tt tt

pub quire_steps_q_add_q_not_idle : NotAlways quire_steps_q_add_q_fixes (λ κs a r u. wide r) (λ κs a. T (ltb 0 (wide a.0))) (λ κs a. wide a.0)
unfolding everything
quire_steps_q_add_q_not_idle = always_fails _ (λ κs a x u p. ap wide p) tt (eight 1, (eight 1, tt)) tt tt tt

pub quire_steps_q_sub_q_not_idle : NotAlways quire_steps_q_sub_q_fixes (λ κs a r u. wide r) (λ κs a. T (ltb 0 (wide a.0))) (λ κs a. wide a.0)
unfolding everything
quire_steps_q_sub_q_not_idle = always_fails _ (λ κs a x u p. ap wide p) tt (eight 1, (eight 1, tt)) tt tt tt

pub quire32_add_product_not_idle : NotAlways quire32_add_product_fixes.fixes (λ κs a r u. wide u.0.0) (λ κs a. T (ltb 0 (wide a.0.now.0))) (λ κs a. wide a.0.now.0)
unfolding everything quire32_add_product_fixes
quire32_add_product_not_idle = always_fails _ (λ κs a x u p. ap wide p) ([], tt) (lent_mut 1, (bits 1, (bits 1, tt))) tt tt tt

pub quire32_sub_product_not_idle : NotAlways quire32_sub_product_fixes.fixes (λ κs a r u. wide u.0.0) (λ κs a. T (ltb 0 (wide a.0.now.0))) (λ κs a. wide a.0.now.0)
unfolding everything quire32_sub_product_fixes
quire32_sub_product_not_idle = always_fails _ (λ κs a x u p. ap wide p) ([], tt) (lent_mut 1, (bits 1, (bits 1, tt))) tt tt tt

pub quire32_add_posit_not_idle : NotAlways quire32_add_posit_fixes.fixes (λ κs a r u. wide u.0.0) (λ κs a. T (ltb 0 (wide a.0.now.0))) (λ κs a. wide a.0.now.0)
unfolding everything quire32_add_posit_fixes
quire32_add_posit_not_idle = always_fails _ (λ κs a x u p. ap wide p) ([], tt) (lent_mut 1, (bits 1, tt)) tt tt tt

pub quire32_sub_posit_not_idle : NotAlways quire32_sub_posit_fixes.fixes (λ κs a r u. wide u.0.0) (λ κs a. T (ltb 0 (wide a.0.now.0))) (λ κs a. wide a.0.now.0)
unfolding everything quire32_sub_posit_fixes
quire32_sub_posit_not_idle = always_fails _ (λ κs a x u p. ap wide p) ([], tt) (lent_mut 1, (bits 1, tt)) tt tt tt

pub quire32_q_add_q_not_idle : NotAlways quire32_q_add_q_fixes.fixes (λ κs a r u. wide u.0.0) (λ κs a. T (ltb 0 (wide a.0.now.0))) (λ κs a. wide a.0.now.0)
unfolding everything quire32_q_add_q_fixes
quire32_q_add_q_not_idle = always_fails _ (λ κs a x u p. ap wide p) ([], tt) (lent_mut 1, (held 1, tt)) tt tt tt

pub quire32_q_sub_q_not_idle : NotAlways quire32_q_sub_q_fixes.fixes (λ κs a r u. wide u.0.0) (λ κs a. T (ltb 0 (wide a.0.now.0))) (λ κs a. wide a.0.now.0)
unfolding everything quire32_q_sub_q_fixes
quire32_q_sub_q_not_idle = always_fails _ (λ κs a x u p. ap wide p) ([], tt) (lent_mut 1, (held 1, tt)) tt tt tt

-- ---- a batch that adds nothing, or the first pair only
pub desk_add_batch_not_idle : Never desk_add_batch_fixes (λ κs a r u. wide (after 512 (from_words 512 a.0) r)) (λ κs a. wide a.0)
unfolding everything
desk_add_batch_not_idle = never _ (λ κs a x u p. ap wide p.1) ([], ([], tt)) (eight 0, (to (1 ∷ 1 ∷ []), (to (1 ∷ 1 ∷ []), tt))) tt tt

pub desk_add_batch_not_first_only : Never desk_add_batch_fixes (λ κs a r u. wide (after 512 (from_words 512 a.0) r)) (λ κs a. wide (words 512 (after_batch 2 31 512 (from_words 512 a.0) (take 1 a.1.0.now) (take 1 a.1.1.0.now))))
unfolding everything
desk_add_batch_not_first_only = never _ (λ κs a x u p. ap wide p.1) ([], ([], tt)) (eight 0, (to (1 ∷ 1 ∷ []), (to (1 ∷ 1 ∷ []), tt))) tt tt

-- ---- an image writer that writes nothing, and a reader that reads nothing
pub desk_write_image_not_idle : Never desk_write_image_fixes (λ κs a r u. number 256 u.1.0) (λ κs a. number 256 a.1.0.now)
unfolding everything
desk_write_image_not_idle = never _ (λ κs a x u p. ap (number 256) p.1) ([], tt) (eight 0, (to_mut (bytes 1), tt)) tt tt

pub desk_read_image_not_idle : Never desk_read_image_fixes (λ κs a r u. wide (after 512 (from_words 512 a.0) r)) (λ κs a. wide a.0)
unfolding everything
desk_read_image_not_idle = never _ (λ κs a x u p. ap wide p.1) ([], tt) (eight 0, (to (bytes 1), tt)) tt tt

-- ---- the same of the functions that are lent the accumulator
pub desk_lent_write_image_not_idle : Never desk_lent_write_image_fixes.fixes (λ κs a r u. number 256 u.1.0) (λ κs a. number 256 a.1.0.now)
unfolding everything desk_lent_write_image_fixes
desk_lent_write_image_not_idle = never _ (λ κs a x u p. ap (number 256) p.1) ([], ([], tt)) (lent 0, (to_mut (bytes 1), tt)) tt tt

pub desk_lent_read_image_not_idle : Never desk_lent_read_image_fixes.fixes (λ κs a r u. wide u.0.0) (λ κs a. wide a.0.now.0)
unfolding everything desk_lent_read_image_fixes
desk_lent_read_image_not_idle = never _ (λ κs a x u p. ap wide p.1) ([], ([], tt)) (lent_mut 0, (to (bytes 1), tt)) tt tt

pub desk_lent_add_batch_not_idle : Never desk_lent_add_batch_fixes.fixes (λ κs a r u. wide u.0.0) (λ κs a. wide a.0.now.0)
unfolding everything desk_lent_add_batch_fixes
desk_lent_add_batch_not_idle = never _ (λ κs a x u p. ap wide p.1) ([], ([], ([], tt))) (lent_mut 0, (to (1 ∷ 1 ∷ []), (to (1 ∷ 1 ∷ []), tt))) tt tt

pub desk_lent_add_batch_not_first_only : Never desk_lent_add_batch_fixes.fixes (λ κs a r u. wide u.0.0) (λ κs a. wide (words 512 (after_batch 2 31 512 (from_words 512 a.0.now.0) (take 1 a.1.0.now) (take 1 a.1.1.0.now))))
unfolding everything desk_lent_add_batch_fixes
desk_lent_add_batch_not_first_only = never _ (λ κs a x u p. ap wide p.1) ([], ([], ([], tt))) (lent_mut 0, (to (1 ∷ 1 ∷ []), (to (1 ∷ 1 ∷ []), tt))) tt tt

-- ---- one that asks its caller for something: a pattern, a divisor, a radicand, operands, a length
pub capi_neg_not_asking : NotAsking capi_neg_fixes (λ κs a. a.0 ≡ 0)
capi_neg_not_asking = asking_fails tt (1, tt) (λ asked. differ {m = 1} {n = 0} tt asked)

pub p32e2_div_not_asking : NotAsking p32e2_div_fixes (λ κs a. a.1.0.0 ≢ 0)
p32e2_div_not_asking = asking_fails tt (bits 1, (bits 0, tt)) (λ asked. asked refl)

pub p32e2_sqrt_not_asking : NotAsking p32e2_sqrt_fixes (λ κs a. T (ltb a.0.0 (2 ^ 31)))
p32e2_sqrt_not_asking = asking_fails tt (bits 0xc0000000, tt) (λ asked. asked)

pub quire_steps_add_product_not_asking : NotAsking quire_steps_add_product_fixes (λ κs a. a.1.0.0 ≢ nar 31)
quire_steps_add_product_not_asking = asking_fails tt (eight 0, (bits 0x80000000, (bits 0, tt))) (λ asked. asked refl)

pub desk_write_image_not_asking : NotAsking desk_write_image_fixes (λ κs a. length a.1.0.now ≡ 64)
desk_write_image_not_asking = asking_fails ([], tt) (eight 0, (to_mut [], tt)) (λ asked. differ {m = 0} {n = 64} tt asked)

pub desk_read_image_not_asking : NotAsking desk_read_image_fixes (λ κs a. length a.1.0.now ≡ 64)
desk_read_image_not_asking = asking_fails ([], tt) (eight 0, (to [], tt)) (λ asked. differ {m = 0} {n = 64} tt asked)

pub desk_add_batch_not_asking : NotAsking desk_add_batch_fixes (λ κs a. length a.1.0.now ≡ length a.1.1.0.now)
desk_add_batch_not_asking = asking_fails ([], ([], tt)) (eight 0, (to (0 ∷ []), (to [], tt))) (λ asked. differ {m = 1} {n = 0} tt asked)

pub desk_check_claim_not_asking : NotAsking desk_check_claim_fixes (λ κs a. length a.1.1.0.now ≡ 64)
desk_check_claim_not_asking = asking_fails ([], ([], ([], tt))) (to [], (to [], (to [], tt))) (λ asked. differ {m = 0} {n = 64} tt asked)

-- and lent
pub quire32_add_posit_not_asking : NotAskingLent quire32_add_posit_fixes (λ κs a. a.1.0.0 ≢ nar 31)
quire32_add_posit_not_asking = asking_lent_fails ([], tt) (lent_mut 0, (bits 0x80000000, tt)) (λ asked. asked refl)

pub desk_lent_read_image_not_asking : NotAskingLent desk_lent_read_image_fixes (λ κs a. length a.1.0.now ≡ 64)
desk_lent_read_image_not_asking = asking_lent_fails ([], ([], tt)) (lent_mut 0, (to [], tt)) (λ asked. differ {m = 0} {n = 64} tt asked)
