-- Wrong engines for functions that hand over to another function: each says what a neighbour of that function would, or does nothing. None meets the contract; the arguments on which it fails are computed by the definitions.
use mathlib.Core.Path.{◌≡◌, refl, ap}
use mathlib.Core.List.{List, [], ◌∷◌, map}
use Prim.Native.Nat.{ℕ, ◌+◌, ◌-◌, ◌%◌, ◌^◌}
use mir.Val.{bool_byte}
use lib.Dec.{eqb}
use lib.ListN.{length, get_or, take}
use Rattle.desk.proofs.Computing.{everything}
use Rattle.posit.specs.Digits.{number}
use Rattle.posit.specs.Pattern.{nar, opposite}
use Rattle.posit.specs.Operation.{sum, difference, product, quotient, fused_sum, fused_difference}
use Rattle.posit.specs.Accumulator.{is_not_real, is_clear, of_posit, of_product, plus, minus, negated, to_posit, words, from_words}
use Rattle.desk.specs.Desk.{after_batch}
use Rattle.unpacking.specs.declared.Unpacked.TheVariants.{Zero, NaR}
use Rattle.p32e2.specs.declared.P32E2.{P32E2}
use Rattle.quire_words.specs.Words.{wide}
use Rattle.quire_steps.specs.Sign.{sign_off}
use Rattle.desk.specs.declared.refusal.Refusal.TheVariants.{WrongLength, Differs}
use Rattle.one_answer.specs.Engines.{NoConstant, NotAlways, Never}
use Rattle.one_answer.proofs.Engines.{constant_fails, always_fails, never}
use Rattle.one_answer.proofs.Arguments.{bits, to, eight, bytes, held, lent, to_mut, lent_mut}
use Rattle.one_answer.proofs.Arithmetic.{unpacking_eq_fixes, p32e2_from_bits_fixes, p32e2_to_bits_fixes, p32e2_is_zero_fixes, p32e2_is_nar_fixes, p32e2_eq_fixes}
use Rattle.one_answer.proofs.Accumulator.{quire32_init_fixes, quire32_from_bits_fixes, quire32_from_posit_fixes, quire32_to_bits_fixes, quire32_to_posit_fixes, quire32_is_zero_fixes, quire32_is_nar_fixes, quire32_neg_fixes, quire32_q_abs_fixes, quire32_clear_fixes, quire32_into_two_posits_fixes, quire32_into_three_posits_fixes}
use Rattle.one_answer.proofs.Desk.{desk_refusal_eq_fixes}
use Rattle.one_answer.proofs.Linked.{capi_neg_fixes, capi_add_fixes, capi_sub_fixes, capi_mul_fixes, capi_div_fixes, capi_recip_fixes, capi_sqrt_fixes, capi_mul_add_fixes, capi_mul_sub_fixes, capi_sub_product_fixes, capi_q_clear_fixes, capi_q_add_product_fixes, capi_q_sub_product_fixes, capi_q_add_posit_fixes, capi_q_sub_posit_fixes, capi_q_neg_fixes, capi_q_abs_fixes, capi_q_add_q_fixes, capi_q_sub_q_fixes, capi_q_to_posit_fixes, capi_q_is_zero_fixes, capi_q_is_nar_fixes, capi_write_image_fixes, capi_read_image_fixes, capi_add_batch_fixes, capi_check_claim_fixes}

-- ---- P32E2: the same every time, or the other question
pub p32e2_from_bits_not_constant : NoConstant p32e2_from_bits_fixes (λ κs a r u. r.0)
p32e2_from_bits_not_constant = constant_fails _ (λ κs a x u p. p) tt (0, tt) (1, tt) tt tt tt

pub p32e2_to_bits_not_constant : NoConstant p32e2_to_bits_fixes (λ κs a r u. r)
p32e2_to_bits_not_constant = constant_fails _ (λ κs a x u p. p) tt (bits 0, tt) (bits 1, tt) tt tt tt

pub p32e2_is_zero_not_is_nar : Never p32e2_is_zero_fixes (λ κs a r u. bool_byte r) (λ κs a. bool_byte (eqb a.0.0 (nar 31)))
p32e2_is_zero_not_is_nar = never _ (λ κs a x u p. ap bool_byte p) tt (bits 0, tt) tt tt

pub p32e2_is_nar_not_is_zero : Never p32e2_is_nar_fixes (λ κs a r u. bool_byte r) (λ κs a. bool_byte (eqb a.0.0 0))
p32e2_is_nar_not_is_zero = never _ (λ κs a x u p. ap bool_byte p) tt (bits 0, tt) tt tt

-- ---- a derived `==`: the same every time, or a value is other than itself, as NaN is among floats
pub unpacking_eq_not_constant : NoConstant unpacking_eq_fixes.fixes (λ κs a r u. bool_byte r)
unfolding unpacking_eq_fixes
unpacking_eq_not_constant = constant_fails _ (λ κs a x u p. ap bool_byte p) ([], ([], tt)) (to NaR, (to NaR, tt)) (to NaR, (to Zero, tt)) tt tt tt

pub unpacking_eq_not_irreflexive : NotAlways unpacking_eq_fixes.fixes (λ κs a r u. bool_byte r) (λ κs a. a.0.now ≡ a.1.0.now) (λ κs a. 0)
unfolding unpacking_eq_fixes
unpacking_eq_not_irreflexive = always_fails _ (λ κs a x u p. ap bool_byte p) ([], ([], tt)) (to NaR, (to NaR, tt)) tt refl tt

pub p32e2_eq_not_constant : NoConstant p32e2_eq_fixes.fixes (λ κs a r u. bool_byte r)
unfolding p32e2_eq_fixes
p32e2_eq_not_constant = constant_fails _ (λ κs a x u p. ap bool_byte p) ([], ([], tt)) (to (bits 0x80000000), (to (bits 0x80000000), tt)) (to (bits 0x80000000), (to (bits 0), tt)) tt tt tt

pub p32e2_eq_not_irreflexive : NotAlways p32e2_eq_fixes.fixes (λ κs a r u. bool_byte r) (λ κs a. a.0.now ≡ a.1.0.now) (λ κs a. 0)
unfolding p32e2_eq_fixes
p32e2_eq_not_irreflexive = always_fails _ (λ κs a x u p. ap bool_byte p) ([], ([], tt)) (to (bits 0x80000000), (to (bits 0x80000000), tt)) tt refl tt

pub desk_refusal_eq_not_constant : NoConstant desk_refusal_eq_fixes.fixes (λ κs a r u. bool_byte r)
unfolding desk_refusal_eq_fixes
desk_refusal_eq_not_constant = constant_fails _ (λ κs a x u p. ap bool_byte p) ([], ([], tt)) (to WrongLength, (to WrongLength, tt)) (to WrongLength, (to Differs, tt)) tt tt tt

pub desk_refusal_eq_not_irreflexive : NotAlways desk_refusal_eq_fixes.fixes (λ κs a r u. bool_byte r) (λ κs a. a.0.now ≡ a.1.0.now) (λ κs a. 0)
unfolding desk_refusal_eq_fixes
desk_refusal_eq_not_irreflexive = always_fails _ (λ κs a x u p. ap bool_byte p) ([], ([], tt)) (to WrongLength, (to WrongLength, tt)) tt refl tt

-- ---- Q32E2
pub quire32_init_not_one : Never quire32_init_fixes (λ κs a r u. wide r.0) (λ κs a. 2 ^ 240)
unfolding everything
quire32_init_not_one = never _ (λ κs a x u p. ap wide p) tt tt tt tt

pub quire32_from_bits_not_clear : Never quire32_from_bits_fixes (λ κs a r u. wide r.0) (λ κs a. 0)
unfolding everything
quire32_from_bits_not_clear = never _ (λ κs a x u p. ap wide p) tt (eight 1, tt) tt tt

pub quire32_from_posit_not_opposite : Never quire32_from_posit_fixes (λ κs a r u. wide r.0) (λ κs a. wide (words 512 (of_posit 2 31 (opposite 31 a.0.0))))
unfolding everything
quire32_from_posit_not_opposite = never _ (λ κs a x u p. ap wide p) tt (bits 1, tt) tt tt

pub quire32_to_bits_not_clear : Never quire32_to_bits_fixes.fixes (λ κs a r u. wide r) (λ κs a. 0)
unfolding everything quire32_to_bits_fixes
quire32_to_bits_not_clear = never _ (λ κs a x u p. ap wide p) ([], tt) (lent 1, tt) tt tt

pub quire32_to_posit_not_opposite : Never quire32_to_posit_fixes.fixes (λ κs a r u. r.0) (λ κs a. to_posit 2 31 (negated (from_words 512 a.0.now.0)))
unfolding everything quire32_to_posit_fixes
quire32_to_posit_not_opposite = never _ (λ κs a x u p. p) ([], tt) (lent 1, tt) tt tt

pub quire32_is_zero_not_is_nar : Never quire32_is_zero_fixes.fixes (λ κs a r u. bool_byte r) (λ κs a. bool_byte (is_not_real (from_words 512 a.0.now.0)))
unfolding everything quire32_is_zero_fixes
quire32_is_zero_not_is_nar = never _ (λ κs a x u p. ap bool_byte p) ([], tt) (lent 0, tt) tt tt

pub quire32_is_nar_not_is_zero : Never quire32_is_nar_fixes.fixes (λ κs a r u. bool_byte r) (λ κs a. bool_byte (is_clear (from_words 512 a.0.now.0)))
unfolding everything quire32_is_nar_fixes
quire32_is_nar_not_is_zero = never _ (λ κs a x u p. ap bool_byte p) ([], tt) (lent 0, tt) tt tt

pub quire32_neg_not_idle : Never quire32_neg_fixes.fixes (λ κs a r u. wide u.0.0) (λ κs a. wide a.0.now.0)
unfolding everything quire32_neg_fixes
quire32_neg_not_idle = never _ (λ κs a x u p. ap wide p) ([], tt) (lent_mut 1, tt) tt tt

pub quire32_q_abs_not_idle : Never quire32_q_abs_fixes.fixes (λ κs a r u. wide u.0.0) (λ κs a. wide a.0.now.0)
unfolding everything sign_off quire32_q_abs_fixes
quire32_q_abs_not_idle = never _ (λ κs a x u p. ap wide p) ([], tt) (lent_mut (2 ^ 512 - 1), tt) tt tt

pub quire32_q_abs_not_neg : Never quire32_q_abs_fixes.fixes (λ κs a r u. wide u.0.0) (λ κs a. wide (words 512 (negated (from_words 512 a.0.now.0))))
unfolding everything sign_off quire32_q_abs_fixes
quire32_q_abs_not_neg = never _ (λ κs a x u p. ap wide p) ([], tt) (lent_mut 1, tt) tt tt

pub quire32_clear_not_idle : Never quire32_clear_fixes.fixes (λ κs a r u. wide u.0.0) (λ κs a. wide a.0.now.0)
unfolding everything quire32_clear_fixes
quire32_clear_not_idle = never _ (λ κs a x u p. ap wide p) ([], tt) (lent_mut 1, tt) tt tt

-- the last part is zero every time
pub quire32_into_two_posits_not_one : Never quire32_into_two_posits_fixes (λ κs a r u. get_or (map (λ (p : P32E2). p.0) r) 1 0) (λ κs a. 0)
unfolding everything
quire32_into_two_posits_not_one = never _ (λ κs a x u p. ap (λ (l : List ℕ). get_or l 1 0) p) tt (held (2 ^ 240 + 1), tt) tt tt

pub quire32_into_three_posits_not_two : Never quire32_into_three_posits_fixes (λ κs a r u. get_or (map (λ (p : P32E2). p.0) r) 2 0) (λ κs a. 0)
unfolding everything
quire32_into_three_posits_not_two = never _ (λ κs a x u p. ap (λ (l : List ℕ). get_or l 2 0) p) tt (held (2 ^ 240 + 1), tt) tt tt

-- ---- what C and Rust link: posits
pub capi_neg_not_idle : Never capi_neg_fixes (λ κs a r u. r) (λ κs a. a.0)
unfolding everything
capi_neg_not_idle = never _ (λ κs a x u p. p) tt (1, tt) tt tt

pub capi_add_not_sub : Never capi_add_fixes (λ κs a r u. r) (λ κs a. difference 2 31 a.0 a.1.0)
unfolding everything
capi_add_not_sub = never _ (λ κs a x u p. p) tt (1, (1, tt)) tt tt

pub capi_sub_not_turned : Never capi_sub_fixes (λ κs a r u. r) (λ κs a. difference 2 31 a.1.0 a.0)
unfolding everything
capi_sub_not_turned = never _ (λ κs a x u p. p) tt (1, (0, tt)) tt tt

pub capi_mul_not_add : Never capi_mul_fixes (λ κs a r u. r) (λ κs a. sum 2 31 a.0 a.1.0)
unfolding everything
capi_mul_not_add = never _ (λ κs a x u p. p) tt (1, (0, tt)) tt tt

pub capi_div_not_turned : Never capi_div_fixes (λ κs a r u. r) (λ κs a. quotient 2 31 a.1.0 a.0)
unfolding everything
capi_div_not_turned = never _ (λ κs a x u p. p) tt (1, (0, tt)) tt tt

pub capi_recip_not_idle : Never capi_recip_fixes (λ κs a r u. r) (λ κs a. a.0)
unfolding everything
capi_recip_not_idle = never _ (λ κs a x u p. p) tt (0, tt) tt tt

pub capi_sqrt_not_idle : Never capi_sqrt_fixes (λ κs a r u. r) (λ κs a. a.0)
unfolding everything
capi_sqrt_not_idle = never _ (λ κs a x u p. p) tt (2 ^ 32 - 1, tt) tt tt

-- the least square taken from itself: rounded before, nothing is left
pub capi_mul_add_not_twice_rounded : Never capi_mul_add_fixes (λ κs a r u. r) (λ κs a. sum 2 31 (product 2 31 a.0 a.1.0) a.1.1.0)
unfolding everything
capi_mul_add_not_twice_rounded = never _ (λ κs a x u p. p) tt (1, (1, (2 ^ 32 - 1, tt))) tt tt

pub capi_mul_sub_not_mul_add : Never capi_mul_sub_fixes (λ κs a r u. r) (λ κs a. fused_sum 2 31 a.0 a.1.0 a.1.1.0)
unfolding everything
capi_mul_sub_not_mul_add = never _ (λ κs a x u p. p) tt (0, (0, (1, tt))) tt tt

pub capi_sub_product_not_turned : Never capi_sub_product_fixes (λ κs a r u. r) (λ κs a. fused_difference 2 31 a.1.0 a.1.1.0 a.0)
unfolding everything
capi_sub_product_not_turned = never _ (λ κs a x u p. p) tt (1, (0, (0, tt))) tt tt

-- ---- accumulators
pub capi_q_clear_not_idle : Never capi_q_clear_fixes (λ κs a r u. wide u.0) (λ κs a. wide a.0.now)
unfolding everything
capi_q_clear_not_idle = never _ (λ κs a x u p. ap wide p) ([], tt) (to_mut (eight 1), tt) tt tt

pub capi_q_add_product_not_sub : Never capi_q_add_product_fixes (λ κs a r u. wide u.0) (λ κs a. wide (words 512 (minus 512 (from_words 512 a.0.now) (of_product 2 31 a.1.0 a.1.1.0))))
unfolding everything
capi_q_add_product_not_sub = never _ (λ κs a x u p. ap wide p) ([], tt) (to_mut (eight 0), (1, (1, tt))) tt tt

pub capi_q_sub_product_not_add : Never capi_q_sub_product_fixes (λ κs a r u. wide u.0) (λ κs a. wide (words 512 (plus 512 (from_words 512 a.0.now) (of_product 2 31 a.1.0 a.1.1.0))))
unfolding everything
capi_q_sub_product_not_add = never _ (λ κs a x u p. ap wide p) ([], tt) (to_mut (eight 0), (1, (1, tt))) tt tt

pub capi_q_add_posit_not_sub : Never capi_q_add_posit_fixes (λ κs a r u. wide u.0) (λ κs a. wide (words 512 (minus 512 (from_words 512 a.0.now) (of_posit 2 31 a.1.0))))
unfolding everything
capi_q_add_posit_not_sub = never _ (λ κs a x u p. ap wide p) ([], tt) (to_mut (eight 0), (1, tt)) tt tt

pub capi_q_sub_posit_not_add : Never capi_q_sub_posit_fixes (λ κs a r u. wide u.0) (λ κs a. wide (words 512 (plus 512 (from_words 512 a.0.now) (of_posit 2 31 a.1.0))))
unfolding everything
capi_q_sub_posit_not_add = never _ (λ κs a x u p. ap wide p) ([], tt) (to_mut (eight 0), (1, tt)) tt tt

pub capi_q_neg_not_idle : Never capi_q_neg_fixes (λ κs a r u. wide u.0) (λ κs a. wide a.0.now)
unfolding everything
capi_q_neg_not_idle = never _ (λ κs a x u p. ap wide p) ([], tt) (to_mut (eight 1), tt) tt tt

pub capi_q_abs_not_idle : Never capi_q_abs_fixes (λ κs a r u. wide u.0) (λ κs a. wide a.0.now)
unfolding everything sign_off
capi_q_abs_not_idle = never _ (λ κs a x u p. ap wide p) ([], tt) (to_mut (eight (2 ^ 512 - 1)), tt) tt tt

pub capi_q_abs_not_neg : Never capi_q_abs_fixes (λ κs a r u. wide u.0) (λ κs a. wide (words 512 (negated (from_words 512 a.0.now))))
unfolding everything sign_off
capi_q_abs_not_neg = never _ (λ κs a x u p. ap wide p) ([], tt) (to_mut (eight 1), tt) tt tt

pub capi_q_add_q_not_sub : Never capi_q_add_q_fixes (λ κs a r u. wide u.0) (λ κs a. wide (words 512 (minus 512 (from_words 512 a.0.now) (from_words 512 a.1.0.now))))
unfolding everything
capi_q_add_q_not_sub = never _ (λ κs a x u p. ap wide p) ([], ([], tt)) (to_mut (eight 0), (to (eight 1), tt)) tt tt

pub capi_q_sub_q_not_add : Never capi_q_sub_q_fixes (λ κs a r u. wide u.0) (λ κs a. wide (words 512 (plus 512 (from_words 512 a.0.now) (from_words 512 a.1.0.now))))
unfolding everything
capi_q_sub_q_not_add = never _ (λ κs a x u p. ap wide p) ([], ([], tt)) (to_mut (eight 0), (to (eight 1), tt)) tt tt

-- the range forgotten: the largest total, joined with itself, would be -2
pub capi_q_add_q_not_wrapped : Never capi_q_add_q_fixes (λ κs a r u. wide u.0) (λ κs a. (wide a.0.now + wide a.1.0.now) % 2 ^ 512)
unfolding everything
capi_q_add_q_not_wrapped = never _ (λ κs a x u p. ap wide p) ([], ([], tt)) (to_mut (eight (2 ^ 511 - 1)), (to (eight (2 ^ 511 - 1)), tt)) tt tt

pub capi_q_to_posit_not_opposite : Never capi_q_to_posit_fixes (λ κs a r u. r) (λ κs a. to_posit 2 31 (negated (from_words 512 a.0.now)))
unfolding everything
capi_q_to_posit_not_opposite = never _ (λ κs a x u p. p) ([], tt) (to (eight 1), tt) tt tt

pub capi_q_is_zero_not_is_nar : Never capi_q_is_zero_fixes (λ κs a r u. bool_byte r) (λ κs a. bool_byte (is_not_real (from_words 512 a.0.now)))
unfolding everything
capi_q_is_zero_not_is_nar = never _ (λ κs a x u p. ap bool_byte p) ([], tt) (to (eight 0), tt) tt tt

pub capi_q_is_nar_not_is_zero : Never capi_q_is_nar_fixes (λ κs a r u. bool_byte r) (λ κs a. bool_byte (is_clear (from_words 512 a.0.now)))
unfolding everything
capi_q_is_nar_not_is_zero = never _ (λ κs a x u p. ap bool_byte p) ([], tt) (to (eight 0), tt) tt tt

-- ---- claims
pub capi_write_image_not_idle : Never capi_write_image_fixes (λ κs a r u. number 256 u.1.0) (λ κs a. number 256 a.1.0.now)
unfolding everything
capi_write_image_not_idle = never _ (λ κs a x u p. ap (number 256) p.1) ([], ([], tt)) (to (eight 0), (to_mut (bytes 1), tt)) tt tt

pub capi_read_image_not_idle : Never capi_read_image_fixes (λ κs a r u. wide u.0) (λ κs a. wide a.0.now)
unfolding everything
capi_read_image_not_idle = never _ (λ κs a x u p. ap wide p.1) ([], ([], tt)) (to_mut (eight 0), (to (bytes 1), tt)) tt tt

pub capi_add_batch_not_first_only : Never capi_add_batch_fixes (λ κs a r u. wide u.0) (λ κs a. wide (words 512 (after_batch 2 31 512 (from_words 512 a.0.now) (take 1 a.1.0.now) (take 1 a.1.1.0.now))))
unfolding everything
capi_add_batch_not_first_only = never _ (λ κs a x u p. ap wide p.1) ([], ([], ([], tt))) (to_mut (eight 0), (to (1 ∷ 1 ∷ []), (to (1 ∷ 1 ∷ []), tt))) tt tt

pub capi_check_claim_not_lax : NotAlways capi_check_claim_fixes (λ κs a r u. r) (λ κs a. length a.1.1.0.now ≡ 64) (λ κs a. 0)
unfolding everything
capi_check_claim_not_lax = always_fails _ (λ κs a x u p. p) ([], ([], ([], tt))) (to [], (to [], (to (bytes 1), tt))) tt refl tt
