-- One promise, one answer, of every public function on the accumulator. The statement is `Fixes` (Fixes.antt); p and p' say that two results meet the contract.
use mathlib.Core.Path.{refl, sym, ◌∙◌}
use borrow.Author.Rules.{rules}
use Rattle.one_answer.specs.Fixes.{Fixes, FixesTyped, FixesLent}
use Rattle.one_answer.proofs.Determined.{same_sum, same_words, same_posits}
use Rattle.quire_words.specs.contracts as of_quire_words
use Rattle.quire_words.proofs as quire_words
use Rattle.quire_steps.specs.contracts as of_quire_steps
use Rattle.quire_steps.proofs as quire_steps
use Rattle.quire_totals.specs.contracts as of_quire_totals
use Rattle.quire_totals.proofs as quire_totals
use Rattle.quire32.specs.contracts as of_quire32
use Rattle.quire32.proofs as quire32

-- ---- quire_words: where the number alone is told, it determines words of 64 bits
pub quire_words_add_word_fixes : FixesTyped of_quire_words.add_word.ended (quire_words.add_word.Kinds.r).is.Ok quire_words.add_word.Reads.Pre quire_words.add_word.Reads.Post
quire_words_add_word_fixes = record { answers = λ κs a. tt; one = λ κs a x y u v p p'. let e = same_sum x.low y.low x.carry y.carry (search rules) (search rules) (p.1 ∙ sym p'.1) in (λ i. record { low = e.0 i; carry = e.1 i }, refl) }

pub quire_words_add_fixes : FixesTyped of_quire_words.add.ended (quire_words.add.Kinds.r).is.Ok quire_words.add.Reads.Pre quire_words.add.Reads.Post
quire_words_add_fixes = record { answers = λ κs a. tt; one = λ κs a x y u v p p'. (same_words x y p.0 p'.0 (p.1 ∙ sym p'.1), refl) }

pub quire_words_complement_fixes : FixesTyped of_quire_words.complement.ended (quire_words.complement.Kinds.r).is.Ok quire_words.complement.Reads.Pre quire_words.complement.Reads.Post
quire_words_complement_fixes = record { answers = λ κs a. tt; one = λ κs a x y u v p p'. (same_words x y p.0 p'.0 (p.1 ∙ sym p'.1), refl) }

pub quire_words_sub_fixes : FixesTyped of_quire_words.sub.ended (quire_words.sub.Kinds.r).is.Ok quire_words.sub.Reads.Pre quire_words.sub.Reads.Post
quire_words_sub_fixes = record { answers = λ κs a. tt; one = λ κs a x y u v p p'. (same_words x y p.0 p'.0 (p.1 ∙ sym p'.1), refl) }

pub quire_words_negative_of_fixes : FixesTyped of_quire_words.negative_of.ended (quire_words.negative_of.Kinds.r).is.Ok quire_words.negative_of.Reads.Pre quire_words.negative_of.Reads.Post
quire_words_negative_of_fixes = record { answers = λ κs a. tt; one = λ κs a x y u v p p'. (same_words x y p.0 p'.0 (p.1 ∙ sym p'.1), refl) }

pub quire_words_any_from_fixes : Fixes of_quire_words.any_from.ended quire_words.any_from.Reads.Pre quire_words.any_from.Reads.Post
quire_words_any_from_fixes = record { answers = λ κs a. tt; one = λ κs a x y u v p p'. (p ∙ sym p', refl) }

pub quire_words_is_alone_fixes : Fixes of_quire_words.is_alone.ended quire_words.is_alone.Reads.Pre quire_words.is_alone.Reads.Post
quire_words_is_alone_fixes = record { answers = λ κs a. tt; one = λ κs a x y u v p p'. (p ∙ sym p', refl) }

pub quire_words_sign_of_fixes : Fixes of_quire_words.sign_of.ended quire_words.sign_of.Reads.Pre quire_words.sign_of.Reads.Post
quire_words_sign_of_fixes = record { answers = λ κs a. tt; one = λ κs a x y u v p p'. (p ∙ sym p', refl) }

-- ---- quire_steps
pub quire_steps_add_product_fixes : Fixes of_quire_steps.add_product.ended quire_steps.add_product.Reads.Pre quire_steps.add_product.Reads.Post
quire_steps_add_product_fixes = record { answers = λ κs a. tt; one = λ κs a x y u v p p'. (p ∙ sym p', refl) }

pub quire_steps_sub_product_fixes : Fixes of_quire_steps.sub_product.ended quire_steps.sub_product.Reads.Pre quire_steps.sub_product.Reads.Post
quire_steps_sub_product_fixes = record { answers = λ κs a. tt; one = λ κs a x y u v p p'. (p ∙ sym p', refl) }

pub quire_steps_add_posit_fixes : Fixes of_quire_steps.add_posit.ended quire_steps.add_posit.Reads.Pre quire_steps.add_posit.Reads.Post
quire_steps_add_posit_fixes = record { answers = λ κs a. tt; one = λ κs a x y u v p p'. (p ∙ sym p', refl) }

pub quire_steps_sub_posit_fixes : Fixes of_quire_steps.sub_posit.ended quire_steps.sub_posit.Reads.Pre quire_steps.sub_posit.Reads.Post
quire_steps_sub_posit_fixes = record { answers = λ κs a. tt; one = λ κs a x y u v p p'. (p ∙ sym p', refl) }

pub quire_steps_neg_fixes : Fixes of_quire_steps.neg.ended quire_steps.neg.Reads.Pre quire_steps.neg.Reads.Post
quire_steps_neg_fixes = record { answers = λ κs a. tt; one = λ κs a x y u v p p'. (p ∙ sym p', refl) }

pub quire_steps_q_abs_fixes : Fixes of_quire_steps.qAbs.ended quire_steps.qAbs.Reads.Pre quire_steps.qAbs.Reads.Post
quire_steps_q_abs_fixes = record { answers = λ κs a. tt; one = λ κs a x y u v p p'. (p ∙ sym p', refl) }

pub quire_steps_q_add_q_fixes : Fixes of_quire_steps.qAddQ.ended quire_steps.qAddQ.Reads.Pre quire_steps.qAddQ.Reads.Post
quire_steps_q_add_q_fixes = record { answers = λ κs a. tt; one = λ κs a x y u v p p'. (p ∙ sym p', refl) }

pub quire_steps_q_sub_q_fixes : Fixes of_quire_steps.qSubQ.ended quire_steps.qSubQ.Reads.Pre quire_steps.qSubQ.Reads.Post
quire_steps_q_sub_q_fixes = record { answers = λ κs a. tt; one = λ κs a x y u v p p'. (p ∙ sym p', refl) }

pub quire_steps_size_of_fixes : FixesTyped of_quire_steps.size_of.ended (quire_steps.size_of.Kinds.r).is.Ok quire_steps.size_of.Reads.Pre quire_steps.size_of.Reads.Post
quire_steps_size_of_fixes = record { answers = λ κs a. tt; one = λ κs a x y u v p p'. (same_words x y p.0 p'.0 (p.1 ∙ sym p'.1), refl) }

pub quire_steps_is_zero_fixes : Fixes of_quire_steps.is_zero.ended quire_steps.is_zero.Reads.Pre quire_steps.is_zero.Reads.Post
quire_steps_is_zero_fixes = record { answers = λ κs a. tt; one = λ κs a x y u v p p'. (p ∙ sym p', refl) }

pub quire_steps_is_nar_fixes : Fixes of_quire_steps.is_nar.ended quire_steps.is_nar.Reads.Pre quire_steps.is_nar.Reads.Post
quire_steps_is_nar_fixes = record { answers = λ κs a. tt; one = λ κs a x y u v p p'. (p ∙ sym p', refl) }

pub quire_steps_cleared_fixes : Fixes of_quire_steps.cleared.ended quire_steps.cleared.Reads.Pre quire_steps.cleared.Reads.Post
quire_steps_cleared_fixes = record { answers = λ κs a. tt; one = λ κs a x y u v p p'. (p ∙ sym p', refl) }

pub quire_steps_from_posit_fixes : Fixes of_quire_steps.from_posit.ended quire_steps.from_posit.Reads.Pre quire_steps.from_posit.Reads.Post
quire_steps_from_posit_fixes = record { answers = λ κs a. tt; one = λ κs a x y u v p p'. (p ∙ sym p', refl) }

-- ---- quire_totals
pub quire_totals_to_posit_fixes : Fixes of_quire_totals.to_posit.ended quire_totals.to_posit.Reads.Pre quire_totals.to_posit.Reads.Post
quire_totals_to_posit_fixes = record { answers = λ κs a. tt; one = λ κs a x y u v p p'. (λ i. record { 0 = (p ∙ sym p') i }, refl) }

pub quire_totals_two_posits_fixes : Fixes of_quire_totals.two_posits.ended quire_totals.two_posits.Reads.Pre quire_totals.two_posits.Reads.Post
quire_totals_two_posits_fixes = record { answers = λ κs a. tt; one = λ κs a x y u v p p'. (same_posits x y (p ∙ sym p'), refl) }

pub quire_totals_three_posits_fixes : Fixes of_quire_totals.three_posits.ended quire_totals.three_posits.Reads.Pre quire_totals.three_posits.Reads.Post
quire_totals_three_posits_fixes = record { answers = λ κs a. tt; one = λ κs a x y u v p p'. (same_posits x y (p ∙ sym p'), refl) }

-- ---- quire32
pub quire32_init_fixes : Fixes of_quire32.Q32E2.init.ended quire32.Q32E2.init.Reads.Pre quire32.Q32E2.init.Reads.Post
quire32_init_fixes = record { answers = λ κs a. tt; one = λ κs a x y u v p p'. (λ i. record { 0 = (p ∙ sym p') i }, refl) }

pub quire32_from_bits_fixes : Fixes of_quire32.Q32E2.from_bits.ended quire32.Q32E2.from_bits.Reads.Pre quire32.Q32E2.from_bits.Reads.Post
quire32_from_bits_fixes = record { answers = λ κs a. tt; one = λ κs a x y u v p p'. (λ i. record { 0 = (p ∙ sym p') i }, refl) }

pub quire32_from_posit_fixes : Fixes of_quire32.Q32E2.from_posit.ended quire32.Q32E2.from_posit.Reads.Pre quire32.Q32E2.from_posit.Reads.Post
quire32_from_posit_fixes = record { answers = λ κs a. tt; one = λ κs a x y u v p p'. (λ i. record { 0 = (p ∙ sym p') i }, refl) }

pub quire32_into_two_posits_fixes : Fixes of_quire32.Q32E2.into_two_posits.ended quire32.Q32E2.into_two_posits.Reads.Pre quire32.Q32E2.into_two_posits.Reads.Post
quire32_into_two_posits_fixes = record { answers = λ κs a. tt; one = λ κs a x y u v p p'. (same_posits x y (p ∙ sym p'), refl) }

pub quire32_into_three_posits_fixes : Fixes of_quire32.Q32E2.into_three_posits.ended quire32.Q32E2.into_three_posits.Reads.Pre quire32.Q32E2.into_three_posits.Reads.Post
quire32_into_three_posits_fixes = record { answers = λ κs a. tt; one = λ κs a x y u v p p'. (same_posits x y (p ∙ sym p'), refl) }

-- the methods that are lent the accumulator to read it, and those that change it, which have no result
unfoldable pub quire32_to_bits_fixes : FixesLent of_quire32.Q32E2.to_bits.ended (λ M 𝓤 𝓛. of_quire32.Q32E2.to_bits.clauses 𝓛)
quire32_to_bits_fixes = record { Post = _; says = λ M 𝓤 𝓛 mem run κs a g x s. refl; answers = λ M 𝓤 𝓛 mem run κs a. (tt, refl); fixes = record { answers = λ κs a. tt; one = λ κs a x y u v p p'. (p ∙ sym p', refl) } }

unfoldable pub quire32_is_zero_fixes : FixesLent of_quire32.Q32E2.is_zero.ended (λ M 𝓤 𝓛. of_quire32.Q32E2.is_zero.clauses 𝓛)
quire32_is_zero_fixes = record { Post = _; says = λ M 𝓤 𝓛 mem run κs a g x s. refl; answers = λ M 𝓤 𝓛 mem run κs a. (tt, refl); fixes = record { answers = λ κs a. tt; one = λ κs a x y u v p p'. (p ∙ sym p', refl) } }

unfoldable pub quire32_is_nar_fixes : FixesLent of_quire32.Q32E2.is_nar.ended (λ M 𝓤 𝓛. of_quire32.Q32E2.is_nar.clauses 𝓛)
quire32_is_nar_fixes = record { Post = _; says = λ M 𝓤 𝓛 mem run κs a g x s. refl; answers = λ M 𝓤 𝓛 mem run κs a. (tt, refl); fixes = record { answers = λ κs a. tt; one = λ κs a x y u v p p'. (p ∙ sym p', refl) } }

unfoldable pub quire32_to_posit_fixes : FixesLent of_quire32.Q32E2.to_posit.ended (λ M 𝓤 𝓛. of_quire32.Q32E2.to_posit.clauses 𝓛)
quire32_to_posit_fixes = record { Post = _; says = λ M 𝓤 𝓛 mem run κs a g x s. refl; answers = λ M 𝓤 𝓛 mem run κs a. (tt, refl); fixes = record { answers = λ κs a. tt; one = λ κs a x y u v p p'. (λ i. record { 0 = (p ∙ sym p') i }, refl) } }

unfoldable pub quire32_add_product_fixes : FixesLent of_quire32.Q32E2.add_product.ended (λ M 𝓤 𝓛. of_quire32.Q32E2.add_product.clauses 𝓛)
quire32_add_product_fixes = record { Post = _; says = λ M 𝓤 𝓛 mem run κs a g x s. refl; answers = λ M 𝓤 𝓛 mem run κs a. (tt, refl); fixes = record { answers = λ κs a. tt; one = λ κs a x y u v p p'. (refl, λ i. (record { 0 = (p ∙ sym p') i }, u.1)) } }

unfoldable pub quire32_sub_product_fixes : FixesLent of_quire32.Q32E2.sub_product.ended (λ M 𝓤 𝓛. of_quire32.Q32E2.sub_product.clauses 𝓛)
quire32_sub_product_fixes = record { Post = _; says = λ M 𝓤 𝓛 mem run κs a g x s. refl; answers = λ M 𝓤 𝓛 mem run κs a. (tt, refl); fixes = record { answers = λ κs a. tt; one = λ κs a x y u v p p'. (refl, λ i. (record { 0 = (p ∙ sym p') i }, u.1)) } }

unfoldable pub quire32_add_posit_fixes : FixesLent of_quire32.Q32E2.add_posit.ended (λ M 𝓤 𝓛. of_quire32.Q32E2.add_posit.clauses 𝓛)
quire32_add_posit_fixes = record { Post = _; says = λ M 𝓤 𝓛 mem run κs a g x s. refl; answers = λ M 𝓤 𝓛 mem run κs a. (tt, refl); fixes = record { answers = λ κs a. tt; one = λ κs a x y u v p p'. (refl, λ i. (record { 0 = (p ∙ sym p') i }, u.1)) } }

unfoldable pub quire32_sub_posit_fixes : FixesLent of_quire32.Q32E2.sub_posit.ended (λ M 𝓤 𝓛. of_quire32.Q32E2.sub_posit.clauses 𝓛)
quire32_sub_posit_fixes = record { Post = _; says = λ M 𝓤 𝓛 mem run κs a g x s. refl; answers = λ M 𝓤 𝓛 mem run κs a. (tt, refl); fixes = record { answers = λ κs a. tt; one = λ κs a x y u v p p'. (refl, λ i. (record { 0 = (p ∙ sym p') i }, u.1)) } }

unfoldable pub quire32_neg_fixes : FixesLent of_quire32.Q32E2.neg.ended (λ M 𝓤 𝓛. of_quire32.Q32E2.neg.clauses 𝓛)
quire32_neg_fixes = record { Post = _; says = λ M 𝓤 𝓛 mem run κs a g x s. refl; answers = λ M 𝓤 𝓛 mem run κs a. (tt, refl); fixes = record { answers = λ κs a. tt; one = λ κs a x y u v p p'. (refl, λ i. (record { 0 = (p ∙ sym p') i }, u.1)) } }

unfoldable pub quire32_q_abs_fixes : FixesLent of_quire32.Q32E2.qAbs.ended (λ M 𝓤 𝓛. of_quire32.Q32E2.qAbs.clauses 𝓛)
quire32_q_abs_fixes = record { Post = _; says = λ M 𝓤 𝓛 mem run κs a g x s. refl; answers = λ M 𝓤 𝓛 mem run κs a. (tt, refl); fixes = record { answers = λ κs a. tt; one = λ κs a x y u v p p'. (refl, λ i. (record { 0 = (p ∙ sym p') i }, u.1)) } }

unfoldable pub quire32_q_add_q_fixes : FixesLent of_quire32.Q32E2.qAddQ.ended (λ M 𝓤 𝓛. of_quire32.Q32E2.qAddQ.clauses 𝓛)
quire32_q_add_q_fixes = record { Post = _; says = λ M 𝓤 𝓛 mem run κs a g x s. refl; answers = λ M 𝓤 𝓛 mem run κs a. (tt, refl); fixes = record { answers = λ κs a. tt; one = λ κs a x y u v p p'. (refl, λ i. (record { 0 = (p ∙ sym p') i }, u.1)) } }

unfoldable pub quire32_q_sub_q_fixes : FixesLent of_quire32.Q32E2.qSubQ.ended (λ M 𝓤 𝓛. of_quire32.Q32E2.qSubQ.clauses 𝓛)
quire32_q_sub_q_fixes = record { Post = _; says = λ M 𝓤 𝓛 mem run κs a g x s. refl; answers = λ M 𝓤 𝓛 mem run κs a. (tt, refl); fixes = record { answers = λ κs a. tt; one = λ κs a x y u v p p'. (refl, λ i. (record { 0 = (p ∙ sym p') i }, u.1)) } }

unfoldable pub quire32_clear_fixes : FixesLent of_quire32.Q32E2.clear.ended (λ M 𝓤 𝓛. of_quire32.Q32E2.clear.clauses 𝓛)
quire32_clear_fixes = record { Post = _; says = λ M 𝓤 𝓛 mem run κs a g x s. refl; answers = λ M 𝓤 𝓛 mem run κs a. (tt, refl); fixes = record { answers = λ κs a. tt; one = λ κs a x y u v p p'. (refl, λ i. (record { 0 = (p ∙ sym p') i }, u.1)) } }
