-- One promise, one answer, of every public function of the desk. The statement is `Fixes` (Fixes.antt); p and p' say that two results meet the contract.
use mathlib.Core.Path.{refl, sym, ◌∙◌}
use Rattle.one_answer.specs.Fixes.{Fixes, FixesLent}
use Rattle.posit.specs.Accumulator.{from_words}
use Rattle.one_answer.proofs.Determined.{desk_answer, desk_words}
use Rattle.desk.specs.contracts as of_desk
use Rattle.desk.proofs as desk

pub desk_image_of_fixes : Fixes of_desk.image.image_of.ended desk.image.image_of.Reads.Pre desk.image.image_of.Reads.Post
desk_image_of_fixes = record { answers = λ κs a. tt; one = λ κs a x y u v p p'. (p ∙ sym p', refl) }

pub desk_write_image_fixes : Fixes of_desk.image.write_image.ended desk.image.write_image.Reads.Pre desk.image.write_image.Reads.Post
desk_write_image_fixes = record { answers = λ κs a. tt; one = λ κs a x y u v p p'. (desk_answer x y (p.0 ∙ sym p'.0) (λ _ _ _ _. refl), λ i. (tt, ((p.1 ∙ sym p'.1) i, tt))) }

pub desk_read_image_fixes : Fixes of_desk.image.read_image.ended desk.image.read_image.Reads.Pre desk.image.read_image.Reads.Post
desk_read_image_fixes = record { answers = λ κs a. tt; one = λ κs a x y u v p p'. (desk_words (from_words 512 a.0) x y (p.0 ∙ sym p'.0) (p.1 ∙ sym p'.1), refl) }

pub desk_add_batch_fixes : Fixes of_desk.batch.add_batch.ended desk.batch.add_batch.Reads.Pre desk.batch.add_batch.Reads.Post
desk_add_batch_fixes = record { answers = λ κs a. tt; one = λ κs a x y u v p p'. (desk_words (from_words 512 a.0) x y (p.0 ∙ sym p'.0) (p.1 ∙ sym p'.1), refl) }

pub desk_check_claim_fixes : Fixes of_desk.claim.check_claim.ended desk.claim.check_claim.Reads.Pre desk.claim.check_claim.Reads.Post
desk_check_claim_fixes = record { answers = λ κs a. tt; one = λ κs a x y u v p p'. (desk_answer x y (p ∙ sym p') (λ _ _ _ _. refl), refl) }

pub desk_number_fixes : Fixes of_desk.refusal.Refusal.number.ended desk.refusal.Refusal.number.Reads.Pre desk.refusal.Refusal.number.Reads.Post
desk_number_fixes = record { answers = λ κs a. tt; one = λ κs a x y u v p p'. (p ∙ sym p', refl) }

pub desk_number_of_fixes : Fixes of_desk.refusal.number_of.ended desk.refusal.number_of.Reads.Pre desk.refusal.number_of.Reads.Post
desk_number_of_fixes = record { answers = λ κs a. tt; one = λ κs a x y u v p p'. (p ∙ sym p', refl) }

unfoldable pub desk_lent_write_image_fixes : FixesLent of_desk.lent.write_image.ended (λ M 𝓤 𝓛. of_desk.lent.write_image.clauses 𝓛)
desk_lent_write_image_fixes = record { Post = _; says = λ M 𝓤 𝓛 mem run κs a g x s. refl; answers = λ M 𝓤 𝓛 mem run κs a. (tt, refl); fixes = record { answers = λ κs a. tt; one = λ κs a x y u v p p'. (desk_answer x y (p.0 ∙ sym p'.0) (λ _ _ _ _. refl), λ i. (u.0, ((p.1 ∙ sym p'.1) i, u.1.1))) } }

unfoldable pub desk_lent_read_image_fixes : FixesLent of_desk.lent.read_image.ended (λ M 𝓤 𝓛. of_desk.lent.read_image.clauses 𝓛)
desk_lent_read_image_fixes = record { Post = _; says = λ M 𝓤 𝓛 mem run κs a g x s. refl; answers = λ M 𝓤 𝓛 mem run κs a. (tt, refl); fixes = record { answers = λ κs a. tt; one = λ κs a x y u v p p'. (desk_answer x y (p.0 ∙ sym p'.0) (λ _ _ _ _. refl), λ i. (record { 0 = (p.1 ∙ sym p'.1) i }, u.1)) } }

unfoldable pub desk_lent_add_batch_fixes : FixesLent of_desk.lent.add_batch.ended (λ M 𝓤 𝓛. of_desk.lent.add_batch.clauses 𝓛)
desk_lent_add_batch_fixes = record { Post = _; says = λ M 𝓤 𝓛 mem run κs a g x s. refl; answers = λ M 𝓤 𝓛 mem run κs a. (tt, refl); fixes = record { answers = λ κs a. tt; one = λ κs a x y u v p p'. (desk_answer x y (p.0 ∙ sym p'.0) (λ _ _ _ _. refl), λ i. (record { 0 = (p.1 ∙ sym p'.1) i }, u.1)) } }

unfoldable pub desk_refusal_eq_fixes : FixesLent of_desk.refusal.RefusalPartialEq.eq.ended (λ M 𝓤 𝓛. of_desk.refusal.RefusalPartialEq.eq.clauses 𝓛)
desk_refusal_eq_fixes = record { Post = _; says = λ M 𝓤 𝓛 mem run κs a g x s. refl; answers = λ M 𝓤 𝓛 mem run κs a. (tt, refl); fixes = record { answers = λ κs a. tt; one = λ κs a x y u v p p'. (p ∙ sym p', refl) } }
