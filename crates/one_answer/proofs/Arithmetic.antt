-- One promise, one answer, of every public function on posits and their patterns. The statement is `Fixes` (Fixes.antt); p and p' say that two results meet the contract.
use mathlib.Core.Path.{refl, sym, ◌∙◌}
use Rattle.one_answer.specs.Fixes.{Fixes, FixesLent}
use Rattle.one_answer.proofs.Determined.{unpacked, scaled_one}
use Rattle.rounding.specs.contracts as of_rounding
use Rattle.rounding.proofs as rounding
use Rattle.unpacking.specs.contracts as of_unpacking
use Rattle.unpacking.proofs as unpacking
use Rattle.exact_terms.specs.contracts as of_exact_terms
use Rattle.exact_terms.proofs as exact_terms
use Rattle.division.specs.contracts as of_division
use Rattle.division.proofs as division
use Rattle.square_root.specs.contracts as of_square_root
use Rattle.square_root.proofs as square_root
use Rattle.p32e2.specs.contracts as of_p32e2
use Rattle.p32e2.proofs as p32e2

-- ---- rounding
pub rounding_pack_fixes : Fixes of_rounding.pack.ended rounding.pack.Reads.Pre rounding.pack.Reads.Post
rounding_pack_fixes = record { answers = λ κs a. tt; one = λ κs a x y u v p p'. (p ∙ sym p', refl) }

-- ---- unpacking
pub unpacking_unpack_fixes : Fixes of_unpacking.unpack.ended unpacking.unpack.Reads.Pre unpacking.unpack.Reads.Post
unpacking_unpack_fixes = record { answers = λ κs a. tt; one = λ κs a x y u v p p'. (unpacked x y (p ∙ sym p'), refl) }

pub unpacking_either_nar_fixes : Fixes of_unpacking.either_nar.ended unpacking.either_nar.Reads.Pre unpacking.either_nar.Reads.Post
unpacking_either_nar_fixes = record { answers = λ κs a. tt; one = λ κs a x y u v p p'. (p ∙ sym p', refl) }

pub unpacking_scaled_of_fixes : Fixes of_unpacking.scaled.scaled_of.ended unpacking.scaled.scaled_of.Reads.Pre unpacking.scaled.scaled_of.Reads.Post
unpacking_scaled_of_fixes = record { answers = λ κs a. tt; one = λ κs a x y u v p p'. let e = scaled_one a.0 x.scale y.scale x.significand y.significand p p' in (λ i. record { scale = e.0 i; significand = e.1 i }, refl) }

unfoldable pub unpacking_eq_fixes : FixesLent of_unpacking.UnpackedPartialEq.eq.ended (λ M 𝓤 𝓛. of_unpacking.UnpackedPartialEq.eq.clauses 𝓛)
unpacking_eq_fixes = record { Post = _; says = λ M 𝓤 𝓛 mem run κs a g x s. refl; answers = λ M 𝓤 𝓛 mem run κs a. (tt, refl); fixes = record { answers = λ κs a. tt; one = λ κs a x y u v p p'. (p ∙ sym p', refl) } }

-- ---- exact_terms
pub exact_terms_add_fixes : Fixes of_exact_terms.add.ended exact_terms.add.Reads.Pre exact_terms.add.Reads.Post
exact_terms_add_fixes = record { answers = λ κs a. tt; one = λ κs a x y u v p p'. (p ∙ sym p', refl) }

pub exact_terms_mul_fixes : Fixes of_exact_terms.mul.ended exact_terms.mul.Reads.Pre exact_terms.mul.Reads.Post
exact_terms_mul_fixes = record { answers = λ κs a. tt; one = λ κs a x y u v p p'. (p ∙ sym p', refl) }

pub exact_terms_mul_add_fixes : Fixes of_exact_terms.mul_add.ended exact_terms.mul_add.Reads.Pre exact_terms.mul_add.Reads.Post
exact_terms_mul_add_fixes = record { answers = λ κs a. tt; one = λ κs a x y u v p p'. (p ∙ sym p', refl) }

-- ---- division
pub division_div_fixes : Fixes of_division.div.ended division.div.Reads.Pre division.div.Reads.Post
division_div_fixes = record { answers = λ κs a. tt; one = λ κs a x y u v p p'. (p ∙ sym p', refl) }

-- ---- square_root
pub square_root_sqrt_fixes : Fixes of_square_root.sqrt.ended square_root.sqrt.Reads.Pre square_root.sqrt.Reads.Post
square_root_sqrt_fixes = record { answers = λ κs a. tt; one = λ κs a x y u v p p'. (p ∙ sym p', refl) }

-- ---- p32e2
pub p32e2_from_bits_fixes : Fixes of_p32e2.P32E2.from_bits.ended p32e2.P32E2.from_bits.Reads.Pre p32e2.P32E2.from_bits.Reads.Post
p32e2_from_bits_fixes = record { answers = λ κs a. tt; one = λ κs a x y u v p p'. (λ i. record { 0 = (p ∙ sym p') i }, refl) }

pub p32e2_to_bits_fixes : Fixes of_p32e2.P32E2.to_bits.ended p32e2.P32E2.to_bits.Reads.Pre p32e2.P32E2.to_bits.Reads.Post
p32e2_to_bits_fixes = record { answers = λ κs a. tt; one = λ κs a x y u v p p'. (p ∙ sym p', refl) }

pub p32e2_is_zero_fixes : Fixes of_p32e2.P32E2.is_zero.ended p32e2.P32E2.is_zero.Reads.Pre p32e2.P32E2.is_zero.Reads.Post
p32e2_is_zero_fixes = record { answers = λ κs a. tt; one = λ κs a x y u v p p'. (p ∙ sym p', refl) }

pub p32e2_is_nar_fixes : Fixes of_p32e2.P32E2.is_nar.ended p32e2.P32E2.is_nar.Reads.Pre p32e2.P32E2.is_nar.Reads.Post
p32e2_is_nar_fixes = record { answers = λ κs a. tt; one = λ κs a x y u v p p'. (p ∙ sym p', refl) }

pub p32e2_recip_fixes : Fixes of_p32e2.P32E2.recip.ended p32e2.P32E2.recip.Reads.Pre p32e2.P32E2.recip.Reads.Post
p32e2_recip_fixes = record { answers = λ κs a. tt; one = λ κs a x y u v p p'. (λ i. record { 0 = (p ∙ sym p') i }, refl) }

pub p32e2_unpack_fixes : Fixes of_p32e2.P32E2.unpack.ended p32e2.P32E2.unpack.Reads.Pre p32e2.P32E2.unpack.Reads.Post
p32e2_unpack_fixes = record { answers = λ κs a. tt; one = λ κs a x y u v p p'. (unpacked x y (p ∙ sym p'), refl) }

pub p32e2_sqrt_fixes : Fixes of_p32e2.P32E2.sqrt.ended p32e2.P32E2.sqrt.Reads.Pre p32e2.P32E2.sqrt.Reads.Post
p32e2_sqrt_fixes = record { answers = λ κs a. tt; one = λ κs a x y u v p p'. (λ i. record { 0 = (p ∙ sym p') i }, refl) }

pub p32e2_mul_add_fixes : Fixes of_p32e2.P32E2.mul_add.ended p32e2.P32E2.mul_add.Reads.Pre p32e2.P32E2.mul_add.Reads.Post
p32e2_mul_add_fixes = record { answers = λ κs a. tt; one = λ κs a x y u v p p'. (λ i. record { 0 = (p ∙ sym p') i }, refl) }

pub p32e2_mul_sub_fixes : Fixes of_p32e2.P32E2.mul_sub.ended p32e2.P32E2.mul_sub.Reads.Pre p32e2.P32E2.mul_sub.Reads.Post
p32e2_mul_sub_fixes = record { answers = λ κs a. tt; one = λ κs a x y u v p p'. (λ i. record { 0 = (p ∙ sym p') i }, refl) }

pub p32e2_sub_product_fixes : Fixes of_p32e2.P32E2.sub_product.ended p32e2.P32E2.sub_product.Reads.Pre p32e2.P32E2.sub_product.Reads.Post
p32e2_sub_product_fixes = record { answers = λ κs a. tt; one = λ κs a x y u v p p'. (λ i. record { 0 = (p ∙ sym p') i }, refl) }

pub p32e2_neg_fixes : Fixes of_p32e2.P32E2.neg.ended p32e2.P32E2.neg.Reads.Pre p32e2.P32E2.neg.Reads.Post
p32e2_neg_fixes = record { answers = λ κs a. tt; one = λ κs a x y u v p p'. (λ i. record { 0 = (p ∙ sym p') i }, refl) }

pub p32e2_add_fixes : Fixes of_p32e2.P32E2.add.ended p32e2.P32E2.add.Reads.Pre p32e2.P32E2.add.Reads.Post
p32e2_add_fixes = record { answers = λ κs a. tt; one = λ κs a x y u v p p'. (λ i. record { 0 = (p ∙ sym p') i }, refl) }

pub p32e2_sub_fixes : Fixes of_p32e2.P32E2.sub.ended p32e2.P32E2.sub.Reads.Pre p32e2.P32E2.sub.Reads.Post
p32e2_sub_fixes = record { answers = λ κs a. tt; one = λ κs a x y u v p p'. (λ i. record { 0 = (p ∙ sym p') i }, refl) }

pub p32e2_mul_fixes : Fixes of_p32e2.P32E2.mul.ended p32e2.P32E2.mul.Reads.Pre p32e2.P32E2.mul.Reads.Post
p32e2_mul_fixes = record { answers = λ κs a. tt; one = λ κs a x y u v p p'. (λ i. record { 0 = (p ∙ sym p') i }, refl) }

pub p32e2_div_fixes : Fixes of_p32e2.P32E2.div.ended p32e2.P32E2.div.Reads.Pre p32e2.P32E2.div.Reads.Post
p32e2_div_fixes = record { answers = λ κs a. tt; one = λ κs a x y u v p p'. (λ i. record { 0 = (p ∙ sym p') i }, refl) }

unfoldable pub p32e2_eq_fixes : FixesLent of_p32e2.P32E2PartialEq.eq.ended (λ M 𝓤 𝓛. of_p32e2.P32E2PartialEq.eq.clauses 𝓛)
p32e2_eq_fixes = record { Post = _; says = λ M 𝓤 𝓛 mem run κs a g x s. refl; answers = λ M 𝓤 𝓛 mem run κs a. (tt, refl); fixes = record { answers = λ κs a. tt; one = λ κs a x y u v p p'. (p ∙ sym p', refl) } }
