-- `Operand::times` meets its contract: the product of two sizes, moved up until its leading one is at bit 62, below 0 where just one of the two is.
use Rattle.std.proofs.Common.{◌≡◌, ℕ, ◌+◌, ◌*◌, ◌%◌, ◌^◌, ◌<◌, ◌-◌, Bool, not, sym, subst, mod-eq_of_lt, arith}
use mathlib.Core.Bool.{beq}
use Rattle.posit.specs.Pattern.{is_negative}
use Rattle.posit.specs.Operation.{exact_product}
use Rattle.posit.proofs.Arith.{same_power}
use Rattle.rounding.proofs.Machine.{differ_is}
use Rattle.rounding.proofs.Terms.{IsTerm, finer_by}
use Rattle.exact_terms.specs.declared.terms.Operand.{Operand}
use Rattle.exact_terms.proofs.Exactly.{product_bounds, product_term}
use Rattle.exact_terms.proofs.terms.Operand.times.Goals as goal
use Rattle.exact_terms.proofs.terms.Operand.times.Goals.{then-n-lt2305843009213693952, else-n-lt2305843009213693952}

module _ (x y : Operand) (short : x.pattern < 2 ^ 32) (short' : y.pattern < 2 ^ 32) where
  abbrev IsProduct : Bool → ℕ → ℕ → Type 0
  IsProduct negative c g = IsTerm (exact_product 2 31 x.pattern y.pattern) negative c g

  -- moved up by l digits, with the scale lowered by as many
  moved : (l c : ℕ) → l + c ≡ x.size.scale + y.size.scale + (finer_by - 60) → x.size.significand * y.size.significand * 2 ^ l < 2 ^ 64
      → IsProduct (not (beq (is_negative 31 x.pattern) (is_negative 31 y.pattern))) c (x.size.significand * y.size.significand * 2 ^ l % 2 ^ 64)
  moved l c e h =
      rw (differ_is (is_negative 31 x.pattern) (is_negative 31 y.pattern), mod-eq_of_lt h)
      (product_term x.pattern y.pattern x.size.scale y.size.scale x.size.significand y.size.significand short short' x.real y.real x.sized y.sized c (x.size.significand * y.size.significand * 2 ^ l)
      (same_power (x.size.significand * y.size.significand) l c (x.size.scale + y.size.scale) (finer_by - 60) e))

pub returns : goal.returns
returns c =
    let x = c.args.self in
    let y = c.args.other in
    let b = product_bounds x.size.scale y.size.scale x.size.significand y.size.significand (x.sized.of_real x.real).in_scale (y.sized.of_real y.real).in_scale in
    let P = IsProduct x y (omega arith) (omega arith) in
    let move = moved x y (omega arith) (omega arith) in
    elim c.if-n-lt2305843009213693952.branch [
      | then-n-lt2305843009213693952 w ↦ subst (λ t. P t.0 t.1.0 t.1.1.0) (sym w.result-is) (move 2 (x.size.scale + y.size.scale + 784) (omega arith) (omega arith))
      | else-n-lt2305843009213693952 w ↦ subst (λ t. P t.0 t.1.0 t.1.1.0) (sym w.result-is) (move 1 (x.size.scale + y.size.scale + 784 + 1) (omega arith) (omega arith))
    ]
