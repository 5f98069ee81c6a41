-- `Operand::term` meets its contract: the size of the posit, with 32 digits 0 behind its significand.
use mathlib.Core.Path.{◌≡◌, sym, subst}
use Prim.Native.Nat.{◌+◌, ◌*◌, ◌%◌, ◌^◌}
use native.Mathlib.Nat.{mod-eq_of_lt}
use native.Mathlib.Omega.{arith}
use Rattle.posit.specs.Pattern.{is_negative}
use Rattle.posit.specs.Operation.{exact}
use Rattle.rounding.proofs.Terms.{IsTerm}
use Rattle.exact_terms.proofs.Exactly.{posit_term}
use Rattle.exact_terms.proofs.terms.Operand.term.Goals as goal

pub returns : goal.returns
returns c =
    let x = c.args.self in
    let is = x.sized.of_real x.real in
    let whole : x.size.significand * 2 ^ 32 % 2 ^ 64 ≡ x.size.significand * 2 ^ 32 = mod-eq_of_lt (omega arith) in
    subst (IsTerm (exact 2 31 x.pattern) (is_negative 31 x.pattern) (x.size.scale + 904)) (sym whole)
    (posit_term x.pattern x.size.scale x.size.significand (omega arith) x.real x.sized)
