-- `div` meets its contract: each branch is one case of `quotient`, and else the quotient of the sizes has the sign of just one operand.
use mathlib.Core.Path.{sym, ap, ◌∙◌}
use mathlib.Core.Bool.{Bool}
use Prim.Native.Nat.{◌*◌, ◌^◌, ◌-◌}
use native.Mathlib.Omega.{arith}
use lib.Dec.{lit≤}
use Rattle.posit.specs.Pattern.{unsigned, size, unit}
use Rattle.posit.specs.Exact.{ratio}
use Rattle.posit.specs.Rounding.{round, signed}
use Rattle.posit.proofs.Operation.{quotient_nar}
use Rattle.posit.proofs.Quotient.{quotient_by_zero, quotient_of_zero, quotient_real}
use Rattle.rounding.specs.Packed.{packed_unit}
use Rattle.rounding.proofs.Machine.{differ_is}
use Rattle.unpacking.specs.Scaled.{scaled_unit}
use Rattle.unpacking.proofs.Either.{neither}
use Rattle.division.proofs.div.Goals as goal

pub returns-then-either_nar : goal.returns-then-either_nar
returns-then-either_nar c =
    let a = c.args in
    sym (quotient_nar 2 31 a.p a.q (sym c.either_nar.ensures ∙ c.if-either_nar.true))

pub returns-then-q-eq0 : goal.returns-then-q-eq0
returns-then-q-eq0 c =
    let k = neither c.either_nar.ensures c.if-either_nar.false in
    let a = c.args in
    sym (quotient_by_zero 2 31 a.p a.q k.0 k.1 (omega arith))

pub returns-then-p-eq0 : goal.returns-then-p-eq0
returns-then-p-eq0 c =
    let k = neither c.either_nar.ensures c.if-either_nar.false in
    let a = c.args in
    sym (quotient_of_zero 2 31 a.p a.q k.0 k.1 (omega arith) (omega arith))

pub returns : goal.returns
returns c =
    let k = neither c.either_nar.ensures c.if-either_nar.false in
    let a = c.args in
    c.div_sizes.ensures
    ∙ ap (λ (n : Bool). signed 31 n (round 2 31 packed_unit (ratio (size 2 31 scaled_unit (unsigned 31 a.p) * 2 ^ packed_unit) (size 2 31 scaled_unit (unsigned 31 a.q))))) (differ_is _ _)
    ∙ sym (quotient_real 2 31 a.p a.q k.0 k.1 (omega arith) (omega arith) (omega arith) (omega arith) (lit≤ tt) (packed_unit - unit 2 31) scaled_unit (lit≤ tt))
