-- `product_of` meets its contract, by `product_brought` and `product_whole`: below 0 where just one of the two is.
use Prim.Native.Nat.{ℕ, ◌+◌, ◌≤◌}
use native.Mathlib.Omega.{arith}
use Rattle.rounding.proofs.Machine.{differ_is}
use Rattle.unpacking.specs.Scaled.{IsScaled}
use Rattle.unpacking.proofs.Scale.{scaled_below}
use Rattle.quire_steps.proofs.Brought.{product_brought, product_whole}
use Rattle.quire_steps.proofs.operands.product_of.Goals as goal

-- of what two patterns are taken apart into, the scales and the significands are small
scales_below : (p q c d g h : ℕ) → IsScaled p c g → IsScaled q d h → c + d ≤ 480
scales_below p q c d g h x y = omega (arith, (scaled_below p c g x).0, (scaled_below q d h y).0)

pub invariant_of-result : goal.invariant_of-result
invariant_of-result c =
    let x = c.scaled_of-x in
    let y = c.scaled_of-y in
    record { in_place = (omega (arith, scales_below _ _ _ _ _ _ x.ensures y.ensures), product_whole _ _ _ _ _ _ (omega arith) (omega arith) x.ensures y.ensures) }

pub returns : goal.returns
returns c =
    let x = c.scaled_of-x in
    let y = c.scaled_of-y in
    rw (c.either_nar.ensures, differ_is _ _) (product_brought c.args.a.0 c.args.b.0 x.result.scale y.result.scale x.result.significand y.result.significand (omega arith) (omega arith) x.ensures y.ensures)
