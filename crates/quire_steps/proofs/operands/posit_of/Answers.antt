-- `posit_of` meets its contract, by `posit_brought` and `posit_whole`.
use native.Mathlib.Omega.{arith}
use Rattle.unpacking.proofs.Scale.{scaled_below}
use Rattle.quire_steps.proofs.Brought.{posit_brought, posit_whole}
use Rattle.quire_steps.proofs.operands.posit_of.Goals as goal

pub invariant_of-result : goal.invariant_of-result
invariant_of-result c =
    let p = c.args.p.0 in
    let x = c.scaled_of-x.result in
    let e = c.scaled_of-x.ensures in
    record { in_place = (omega (arith, (scaled_below p x.scale x.significand e).0), posit_whole p x.scale x.significand (omega arith) e) }

pub returns : goal.returns
returns c = let x = c.scaled_of-x in posit_brought c.args.p.0 x.result.scale x.result.significand (omega arith) x.ensures
