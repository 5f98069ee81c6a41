-- `Unsigned::of` meets its contract: above NaR the opposite, else the pattern itself.
use Rattle.std.proofs.Common.{arith}
use Rattle.posit.specs.Pattern.{opposite}
use Rattle.posit.proofs.Unsigned.{unsigned_above, unsigned_below}
use Rattle.unpacking.proofs.unsigned.Unsigned.of.Goals as goal
use Rattle.unpacking.proofs.unsigned.Unsigned.of.Goals.{then-p-gt-NAR, else-p-gt-NAR}

pub returns : goal.returns
unfolding opposite
returns c =
    let p = c.args.p in
    elim c.if-p-gt-NAR.branch [
      | then-p-gt-NAR w ↦ rw (unsigned_above 31 p (omega arith)) (omega arith)
      | else-p-gt-NAR w ↦ rw (unsigned_below 31 p (omega arith)) (omega arith)
    ]
