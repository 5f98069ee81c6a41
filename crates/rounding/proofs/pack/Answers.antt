-- `pack` meets its contract: the size's pattern, negated where the sign says so.
use Rattle.std.proofs.Common.{arith}
use Rattle.posit.specs.Pattern.{opposite}
use Rattle.posit.specs.Rounding.{signed}
use Rattle.rounding.proofs.pack.Goals as goal

pub returns-then-negative : goal.returns-then-negative
unfolding signed opposite
returns-then-negative c = rw (c.if-negative.true, ← c.pack_size-p.ensures) (omega arith)

pub returns-else-negative : goal.returns-else-negative
unfolding signed
returns-else-negative c = rw c.if-negative.false c.pack_size-p.ensures
