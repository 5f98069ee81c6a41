-- `P32E2::neg` meets its contract: zero wrapping-minus the pattern is its two's complement.
use Rattle.std.proofs.Common.{rules}
use Rattle.posit.specs.Pattern.{opposite}
use Rattle.p32e2.proofs.P32E2.neg.Goals as goal

pub returns : goal.returns
unfolding opposite
returns c = search rules
