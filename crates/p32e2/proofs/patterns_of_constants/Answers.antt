-- `patterns_of_constants` meets its contract by computation.
use Rattle.std.proofs.Common.{refl}
use Rattle.posit.specs.Pattern.{opposite}
use Rattle.p32e2.proofs.patterns_of_constants.Goals as goal

pub returns : goal.returns
unfolding opposite
returns c = refl
