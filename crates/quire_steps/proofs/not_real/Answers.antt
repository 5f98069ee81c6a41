-- `not_real` meets its contract.
use Rattle.quire_steps.proofs.Words.{nar_spelt}
use Rattle.quire_steps.proofs.not_real.Goals as goal

pub returns : goal.returns
returns c = nar_spelt
