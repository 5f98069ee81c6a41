-- `cleared` meets its contract.
use Rattle.quire_steps.proofs.Words.{clear_spelt}
use Rattle.quire_steps.proofs.cleared.Goals as goal

pub returns : goal.returns
returns c = clear_spelt
