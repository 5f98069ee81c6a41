-- `Q32E2::init` meets its contract: its words are those of `clear`.
use Rattle.quire_steps.proofs.Words.{clear_spelt}
use Rattle.quire32.proofs.Q32E2.init.Goals as goal

pub returns : goal.returns
returns c = clear_spelt
