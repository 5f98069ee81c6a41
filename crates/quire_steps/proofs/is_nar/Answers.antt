-- `is_nar` meets its contract: 2 ^ 511 is the one number of NaR.
use mathlib.Core.Path.{◌∙◌}
use Rattle.quire_steps.proofs.Words.{nar_seen}
use Rattle.quire_steps.proofs.is_nar.Goals as goal

pub returns : goal.returns
returns c = c.is_alone.ensures ∙ nar_seen c.args.q
