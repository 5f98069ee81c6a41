-- The constants' words are those of the definitions' states: they are computed.
use mathlib.Core.Path.{refl}
use Rattle.posit.proofs.Computing.{everything}
use Rattle.quire32.proofs.words_of_constants.Goals as goal

pub returns : goal.returns
unfolding everything
returns c = refl
