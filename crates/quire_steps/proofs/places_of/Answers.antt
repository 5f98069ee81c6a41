-- `places_of` meets its contract: read from the lowest up, eight words have their number (`turned_round`).
use Prim.Native.Nat.{◌^◌}
use native.Mathlib.Nat.{zero-add}
use Rattle.quire_words.proofs.Operand.{upward}
use Rattle.quire_words.proofs.Places.{words_typed}
use Rattle.quire_words.proofs.Chain.{turned_round}
use Rattle.quire_steps.proofs.places_of.Goals as goal

pub returns : goal.returns
unfolding upward
returns c =
    let q = c.args.q in
    rw (turned_round (2 ^ 64) 8 q (words_typed 8 q c.well_formed.0).0, zero-add)
