-- A declaration that says `unfolding everything` computes with every definition of this crate and below it. It means nothing itself.
use Rattle.posit.proofs.Computing as posit
use Rattle.quire_steps.specs.Sign.{sign_off}

unfoldable pub everything : Unit {0}
unfolding posit.everything sign_off
everything = tt
