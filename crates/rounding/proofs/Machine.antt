-- Two bools that differ, as the machine tells it, and as xor.
use Rattle.std.proofs.Common.{◌≡◌, Bool, true, false, not, refl}
use mathlib.Core.Bool.{xor, beq}

pub differ_is : (s t : Bool) → not (beq s t) ≡ xor s t
unfolding xor
differ_is true true = refl
differ_is true false = refl
differ_is false true = refl
differ_is false false = refl
