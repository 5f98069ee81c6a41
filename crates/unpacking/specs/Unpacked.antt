-- What each case of the enum `Unpacked` means (1.9): the case of `Parts` of the same name.
use Rattle.unpacking.specs.Parts.{Parts, is_zero, is_nar, is_real}
use Rattle.unpacking.specs.declared.Unpacked.{Unpacked}
use Rattle.unpacking.specs.declared.Unpacked.TheVariants.{Zero, NaR, Real}

abbrev pub meaning : Unpacked → Parts
meaning Zero = is_zero
meaning NaR = is_nar
meaning (Real sign k e significand) = is_real sign k e significand
