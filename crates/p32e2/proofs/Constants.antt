-- The values of the patterns that the constants are, computed: in units of 2 ^ - unit, 1 is 2 ^ unit, and the largest and the smallest size are 2 ^ least and 2 ^ - least.
use Rattle.std.proofs.Common.{◌≡◌, ℕ, ◌+◌, ◌-◌, ◌^◌, ℤ, pos, neg_ℤ, refl}
use Rattle.posit.specs.Pattern.{opposite, value, least, unit}
use Rattle.posit.proofs.Computing.{everything}

abbrev worth : ℕ → ℤ
worth p = value 2 31 (unit 2 31) p

zero_worth : worth 0 ≡ pos 0
unfolding everything
zero_worth = refl

one_worth : worth (2 ^ 30) ≡ pos (2 ^ unit 2 31)
unfolding everything
one_worth = refl

largest_worth : worth (2 ^ 31 - 1) ≡ pos (2 ^ (unit 2 31 + least 2 31))
unfolding everything
largest_worth = refl

least_worth : worth (opposite 31 (2 ^ 31 - 1)) ≡ neg_ℤ (pos (2 ^ (unit 2 31 + least 2 31)))
unfolding everything
least_worth = refl

smallest_worth : worth 1 ≡ pos (2 ^ (unit 2 31 - least 2 31))
unfolding everything
smallest_worth = refl
