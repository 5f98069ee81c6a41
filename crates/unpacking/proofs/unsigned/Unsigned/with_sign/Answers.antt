-- `Unsigned::with_sign` meets its contract: the regime and the exponent are a quotient and a remainder of the scale, and the regime fits its type.
use Rattle.std.proofs.Common.{◌≡◌, ℕ, ◌+◌, ◌/◌, ◌%◌, ◌^◌, ◌<◌, Bool, ℤ, pos, negsuc, ◌-ℤ◌, nat_abs, ◌∙◌, arith, lit<, to_z-of_z, w32, SFits, to_z}
use mir.Facts.{to_z_pos}
use Rattle.posit.specs.Pattern.{Positive, regime, exponent, raised, least}
use Rattle.posit.proofs.Unsigned.{regime_small, exponent_lt}
use Rattle.unpacking.specs.Parts.{is_real}
use Rattle.unpacking.proofs.Parts.{significand_lt}
use Rattle.unpacking.proofs.Scale.{raised_high, regime_back, exponent_back}
use Rattle.unpacking.proofs.unsigned.Unsigned.with_sign.Goals as goal

small_fits : (k : ℤ) → nat_abs k < 31 → SFits w32 k
small_fits (pos k) h = record { sfits = omega arith }
small_fits (negsuc k) h = record { sfits = omega arith }

same_parts : {s : Bool} {k k' : ℤ} {e e' g g' : ℕ} → k ≡ k' → e ≡ e' → g ≡ g' → is_real s k e g ≡ is_real s k' e' g'
same_parts p q r = cc

module _ (b c : ℕ) (k : Positive 31 b) (is : c ≡ raised 2 (least 2 31) (regime 31 b) + exponent 2 31 b) where
  quotient_short : c / 4 < 2 ^ 31
  quotient_short = omega (arith, raised_high (regime 31 b) (regime_small 31 b k), exponent_lt 2 31 b)

  regime_is : to_z w32 (c / 4) -ℤ pos 30 ≡ regime 31 b
  regime_is = rw (to_z_pos w32 quotient_short, is) (regime_back (regime 31 b) (exponent 2 31 b) (regime_small 31 b k) (exponent_lt 2 31 b))

  regime_fits : SFits w32 (to_z w32 (c / 4) -ℤ pos 30)
  regime_fits = rw regime_is (small_fits (regime 31 b) (regime_small 31 b k))

  exponent_is : c % 4 ≡ exponent 2 31 b
  exponent_is = rw is (exponent_back (regime 31 b) (exponent 2 31 b) (regime_small 31 b k) (exponent_lt 2 31 b))

pub overflow_cast-result-2 : goal.overflow_cast-result-2
overflow_cast-result-2 c =
    record { fits = omega (arith, c.scaled-x.ensures.1, significand_lt 2 31 c.args.self.bits (lit< tt)) }

pub returns : goal.returns
returns c =
    let scale = c.scaled-x.ensures.0 in
    same_parts
    (to_z-of_z (regime_fits _ _ c.args.self.positive scale) ∙ regime_is _ _ c.args.self.positive scale)
    (exponent_is _ _ c.args.self.positive scale)
    c.scaled-x.ensures.1
