-- `Unsigned::scaled` meets its contract: of what follows the run a quotient is the exponent, and a remainder the fraction.
use Rattle.std.proofs.Common.{◌≡◌, ℕ, ◌+◌, ◌*◌, ◌/◌, ◌%◌, ◌^◌, ◌≤◌, ap, ◌∙◌, ap₂, arith}
use Rattle.posit.specs.Pattern.{Positive, regime, raised, least, unit}
use Rattle.posit.proofs.Word.{behind_exponent, behind_fraction}
use Rattle.posit.proofs.Unsigned.{regime_small}
use Rattle.unpacking.proofs.Scale.{raised_high}
use Rattle.unpacking.proofs.unsigned.Unsigned.scaled.Goals as goal

-- the base is small
base_high : (b r : ℕ) → Positive 31 b → 4 * r ≡ raised 2 (least 2 31) (regime 31 b) → 4 * r ≤ unit 2 31
base_high b r k e = rw e (raised_high (regime 31 b) (regime_small 31 b k))

pub overflow_mul-result : goal.overflow_mul-result
overflow_mul-result c = record { fits = omega (arith, base_high c.args.self.bits c.base.result c.args.self.positive c.base.ensures) }

pub overflow_add-result : goal.overflow_add-result
overflow_add-result c = record { fits = omega (arith, base_high c.args.self.bits c.base.result c.args.self.positive c.base.ensures) }

pub returns : goal.returns
returns c =
    let b = c.args.self.bits in
    let t = c.split-s.ensures.1 in (
      ap₂ ◌+◌ c.base.ensures (ap (λ (x : ℕ). x / 2 ^ 30) t ∙ behind_exponent 2 31 b),
      ap (λ (x : ℕ). 2 ^ 30 + x % 2 ^ 30) t ∙ ap (λ (x : ℕ). 2 ^ 30 + x) (behind_fraction 2 31 b),
    )
