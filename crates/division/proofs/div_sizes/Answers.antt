-- `div_sizes` meets its contract: the quotient of the significands has its leading one at bit 31 or 32, and tells the ratio of the sizes (`ratio_rounds`).
use mathlib.Core.Path.{◌≡◌, sym, ap, ap₂, ◌∙◌}
use Prim.Native.Nat.{ℕ, suc, ◌+◌, ◌-◌, ◌*◌, ◌/◌, ◌%◌, ◌^◌, ◌≤◌, ◌<◌}
use native.Mathlib.Nat.{le-div_iff_mul-le, div-lt_iff_lt-mul}
use native.Mathlib.Decide.{dec_lt}
use native.Mathlib.Omega.{arith}
use lib.Dec.{ltb}
use lib.Pow.{shl_exact}
use Rattle.posit.specs.Pattern.{size}
use Rattle.posit.specs.Exact.{whole, ratio}
use Rattle.posit.specs.Rounding.{round, signed}
use Rattle.rounding.specs.Packed.{packed_size, packed_unit}
use Rattle.unpacking.specs.Scaled.{scaled_unit, Scales}
use Rattle.division.proofs.Divided.{ratio_rounds}
use Rattle.division.proofs.div_sizes.Goals as goal

-- a quotient from 2 ^ 31 to 2 ^ 33 has its leading one at bit 31, or at 32 where 2 ^ 32 goes into it
leading_place : (q : ℕ) → 2 ^ 31 ≤ q → q < 2 ^ 33 → (2 ^ (31 + q / 2 ^ 32) ≤ q) × (q < 2 ^ suc (31 + q / 2 ^ 32))
leading_place q low high = go (dec_lt q (2 ^ 32))
  where
    go : Dec (q < 2 ^ 32) → (2 ^ (31 + q / 2 ^ 32) ≤ q) × (q < 2 ^ suc (31 + q / 2 ^ 32))
    go (yes h) =
        let e : q / 2 ^ 32 ≡ 0 = omega arith in
        rw e (low, h)
    go (no h) =
        let e : q / 2 ^ 32 ≡ 1 = omega arith in
        rw e (omega arith, high)

module _ {a b c e g d : ℕ} (x : Scales a c g) (y : Scales b e d) where
  abbrev dividend : ℕ
  dividend = g * 2 ^ 32 % 2 ^ 64

  dividend_is : dividend ≡ g * 2 ^ 32
  dividend_is = omega arith

  divisor_positive : 0 < d
  divisor_positive = omega arith

  abbrev high : ℕ
  high = dividend / d / 2 ^ 32

  quotient_low : 2 ^ 31 ≤ dividend / d
  quotient_low = (le-div_iff_mul-le divisor_positive).1 (omega arith)

  quotient_high : dividend / d < 2 ^ 33
  quotient_high = (div-lt_iff_lt-mul divisor_positive).1 (omega arith)

  high_small : high ≤ 1
  high_small = omega (arith, quotient_high)

  rounds : round 2 31 packed_unit (whole (packed_size (1023 + high + c - e) (dividend / d * 2 ^ (30 - high) % 2 ^ 64) (ltb 0 (dividend % d))))
      ≡ round 2 31 packed_unit (ratio (size 2 31 scaled_unit a * 2 ^ packed_unit) (size 2 31 scaled_unit b))
  rounds =
      let scale = 1023 + high + c - e in
      let place = leading_place (dividend / d) quotient_low quotient_high in
      let at : 30 - high ≡ 61 - (31 + high) = omega (arith, high_small) in
      let moved : dividend / d * 2 ^ (30 - high) % 2 ^ 64 ≡ dividend / d * 2 ^ (61 - (31 + high)) =
      shl_exact 33 (30 - high) 64 quotient_high (omega arith) ∙ ap (λ (k : ℕ). dividend / d * 2 ^ k) at in
      ap (λ (f : ℕ). round 2 31 packed_unit (whole (packed_size scale f (ltb 0 (dividend % d))))) moved
      ∙ sym
      (ratio_rounds g d c e (omega arith) divisor_positive (omega arith) dividend dividend_is (31 + high) scale (omega arith) (omega (arith, high_small)) (omega (arith, high_small))
      place.0
      place.1)
      ∙ sym (ap₂ (λ (n m : ℕ). round 2 31 packed_unit (ratio (n * 2 ^ packed_unit) m)) x.size_is y.size_is)

pub returns : goal.returns
returns c =
    c.pack.ensures ∙ ap (signed 31 c.args.negative) (rounds (c.scaled_of-x.ensures.of_real c.requires.0) (c.scaled_of-y.ensures.of_real c.requires.1))
