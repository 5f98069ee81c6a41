-- The square root by its cases, and the root of a positive pattern in other units: the root itself may be told in units that are i digits finer, and the size
-- that it is taken of in units of 2 ^ - v for any v that is fine enough. The square of the root's unit is then 2 ^ n units of the size's.
use mathlib.Core.Path.{◌≡◌, sym, ap, ◌∙◌}
use Prim.Native.Nat.{ℕ, suc, ◌+◌, ◌-◌, ◌*◌, ◌^◌, ◌≤◌}
use native.Mathlib.Nat.{mul_assoc, mul-pos}
use native.Mathlib.Decide.{ℕ_discrete}
use native.Mathlib.Omega.{arith}
use borrow.Author.Tests.{eq-eqb, ne_eqb, lt-ltb, le-ltb}
use lib.Pow.{pow_pos, pow-add}
use Rattle.posit.specs.Pattern.{nar, Positive, size, least, unit}
use Rattle.posit.specs.Exact.{root}
use Rattle.posit.specs.Rounding.{round}
use Rattle.posit.specs.Operation.{square_root}
use Rattle.posit.proofs.Arith.{same_power}
use Rattle.posit.proofs.Size.{size_by_least, size_positive}
use Rattle.posit.proofs.Rounding.{unit_fine, fine_here}
use Rattle.posit.proofs.Unit.{round_finer}

pub same_powers : (z u i j n : ℕ) → u + (i + i) ≡ j + n → z * 2 ^ u * (2 ^ i * 2 ^ i) ≡ z * 2 ^ j * 2 ^ n
same_powers z u i j n e = rw (← pow-add 2 i i) (same_power z u (i + i) j n e)

module _ (es w a : ℕ) where
  pub root_of_zero : a ≡ 0 → square_root es w a ≡ 0
  unfolding square_root
  root_of_zero z = rw (ne_eqb a (nar w) (λ e. omega (arith, pow_pos w)), le-ltb (nar w) a (omega arith), eq-eqb a 0 z)

  -- NaR, or a negative
  pub root_of_none : nar w ≤ a → square_root es w a ≡ nar w
  unfolding square_root
  root_of_none h = go (ℕ_discrete a (nar w))
    where
      go : Dec (a ≡ nar w) → square_root es w a ≡ nar w
      go (yes e) = rw (eq-eqb a (nar w) e)
      go (no n) = rw (ne_eqb a (nar w) n, lt-ltb (nar w) a (omega arith))

  module _ (k : Positive w a) where
    root_of_positive : square_root es w a ≡ round es w (unit es w) (root (size es w (unit es w) a * 2 ^ unit es w))
    unfolding square_root
    root_of_positive = rw (ne_eqb a (nar w) (λ e. omega (arith, k.1)), le-ltb (nar w) a (omega (arith, k.1)), ne_eqb a 0 (λ e. omega (arith, k.0)))

    module _ (v : 2 ≤ w) where
      fine : least es (suc w) ≤ unit es w
      fine = unit_fine es w v

      wide : least es w ≤ unit es w
      wide = fine_here es w (unit es w) fine

      same_square : (i v n : ℕ) → least es w ≤ v → unit es w + i + (unit es w + i) ≡ v + n
          → size es w (unit es w) a * 2 ^ unit es w * (2 ^ i * 2 ^ i) ≡ size es w v a * 2 ^ n
      same_square i v n h e =
          let z = size es w (least es w) a in
          rw (size_by_least es (unit es w) w a k.0 k.1 wide, size_by_least es v w a k.0 k.1 h, mul_assoc z (2 ^ (unit es w - least es w)) (2 ^ unit es w), ← pow-add 2 (unit es w - least es w) (unit es w))
          (same_powers z (unit es w - least es w + unit es w) i (v - least es w) n (omega arith))

      pub root_in_units : (i v n : ℕ) → least es w ≤ v → unit es w + i + (unit es w + i) ≡ v + n
          → square_root es w a ≡ round es w (unit es w + i) (root (size es w v a * 2 ^ n))
      root_in_units i v n h e =
          let sound = mul-pos (size_positive es (unit es w) w a k.0 k.1 wide) (pow_pos (unit es w)) in
          root_of_positive
          ∙ sym (round_finer es w (unit es w) i fine (root (size es w (unit es w) a * 2 ^ unit es w)) sound)
          ∙ ap (λ (x : ℕ). round es w (unit es w + i) (root x)) (same_square i v n h e)
