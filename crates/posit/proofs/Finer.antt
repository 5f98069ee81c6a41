-- The rounding of a whole number of units with its sign does not depend on the unit, and a sum of two may be told in a finer one term by term.
use mathlib.Core.Path.{◌≡◌, sym, ap, ◌∙◌}
use Prim.Native.Nat.{ℕ, zero, suc, ◌+◌, ◌*◌, ◌^◌, ◌≤◌}
use native.Mathlib.Nat.{zero-mul, mul-pos}
use native.Mathlib.Omega.{arith}
use lib.IntN.{ℤ, pos, negsuc, ◌+ℤ◌, ◌*ℤ◌}
use lib.Pow.{pow_pos}
use Rattle.posit.specs.Pattern.{opposite, least}
use Rattle.posit.specs.Exact.{whole}
use Rattle.posit.specs.Rounding.{rounded}
use Rattle.posit.proofs.Unit.{round_finer}
use Rattle.posit.proofs.Value.{rounded_positive, rounded_negative}
use Rattle.posit.proofs.Signs.{sum_scaled}

module _ (es w u i : ℕ) (fine : least es (suc w) ≤ u) where
  pub rounded_finer : (z : ℤ) → rounded es w u z ≡ rounded es w (u + i) (z *ℤ pos (2 ^ i))
  unfolding rounded
  rounded_finer (pos zero) = ap (λ (n : ℕ). rounded es w (u + i) (pos n)) (sym (zero-mul (2 ^ i)))
  rounded_finer (pos (suc n)) =
      sym (rounded_positive es w (u + i) (suc n * 2 ^ i) (mul-pos (omega arith) (pow_pos i)) ∙ round_finer es w u i fine (whole (suc n)) (omega arith))
  rounded_finer (negsuc n) =
      sym
      (rounded_negative es w (u + i) (suc n * 2 ^ i) (mul-pos (omega arith) (pow_pos i))
      ∙ ap (opposite w) (round_finer es w u i fine (whole (suc n)) (omega arith))
      ∙ sym (rounded_negative es w u (suc n) (omega arith)))

  pub sum_finer : (x y : ℤ) → rounded es w u (x +ℤ y) ≡ rounded es w (u + i) (x *ℤ pos (2 ^ i) +ℤ y *ℤ pos (2 ^ i))
  sum_finer x y = rounded_finer (x +ℤ y) ∙ ap (rounded es w (u + i)) (sum_scaled (2 ^ i) x y)
