-- The quotient by its cases. For two real patterns it is the rounding of the ratio of their sizes, and the units are free: the sizes are told in units of
-- 2 ^ - v for any v that is fine enough, since the unit is a factor of both, and the ratio in units that are i digits finer.
use mathlib.Core.Path.{◌≡◌, refl, sym, ap, ap₂, ◌∙◌}
use mathlib.Core.Logic.{◌≢◌}
use mathlib.Core.Bool.{xor}
use Prim.Native.Nat.{ℕ, zero, suc, ◌+◌, ◌-◌, ◌*◌, ◌^◌, ◌≤◌, ◌<◌}
use native.Mathlib.Nat.{mul_assoc, mul_right_comm, mul-pos}
use borrow.Author.Tests.{eq-eqb, ne_eqb}
use lib.Dec.{leb, ltb}
use lib.Pow.{pow_pos, pow-add}
use Rattle.posit.specs.Pattern.{nar, is_negative, unsigned, Positive, size, least, unit}
use Rattle.posit.specs.Exact.{Exact, ratio, at_least, above}
use Rattle.posit.specs.Rounding.{search_down, below, nearer, round, signed}
use Rattle.posit.specs.Operation.{quotient}
use Rattle.posit.proofs.Compare.{leb_factor, ltb_factor}
use Rattle.posit.proofs.Size.{size_by_least, size_positive}
use Rattle.posit.proofs.Rounding.{fine_here}
use Rattle.posit.proofs.Unsigned.{unsigned_positive}
use Rattle.posit.proofs.Unit.{round_finer}

-- ---- sizes that no number of units tells apart are rounded alike

module _ (x y : Exact) (least_alike : (v : ℕ) → at_least x v ≡ at_least y v) (above_alike : (v : ℕ) → above x v ≡ above y v) (es w u : ℕ) where
  search_alike : (d p : ℕ) → search_down es w u x d p ≡ search_down es w u y d p
  unfolding search_down
  search_alike zero p = refl
  search_alike (suc d) p = rw (least_alike (size es w u (p + 2 ^ d))) (search_alike d _)

  round_alike : round es w u x ≡ round es w u y
  unfolding round below nearer
  round_alike = simp (search_alike, least_alike, above_alike)

-- both sizes of a ratio may grow by one factor
module _ (x y k : ℕ) (k_pos : 0 < k) where
  round_ratio : (es w u : ℕ) → round es w u (ratio (x * k) (y * k)) ≡ round es w u (ratio x y)
  round_ratio =
      round_alike (ratio (x * k) (y * k)) (ratio x y)
      (λ v. ap (λ (n : ℕ). leb n (x * k)) (sym (mul_assoc v y k)) ∙ leb_factor (v * y) x k k_pos)
      (λ v. ap (λ (n : ℕ). ltb n (x * k)) (sym (mul_assoc v y k)) ∙ ltb_factor (v * y) x k k_pos)

-- the ratio of the sizes of two patterns above 0, in other units
module _ (es w u : ℕ) (fine : least es (suc w) ≤ u) (p d : ℕ) (p_positive : Positive w p) (d_positive : Positive w d) where
  -- in units of 2 ^ - n the unit v of the sizes does not matter
  by_least : (n v : ℕ) → least es w ≤ v
      → round es w n (ratio (size es w v p * 2 ^ n) (size es w v d)) ≡ round es w n (ratio (size es w (least es w) p * 2 ^ n) (size es w (least es w) d))
  by_least n v h =
      let x = size es w (least es w) p in
      let y = size es w (least es w) d in
      let k = 2 ^ (v - least es w) in
      let grown : size es w v p * 2 ^ n ≡ x * 2 ^ n * k = ap (λ (m : ℕ). m * 2 ^ n) (size_by_least es v w p p_positive.0 p_positive.1 h) ∙ mul_right_comm x k (2 ^ n) in
      ap₂ (λ (a b : ℕ). round es w n (ratio a b)) grown (size_by_least es v w d d_positive.0 d_positive.1 h)
      ∙ round_ratio (x * 2 ^ n) y k (pow_pos (v - least es w)) es w n

  size_above : (q : ℕ) → Positive w q → 0 < size es w u q
  size_above q k = size_positive es u w q k.0 k.1 (fine_here es w u fine)

  ratio_in_units : (i v : ℕ) → least es w ≤ v
      → round es w (u + i) (ratio (size es w v p * 2 ^ (u + i)) (size es w v d)) ≡ round es w u (ratio (size es w u p * 2 ^ u) (size es w u d))
  ratio_in_units i v h =
      let wide : least es w ≤ u = fine_here es w u fine in
      let whole : size es w u p * 2 ^ u * 2 ^ i ≡ size es w u p * 2 ^ (u + i) = mul_assoc (size es w u p) (2 ^ u) (2 ^ i) ∙ ap (λ (m : ℕ). size es w u p * m) (sym (pow-add 2 u i)) in
      by_least (u + i) v h
      ∙ sym (by_least (u + i) u wide)
      ∙ ap (λ (n : ℕ). round es w (u + i) (ratio n (size es w u d))) (sym whole)
      ∙ round_finer es w u i fine (ratio (size es w u p * 2 ^ u) (size es w u d)) (mul-pos (size_above p p_positive) (pow_pos u), size_above d d_positive)

-- ---- the cases

module _ (es w a b : ℕ) (real : a ≢ nar w) where
  module _ (by_real : b ≢ nar w) where
    pub quotient_by_zero : b ≡ 0 → quotient es w a b ≡ nar w
    unfolding quotient
    quotient_by_zero e = rw (ne_eqb a (nar w) real, ne_eqb b (nar w) by_real, eq-eqb b 0 e)

    module _ (by_some : b ≢ 0) where
      pub quotient_of_zero : a ≡ 0 → quotient es w a b ≡ 0
      unfolding quotient
      quotient_of_zero e = rw (ne_eqb a (nar w) real, ne_eqb b (nar w) by_real, ne_eqb b 0 by_some, eq-eqb a 0 e)

      module _ (some : a ≢ 0) where
        quotient_is : let u = unit es w in
            quotient es w a b ≡ signed w (xor (is_negative w a) (is_negative w b)) (round es w u (ratio (size es w u (unsigned w a) * 2 ^ u) (size es w u (unsigned w b))))
        unfolding quotient
        quotient_is = rw (ne_eqb a (nar w) real, ne_eqb b (nar w) by_real, ne_eqb b 0 by_some, ne_eqb a 0 some)

        module _ (short : a < 2 ^ suc w) (by_short : b < 2 ^ suc w) (fine : least es (suc w) ≤ unit es w) (i v : ℕ) (in_units : least es w ≤ v) where
          pub quotient_real : let u = unit es w in
              quotient es w a b
              ≡ signed w (xor (is_negative w a) (is_negative w b)) (round es w (u + i) (ratio (size es w v (unsigned w a) * 2 ^ (u + i)) (size es w v (unsigned w b))))
          quotient_real =
              let p = unsigned_positive w a short some real in
              let d = unsigned_positive w b by_short by_some by_real in
              quotient_is ∙ ap (signed w (xor (is_negative w a) (is_negative w b))) (sym (ratio_in_units es w (unit es w) fine (unsigned w a) (unsigned w b) p d i v in_units))
