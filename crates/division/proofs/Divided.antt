-- The ratio of two sizes g * 2 ^ c and d * 2 ^ e is told by the quotient of g * 2 ^ 32 by d, and the sticky bit by whether a rest is left: both sides of each
-- comparison have one power of two as a factor.
use mathlib.Core.Path.{◌≡◌, sym, ap, ap₂, subst₂, ◌∙◌}
use Prim.Native.Nat.{ℕ, suc, ◌+◌, ◌-◌, ◌*◌, ◌/◌, ◌%◌, ◌^◌, ◌≤◌, ◌<◌}
use native.Mathlib.Nat.{mul_assoc, mul-pos, mul-le-mul_right, mul-lt-mul_of_pos_right, div-add-mod', mod-lt}
use native.Mathlib.Decide.{dec_lt}
use native.Mathlib.Omega.{arith}
use borrow.Author.Tests.{lt-ltb, le-ltb}
use lib.Dec.{ltb}
use lib.Pow.{pow_pos, pow-add}
use Rattle.posit.specs.Exact.{Exact, whole, ratio, Sound, above, Under}
use Rattle.posit.specs.Rounding.{round}
use Rattle.posit.proofs.Arith.{pow_sum}
use Rattle.posit.proofs.Compare.{AtLeast, ltb_factor}
use Rattle.rounding.specs.Packed.{packed_size, packed_unit}
use Rattle.rounding.proofs.Packed.{significand_stands_for}

module _ (g d c e : ℕ) (g_pos : 0 < g) (d_pos : 0 < d) (near : e ≤ c + (packed_unit - 32)) (n : ℕ) (dividend : n ≡ g * 2 ^ 32) where
  abbrev sizes_ratio : Exact
  sizes_ratio = ratio (g * 2 ^ c * 2 ^ packed_unit) (d * 2 ^ e)

  bound_is : g * 2 ^ c * 2 ^ packed_unit ≡ n * 2 ^ (c + (packed_unit - 32))
  bound_is =
      mul_assoc g (2 ^ c) (2 ^ packed_unit)
      ∙ ap (λ (p : ℕ). g * p) (pow_sum c packed_unit (32 + (c + (packed_unit - 32))) (omega arith) ∙ pow-add 2 32 (c + (packed_unit - 32)))
      ∙ sym (mul_assoc g (2 ^ 32) (2 ^ (c + (packed_unit - 32))))
      ∙ ap (λ (m : ℕ). m * 2 ^ (c + (packed_unit - 32))) (sym dividend)

  told_is : (v : ℕ) → v * 2 ^ (c + (packed_unit - 32) - e) * (d * 2 ^ e) ≡ v * d * 2 ^ (c + (packed_unit - 32))
  told_is v = omega (arith, ap (λ (p : ℕ). v * d * p) (pow_sum (c + (packed_unit - 32) - e) e (c + (packed_unit - 32)) (omega arith)))

  at_least : AtLeast sizes_ratio (n / d * 2 ^ (c + (packed_unit - 32) - e))
  at_least = subst₂ ◌≤◌ (sym (told_is (n / d))) (sym bound_is) (mul-le-mul_right (2 ^ (c + (packed_unit - 32))) (omega (arith, div-add-mod' n d)))

  under : Under sizes_ratio (suc (n / d) * 2 ^ (c + (packed_unit - 32) - e))
  under =
      let less : n < suc (n / d) * d = omega (arith, div-add-mod' n d, mod-lt n d_pos) in
      subst₂ ◌<◌ (sym bound_is) (sym (told_is (suc (n / d)))) (mul-lt-mul_of_pos_right less (pow_pos (c + (packed_unit - 32))))

  rest_is_left : ltb (n / d * d) n ≡ ltb 0 (n % d)
  rest_is_left = go (dec_lt 0 (n % d))
    where
      go : Dec (0 < n % d) → ltb (n / d * d) n ≡ ltb 0 (n % d)
      go (yes h) = lt-ltb (n / d * d) n (omega (arith, div-add-mod' n d)) ∙ sym (lt-ltb 0 (n % d) h)
      go (no h) = le-ltb (n / d * d) n (omega (arith, div-add-mod' n d)) ∙ sym (le-ltb 0 (n % d) (omega arith))

  above_is : above sizes_ratio (n / d * 2 ^ (c + (packed_unit - 32) - e)) ≡ ltb 0 (n % d)
  above_is = ap₂ ltb (told_is (n / d)) bound_is ∙ ltb_factor (n / d * d) n (2 ^ (c + (packed_unit - 32))) (pow_pos (c + (packed_unit - 32))) ∙ rest_is_left

  -- the leading one of the quotient is at bit m
  pub ratio_rounds : (m k : ℕ) → 28 ≤ m → m ≤ 61 → k + 62 - m ≡ c + (packed_unit - 32) - e → 2 ^ m ≤ n / d → n / d < 2 ^ suc m
      → round 2 31 packed_unit sizes_ratio ≡ round 2 31 packed_unit (whole (packed_size k (n / d * 2 ^ (61 - m)) (ltb 0 (n % d))))
  ratio_rounds m k hm hm' place leading short =
      let sound : Sound sizes_ratio = (mul-pos (mul-pos g_pos (pow_pos c)) (pow_pos packed_unit), mul-pos d_pos (pow_pos e)) in
      significand_stands_for sizes_ratio sound m hm hm' k (n / d) (c + (packed_unit - 32) - e) place leading short (ltb 0 (n % d)) (record { low = at_least; high = under; seen = above_is })
