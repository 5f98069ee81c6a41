-- A pattern with its sign off: it is one above 0, its regime and its exponent have a range, and its size with the sign is the value, so that the unit of a
-- value is free. The regime's range is shown of the pattern of ones and of those that are built.
use mathlib.Core.Path.{◌≡◌, sym}
use mathlib.Core.Logic.{◌≢◌}
use mathlib.Core.Bool.{Bool, true, false}
use Prim.Native.Nat.{ℕ, suc, ◌+◌, ◌^◌, ◌≤◌, ◌<◌}
use native.Mathlib.Nat.{mul_comm, mod-lt, div-lt_iff_lt-mul, mul-lt-mul_of_pos_right}
use native.Mathlib.Decide.{dec_lt, ℕ_discrete}
use native.Mathlib.Omega.{arith}
use borrow.Author.Tests.{lt-ltb, le-ltb}
use lib.IntN.{pos, nat_abs, ◌*ℤ◌, zero-*ℤ}
use lib.Pow.{pow_pos}
use mir.Val.{bool_byte}
use Rattle.posit.specs.Pattern.{nar, opposite, is_negative, unsigned, Positive, regime, regime_of, left, exponent, size, value, least}
use Rattle.posit.proofs.Value.{opposite_positive, value_zero, value_positive, value_negative}
use Rattle.posit.proofs.Signs.{with_sign, scaled_sign}
use Rattle.posit.proofs.Size.{size_unit}
use Rattle.posit.proofs.Built.{by_shape, regime_built, regime_ones}

-- ---- a pattern b above 0

pub regime_small : (w b : ℕ) → Positive w b → nat_abs (regime w b) < w
regime_small w b k =
    by_shape (λ w b. nat_abs (regime w b) < w)
    (λ w. rw (regime_ones w) (omega arith))
    (λ o m l t h. rw (regime_built o l t h m) (short o m l))
    w
    b
    k.0
    k.1
  where
    short : (o : Bool) (m l : ℕ) → nat_abs (regime_of (bool_byte o) (suc m)) < suc m + suc l
    short true m l = omega arith
    short false m l = omega arith

pub exponent_lt : (es w b : ℕ) → exponent es w b < 2 ^ es
unfolding exponent
exponent_lt es w b =
    (div-lt_iff_lt-mul (pow_pos (left w b))).1 (rw (mul_comm (2 ^ es)) (mul-lt-mul_of_pos_right (mod-lt b (pow_pos (left w b))) (pow_pos es)))

-- ---- a pattern p with its sign

module _ (w p : ℕ) where
  pub unsigned_below : p ≤ nar w → unsigned w p ≡ p
  unfolding unsigned
  unsigned_below h = rw (le-ltb (nar w) p h)

  pub unsigned_above : nar w < p → unsigned w p ≡ opposite w p
  unfolding unsigned
  unsigned_above h = rw (lt-ltb (nar w) p h)

  pub unsigned_positive : p < 2 ^ suc w → p ≢ 0 → p ≢ nar w → Positive w (unsigned w p)
  unsigned_positive h z n = go (dec_lt (nar w) p)
    where
      go : Dec (nar w < p) → Positive w (unsigned w p)
      go (yes q) = rw (unsigned_above q) (opposite_positive w p q h)
      go (no q) = rw (unsigned_below (omega arith)) (omega arith, omega arith)

pub value_real : (es w p u : ℕ) → p ≢ 0 → p ≢ nar w → value es w u p ≡ with_sign (is_negative w p) (size es w u (unsigned w p))
value_real es w p u z n = go (dec_lt (nar w) p)
  where
    go : Dec (nar w < p) → value es w u p ≡ with_sign (is_negative w p) (size es w u (unsigned w p))
    go (yes q) = rw (unsigned_above w p q, lt-ltb (nar w) p q) (value_negative es w u p q)
    go (no q) = rw (unsigned_below w p (omega arith), le-ltb (nar w) p (omega arith)) (value_positive es w u p (omega arith, omega arith))

pub value_unit : (es w p u i : ℕ) → p < 2 ^ suc w → p ≢ nar w → least es w ≤ u → value es w (u + i) p ≡ value es w u p *ℤ pos (2 ^ i)
value_unit es w p u i h n fine = go (ℕ_discrete p 0)
  where
    go : Dec (p ≡ 0) → value es w (u + i) p ≡ value es w u p *ℤ pos (2 ^ i)
    go (yes z) = rw (z, value_zero es w (u + i), value_zero es w u) (sym (zero-*ℤ (pos (2 ^ i))))
    go (no z) =
        let b = unsigned w p in
        let above = unsigned_positive w p h z n in
        rw (value_real es w p (u + i) z n, value_real es w p u z n, size_unit es u i w b above.0 above.1 fine)
        (sym (scaled_sign (is_negative w p) (size es w u b) (2 ^ i)))
