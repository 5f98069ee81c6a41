-- Two's complement at any half H: a number below 2 * H is read as one from - H up to below H, and the two readings undo each other.
use mathlib.Core.Path.{◌≡◌, ap}
use Prim.Native.Nat.{ℕ, suc, ◌-◌, ◌*◌, ◌≤◌, ◌<◌}
use native.Mathlib.Decide.{dec_lt}
use native.Mathlib.Omega.{arith}
use borrow.Author.Tests.{lt-ltb, le-ltb}
use lib.IntN.{ℤ, pos, negsuc}
use Rattle.posit.specs.Digits.{reading, complement}

-- from - H up to below H
abbrev pub InRange : ℕ → ℤ → Type 0
InRange H (pos n) = n < H
InRange H (negsuc n) = n < H

module _ (H : ℕ) where
  pub reading_low : (n : ℕ) → n < H → reading H n ≡ pos n
  unfolding reading
  reading_low n h = rw (lt-ltb n H h)

  pub reading_high : (n : ℕ) → H ≤ n → reading H n ≡ negsuc (2 * H - suc n)
  unfolding reading
  reading_high n h = rw (le-ltb n H h)

  pub complement_lt : (z : ℤ) → InRange H z → complement H z < 2 * H
  unfolding complement
  complement_lt (pos n) h = omega arith
  complement_lt (negsuc n) h = omega arith

  pub reading_range : (n : ℕ) → n < 2 * H → InRange H (reading H n)
  reading_range n h = go (dec_lt n H)
    where
      go : Dec (n < H) → InRange H (reading H n)
      go (yes l) = rw (reading_low n l) l
      go (no l) = rw (reading_high n (omega arith)) (omega arith)

  pub complement_reading : (n : ℕ) → n < 2 * H → complement H (reading H n) ≡ n
  unfolding complement
  complement_reading n h = go (dec_lt n H)
    where
      go : Dec (n < H) → complement H (reading H n) ≡ n
      go (yes l) = rw (reading_low n l)
      go (no l) = rw (reading_high n (omega arith)) (omega arith)

  pub reading_complement : (z : ℤ) → InRange H z → reading H (complement H z) ≡ z
  unfolding complement
  reading_complement (pos n) h = reading_low n h
  reading_complement (negsuc n) h = rw (reading_high (2 * H - suc n) (omega arith)) (ap negsuc (omega arith))
