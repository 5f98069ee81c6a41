-- What a step leads to is a total within the range, or NaR: it is written as words and read back unchanged.
use mathlib.Core.Path.{◌≡◌, refl}
use Prim.Native.Nat.{ℕ, ◌-◌, ◌^◌, ◌<◌}
use native.Mathlib.Decide.{dec_lt}
use native.Mathlib.Omega.{arith}
use borrow.Author.Tests.{lt-ltb, le-ltb}
use lib.Dec.{lit<}
use lib.IntN.{ℤ, nat_abs, ◌+ℤ◌}
use Rattle.posit.specs.Accumulator.{State, not_real, total, kept, plus, words, from_words}
use Rattle.posit.proofs.State.{Held, words_read}

kept_held : (bits : ℕ) (t : ℤ) → Held bits (kept bits t)
kept_held bits t = go (dec_lt (nat_abs t) (2 ^ (bits - 1)))
  where
    go : Dec (nat_abs t < 2 ^ (bits - 1)) → Held bits (kept bits t)
    go (yes h) = rw (lt-ltb (nat_abs t) (2 ^ (bits - 1)) h) h
    go (no h) = rw (le-ltb (nat_abs t) (2 ^ (bits - 1)) (omega arith)) tt

pub plus_held : (q x : State) → Held 512 (plus 512 q x)
unfolding plus
plus_held not_real x = tt
plus_held (total t) not_real = tt
plus_held (total t) (total u) = kept_held 512 (t +ℤ u)

pub plus_read : (q x : State) → from_words 512 (words 512 (plus 512 q x)) ≡ plus 512 q x
plus_read q x = words_read 512 (lit< tt) refl (plus 512 q x) (plus_held q x)
