-- `half_even` meets its contract: where anything follows, or where the digits that stay are odd, the digit cut off is added; else it is dropped.
use Rattle.std.proofs.Common.{◌≡◌, ℕ, ◌+◌, ◌/◌, ◌%◌, true, false, arith}
use native.Mathlib.Decide.{ℕ_discrete}
use Rattle.posit.proofs.LongPattern.{half_even, even_stays, more_goes_up, tie_goes_even}
use Rattle.rounding.proofs.half_even.Goals as goal

more_adds : (h : ℕ) → h / 2 + h % 2 ≡ half_even h true
more_adds h = go (ℕ_discrete (h % 2) 0)
  where
    go : Dec (h % 2 ≡ 0) → h / 2 + h % 2 ≡ half_even h true
    go (yes e) = omega (arith, even_stays h true e)
    go (no e) = omega (arith, more_goes_up h (omega arith))

-- at a tie the digits that stay decide
tie_adds : (h n : ℕ) → (h % 2 ≡ 1 → h / 2 % 2 ≡ n) → (h % 2 ≡ 0 → n ≡ 0) → h / 2 + n ≡ half_even h false
tie_adds h n f g = go (ℕ_discrete (h % 2) 0)
  where
    go : Dec (h % 2 ≡ 0) → h / 2 + n ≡ half_even h false
    go (yes e) = omega (arith, even_stays h false e, g e)
    go (no e) = omega (arith, tie_goes_even h (omega arith), f (omega arith))

pub returns-then-more : goal.returns-then-more
returns-then-more c = rw c.if-more.true (more_adds c.args.h)

pub returns-else-more : goal.returns-else-more
returns-else-more c =
    let h = c.args.h in
    rw c.if-more.false (tie_adds h ((h % 2 + h / 2 % 2) / 2) (λ e. omega arith) (λ e. omega arith))
