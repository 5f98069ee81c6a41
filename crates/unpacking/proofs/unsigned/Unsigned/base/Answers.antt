-- `Unsigned::base` meets its contract: the first digit tells of what the run is made, and its length the regime. Not all 31 digits are zeros, since b is not 0.
use Rattle.std.proofs.Common.{◌≡◌, ℕ, zero, suc, ◌+◌, ◌-◌, ◌*◌, ◌^◌, ◌<◌, ◌≤◌, true, false, pos, neg_ℤ, nat_abs, refl, ap, ◌∙◌, arith}
use Rattle.posit.specs.Pattern.{Positive, first, run, regime, regime_of, raised, least}
use Rattle.posit.proofs.Word.{run_le, run_positive, first_is}
use Rattle.posit.proofs.Unsigned.{regime_small}
use Rattle.unpacking.proofs.unsigned.Unsigned.base.Goals as goal

zeros_base : (m : ℕ) → m < 31 → 4 * (30 - m) ≡ raised 2 (least 2 31) (neg_ℤ (pos m))
zeros_base zero h = refl
zeros_base (suc m) h = omega arith

zeros_short : (m : ℕ) → nat_abs (neg_ℤ (pos m)) < 31 → m < 31
zeros_short zero h = h
zeros_short (suc m) h = h

module _ (b m : ℕ) (k : Positive 31 b) (is : m ≡ run (first 31 b) 31 b) where
  some : (0 < m) × (m < 32)
  some = omega (arith, run_le (first 31 b) 31 b, run_positive 30 b)

  regime_is : (d : ℕ) → first 31 b ≡ d → regime_of d m ≡ regime 31 b
  unfolding regime
  regime_is d f = rw (← f) (ap (regime_of (first 31 b)) is)

  of_zeros : b < 2 ^ 30 → neg_ℤ (pos m) ≡ regime 31 b
  of_zeros h = regime_is 0 (first_is false 30 b (omega arith) h)

  of_ones : 2 ^ 30 ≤ b → pos (m - 1) ≡ regime 31 b
  of_ones h = regime_is 1 (first_is true 30 b (omega arith) (omega arith))

  short : b < 2 ^ 30 → m < 31
  short h = zeros_short m (rw (of_zeros h) (regime_small 31 b k))

pub overflow_sub-result : goal.overflow_sub-result
overflow_sub-result c = let k = short _ _ c.args.self.positive c.requires (omega arith) in omega arith

pub overflow_add-result : goal.overflow_add-result
overflow_add-result c = let k = some _ _ c.args.self.positive c.requires in omega arith

pub returns-then-self-lt1073741824 : goal.returns-then-self-lt1073741824
returns-then-self-lt1073741824 c =
    let a = c.args in
    zeros_base a.m (short _ _ c.args.self.positive c.requires (omega arith)) ∙ ap (raised 2 (least 2 31)) (of_zeros _ _ c.args.self.positive c.requires (omega arith))

pub returns-else-self-lt1073741824 : goal.returns-else-self-lt1073741824
returns-else-self-lt1073741824 c =
    let a = c.args in
    let k = some _ _ c.args.self.positive c.requires in
    let base : 4 * (29 + a.m) ≡ raised 2 (least 2 31) (pos (a.m - 1)) = omega arith in
    base ∙ ap (raised 2 (least 2 31)) (of_ones _ _ c.args.self.positive c.requires (omega arith))
