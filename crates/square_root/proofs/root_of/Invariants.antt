-- `root_of` meets its contract, whatever the guess is: the first loop ends below or at the root, the second at it. All that is asked of the guess is
-- that it has 32 bits, so that its square fits.
use Rattle.std.proofs.Common.{◌-◌, ◌*◌, ◌^◌, ◌<◌, ◌≤◌}
use Rattle.square_root.proofs.root_of.Given as goal

abbrev pub invariant-loop-r : goal.invariant-loop-r
invariant-loop-r l = l.r < 2 ^ 32

abbrev pub decreases-loop-r : goal.decreases-loop-r
decreases-loop-r l = l.r

abbrev pub invariant-loop-r-2 : goal.invariant-loop-r-2
invariant-loop-r-2 l = (l.r < 2 ^ 32) × (l.r * l.r ≤ l.n)

abbrev pub decreases-loop-r-2 : goal.decreases-loop-r-2
decreases-loop-r-2 l = 2 ^ 32 - l.r
