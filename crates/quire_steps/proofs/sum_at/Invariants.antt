-- `sum_at` meets its contract: the two words are two columns of a chain, each turn of the loop is one more with nothing to add, and it ends where what is carried is the digit above or no word is
-- left. The loop keeps to whatever chain it was given.
use mathlib.Core.Path.{◌≡◌}
use mathlib.Core.List.{List}
use Prim.Native.Nat.{ℕ, ◌-◌, ◌^◌, ◌≤◌}
use lib.ListN.{length}
use Rattle.quire_words.proofs.Chain.{Chain}
use Rattle.quire_steps.proofs.sum_at.Given as goal

abbrev pub invariant-loop-carry : goal.invariant-loop-carry
invariant-loop-carry l = (l.i ≤ 9) × ((a : List ℕ) (x : ℕ) → length a ≡ 9 → Chain l.negative (2 ^ 64) l.j l.initial.i l.initial.carry a l.initial.r x → Chain l.negative (2 ^ 64) l.j l.i l.carry a l.r x)

abbrev pub decreases-loop-carry : goal.decreases-loop-carry
decreases-loop-carry l = 9 - l.i
