-- Outside the premises: a history in which, at a first place, an operand is NaR or the total leaves the range, with whatever steps come after.
use Rattle.std.specs.Prelude.{◌≡◌, ◌⊎◌, ℤ}
use Rattle.posit.specs.Pattern.{nar}
use Rattle.promises.specs.History.{History, begun, ◌then◌, Step, move, negate, drop_sign, turn, Operand, a_posit, a_product, a_history, total_of, moves, Within, Keeps, Kept}

abbrev mutual
  -- it has left them before, or has kept them up to this step, which leaves them
  pub Leaves : History → Type 0
  Leaves begun = ⊥
  Leaves (h then s) = Leaves h ⊎ (Keeps h × LeavesBy s (total_of h))

  -- a step from the total t: its operand is NaR, or is sound and leads out of the range
  pub LeavesBy : Step → ℤ → Type 0
  LeavesBy (move d x) t = NarIn x ⊎ (Kept x × (Within (moves (move d x) t) → ⊥))
  LeavesBy negate t = ⊥
  LeavesBy drop_sign t = ⊥
  LeavesBy turn t = ⊥

  -- an operand is NaR, or a history that leaves the premises
  pub NarIn : Operand → Type 0
  NarIn (a_posit p) = p ≡ nar 31
  NarIn (a_product a b) = (a ≡ nar 31) ⊎ (b ≡ nar 31)
  NarIn (a_history k) = Leaves k
