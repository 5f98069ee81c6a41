-- The loop of `parts`: the parts in front of the place i are written, and the rest is what all but the last of them leave (`Parted`).
use mathlib.Core.List.{map}
use Rattle.p32e2.specs.declared.P32E2.{P32E2}
use Rattle.posit.specs.Accumulator.{from_words}
use Rattle.quire_totals.proofs.InParts.{Parted}
use Rattle.quire_totals.proofs.parts.Given as goal

abbrev pub invariant-loop-i : goal.invariant-loop-i
invariant-loop-i g l = Parted g.row.N (from_words 512 l.fn.q) l.i l.rest (map (λ (p : P32E2). p.0) l.parts)
