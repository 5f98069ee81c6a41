-- The loop of `any_from`: what was seen of the words from the place i on is 0 exactly where their number is, and the loop goes no further down than the first place that was asked for.
use Rattle.std.proofs.Common.{◌≡◌, ◌<◌, ◌≤◌, ◌↔◌, drop}
use Rattle.quire_words.specs.Words.{wide}
use Rattle.quire_words.proofs.any_from.Given as goal

abbrev pub invariant-loop-i : goal.invariant-loop-i
invariant-loop-i l = (l.i ≤ 8) × (l.i < 8 → l.first ≤ l.i) × ((l.any ≡ 0) ↔ (wide (drop l.i l.a) ≡ 0))
