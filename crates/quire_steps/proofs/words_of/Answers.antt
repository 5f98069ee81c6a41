-- `words_of` meets its contract: without the first, the nine read from the highest down are eight words with their number (`read_down`).
use mathlib.Core.Path.{◌≡◌}
use mathlib.Core.List.{List, [], ◌∷◌}
use Prim.Native.Nat.{ℕ, ◌/◌, ◌^◌}
use native.Mathlib.Omega.{arith}
use lib.ListN.{length, get_or}
use Rattle.posit.specs.Digits.{InBase}
use Rattle.quire_words.specs.Words.{wide}
use Rattle.quire_words.proofs.Operand.{upward}
use Rattle.quire_words.proofs.Places.{words_typed}
use Rattle.quire_words.proofs.Chain.{read_down}
use Rattle.quire_steps.proofs.words_of.Goals as goal

without_first : (r : List ℕ) → length r ≡ 9 → InBase (2 ^ 64) r → wide (get_or r 8 0 ∷ get_or r 7 0 ∷ get_or r 6 0 ∷ get_or r 5 0 ∷ get_or r 4 0 ∷ get_or r 3 0 ∷ get_or r 2 0 ∷ get_or r 1 0 ∷ []) ≡ upward (2 ^ 64) r / 2 ^ 64
unfolding upward
without_first [] e b = absurd (omega arith)
without_first (u ∷ r) e b = rw (read_down (2 ^ 64) 8 r (omega arith)) (omega (arith, b.0))

pub returns : goal.returns
returns c = let r = c.args.r in let w = words_typed 9 r c.well_formed.0 in without_first r w.0 w.1
