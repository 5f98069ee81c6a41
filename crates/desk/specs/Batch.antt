-- A batch (4.11): two lists of patterns, of which the exact product of each pair is added to the accumulator.
use Rattle.std.specs.Prelude.{List, [], ◌∷◌, ℕ}
use Rattle.posit.specs.Accumulator.{State, plus, of_product}

-- (4.11) from the front; the range is judged after each pair
unfoldable pub batch : ℕ → ℕ → ℕ → State → List ℕ → List ℕ → State
batch es w bits q [] ys = q
batch es w bits q (x ∷ xs) [] = q
batch es w bits q (x ∷ xs) (y ∷ ys) = batch es w bits (plus bits q (of_product es w x y)) xs ys
