-- A table of cases under one claim: each case is an answer of the definitions beside what it has to be, and the claim is computed. `shown` and `held` tell
-- a number with its sign and a state as lists.
use mathlib.Core.Bool.{Bool, true, ◌&&◌}
use mathlib.Core.List.{List, [], ◌∷◌}
use Prim.Native.Nat.{ℕ, suc}
use lib.Dec.{eqb}
use lib.IntN.{ℤ, pos, negsuc}
use Rattle.posit.specs.Digits.{same}
use Rattle.posit.specs.Accumulator.{State, not_real, total}

pub data Case : Type 0 where
  is : ℕ → ℕ → Case
  are : List ℕ → List ℕ → Case

unfoldable pub holds : List Case → Bool
holds [] = true
holds (is a b ∷ cs) = eqb a b && holds cs
holds (are a b ∷ cs) = same a b && holds cs

-- a number with its sign: 1 for below 0, then the size
abbrev pub shown : ℤ → List ℕ
shown (pos n) = 0 ∷ n ∷ []
shown (negsuc n) = 1 ∷ suc n ∷ []

-- a state: nothing for NaR
abbrev pub held : State → List ℕ
held not_real = []
held (total t) = shown t
