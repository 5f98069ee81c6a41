-- What an answer of the desk comes to: the number that it stands for (5), 0 where nothing is refused, and the words that a caller then holds.
use Rattle.std.specs.Prelude.{List, ℕ, Result, Ok, Err}
use Rattle.posit.specs.Accumulator.{State, words}
use Rattle.desk.specs.declared.refusal.Refusal.{Refusal}
use Rattle.desk.specs.declared.refusal.Refusal.TheVariants.{WrongLength, BufferTooShort, UnequalLists, TooManyPairs, Differs}

abbrev pub refusal_number : Refusal → ℕ
refusal_number WrongLength = 1
refusal_number BufferTooShort = 2
refusal_number UnequalLists = 3
refusal_number TooManyPairs = 4
refusal_number Differs = 5

abbrev pub number_of : {A : Type 0} → Result A Refusal → ℕ
number_of (Ok x) = 0
number_of (Err r) = refusal_number r

-- the words of an accumulator that was in the state s: those of the answer, or, where it was refused, those of s
abbrev pub after : ℕ → State → Result (List ℕ) Refusal → List ℕ
after bits s (Ok ws) = ws
after bits s (Err r) = words bits s
