-- Arguments on which a wrong engine is caught.
use mathlib.Core.List.{List}
use Prim.Native.Nat.{ℕ, ◌^◌}
use denote.Ref.{Bor, MutBor}
use Rattle.posit.specs.Digits.{digits}
use Rattle.p32e2.specs.declared.P32E2.{P32E2}
use Rattle.quire32.specs.declared.Q32E2.{Q32E2}

abbrev pub bits : ℕ → P32E2
bits n = record { 0 = n }

-- a reference to something, which may be read, and one through which it may be changed
abbrev pub to : {A : Type 0} → A → Bor A
to x = record { ref_ptr = (0, 0); now = x }

abbrev pub to_mut : {A : Type 0} → A → MutBor A
to_mut x = record { ref_ptr = (0, 0); ghost_name = 0; now = x }

-- eight words, and 64 bytes, that are the number n
abbrev pub eight : ℕ → List ℕ
eight n = digits (2 ^ 64) 8 n

abbrev pub bytes : ℕ → List ℕ
bytes n = digits (2 ^ 8) 64 n

-- an accumulator with the number n in it, and one that is lent, to be read or to be changed
abbrev pub held : ℕ → Q32E2
held n = record { 0 = eight n }

abbrev pub lent : ℕ → Bor Q32E2
lent n = to (held n)

abbrev pub lent_mut : ℕ → MutBor Q32E2
lent_mut n = to_mut (held n)
