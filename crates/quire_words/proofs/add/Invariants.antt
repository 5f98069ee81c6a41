-- The loop of `add`: the words of the sum from the place i on, with what is carried in front of them, are what a and b have from there on, and what was carried in.
use Rattle.std.proofs.Common.{◌+◌, ◌^◌, drop}
use mir.Val.{bool_byte}
use Rattle.quire_words.specs.Words.{wide}
use Rattle.quire_words.proofs.Carry.{Carried}
use Rattle.quire_words.proofs.add.Given as goal

abbrev pub invariant-loop-i : goal.invariant-loop-i
invariant-loop-i l = Carried (2 ^ 64) 8 l.i (bool_byte l.c) l.r (wide (drop l.i l.a) + wide (drop l.i l.b) + bool_byte l.carry)
