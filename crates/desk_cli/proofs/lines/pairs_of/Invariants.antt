-- The loop of `pairs_of`: both lists have as many elements, each pair has 17 bytes or more of the text, beside what is left of it, and what is left follows as many lines of 18.
use Rattle.std.proofs.Common.{◌≡◌, ◌+◌, ◌*◌, ◌≤◌, drop, length, vec_len}
use Rattle.desk_cli.proofs.lines.pairs_of.Given as goal

abbrev pub invariant-loop-x : goal.invariant-loop-x
invariant-loop-x l = (vec_len l.b ≡ vec_len l.a) × (17 * vec_len l.a + length l.rest ≤ length l.text) × (l.rest ≡ drop (18 * vec_len l.a) l.text)

abbrev pub decreases-loop-x : goal.decreases-loop-x
decreases-loop-x l = length l.rest
