-- Parts of patterns at four sizes, in one table under one claim that the checker computes. The answers were worked out without the definitions, by
-- tools/vectors.py, which with `--check` says whether the cases below are still just its own, line for line.
use Rattle.std.proofs.Common.{ℕ, ◌*◌, ◌^◌, T, List, [], ◌∷◌, ◌++◌}
use mir.Val.{bool_byte}
use Rattle.posit.proofs.Computing.{everything}
use Rattle.posit.proofs.Table.{Case, are, holds, shown}
use Rattle.unpacking.specs.Parts.{Parts, is_zero, is_nar, is_real, parts}

-- the parts of a pattern: nothing for 0, one 0 for NaR, else the sign, k, e and the significand
abbrev listed : Parts → List ℕ
listed is_zero = []
listed is_nar = 0 ∷ []
listed (is_real s k e m) = bool_byte s ∷ shown k ++ (e ∷ m ∷ [])

vectors : List Case
unfolding everything parts
vectors =
    -- the sign, k, e, and the significand with its leading one at bit w - 1; [] for 0 and one 0 for NaR
    are (listed (parts 0 7 0xa6)) (1 ∷ 0 ∷ 0 ∷ 0 ∷ 116 ∷ [])
    ∷ are (listed (parts 1 15 0x7ffd)) (0 ∷ 0 ∷ 12 ∷ 1 ∷ 2 ^ 14 ∷ [])
    ∷ are (listed (parts 2 15 0x0002)) (0 ∷ 1 ∷ 13 ∷ 0 ∷ 2 ^ 14 ∷ [])
    ∷ are (listed (parts 2 15 0xd123)) (1 ∷ 1 ∷ 1 ∷ 1 ∷ 30440 ∷ [])
    ∷ are (listed (parts 2 31 0x00000007)) (0 ∷ 1 ∷ 28 ∷ 3 ∷ 2 ^ 30 ∷ [])
    ∷ are (listed (parts 2 31 0x9abcdef0)) (1 ∷ 0 ∷ 1 ∷ 1 ∷ 0x543211 * 2 ^ 8 ∷ [])
    ∷ are (listed (parts 2 31 0)) []
    ∷ are (listed (parts 2 31 0x80000000)) (0 ∷ [])
    ∷ []

vectors_hold : T (holds vectors)
unfolding everything parts vectors holds
vectors_hold = tt
