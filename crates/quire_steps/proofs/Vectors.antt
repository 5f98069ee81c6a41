-- Accumulator plus and minus accumulator, and the total without its sign, in one table under one claim that the checker computes. It shows that the definitions agree with
-- answers worked out without them, by tools/vectors.py from our own rules: `python3 tools/vectors.py quire_steps` prints the cases, and with `--check` it says whether those
-- below are the same, line for line.
use mathlib.Core.List.{List, [], ◌∷◌}
use Prim.Native.Nat.{◌+◌, ◌-◌, ◌^◌}
use lib.IntN.{pos, negsuc}
use lib.Dec.{T}
use Rattle.posit.specs.Accumulator.{not_real, total, plus, minus, words, from_words}
use Rattle.posit.proofs.Table.{Case, are, held, holds}
use Rattle.quire_steps.specs.Sign.{sign_off}
use Rattle.quire_steps.proofs.Computing.{everything}

vectors : List Case
unfolding everything
vectors =
    -- accumulator plus accumulator and minus accumulator, at the edges of the range, with NaR on either side, and of a state and itself
    are (held (plus 512 (total (pos (2 ^ 511 - 1))) (total (pos 1)))) []
    ∷ are (held (minus 512 (total (pos (2 ^ 511 - 1))) (total (pos 1)))) (0 ∷ (2 ^ 511 - 2) ∷ [])
    ∷ are (held (plus 512 (total (pos (2 ^ 511 - 2))) (total (pos 1)))) (0 ∷ (2 ^ 511 - 1) ∷ [])
    ∷ are (held (minus 512 (total (pos (2 ^ 511 - 2))) (total (pos 1)))) (0 ∷ (2 ^ 511 - 3) ∷ [])
    ∷ are (held (plus 512 (total (pos (2 ^ 511 - 1))) (total (pos (2 ^ 511 - 1))))) []
    ∷ are (held (minus 512 (total (pos (2 ^ 511 - 1))) (total (pos (2 ^ 511 - 1))))) (0 ∷ 0 ∷ [])
    ∷ are (held (plus 512 (total (pos (2 ^ 511 - 1))) (total (negsuc (2 ^ 511 - 2))))) (0 ∷ 0 ∷ [])
    ∷ are (held (minus 512 (total (pos (2 ^ 511 - 1))) (total (negsuc (2 ^ 511 - 2))))) []
    ∷ are (held (plus 512 (total (negsuc (2 ^ 511 - 2))) (total (negsuc 0)))) []
    ∷ are (held (minus 512 (total (negsuc (2 ^ 511 - 2))) (total (negsuc 0)))) (1 ∷ (2 ^ 511 - 2) ∷ [])
    ∷ are (held (plus 512 (total (negsuc (2 ^ 511 - 3))) (total (negsuc 0)))) (1 ∷ (2 ^ 511 - 1) ∷ [])
    ∷ are (held (minus 512 (total (negsuc (2 ^ 511 - 3))) (total (negsuc 0)))) (1 ∷ (2 ^ 511 - 3) ∷ [])
    ∷ are (held (plus 512 (total (pos (2 ^ 511 - 1))) not_real)) []
    ∷ are (held (minus 512 (total (pos (2 ^ 511 - 1))) not_real)) []
    ∷ are (held (plus 512 not_real (total (pos 1)))) []
    ∷ are (held (minus 512 not_real (total (pos 1)))) []
    ∷ are (held (plus 512 not_real not_real)) []
    ∷ are (held (minus 512 not_real not_real)) []
    ∷ are (held (plus 512 (total (pos (2 ^ 448))) (total (negsuc 0)))) (0 ∷ (2 ^ 448 - 1) ∷ [])
    ∷ are (held (minus 512 (total (pos (2 ^ 448))) (total (negsuc 0)))) (0 ∷ (2 ^ 448 + 1) ∷ [])
    ∷ are (held (minus 512 (total (negsuc (2 ^ 511 - 2))) (total (negsuc (2 ^ 511 - 2))))) (0 ∷ 0 ∷ [])
    ∷ are (held (minus 512 (total (pos 7)) (total (pos 7)))) (0 ∷ 0 ∷ [])
    -- without its sign: the lowest total is in range, and NaR stays
    ∷ are (held (sign_off (total (pos (2 ^ 511 - 1))))) (0 ∷ (2 ^ 511 - 1) ∷ [])
    ∷ are (held (sign_off (total (negsuc (2 ^ 511 - 2))))) (0 ∷ (2 ^ 511 - 1) ∷ [])
    ∷ are (held (sign_off (total (negsuc 0)))) (0 ∷ 1 ∷ [])
    ∷ are (held (sign_off (total (pos 0)))) (0 ∷ 0 ∷ [])
    ∷ are (held (sign_off (total (pos 1)))) (0 ∷ 1 ∷ [])
    ∷ are (held (sign_off not_real)) []
    ∷ are (held (sign_off (total (negsuc (2 ^ 64 - 1))))) (0 ∷ 2 ^ 64 ∷ [])
    -- from words: NaR's are no number, and those beside them, with a last bit more, are the lowest total
    ∷ are (held (sign_off (from_words 512 (2 ^ 63 ∷ 0 ∷ 0 ∷ 0 ∷ 0 ∷ 0 ∷ 0 ∷ 0 ∷ [])))) []
    ∷ are (held (plus 512 (from_words 512 (2 ^ 63 ∷ 0 ∷ 0 ∷ 0 ∷ 0 ∷ 0 ∷ 0 ∷ 0 ∷ [])) (total (pos 1)))) []
    ∷ are (held (minus 512 (total (pos 1)) (from_words 512 (2 ^ 63 ∷ 0 ∷ 0 ∷ 0 ∷ 0 ∷ 0 ∷ 0 ∷ 0 ∷ [])))) []
    ∷ are (held (sign_off (from_words 512 (2 ^ 63 ∷ 0 ∷ 0 ∷ 0 ∷ 0 ∷ 0 ∷ 0 ∷ 1 ∷ [])))) (0 ∷ (2 ^ 511 - 1) ∷ [])
    ∷ are (held (plus 512 (from_words 512 (2 ^ 63 ∷ 0 ∷ 0 ∷ 0 ∷ 0 ∷ 0 ∷ 0 ∷ 1 ∷ [])) (total (pos 1)))) (1 ∷ (2 ^ 511 - 2) ∷ [])
    ∷ are (held (minus 512 (total (pos 1)) (from_words 512 (2 ^ 63 ∷ 0 ∷ 0 ∷ 0 ∷ 0 ∷ 0 ∷ 0 ∷ 1 ∷ [])))) []
    ∷ are (words 512 (plus 512 (total (pos (2 ^ 448 - 1))) (total (pos 1)))) (1 ∷ 0 ∷ 0 ∷ 0 ∷ 0 ∷ 0 ∷ 0 ∷ 0 ∷ [])
    ∷ []

vectors_hold : T (holds vectors)
unfolding everything vectors holds
vectors_hold = tt
