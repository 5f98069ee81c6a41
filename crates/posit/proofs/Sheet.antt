-- The bench sheet's first twelve cases, as instances of the definitions at P32E2, in one table under one claim that the checker computes.
use mathlib.Core.List.{List, [], ◌∷◌}
use lib.Dec.{T}
use mir.Val.{bool_byte}
use Rattle.posit.specs.Operation.{sum, product, quotient, square_root, fused_sum, fused_difference}
use Rattle.posit.proofs.Computing.{everything}
use Rattle.posit.specs.Accumulator.{clear, is_clear, plus, of_product, words}
use Rattle.posit.proofs.Table.{Case, is, are, holds}

sheet : List Case
unfolding everything
sheet =
    -- 1, 2, 3: sums at the top of the range; the first is a tie that the arithmetic middle would settle otherwise
    is (sum 2 31 0x7ffffffd 0x7ffffffd) 0x7ffffffe
    ∷ is (sum 2 31 0x7ffffffe 0x7ffffffe) 0x7ffffffe
    ∷ is (sum 2 31 0x7fffffff 0x7fffffff) 0x7fffffff
    -- 4: the least product is never rounded to 0, and the accumulator holds it exactly
    ∷ is (product 2 31 0x1 0x1) 0x1
    ∷ are (words 512 (plus 512 clear (of_product 2 31 0x1 0x1))) (0 ∷ 0 ∷ 0 ∷ 0 ∷ 0 ∷ 0 ∷ 0 ∷ 1 ∷ [])
    -- 5, 6: 1 / 3, and 0 / 0
    ∷ is (quotient 2 31 0x40000000 0x4c000000) 0x32aaaaab
    ∷ is (quotient 2 31 0 0) 0x80000000
    -- 7, 8: the roots of the smallest and of the largest size
    ∷ is (square_root 2 31 0x1) 0x00008000
    ∷ is (square_root 2 31 0x7fffffff) 0x7fff8000
    -- 9, 10, 11: fused results
    ∷ is (fused_sum 2 31 0x40000007 0x42000000 0) 0x42000009
    ∷ is (fused_sum 2 31 0x7fff1000 0x7fff2000 0) 0x7ffffffd
    ∷ is (fused_difference 2 31 0x40000000 0x40000000 0x40000000) 0
    -- 12: a total of which only word 6 is not 0, and which is not zero
    ∷ are (words 512 (plus 512 clear (of_product 2 31 0x100 0x100))) (0 ∷ 0 ∷ 0 ∷ 0 ∷ 0 ∷ 0 ∷ 1 ∷ 0 ∷ [])
    ∷ is (bool_byte (is_clear (plus 512 clear (of_product 2 31 0x100 0x100)))) 0
    ∷ []

sheet_holds : T (holds sheet)
unfolding everything sheet holds
sheet_holds = tt
