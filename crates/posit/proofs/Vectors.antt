-- Values, roundings, operations and totals at four sizes, in one table under one claim that the checker computes: es 0 and w 7, es 1
-- and w 15, es 2 and w 15, es 2 and w 31. It shows that the definitions agree with answers worked out without them. The list was made by
-- tools/vectors.py, which says how the inputs were chosen: it works with exact rationals from the Posit Standard (2022), and for the
-- accumulator's range from our own rule. `python3 tools/vectors.py posit` prints the cases, and with `--check` it says whether those below are
-- the same, line for line.
use mathlib.Core.List.{List, [], ◌∷◌, ◌++◌}
use Prim.Native.Nat.{◌+◌, ◌-◌, ◌*◌, ◌^◌}
use lib.IntN.{pos, negsuc}
use lib.Dec.{T}
use lib.ListN.{replicate}
use Rattle.posit.specs.Pattern.{value}
use Rattle.posit.specs.Exact.{whole, ratio, root}
use Rattle.posit.specs.Rounding.{round, rounded}
use Rattle.posit.specs.Operation.{sum, difference, product, quotient, square_root, fused_sum, fused_difference, product_taken}
use Rattle.posit.specs.Accumulator.{not_real, total, of_posit, of_product, plus, negated, minus, to_posit, parts_of, bits_of, state_of, words, from_words, image, from_image}
use Rattle.posit.proofs.Computing.{everything}
use Rattle.posit.proofs.Table.{Case, is, are, shown, held, holds}

vectors : List Case
unfolding everything
vectors =
    -- values, told in units of the smallest size: plain ones of both signs, the ends, and exponents cut off by the end of the word
    are (shown (value 0 7 6 0x01)) (0 ∷ 1 ∷ [])
    ∷ are (shown (value 0 7 6 0x5d)) (0 ∷ 122 ∷ [])
    ∷ are (shown (value 0 7 6 0x7f)) (0 ∷ 2 ^ 12 ∷ [])
    ∷ are (shown (value 0 7 6 0x93)) (1 ∷ 232 ∷ [])
    ∷ are (shown (value 0 7 6 0xff)) (1 ∷ 1 ∷ [])
    ∷ are (shown (value 1 15 28 0x0001)) (0 ∷ 1 ∷ [])
    ∷ are (shown (value 1 15 28 0x5a3c)) (0 ∷ 1679 * 2 ^ 19 ∷ [])
    ∷ are (shown (value 1 15 28 0x7ffe)) (0 ∷ 2 ^ 54 ∷ [])
    ∷ are (shown (value 1 15 28 0x7ffd)) (0 ∷ 2 ^ 53 ∷ [])
    ∷ are (shown (value 1 15 28 0xa5c3)) (1 ∷ 6717 * 2 ^ 17 ∷ [])
    ∷ are (shown (value 1 15 28 0x8001)) (1 ∷ 2 ^ 56 ∷ [])
    ∷ are (shown (value 2 15 56 0x0003)) (0 ∷ 64 ∷ [])
    ∷ are (shown (value 2 15 56 0x3b6d)) (0 ∷ 2925 * 2 ^ 44 ∷ [])
    ∷ are (shown (value 2 15 56 0x7ffe)) (0 ∷ 2 ^ 108 ∷ [])
    ∷ are (shown (value 2 15 56 0x7ffd)) (0 ∷ 2 ^ 106 ∷ [])
    ∷ are (shown (value 2 15 56 0x7ffb)) (0 ∷ 2 ^ 103 ∷ [])
    ∷ are (shown (value 2 15 56 0x8001)) (1 ∷ 2 ^ 112 ∷ [])
    ∷ are (shown (value 2 15 56 0xc493)) (1 ∷ 2925 * 2 ^ 44 ∷ [])
    ∷ are (shown (value 2 31 120 0x00000001)) (0 ∷ 1 ∷ [])
    ∷ are (shown (value 2 31 120 0x00000003)) (0 ∷ 64 ∷ [])
    ∷ are (shown (value 2 31 120 0x32aaaaab)) (0 ∷ 0xaaaaaab * 2 ^ 91 ∷ [])
    ∷ are (shown (value 2 31 120 0x7fffffff)) (0 ∷ 2 ^ 240 ∷ [])
    ∷ are (shown (value 2 31 120 0x7ffffffe)) (0 ∷ 2 ^ 236 ∷ [])
    ∷ are (shown (value 2 31 120 0xcd555555)) (1 ∷ 0xaaaaaab * 2 ^ 91 ∷ [])
    ∷ are (shown (value 2 31 120 0x80000003)) (1 ∷ 2 ^ 234 ∷ [])
    -- rounded at the ends: the largest size is itself and takes all above it; no size above 0 goes to 0
    ∷ are (round 0 7 12 (whole (2 ^ 18)) ∷ round 0 7 12 (whole 262145) ∷ round 0 7 12 (whole 1) ∷ []) (0x7f ∷ 0x7f ∷ 0x01 ∷ [])
    ∷ are (round 1 15 56 (whole (2 ^ 84)) ∷ round 1 15 56 (whole (2 ^ 84 + 1)) ∷ round 1 15 56 (whole 1) ∷ []) (0x7fff ∷ 0x7fff ∷ 0x0001 ∷ [])
    ∷ are (round 2 15 112 (whole (2 ^ 168)) ∷ round 2 15 112 (whole (2 ^ 168 + 1)) ∷ round 2 15 112 (whole 1) ∷ []) (0x7fff ∷ 0x7fff ∷ 0x0001 ∷ [])
    ∷ are (round 2 31 240 (whole (2 ^ 360)) ∷ round 2 31 240 (whole (2 ^ 360 + 1)) ∷ []) (0x7fffffff ∷ 0x7fffffff ∷ [])
    ∷ is (round 2 31 240 (whole 1)) 0x00000001
    -- a tie goes down to an even pattern, and up from an odd one; one unit below the tie goes down, and one above it up
    ∷ are (round 0 7 12 (whole 6464) ∷ round 0 7 12 (whole 6592) ∷ []) (0x52 ∷ 0x54 ∷ [])
    ∷ are (round 0 7 12 (whole 6591) ∷ round 0 7 12 (whole 6465) ∷ []) (0x53 ∷ 0x53 ∷ [])
    ∷ are (round 1 15 56 (whole (9865 * 2 ^ 41)) ∷ round 1 15 56 (whole (9867 * 2 ^ 41)) ∷ []) (0x2344 ∷ 0x2346 ∷ [])
    ∷ are (round 1 15 56 (whole 0x4d15ffffffffff) ∷ round 1 15 56 (whole 0x4d120000000001) ∷ []) (0x2345 ∷ 0x2345 ∷ [])
    ∷ are (round 2 15 112 (whole (3857 * 2 ^ 106)) ∷ round 2 15 112 (whole (3859 * 2 ^ 106)) ∷ []) (0x6788 ∷ 0x678a ∷ [])
    ∷ are (round 2 15 112 (whole 0x3c4bffffffffffffffffffffffffff) ∷ round 2 15 112 (whole 0x3c4400000000000000000000000001) ∷ []) (0x6789 ∷ 0x6789 ∷ [])
    ∷ are (round 2 31 240 (whole (0x1282b24d * 2 ^ 210)) ∷ round 2 31 240 (whole (0x1282b24f * 2 ^ 210)) ∷ []) (0x31415926 ∷ 0x31415928 ∷ [])
    ∷ is (round 2 31 240 (whole 0x4a0ac93bffffffffffffffffffffffffffffffffffffffffffffffffffff)) 0x31415927
    ∷ is (round 2 31 240 (whole 0x4a0ac9340000000000000000000000000000000000000000000000000001)) 0x31415927
    -- with es above 0 the cut between the two largest sizes, and between the two smallest, is not their middle
    ∷ are (round 1 15 56 (whole (2 ^ 83)) ∷ round 1 15 56 (whole (2 ^ 83 + 1)) ∷ []) (0x7ffe ∷ 0x7fff ∷ [])
    ∷ are (round 1 15 56 (whole (5 * 2 ^ 81)) ∷ round 1 15 56 (whole (2 ^ 29 - 1)) ∷ round 1 15 56 (whole (2 ^ 29)) ∷ []) (0x7fff ∷ 0x0001 ∷ 0x0002 ∷ [])
    ∷ are (round 2 15 112 (whole (2 ^ 166)) ∷ round 2 15 112 (whole (2 ^ 166 + 1)) ∷ []) (0x7ffe ∷ 0x7fff ∷ [])
    ∷ are (round 2 15 112 (whole (17 * 2 ^ 163)) ∷ round 2 15 112 (whole (2 ^ 58 - 1)) ∷ []) (0x7fff ∷ 0x0001 ∷ [])
    ∷ is (round 2 15 112 (whole (2 ^ 58))) 0x0002
    ∷ are (round 2 31 240 (whole (2 ^ 358)) ∷ round 2 31 240 (whole (2 ^ 358 + 1)) ∷ []) (0x7ffffffe ∷ 0x7fffffff ∷ [])
    ∷ are (round 2 31 240 (whole (17 * 2 ^ 355)) ∷ round 2 31 240 (whole (2 ^ 122 - 1)) ∷ []) (0x7fffffff ∷ 0x00000001 ∷ [])
    ∷ is (round 2 31 240 (whole (2 ^ 122))) 0x00000002
    -- quotients and roots of whole numbers of units
    ∷ is (round 0 7 12 (ratio (2 ^ 13) 7)) 0x12
    ∷ is (round 0 7 12 (root (5 * 2 ^ 21))) 0x33
    ∷ is (round 1 15 56 (ratio (2 ^ 57) 7)) 0x2249
    ∷ is (round 1 15 56 (root (5 * 2 ^ 109))) 0x394c
    ∷ is (round 2 15 112 (ratio (2 ^ 113) 7)) 0x3125
    ∷ is (round 2 15 112 (root (5 * 2 ^ 221))) 0x3ca6
    ∷ is (round 2 31 240 (ratio (2 ^ 241) 7)) 0x31249249
    ∷ is (round 2 31 240 (root (5 * 2 ^ 477))) 0x3ca62c1d
    -- a result below 0, and 0
    ∷ is (rounded 0 7 12 (negsuc 49380)) 0x86
    ∷ is (rounded 1 15 56 (negsuc (12345 * 2 ^ 46))) 0x93f2
    ∷ is (rounded 2 15 112 (negsuc (12345 * 2 ^ 102))) 0xa3f2
    ∷ is (rounded 2 31 240 (negsuc (12345 * 2 ^ 230))) 0xa3f1c000
    ∷ is (rounded 2 31 240 (pos 0)) 0
    -- the operations; the fused results would differ if the product were rounded first
    ∷ are (sum 0 7 0x5b 0x35 ∷ difference 0 7 0x5b 0xb5 ∷ product 0 7 0x5b 0xb5 ∷ quotient 0 7 0x5b 0x35 ∷ []) (0x65 ∷ 0x6a ∷ 0x9c ∷ 0x62 ∷ [])
    ∷ is (square_root 0 7 0x65) 0x54
    ∷ are (fused_sum 0 7 0x57 0x4f 0x33 ∷ fused_difference 0 7 0x57 0x4f 0x33 ∷ product_taken 0 7 0x33 0x57 0x4f ∷ []) (0x6b ∷ 0x57 ∷ 0xa9 ∷ [])
    ∷ are (sum 1 15 0x5b1d 0x13f5 ∷ difference 1 15 0x35b1 0x5bb5 ∷ []) (0x5bdc ∷ 0xa9b7 ∷ [])
    ∷ are (product 1 15 0x95b1 0x2bb5 ∷ quotient 1 15 0x5b01 0x9335 ∷ []) (0x9f13 ∷ 0xdf1d ∷ [])
    ∷ is (square_root 1 15 0x1c01) 0x2bb8
    ∷ are (fused_sum 1 15 0x3e71 0x4fdf 0x2015 ∷ fused_difference 1 15 0x3e71 0x4fdf 0x2015 ∷ []) (0x512b ∷ 0x4a4c ∷ [])
    ∷ is (product_taken 1 15 0x2015 0x3e71 0x4fdf) 0xb5b4
    ∷ are (sum 2 15 0x5b1d 0x83f5 ∷ difference 2 15 0x35b1 0xbbb5 ∷ []) (0x83f5 ∷ 0x47b7 ∷ [])
    ∷ are (product 2 15 0x15b1 0x2bb5 ∷ quotient 2 15 0x9b01 0x9335 ∷ []) (0x0e15 ∷ 0x3057 ∷ [])
    ∷ is (square_root 2 15 0x6f0b) 0x5f03
    ∷ are (fused_sum 2 15 0x2ab9 0x5ee7 0x3b12 ∷ fused_difference 2 15 0x2ab9 0x5ee7 0x3b12 ∷ []) (0x4cc1 ∷ 0x4670 ∷ [])
    ∷ is (product_taken 2 15 0x3b12 0x2ab9 0x5ee7) 0xb990
    ∷ are (sum 2 31 0x5b1d37a2 0x13f5c0de ∷ difference 2 31 0x35b1a0b1 0x36bb50c3 ∷ []) (0x5b1f3512 ∷ 0xe3d93fb8 ∷ [])
    ∷ are (product 2 31 0x95b10f0f 0x2bb57a7b ∷ quotient 2 31 0x5b012345 0x93356789 ∷ []) (0x9f622d0a ∷ 0xded02a83 ∷ [])
    ∷ is (square_root 2 31 0x48000000) 0x43504f33
    ∷ are (fused_sum 2 31 0x2d89a08e 0x467344c3 0x4ddaa5bf ∷ fused_difference 2 31 0x2d89a08e 0x467344c3 0x4ddaa5bf ∷ []) (0x4f61e43b ∷ 0xb3ac98bd ∷ [])
    ∷ is (product_taken 2 31 0x4ddaa5bf 0x2d89a08e 0x467344c3) 0x4c536743
    -- a fused sum just above the cut between the two largest sizes: the part below the word counts
    ∷ is (fused_sum 2 31 0x7ffffffe 0x50000000 0x40000000) 0x7fffffff
    -- at the ends of the range: sums and products beyond it, and a product and a quotient that are not rounded to 0
    ∷ are (sum 0 7 0x7f 0x7f ∷ product 0 7 0x7f 0x81 ∷ product 0 7 0x01 0xff ∷ quotient 0 7 0x01 0x7f ∷ []) (0x7f ∷ 0x81 ∷ 0xff ∷ 0x01 ∷ [])
    ∷ are (sum 1 15 0x7fff 0x7fff ∷ product 1 15 0x7fff 0x8001 ∷ []) (0x7fff ∷ 0x8001 ∷ [])
    ∷ are (product 1 15 0x0001 0xffff ∷ quotient 1 15 0x0001 0x7fff ∷ []) (0xffff ∷ 0x0001 ∷ [])
    ∷ are (sum 2 15 0x7fff 0x7fff ∷ product 2 15 0x7fff 0x8001 ∷ []) (0x7fff ∷ 0x8001 ∷ [])
    ∷ are (product 2 15 0x0001 0xffff ∷ quotient 2 15 0x0001 0x7fff ∷ []) (0xffff ∷ 0x0001 ∷ [])
    ∷ are (sum 2 31 0x7fffffff 0x7fffffff ∷ product 2 31 0x7fffffff 0x80000001 ∷ []) (0x7fffffff ∷ 0x80000001 ∷ [])
    ∷ are (product 2 31 0x00000001 0xffffffff ∷ quotient 2 31 0x00000001 0x7fffffff ∷ []) (0xffffffff ∷ 0x00000001 ∷ [])
    -- NaR comes from a NaR operand, also beside 0, from division by 0, and from the root of a negative; not from the root or a quotient of 0
    ∷ are (sum 0 7 0x80 0x00 ∷ difference 0 7 0x00 0x80 ∷ product 0 7 0x00 0x80 ∷ square_root 0 7 0x80 ∷ []) (0x80 ∷ 0x80 ∷ 0x80 ∷ 0x80 ∷ [])
    ∷ are (quotient 0 7 0x40 0x00 ∷ quotient 0 7 0x00 0x00 ∷ quotient 0 7 0x00 0x80 ∷ quotient 0 7 0x00 0x40 ∷ []) (0x80 ∷ 0x80 ∷ 0x80 ∷ 0x00 ∷ [])
    ∷ are (fused_sum 0 7 0x00 0x40 0x80 ∷ fused_difference 0 7 0x80 0x00 0x40 ∷ product_taken 0 7 0x40 0x00 0x80 ∷ []) (0x80 ∷ 0x80 ∷ 0x80 ∷ [])
    ∷ are (square_root 0 7 0xc0 ∷ square_root 0 7 0x00 ∷ []) (0x80 ∷ 0x00 ∷ [])
    ∷ are (sum 1 15 0x8000 0x0000 ∷ difference 1 15 0x0000 0x8000 ∷ []) (0x8000 ∷ 0x8000 ∷ [])
    ∷ are (product 1 15 0x0000 0x8000 ∷ square_root 1 15 0x8000 ∷ []) (0x8000 ∷ 0x8000 ∷ [])
    ∷ are (quotient 1 15 0x4000 0x0000 ∷ quotient 1 15 0x0000 0x0000 ∷ []) (0x8000 ∷ 0x8000 ∷ [])
    ∷ are (quotient 1 15 0x0000 0x8000 ∷ quotient 1 15 0x0000 0x4000 ∷ []) (0x8000 ∷ 0x0000 ∷ [])
    ∷ are (fused_sum 1 15 0x0000 0x4000 0x8000 ∷ fused_difference 1 15 0x8000 0x0000 0x4000 ∷ []) (0x8000 ∷ 0x8000 ∷ [])
    ∷ is (product_taken 1 15 0x4000 0x0000 0x8000) 0x8000
    ∷ are (square_root 1 15 0xc000 ∷ square_root 1 15 0x0000 ∷ []) (0x8000 ∷ 0x0000 ∷ [])
    ∷ are (sum 2 15 0x8000 0x0000 ∷ difference 2 15 0x0000 0x8000 ∷ []) (0x8000 ∷ 0x8000 ∷ [])
    ∷ are (product 2 15 0x0000 0x8000 ∷ square_root 2 15 0x8000 ∷ []) (0x8000 ∷ 0x8000 ∷ [])
    ∷ are (quotient 2 15 0x4000 0x0000 ∷ quotient 2 15 0x0000 0x0000 ∷ []) (0x8000 ∷ 0x8000 ∷ [])
    ∷ are (quotient 2 15 0x0000 0x8000 ∷ quotient 2 15 0x0000 0x4000 ∷ []) (0x8000 ∷ 0x0000 ∷ [])
    ∷ are (fused_sum 2 15 0x0000 0x4000 0x8000 ∷ fused_difference 2 15 0x8000 0x0000 0x4000 ∷ []) (0x8000 ∷ 0x8000 ∷ [])
    ∷ is (product_taken 2 15 0x4000 0x0000 0x8000) 0x8000
    ∷ are (square_root 2 15 0xc000 ∷ square_root 2 15 0x0000 ∷ []) (0x8000 ∷ 0x0000 ∷ [])
    ∷ are (sum 2 31 0x80000000 0x00000000 ∷ difference 2 31 0x00000000 0x80000000 ∷ []) (0x80000000 ∷ 0x80000000 ∷ [])
    ∷ are (product 2 31 0x00000000 0x80000000 ∷ square_root 2 31 0x80000000 ∷ []) (0x80000000 ∷ 0x80000000 ∷ [])
    ∷ are (quotient 2 31 0x40000000 0x00000000 ∷ quotient 2 31 0x00000000 0x00000000 ∷ []) (0x80000000 ∷ 0x80000000 ∷ [])
    ∷ are (quotient 2 31 0x00000000 0x80000000 ∷ quotient 2 31 0x00000000 0x40000000 ∷ []) (0x80000000 ∷ 0x00000000 ∷ [])
    ∷ are (fused_sum 2 31 0x00000000 0x40000000 0x80000000 ∷ fused_difference 2 31 0x80000000 0x00000000 0x40000000 ∷ []) (0x80000000 ∷ 0x80000000 ∷ [])
    ∷ is (product_taken 2 31 0x40000000 0x00000000 0x80000000) 0x80000000
    ∷ are (square_root 2 31 0xc0000000 ∷ square_root 2 31 0x00000000 ∷ []) (0x80000000 ∷ 0x00000000 ∷ [])
    -- the accumulator of 512 bits: 1 and -1 as words, the image of 1, and NaR
    ∷ are (words 512 (of_posit 2 31 0x40000000)) (0 ∷ 0 ∷ 0 ∷ 0 ∷ 2 ^ 48 ∷ 0 ∷ 0 ∷ 0 ∷ [])
    ∷ are (words 512 (negated (of_posit 2 31 0x40000000))) ((2 ^ 64 - 1) ∷ (2 ^ 64 - 1) ∷ (2 ^ 64 - 1) ∷ (2 ^ 64 - 1) ∷ 65535 * 2 ^ 48 ∷ 0 ∷ 0 ∷ 0 ∷ [])
    ∷ are (image 512 (of_posit 2 31 0x40000000)) (replicate 33 0 ++ (1 ∷ replicate 30 0))
    ∷ are (words 512 (of_posit 2 31 0x80000000)) (2 ^ 63 ∷ 0 ∷ 0 ∷ 0 ∷ 0 ∷ 0 ∷ 0 ∷ 0 ∷ [])
    ∷ are (held (negated not_real)) []
    -- a state as one number and back, and from words and bytes: the largest total, the smallest, and NaR just below that
    ∷ is (bits_of 512 (total (pos (2 ^ 511 - 1)))) (2 ^ 511 - 1)
    ∷ is (bits_of 512 (total (negsuc (2 ^ 511 - 2)))) (2 ^ 511 + 1)
    ∷ is (bits_of 512 not_real) (2 ^ 511)
    ∷ are (held (state_of 512 (2 ^ 511 - 1))) (0 ∷ (2 ^ 511 - 1) ∷ [])
    ∷ are (held (state_of 512 (2 ^ 511))) []
    ∷ are (held (state_of 512 (2 ^ 511 + 1))) (1 ∷ (2 ^ 511 - 1) ∷ [])
    ∷ are (held (state_of 512 (2 ^ 512 - 1))) (1 ∷ 1 ∷ [])
    ∷ are (held (from_words 128 ((2 ^ 64 - 1) ∷ ((2 ^ 56 - 1) * 2 ^ 8) ∷ []))) (1 ∷ 2 ^ 8 ∷ [])
    ∷ are (held (from_image 64 (255 ∷ 255 ∷ 255 ∷ 255 ∷ 255 ∷ 255 ∷ 1 ∷ 2 ∷ []))) (1 ∷ 65278 ∷ [])
    -- steps at the limit of the range: the last total within it, then NaR; and no way out of NaR
    ∷ are (held (plus 512 (total (pos (2 ^ 511 - 2))) (of_product 2 31 0x1 0x1))) (0 ∷ (2 ^ 511 - 1) ∷ [])
    ∷ are (held (plus 512 (total (pos (2 ^ 511 - 1))) (of_product 2 31 0x1 0x1))) []
    ∷ are (held (minus 512 (total (negsuc (2 ^ 511 - 3))) (of_product 2 31 0x1 0x1))) (1 ∷ (2 ^ 511 - 1) ∷ [])
    ∷ are (held (minus 512 (total (negsuc (2 ^ 511 - 2))) (of_product 2 31 0x1 0x1))) []
    ∷ are (held (minus 512 (total (pos (2 ^ 511 - 1))) (of_product 2 31 0x1 0x1))) (0 ∷ (2 ^ 511 - 2) ∷ [])
    ∷ are (held (plus 512 not_real (total (pos 1)))) []
    ∷ are (held (minus 512 (total (pos 1)) (of_posit 2 31 0x80000000))) []
    -- three parts of a total at each size; the first part is the total rounded
    ∷ are (parts_of 0 7 128 3 (total (pos 106865))) (0x7d ∷ 0x61 ∷ 0xfe ∷ [])
    ∷ are (parts_of 1 15 256 3 (total (negsuc 0x3a8e6adfffffffe))) (0xa2b9 ∷ 0xff55 ∷ 0x0006 ∷ [])
    ∷ are (parts_of 2 15 256 3 (total (pos (0xb6cffffffffe035fcc000000000000000001 * 2 ^ 15)))) (0x7ffa ∷ 0x7ff9 ∷ 0x800c ∷ [])
    ∷ are (parts_of 2 31 512 3 (total (pos 0xf08582b22ed6c000000000000000000000000000000000000000000000040))) (0x5f08582b ∷ 0x00a2ed6c ∷ 0x00000001 ∷ [])
    -- totals rounded: one unit, below 0 too; just above the cut between the two largest; the limit of the range; NaR, also in parts
    ∷ is (to_posit 2 31 (total (pos 1))) 0x00000001
    ∷ is (to_posit 2 31 (total (negsuc 0))) 0xffffffff
    ∷ is (to_posit 2 31 (total (pos (2 ^ 358 + 1)))) 0x7fffffff
    ∷ is (to_posit 2 31 (total (negsuc (2 ^ 511 - 2)))) 0x80000001
    ∷ is (to_posit 2 31 not_real) 0x80000000
    ∷ are (parts_of 2 31 512 2 not_real) (0x80000000 ∷ 0x80000000 ∷ [])
    ∷ []

vectors_hold : T (holds vectors)
unfolding everything vectors holds
vectors_hold = tt
