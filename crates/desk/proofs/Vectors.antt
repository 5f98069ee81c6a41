-- Batches at four sizes, and the desk's refusals at their limits, in one table under one claim that the checker computes. It shows that the
-- definitions agree with answers worked out without them, by tools/vectors.py from our own rules: `python3 tools/vectors.py desk` prints the
-- cases, and with `--check` it says whether those below are the same, line for line.
use mathlib.Core.List.{List, [], ◌∷◌, ◌++◌}
use Prim.Native.Nat.{◌*◌, ◌^◌}
use lib.IntN.{pos}
use lib.Dec.{T}
use lib.ListN.{replicate}
use Rattle.posit.specs.Accumulator.{total, clear, of_posit}
use Rattle.posit.proofs.Table.{Case, is, are, held, holds}
use Rattle.desk.specs.Batch.{batch}
use Rattle.desk.specs.Desk.{length_refusal, buffer_refusal, batch_refusal, claim_refusal, written_to, read_into, after_batch}
use Rattle.desk.proofs.Computing.{everything}

vectors : List Case
unfolding everything
vectors =
    -- a batch at each size
    are (held (batch 0 7 128 clear (0x01 ∷ 0x93 ∷ 0x7f ∷ []) (0x01 ∷ 0x5d ∷ 0x21 ∷ []))) (0 ∷ 106865 ∷ [])
    ∷ are (held (batch 1 15 256 clear (0x0001 ∷ 0x5a3c ∷ 0xa5c3 ∷ []) (0x0001 ∷ 0x1234 ∷ 0x4321 ∷ []))) (1 ∷ 0x3a8e6adffffffff ∷ [])
    ∷ are (held (batch 2 15 256 clear (0x0003 ∷ 0x3b6d ∷ 0xc493 ∷ []) (0x0005 ∷ 0x7ffb ∷ 0x4321 ∷ []))) (0 ∷ 0xb6cffffffffe035fcc000000000000000001 * 2 ^ 15 ∷ [])
    ∷ are (held (batch 2 31 512 clear (0x00000003 ∷ 0x32aaaaab ∷ 0xcd555555 ∷ []) (0x00000001 ∷ 0x4c000000 ∷ 0x9abcdef0 ∷ []))) (0 ∷ 0xf08582b22ed6c000000000000000000000000000000000000000000000040 ∷ [])
    -- the range is judged after each pair, in 26 bits: out of it and back is NaR, the other order is not; a NaR operand; no pairs
    ∷ are (held (batch 0 7 26 (total (pos 5)) (0x7f ∷ 0x7f ∷ 0x81 ∷ []) (0x7f ∷ 0x7f ∷ 0x7f ∷ []))) []
    ∷ are (held (batch 0 7 26 (total (pos 5)) (0x7f ∷ 0x81 ∷ 0x7f ∷ []) (0x7f ∷ 0x7f ∷ 0x7f ∷ []))) (0 ∷ 0x1000005 ∷ [])
    ∷ are (held (batch 0 7 26 (total (pos 5)) (0x80 ∷ 0x40 ∷ []) (0x00 ∷ 0x40 ∷ []))) []
    ∷ are (held (batch 0 7 26 (total (pos 5)) [] [])) (0 ∷ 5 ∷ [])
    -- the desk, numbers 1 to 4: images of 63, 64 and 65 bytes, buffers of these lengths, and lists about as long as is allowed
    ∷ are (length_refusal 512 (replicate 63 0) ∷ length_refusal 512 (replicate 64 0) ∷ length_refusal 512 (replicate 65 0) ∷ []) (1 ∷ 0 ∷ 1 ∷ [])
    ∷ are (buffer_refusal 512 (replicate 63 0) ∷ buffer_refusal 512 (replicate 64 0) ∷ buffer_refusal 512 (replicate 65 0) ∷ []) (2 ∷ 0 ∷ 0 ∷ [])
    ∷ is (batch_refusal (replicate 2 0) (replicate 1 0)) 3
    ∷ is (batch_refusal (replicate 16384 0) (replicate 16384 0)) 0
    ∷ is (batch_refusal (replicate 16385 0) (replicate 16385 0)) 4
    ∷ is (batch_refusal (replicate 16385 0) (replicate 16384 0)) 3
    -- a claim: 3 and 4 come before 1, 1 before 5, a wrong byte gives 5, and a right one gives no number, NaR too
    ∷ is (claim_refusal 2 31 512 (0x00000000 ∷ 0x00000000 ∷ []) (0x00000000 ∷ []) (replicate 63 0)) 3
    ∷ is (claim_refusal 2 31 512 (replicate 16385 0x00000000) (replicate 16385 0x00000000) (replicate 63 0)) 4
    ∷ is (claim_refusal 2 31 512 (0x40000000 ∷ []) (0x40000000 ∷ []) (replicate 63 0)) 1
    ∷ is (claim_refusal 2 31 512 (0x40000000 ∷ []) (0x40000000 ∷ []) (replicate 33 0 ++ (1 ∷ (replicate 29 0 ++ (1 ∷ []))))) 5
    ∷ is (claim_refusal 2 31 512 (0x40000000 ∷ []) (0x40000000 ∷ []) (replicate 33 0 ++ (1 ∷ replicate 30 0))) 0
    ∷ is (claim_refusal 2 31 512 (0x40000000 ∷ []) (0x80000000 ∷ []) (128 ∷ replicate 63 0)) 0
    ∷ is (claim_refusal 2 31 512 [] [] (replicate 64 0)) 0
    -- what is left behind: a short buffer as it was, a long one beyond its 64 bytes, and the state after a refusal
    ∷ are (written_to 512 (of_posit 2 31 0x40000000) (replicate 63 9)) (replicate 63 9)
    ∷ are (written_to 512 (of_posit 2 31 0x40000000) (replicate 66 9)) (replicate 33 0 ++ (1 ∷ (replicate 30 0 ++ (9 ∷ 9 ∷ []))))
    ∷ are (held (read_into 512 (total (pos 7)) (replicate 63 1))) (0 ∷ 7 ∷ [])
    ∷ are (held (read_into 512 (total (pos 7)) (replicate 64 255))) (1 ∷ 1 ∷ [])
    ∷ are (held (after_batch 2 31 512 (total (pos 7)) (0x1 ∷ 0x1 ∷ []) (0x1 ∷ []))) (0 ∷ 7 ∷ [])
    ∷ are (held (after_batch 2 31 512 (total (pos 7)) (0x1 ∷ []) (0x1 ∷ []))) (0 ∷ 8 ∷ [])
    ∷ []

vectors_hold : T (holds vectors)
unfolding everything vectors holds
vectors_hold = tt
