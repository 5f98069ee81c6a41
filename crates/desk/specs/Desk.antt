-- When the desk says no (5): the numbers, each given exactly when its test says so, and 0 where none is due.
use Rattle.std.specs.Prelude.{cond, List, ◌++◌, ℕ, ◌/◌, eqb, ltb, length, drop}
use Rattle.posit.specs.Digits.{same}
use Rattle.posit.specs.Accumulator.{State, clear, image, from_image}
use Rattle.desk.specs.Batch.{batch}

-- (5.6) the greatest number of pairs that a batch may have
abbrev pub pair_limit : ℕ
pair_limit = 16384

-- (4.10) the length of an image
abbrev pub image_length : ℕ → ℕ
image_length bits = bits / 8

-- (5.1) an image to read, or a claim, of another length
abbrev pub length_refusal : ℕ → List ℕ → ℕ
length_refusal bits bs = cond (eqb (length bs) (image_length bits)) 0 1

-- (5.2) a buffer that is too short for an image
abbrev pub buffer_refusal : ℕ → List ℕ → ℕ
buffer_refusal bits buf = cond (ltb (length buf) (image_length bits)) 2 0

-- (5.3, 5.4) lists that differ in length; then too many pairs
abbrev pub batch_refusal : List ℕ → List ℕ → ℕ
batch_refusal xs ys = cond (eqb (length xs) (length ys)) (cond (ltb pair_limit (length xs)) 4 0) 3

-- the first of two numbers that is due
abbrev pub or_else : ℕ → ℕ → ℕ
or_else n later = cond (eqb n 0) later n

-- (4.12, 5.5) the claim differs in any byte from the image of the batch begun from zero
unfoldable pub claim_refusal : ℕ → ℕ → ℕ → List ℕ → List ℕ → List ℕ → ℕ
claim_refusal es w bits xs ys claim =
    let rebuilt = image bits (batch es w bits clear xs ys) in
    let differs : ℕ = cond (same rebuilt claim) 0 5 in
    or_else (batch_refusal xs ys) (or_else (length_refusal bits claim) differs)

-- (5.7) what a refusal, or else the work, leaves behind: the buffer an image is written to, the state an image is read into, the state after a batch
unfoldable pub written_to : ℕ → State → List ℕ → List ℕ
written_to bits q buf = cond (eqb (buffer_refusal bits buf) 0) (image bits q ++ drop (image_length bits) buf) buf

unfoldable pub read_into : ℕ → State → List ℕ → State
read_into bits q bs = cond (eqb (length_refusal bits bs) 0) (from_image bits bs) q

unfoldable pub after_batch : ℕ → ℕ → ℕ → State → List ℕ → List ℕ → State
after_batch es w bits q xs ys = cond (eqb (batch_refusal xs ys) 0) (batch es w bits q xs ys) q
