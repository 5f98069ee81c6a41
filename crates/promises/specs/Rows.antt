-- When the desk says no: the rows of the table (5.1 to 5.5), each a number and when it applies, and which number is due by rows in their order.
use Rattle.std.specs.Prelude.{◌≡◌, ◌≢◌, ◌⊎◌, ◌↔◌, List, [], ◌∷◌, ℕ, ◌<◌, length}
use Rattle.posit.specs.Accumulator.{clear, image}
use Rattle.desk.specs.Batch.{batch}
use Rattle.desk.specs.Desk.{pair_limit}

pub record Row : Type 1 where
  pub number : ℕ
  pub applies : Type 0

-- n is the number of the first row that applies, or 0 where none does
abbrev pub Due : List Row → ℕ → Type 0
Due [] n = n ≡ 0
Due (r ∷ rows) n = (r.applies × (n ≡ r.number)) ⊎ ((r.applies → ⊥) × Due rows n)

-- n is due, and no other number is
abbrev pub JustDue : List Row → ℕ → Type 0
JustDue rows n = (m : ℕ) → (n ≡ m) ↔ Due rows m

-- an image to read, or a claim
abbrev pub not_of64_bytes : List ℕ → Row
not_of64_bytes bs = record { number = 1; applies = length bs ≢ 64 }

-- a buffer for an image
abbrev pub under64_bytes : List ℕ → Row
under64_bytes buffer = record { number = 2; applies = length buffer < 64 }

-- the lists of a batch
abbrev pub unequal_lists : List ℕ → List ℕ → Row
unequal_lists xs ys = record { number = 3; applies = length xs ≢ length ys }

abbrev pub too_many_pairs : List ℕ → Row
too_many_pairs xs = record { number = 4; applies = pair_limit < length xs }

-- a claim that differs from the rebuilt image
abbrev pub other_image : List ℕ → List ℕ → List ℕ → Row
other_image xs ys claim = record { number = 5; applies = claim ≢ image 512 (batch 2 31 512 clear xs ys) }

-- ---- which rows each function of the desk has, in their order

abbrev pub write_rows : List ℕ → List Row
write_rows buffer = under64_bytes buffer ∷ []

abbrev pub read_rows : List ℕ → List Row
read_rows bs = not_of64_bytes bs ∷ []

abbrev pub batch_rows : List ℕ → List ℕ → List Row
batch_rows xs ys = unequal_lists xs ys ∷ too_many_pairs xs ∷ []

-- (5.6) the order 3, 4, 1, 5
abbrev pub claim_rows : List ℕ → List ℕ → List ℕ → List Row
claim_rows xs ys claim = unequal_lists xs ys ∷ too_many_pairs xs ∷ not_of64_bytes claim ∷ other_image xs ys claim ∷ []
