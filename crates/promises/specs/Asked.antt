-- The desk is asked: to write an image, to read one, to add a batch, to check a claim; by value, of a lent accumulator, or for C. In each row stands the contract that the check
-- makes of the function, met by what was handed in, the number of the answer, and what is left.
use Rattle.std.specs.Prelude.{◌≡◌, refl, List, ℕ, Result}
use contract.Lifetimes.{Lfts}
use Rattle.posit.specs.Accumulator.{from_words}
use Rattle.desk.specs.Answers.{number_of, after}
use Rattle.desk.specs.declared.refusal.Refusal.{Refusal}
use Rattle.desk.proofs.image.write_image.Reads as write
use Rattle.desk.proofs.image.read_image.Reads as read
use Rattle.desk.proofs.batch.add_batch.Reads as batch
use Rattle.desk.proofs.claim.check_claim.Reads as claim
use Rattle.desk.specs.contracts.lent.write_image as of_write
use Rattle.desk.specs.contracts.lent.read_image as of_read
use Rattle.desk.specs.contracts.lent.add_batch as of_batch
use Rattle.capi.proofs.claims.stallhitch_write_image.Reads as c_write
use Rattle.capi.proofs.claims.stallhitch_read_image.Reads as c_read
use Rattle.capi.proofs.claims.stallhitch_add_batch.Reads as c_batch
use Rattle.capi.proofs.claims.stallhitch_check_claim.Reads as c_claim
use Rattle.promises.specs.Contract.{Plain}
use Rattle.promises.specs.Ways.{Way, by_value, lent, for_c, Place, at, at_mut, accumulator}

-- ---- the functions that are lent the accumulator: what their clauses say, as plain facts

abbrev pub write_lent : Plain of_write.ended (λ M 𝓤 𝓛. of_write.clauses 𝓛)
write_lent = record { Post = _; says = λ M 𝓤 𝓛 mem run κs a g x s. refl }

abbrev pub read_lent : Plain of_read.ended (λ M 𝓤 𝓛. of_read.clauses 𝓛)
read_lent = record { Post = _; says = λ M 𝓤 𝓛 mem run κs a g x s. refl }

abbrev pub batch_lent : Plain of_batch.ended (λ M 𝓤 𝓛. of_batch.clauses 𝓛)
batch_lent = record { Post = _; says = λ M 𝓤 𝓛 mem run κs a g x s. refl }

-- ---- the image of the words q is to be written to the buffer b: the number is n, and the buffer is left as c
abbrev pub Writing : Way → List ℕ → List ℕ → ℕ → List ℕ → Type 0
Writing by_value q b n c = (κs : Lfts 1) × (m : Place) × (x : Result (Unit {0}) Refusal) × write.Post κs (q, (at_mut m b, tt)) x (q, (at_mut m c, tt)) × (number_of x ≡ n)
Writing lent q b n c =
    (κs : Lfts 2) × (l m : Place) × (x : Result (Unit {0}) Refusal) × write_lent.Post κs (at l (accumulator q), (at_mut m b, tt)) x (at l (accumulator q), (at_mut m c, tt)) × (number_of x ≡ n)
Writing for_c q b n c = (κs : Lfts 2) × (l m : Place) × c_write.Post κs (at l q, (at_mut m b, tt)) n (at l q, (at_mut m c, tt))

-- ---- the bytes bs are to be read into an accumulator with the words q: the number is n, and the words are then r
abbrev pub Reading : Way → List ℕ → List ℕ → ℕ → List ℕ → Type 0
Reading by_value q bs n r =
    (κs : Lfts 1) × (m : Place) × (x : Result (List ℕ) Refusal) × read.Post κs (q, (at m bs, tt)) x (q, (at m bs, tt)) × (number_of x ≡ n) × (after 512 (from_words 512 q) x ≡ r)
Reading lent q bs n r =
    (κs : Lfts 2) × (l m : Place) × (x : Result (Unit {0}) Refusal) × read_lent.Post κs (at_mut l (accumulator q), (at m bs, tt)) x (at_mut l (accumulator r), (at m bs, tt)) × (number_of x ≡ n)
Reading for_c q bs n r = (κs : Lfts 2) × (l m : Place) × c_read.Post κs (at_mut l q, (at m bs, tt)) n (at_mut l r, (at m bs, tt))

-- ---- the products of the lists xs and ys are to be added to an accumulator with the words q: the number is n, and the words are then r
abbrev pub Adding : Way → List ℕ → List ℕ → List ℕ → ℕ → List ℕ → Type 0
Adding by_value q xs ys n r =
    (κs : Lfts 2) × (l m : Place) × (x : Result (List ℕ) Refusal)
    × batch.Post κs (q, (at l xs, (at m ys, tt))) x (q, (at l xs, (at m ys, tt)))
    × (number_of x ≡ n) × (after 512 (from_words 512 q) x ≡ r)
Adding lent q xs ys n r =
    (κs : Lfts 3) × (k l m : Place) × (x : Result (Unit {0}) Refusal)
    × batch_lent.Post κs (at_mut k (accumulator q), (at l xs, (at m ys, tt))) x (at_mut k (accumulator r), (at l xs, (at m ys, tt)))
    × (number_of x ≡ n)
Adding for_c q xs ys n r = (κs : Lfts 3) × (k l m : Place) × c_batch.Post κs (at_mut k q, (at l xs, (at m ys, tt))) n (at_mut k r, (at l xs, (at m ys, tt)))

-- ---- the claim cs is to be checked against the batch of xs and ys: the number is n. No accumulator is lent, and there is no second function for it
abbrev pub Claiming : Way → List ℕ → List ℕ → List ℕ → ℕ → Type 0
Claiming by_value xs ys cs n =
    (κs : Lfts 3) × (k l m : Place) × (x : Result (Unit {0}) Refusal) × claim.Post κs (at k xs, (at l ys, (at m cs, tt))) x (at k xs, (at l ys, (at m cs, tt))) × (number_of x ≡ n)
Claiming lent xs ys cs n = ⊥
Claiming for_c xs ys cs n = (κs : Lfts 3) × (k l m : Place) × c_claim.Post κs (at k xs, (at l ys, (at m cs, tt))) n (at k xs, (at l ys, (at m cs, tt)))
