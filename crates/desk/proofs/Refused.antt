-- What each refusal is, and what it leaves: the number by the test that gives it, and the state, the buffer or the claim's answer behind it.
use mathlib.Core.Path.{◌≡◌, ap}
use mathlib.Core.Logic.{◌≢◌}
use mathlib.Core.Bool.{Bool, cond}
use mathlib.Core.List.{List, ◌++◌}
use Prim.Native.Nat.{ℕ, ◌≤◌, ◌<◌}
use native.Mathlib.Omega.{arith}
use borrow.Author.Tests.{eq-eqb, ne_eqb, lt-ltb, le-ltb}
use lib.ListN.{length, drop}
use Rattle.std.specs.Prelude.{Result, Err}
use Rattle.std.specs.Result.{IsErrAnd}
use Rattle.std.proofs.lemmas.Result.{err_from_is_err_and}
use Rattle.posit.specs.Digits.{number, same}
use Rattle.posit.specs.Accumulator.{State, clear, image, from_words, from_image, state_of}
use Rattle.desk.specs.Batch.{batch}
use Rattle.desk.specs.Desk.{pair_limit, length_refusal, buffer_refusal, batch_refusal, claim_refusal, written_to, read_into, after_batch}
use Rattle.desk.specs.Answers.{refusal_number}
use Rattle.desk.specs.declared.refusal.Refusal.{Refusal}
use Rattle.desk.specs.declared.refusal.Refusal.TheVariants.{WrongLength, BufferTooShort, UnequalLists, TooManyPairs, Differs}
use Rattle.quire_words.specs.Words.{wide}

-- ---- a batch

module _ (xs ys : List ℕ) where
  pub unequal : length xs ≢ length ys → batch_refusal xs ys ≡ 3
  unequal n = rw (ne_eqb (length xs) (length ys) n)

  pub too_many : length xs ≡ length ys → pair_limit < length xs → batch_refusal xs ys ≡ 4
  too_many e l = rw (eq-eqb (length xs) (length ys) e, lt-ltb pair_limit (length xs) l)

  pub no_refusal : length xs ≡ length ys → length xs ≤ pair_limit → batch_refusal xs ys ≡ 0
  no_refusal e l = rw (eq-eqb (length xs) (length ys) e, le-ltb pair_limit (length xs) l)

  module _ (q : State) where
    pub batch_refused : (n : ℕ) → batch_refusal xs ys ≡ n → n ≢ 0 → after_batch 2 31 512 q xs ys ≡ q
    unfolding after_batch
    batch_refused n e z = rw (e, ne_eqb n 0 z)

    pub batch_done : batch_refusal xs ys ≡ 0 → after_batch 2 31 512 q xs ys ≡ batch 2 31 512 q xs ys
    unfolding after_batch
    batch_done e = rw e

  -- ---- a claim

  module _ (claim : List ℕ) where
    pub claim_refused : (n : ℕ) → batch_refusal xs ys ≡ n → n ≢ 0 → claim_refusal 2 31 512 xs ys claim ≡ n
    unfolding claim_refusal
    claim_refused n e z = rw (e, ne_eqb n 0 z)

    pub claim_of_other_length : batch_refusal xs ys ≡ 0 → length claim ≢ 64 → claim_refusal 2 31 512 xs ys claim ≡ 1
    unfolding claim_refusal
    claim_of_other_length e n = rw (e, ne_eqb (length claim) 64 n)

    pub claim_compared : (t : Bool) → batch_refusal xs ys ≡ 0 → length claim ≡ 64 → same (image 512 (batch 2 31 512 clear xs ys)) claim ≡ t → claim_refusal 2 31 512 xs ys claim ≡ cond t 0 5
    unfolding claim_refusal
    claim_compared t e l s = rw (e, eq-eqb (length claim) 64 l, s)

-- ---- an image

module _ (q : State) (bs : List ℕ) where
  pub buffer_short : length bs < 64 → (buffer_refusal 512 bs ≡ 2) × (written_to 512 q bs ≡ bs)
  unfolding written_to
  buffer_short l = (rw (lt-ltb (length bs) 64 l), rw (lt-ltb (length bs) 64 l))

  pub buffer_wide : 64 ≤ length bs → (buffer_refusal 512 bs ≡ 0) × (written_to 512 q bs ≡ image 512 q ++ drop 64 bs)
  unfolding written_to
  buffer_wide l = (rw (le-ltb (length bs) 64 l), rw (le-ltb (length bs) 64 l))

  pub other_length : length bs ≢ 64 → (length_refusal 512 bs ≡ 1) × (read_into 512 q bs ≡ q)
  unfolding read_into
  other_length n = (rw (ne_eqb (length bs) 64 n), rw (ne_eqb (length bs) 64 n))

  pub right_length : length bs ≡ 64 → (length_refusal 512 bs ≡ 0) × (read_into 512 q bs ≡ from_image 512 bs)
  unfolding read_into
  right_length e = (rw (eq-eqb (length bs) 64 e), rw (eq-eqb (length bs) 64 e))

-- words and bytes of one number are one state
pub one_number : (ws bs : List ℕ) → wide ws ≡ number 256 bs → from_words 512 ws ≡ from_image 512 bs
unfolding from_words from_image
one_number ws bs e = ap (state_of 512) e

-- ---- a refusal

-- its number is not that of no refusal
pub refused_number : (r : Refusal) → refusal_number r ≢ 0
refused_number WrongLength e = absurd (omega arith)
refused_number BufferTooShort e = absurd (omega arith)
refused_number UnequalLists e = absurd (omega arith)
refused_number TooManyPairs e = absurd (omega arith)
refused_number Differs e = absurd (omega arith)

-- what `?` hands on is the refusal that it met
pub refused : {A : Type 0} {e : Refusal} (r : Result A Refusal) → IsErrAnd r (λ d. d ≡ e) → (P : Result A Refusal → Type 0) → P (Err e) → P r
refused r is P p = let met = err_from_is_err_and r is in rw (met.1, met.2) p
