-- One turn of a loop that counts from the front of a list, where what is left at i is drop i of it: a pair is added, a word is written, two bytes are compared.
use mathlib.Core.Path.{◌≡◌, sym, ap, ◌∙◌}
use mathlib.Core.List.{List}
use mathlib.Core.Bool.{Bool, ◌&&◌, and_assoc}
use Prim.Native.Nat.{ℕ, suc, ◌+◌, ◌-◌, ◌*◌, ◌^◌, ◌<◌, ◌≤◌}
use native.Mathlib.Nat.{zero-mul, le_refl}
use native.Mathlib.Omega.{arith}
use lib.Dec.{eqb}
use lib.ListN.{length, get_or, drop, set, length-set}
use lib.Seq.{drop-cons, get_or-set_other}
use Rattle.posit.specs.Digits.{number, same}
use Rattle.posit.specs.Accumulator.{State, plus, of_product, words, from_words}
use Rattle.desk.specs.Batch.{batch}
use Rattle.quire_words.specs.Words.{wide}
use Rattle.quire_steps.proofs.Moved.{set_adds}
use Rattle.posit.proofs.Arith.{pow_mul}
use Rattle.quire_steps.proofs.Kept.{plus_read}
use Rattle.posit.proofs.Digits.{Prefix}

-- ---- a pair

-- the pair at i is added
batch_more : (q : State) (a b : List ℕ) (i : ℕ) → i < length a → i < length b
    → batch 2 31 512 q (drop i a) (drop i b) ≡ batch 2 31 512 (plus 512 q (of_product 2 31 (get_or a i 0) (get_or b i 0))) (drop (i + 1) a) (drop (i + 1) b)
unfolding batch
batch_more q a b i ha hb =
    let one : i + 1 ≡ suc i = omega arith in
    rw (drop-cons a i 0 ha, drop-cons b i 0 hb, one)

-- and its words are those of the accumulator for the next turn
pub batch_turn : (a b : List ℕ) (i : ℕ) (r s : List ℕ) → i < length a → i < length b → s ≡ words 512 (plus 512 (from_words 512 r) (of_product 2 31 (get_or a i 0) (get_or b i 0)))
    → batch 2 31 512 (from_words 512 s) (drop (i + 1) a) (drop (i + 1) b) ≡ batch 2 31 512 (from_words 512 r) (drop i a) (drop i b)
batch_turn a b i r s ha hb e =
    ap (λ q. batch 2 31 512 q (drop (i + 1) a) (drop (i + 1) b)) (ap (from_words 512) e ∙ plus_read (from_words 512 r) (of_product 2 31 (get_or a i 0) (get_or b i 0)))
    ∙ sym (batch_more (from_words 512 r) a b i ha hb)

-- ---- a word

-- the words from j on are still 0, and what the words say and what is left of the bytes are together all of them
pub record Read (bs r : List ℕ) (j : ℕ) : Type 0 where
  pub long : length r ≡ 8
  pub together : wide r + number 256 (drop (8 * j) bs) ≡ number 256 bs
  pub rest : (k : ℕ) → j ≤ k → get_or r k 0 ≡ 0

pub word_more : (bs r : List ℕ) (j w : ℕ) → length bs ≡ 64 → j < 8 → Read bs r j → Prefix 256 bs (8 * j) 8 w → Read bs (set r j w) (j + 1)
word_more bs r j w e h read lead =
    let place : 8 * j + 8 ≡ 8 * (j + 1) = omega arith in
    let power : 256 ^ (64 - 8 * (j + 1)) ≡ (2 ^ 64) ^ (8 - suc j) =
    sym (pow_mul 8 (64 - 8 * (j + 1))) ∙ ap (λ (n : ℕ). 2 ^ n) (bits j h) ∙ pow_mul 64 (8 - suc j) in
    let added = rw (read.long, read.rest j (le_refl j), zero-mul) at (set_adds (2 ^ 64) r j w (rw read.long h)) in
    let taken = rw (e, place) at lead in
    record {
      long = length-set r j w ∙ read.long;
      together = omega (arith, read.together, added, taken, ap (λ (n : ℕ). w * n) power);
      rest = λ k l. get_or-set_other r j k w 0 (λ q. omega arith) ∙ read.rest k (omega arith);
    }
  where
    bits : (j : ℕ) → j < 8 → 8 * (64 - 8 * (j + 1)) ≡ 64 * (8 - suc j)
    bits j h = omega arith

-- ---- a byte of each

pub same_more : (t : Bool) (xs ys : List ℕ) (i : ℕ) → i < length xs → i < length ys
    → (t && same (drop i xs) (drop i ys)) ≡ ((t && eqb (get_or xs i 0) (get_or ys i 0)) && same (drop (i + 1) xs) (drop (i + 1) ys))
unfolding same
same_more t xs ys i hx hy =
    let one : i + 1 ≡ suc i = omega arith in
    rw (drop-cons xs i 0 hx, drop-cons ys i 0 hy, one) (sym (and_assoc t _ _))
