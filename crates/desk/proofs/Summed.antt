-- Pairs taken from the front of two lists, folded: so are the pairs of a batch added, and two lists of bytes compared. And bytes put together: eight are a word, and eight words
-- are all 64.
use mathlib.Core.Path.{◌≡◌, refl, sym, ap, subst, ◌∙◌}
use mathlib.Core.List.{List, [], ◌∷◌}
use mathlib.Core.Bool.{Bool, ◌&&◌, and_assoc, and-true}
use Prim.Native.Nat.{ℕ, zero, suc, ◌+◌, ◌-◌, ◌*◌, ◌^◌, ◌<◌, ◌≤◌}
use native.Mathlib.Nat.{add-zero, zero-mul, pow-succ' as pow-suc'}
use native.Mathlib.Omega.{arith}
use lib.Dec.{eqb, lit<}
use lib.ListN.{length, get_or, drop, take}
use Rattle.std.proofs.lemmas.List.{get_or-take, get_or-drop}
use Rattle.std.specs.Int.{from_be_bytes, w64}
use Rattle.std.specs.List.{fold, zip}
use Rattle.posit.specs.Digits.{number, same}
use Rattle.posit.specs.Accumulator.{State, clear, plus, of_product, words, from_words}
use Rattle.desk.specs.Batch.{batch}
use Rattle.quire_words.specs.Words.{wide}
use Rattle.quire_words.proofs.Places.{number_none, number_drop}
use Rattle.posit.proofs.Arith.{pow_mul}
use Rattle.posit.proofs.State.{Held, words_read}
use Rattle.quire_steps.proofs.Words.{zero_words, read_zero}
use Rattle.quire_steps.proofs.Kept.{plus_read, plus_held}
use Rattle.posit.proofs.Digits.{Prefix}

-- ---- a batch

-- the words of an accumulator after one more pair
abbrev pub with_pair : List ℕ → ℕ × ℕ → List ℕ
with_pair r p = words 512 (plus 512 (from_words 512 r) (of_product 2 31 p.0 p.1))

pub batch_folded : (a b : List ℕ) (q : State) → from_words 512 (words 512 q) ≡ q → fold with_pair (words 512 q) (zip a b) ≡ words 512 (batch 2 31 512 q a b)
unfolding batch
batch_folded [] b q e = refl
batch_folded (x ∷ a) [] q e = refl
batch_folded (x ∷ a) (y ∷ b) q e =
    ap (λ p. fold with_pair (words 512 (plus 512 p (of_product 2 31 x y))) (zip a b)) e ∙ batch_folded a b (plus 512 q (of_product 2 31 x y)) (plus_read q (of_product 2 31 x y))

-- the image of a batch from zero: its words are those of the state that it leads to
batch_held : (q : State) (a b : List ℕ) → Held 512 q → Held 512 (batch 2 31 512 q a b)
unfolding batch
batch_held q [] b h = h
batch_held q (x ∷ a) [] h = h
batch_held q (x ∷ a) (y ∷ b) h = batch_held (plus 512 q (of_product 2 31 x y)) a b (plus_held q (of_product 2 31 x y))

pub rebuilt : (a b ws : List ℕ) → ws ≡ words 512 (batch 2 31 512 (from_words 512 zero_words) a b) → from_words 512 ws ≡ batch 2 31 512 clear a b
rebuilt a b ws e =
    ap (from_words 512) (e ∙ ap (λ q. words 512 (batch 2 31 512 q a b)) read_zero)
    ∙ words_read 512 (lit< tt) refl (batch 2 31 512 clear a b) (batch_held clear a b (lit< tt))

-- ---- bytes compared

abbrev pub still_same : Bool → ℕ × ℕ → Bool
still_same t p = t && eqb p.0 p.1

pub same_folded : (xs ys : List ℕ) (t : Bool) → length xs ≡ length ys → fold still_same t (zip xs ys) ≡ (t && same xs ys)
unfolding same
same_folded [] [] t e = sym (and-true t)
same_folded [] (y ∷ ys) t e = absurd (omega arith)
same_folded (x ∷ xs) [] t e = absurd (omega arith)
same_folded (x ∷ xs) (y ∷ ys) t e = same_folded xs ys (t && eqb x y) (omega arith) ∙ and_assoc t (eqb x y) (same xs ys)

-- ---- eight bytes are a word

byte_start : (bs : List ℕ) (at : ℕ) → Prefix 256 bs at 0 0
byte_start bs at = rw (add-zero at) (sym (omega (arith, zero-mul (256 ^ (length bs - at)))))

-- one byte more in front of those that are left
byte_more : (bs : List ℕ) (at k x : ℕ) → at + k < length bs → Prefix 256 bs at k x → Prefix 256 bs at (k + 1) (256 * x + get_or bs (at + k) 0)
byte_more bs at k x h e =
    let next : length bs - (at + k) ≡ suc (length bs - (at + (k + 1))) = omega arith in
    let place : suc (at + k) ≡ at + (k + 1) = omega arith in
    let P = 256 ^ (length bs - (at + (k + 1))) in
    let power : 256 ^ (length bs - (at + k)) ≡ 256 * P = ap (λ (n : ℕ). 256 ^ n) next ∙ pow-suc' 256 (length bs - (at + (k + 1))) in
    let behind : number 256 (drop (at + k) bs) ≡ get_or bs (at + k) 0 * P + number 256 (drop (at + (k + 1)) bs) =
    rw place at (number_drop 256 bs (at + k) h) in
    omega (arith, e, ap (λ (n : ℕ). x * n) power, behind)

-- the chunk that is cut out of what stands from `at` on
pub word_of_bytes : (bs : List ℕ) (at x : ℕ) (chunk : List ℕ) → at + 8 ≤ length bs → chunk ≡ take 8 (take (length bs - at) (drop at bs)) → x ≡ from_be_bytes w64 chunk → Prefix 256 bs at 8 x
word_of_bytes bs at x chunk h e f =
    let byte = λ (i : ℕ) (l : i < 8). ap (λ (c : List ℕ). get_or c i 0) e ∙ get_or-take 8 _ i 0 l ∙ get_or-take (length bs - at) _ i 0 (omega arith) ∙ get_or-drop at bs i 0 in
    let b0 = byte_more bs at 0 0 (omega arith) (byte_start bs at) in
    let b1 = byte_more bs at 1 _ (omega arith) b0 in
    let b2 = byte_more bs at 2 _ (omega arith) b1 in
    let b3 = byte_more bs at 3 _ (omega arith) b2 in
    let b4 = byte_more bs at 4 _ (omega arith) b3 in
    let b5 = byte_more bs at 5 _ (omega arith) b4 in
    let b6 = byte_more bs at 6 _ (omega arith) b5 in
    let b7 = byte_more bs at 7 _ (omega arith) b6 in
    subst (λ n. Prefix 256 bs at 8 n) (sym (omega (arith, f, byte 0 (lit< tt), byte 1 (lit< tt), byte 2 (lit< tt), byte 3 (lit< tt), byte 4 (lit< tt), byte 5 (lit< tt), byte 6 (lit< tt), byte 7 (lit< tt)))) b7

-- ---- eight words are 64 bytes

words_from : (bs r : List ℕ) → length bs ≡ 64 → length r ≡ 8 → ((j : ℕ) → j < 8 → Prefix 256 bs (8 * j) 8 (get_or r j 0)) → (n j : ℕ) → j + n ≡ 8
    → number (2 ^ 64) (drop j r) ≡ number 256 (drop (8 * j) bs)
words_from bs r e f each zero j h = number_none (2 ^ 64) j r (omega arith) ∙ sym (number_none 256 (8 * j) bs (omega arith))
words_from bs r e f each (suc n) j h =
    let next : 8 * j + 8 ≡ 8 * suc j = omega arith in
    let power : 256 ^ (length bs - 8 * suc j) ≡ (2 ^ 64) ^ (length r - suc j) =
    sym (pow_mul 8 (length bs - 8 * suc j)) ∙ ap (λ (m : ℕ). 2 ^ m) (bits (length bs) (length r) j e f h) ∙ pow_mul 64 (length r - suc j) in
    let lead = rw next at (each j (omega arith)) in
    let behind = words_from bs r e f each n (suc j) (omega arith) in
    number_drop (2 ^ 64) r j (omega arith) ∙ (omega (arith, lead, behind, ap (λ (m : ℕ). get_or r j 0 * m) power))
  where
    bits : (l m j : ℕ) → l ≡ 64 → m ≡ 8 → j + suc n ≡ 8 → 8 * (l - 8 * suc j) ≡ 64 * (m - suc j)
    bits l m j e f h = omega arith

pub read_all : (bs r : List ℕ) → length bs ≡ 64 → length r ≡ 8 → ((j : ℕ) → j < 8 → Prefix 256 bs (8 * j) 8 (get_or r j 0)) → wide r ≡ number 256 bs
read_all bs r e f each = words_from bs r e f each 8 0 refl
