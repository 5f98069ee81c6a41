-- The desk's numbers, as its definitions compute them, are those that its rows give in their order (`batch_due`, `claim_due` and the like), and by rows just one number is due
-- (`just_due`).
use mathlib.Core.Path.{◌≡◌, refl, sym, ap, subst, ◌∙◌}
use mathlib.Core.Logic.{◌≢◌, ◌↔◌, ◌⊎◌, inl, inr}
use mathlib.Core.Bool.{Bool, true, false, ◌&&◌}
use mathlib.Core.List.{List, [], ◌∷◌}
use Prim.Native.Nat.{ℕ, ◌<◌}
use native.Mathlib.Decide.{dec_lt, ℕ_discrete}
use native.Mathlib.Omega.{arith}
use lib.Dec.{T, eqb, eqb_refl}
use lib.ListN.{length, drop}
use lib.Seq.{length-take-le, length_front, drop_at}
use Rattle.std.specs.Prelude.{Result, Ok, Err}
use Rattle.posit.specs.Digits.{same}
use Rattle.posit.specs.Accumulator.{State, clear, image, words}
use Rattle.desk.specs.Batch.{batch}
use Rattle.desk.specs.Answers.{refusal_number, number_of, after}
use Rattle.desk.specs.declared.refusal.Refusal.{Refusal}
use Rattle.desk.specs.Desk.{pair_limit, length_refusal, buffer_refusal, batch_refusal, claim_refusal, written_to, read_into, after_batch}
use Rattle.posit.proofs.Digits.{same_equal}
use Rattle.desk.proofs.Spelt.{image_long}
use Rattle.desk.proofs.Refused.{unequal, too_many, no_refusal, batch_refused, refused_number, claim_refused, claim_of_other_length, claim_compared, buffer_short, buffer_wide, other_length, right_length}
use Rattle.promises.specs.Rows.{Row, Due, JustDue, not_of64_bytes, unequal_lists, too_many_pairs, other_image, write_rows, read_rows, batch_rows, claim_rows}

-- ---- just one number is due

due_one : (rows : List Row) (m n : ℕ) → Due rows m → Due rows n → m ≡ n
due_one [] m n d e = d ∙ sym e
due_one (r ∷ rows) m n (inl (a, d)) (inl (b, e)) = d ∙ sym e
due_one (r ∷ rows) m n (inl (a, d)) (inr (b, e)) = absurd (b a)
due_one (r ∷ rows) m n (inr (a, d)) (inl (b, e)) = absurd (a b)
due_one (r ∷ rows) m n (inr (a, d)) (inr (b, e)) = due_one rows m n d e

pub just_due : (rows : List Row) (n : ℕ) → Due rows n → JustDue rows n
just_due rows n d m = (λ e. subst (Due rows) e d, λ e. due_one rows n m d e)

-- ---- the rows in their order

pub buffer_due : (b : List ℕ) → Due (write_rows b) (buffer_refusal 512 b)
buffer_due b = go (dec_lt (length b) 64)
  where
    go : Dec (length b < 64) → Due (write_rows b) (buffer_refusal 512 b)
    go (yes l) = inl (l, (buffer_short clear b l).0)
    go (no l) = inr (l, (buffer_wide clear b (omega arith)).0)

-- the row of the length first, and then whatever follows where it does not apply
length_due : (rows : List Row) (bs : List ℕ) (n : ℕ) → (length bs ≢ 64 → n ≡ 1) → (length bs ≡ 64 → Due rows n) → Due (not_of64_bytes bs ∷ rows) n
length_due rows bs n first rest = go (ℕ_discrete (length bs) 64)
  where
    go : Dec (length bs ≡ 64) → Due (not_of64_bytes bs ∷ rows) n
    go (yes e) = inr ((λ o. o e), rest e)
    go (no o) = inl (o, first o)

pub bytes_due : (bs : List ℕ) → Due (read_rows bs) (length_refusal 512 bs)
bytes_due bs = length_due [] bs (length_refusal 512 bs) (λ o. (other_length clear bs o).0) (λ e. (right_length clear bs e).0)

-- the two rows of a batch first, and then whatever follows where neither applies
lists_due :
    (rows : List Row) (xs ys : List ℕ) (n : ℕ)
    → ((k : ℕ) → batch_refusal xs ys ≡ k → k ≢ 0 → n ≡ k)
    → (batch_refusal xs ys ≡ 0 → Due rows n)
    → Due (unequal_lists xs ys ∷ too_many_pairs xs ∷ rows) n
lists_due rows xs ys n first rest = go (ℕ_discrete (length xs) (length ys)) (dec_lt pair_limit (length xs))
  where
    go : Dec (length xs ≡ length ys) → Dec (pair_limit < length xs) → Due (unequal_lists xs ys ∷ too_many_pairs xs ∷ rows) n
    go (no o) _ = inl (o, first 3 (unequal xs ys o) (λ z. omega arith))
    go (yes e) (yes l) = inr ((λ o. o e), inl (l, first 4 (too_many xs ys e l) (λ z. omega arith)))
    go (yes e) (no l) = inr ((λ o. o e), inr (l, rest (no_refusal xs ys e (omega arith))))

pub batch_due : (xs ys : List ℕ) → Due (batch_rows xs ys) (batch_refusal xs ys)
batch_due xs ys = lists_due [] xs ys (batch_refusal xs ys) (λ k e o. e) (λ e. e)

-- a list is the same as itself
both : (a b : Bool) → T a → T b → T (a && b)
both true b s t = t
both false b s t = absurd s

same_itself : (xs : List ℕ) → T (same xs xs)
unfolding same
same_itself [] = tt
same_itself (x ∷ xs) = both (eqb x x) (same xs xs) (eqb_refl x) (same_itself xs)

image_due : (xs ys cs : List ℕ) → batch_refusal xs ys ≡ 0 → length cs ≡ 64 → Due (other_image xs ys cs ∷ []) (claim_refusal 2 31 512 xs ys cs)
image_due xs ys cs e l = go (same rebuilt cs) refl
  where
    rebuilt : List ℕ
    rebuilt = image 512 (batch 2 31 512 clear xs ys)

    go : (t : Bool) → same rebuilt cs ≡ t → Due (other_image xs ys cs ∷ []) (claim_refusal 2 31 512 xs ys cs)
    go true s = inr ((λ o. o (sym (same_equal rebuilt cs (subst T (sym s) tt)))), claim_compared xs ys cs true e l s)
    go false s = inl ((λ k. subst T (ap (same rebuilt) (sym k) ∙ s) (same_itself rebuilt)), claim_compared xs ys cs false e l s)

pub claim_due : (xs ys cs : List ℕ) → Due (claim_rows xs ys cs) (claim_refusal 2 31 512 xs ys cs)
claim_due xs ys cs =
    lists_due (not_of64_bytes cs ∷ other_image xs ys cs ∷ []) xs ys (claim_refusal 2 31 512 xs ys cs) (claim_refused xs ys cs)
    (λ e. length_due (other_image xs ys cs ∷ []) cs (claim_refusal 2 31 512 xs ys cs) (claim_of_other_length xs ys cs e) (image_due xs ys cs e))

-- ---- what a refusal leaves as it was

pub unwritten : (q : State) (b : List ℕ) → buffer_refusal 512 b ≢ 0 → written_to 512 q b ≡ b
unwritten q b o = go (dec_lt (length b) 64)
  where
    go : Dec (length b < 64) → written_to 512 q b ≡ b
    go (yes l) = (buffer_short q b l).1
    go (no l) = absurd (o (buffer_wide q b (omega arith)).0)

-- an image leaves what stands behind the first 64 bytes
pub rest_unwritten : (q : State) (b : List ℕ) → (length (written_to 512 q b) ≡ length b) × (drop 64 (written_to 512 q b) ≡ drop 64 b)
rest_unwritten q b = go (dec_lt (length b) 64)
  where
    go : Dec (length b < 64) → (length (written_to 512 q b) ≡ length b) × (drop 64 (written_to 512 q b) ≡ drop 64 b)
    go (yes l) = let s = (buffer_short q b l).1 in (ap length s, ap (drop 64) s)
    go (no l) =
        let s = (buffer_wide q b (omega arith)).1 in
        (ap length s ∙ length_front b (image 512 q) 64 (image_long q ∙ sym (length-take-le 64 b (omega arith))), ap (drop 64) s ∙ drop_at (image 512 q) (drop 64 b) 64 (image_long q))

pub unread : (q : State) (bs : List ℕ) → length_refusal 512 bs ≢ 0 → read_into 512 q bs ≡ q
unread q bs o = go (ℕ_discrete (length bs) 64)
  where
    go : Dec (length bs ≡ 64) → read_into 512 q bs ≡ q
    go (yes e) = absurd (o (right_length q bs e).0)
    go (no n) = (other_length q bs n).1

pub unadded : (q : State) (xs ys : List ℕ) → batch_refusal xs ys ≢ 0 → after_batch 2 31 512 q xs ys ≡ q
unadded q xs ys o = batch_refused xs ys q (batch_refusal xs ys) refl o

-- ---- each number that is due is that of an answer

-- n is the number of no refusal, or of one
abbrev pub Numbered : ℕ → Type 0
Numbered n = (n ≡ 0) ⊎ ((r : Refusal) × (refusal_number r ≡ n))

-- each row's number is that of a refusal
abbrev pub Refuse : List Row → Type 0
Refuse [] = Unit {0}
Refuse (r ∷ rows) = ((x : Refusal) × (refusal_number x ≡ r.number)) × Refuse rows

pub numbered : (rows : List Row) → Refuse rows → (n : ℕ) → Due rows n → Numbered n
numbered [] s n d = inl d
numbered (r ∷ rows) ((x, e), s) n (inl (a, d)) = inr (x, e ∙ sym d)
numbered (r ∷ rows) (x, s) n (inr (a, d)) = numbered rows s n d

-- the answer with that number, which holds `a` where nothing is refused
abbrev pub answer : {A : Type 0} → A → {n : ℕ} → Numbered n → Result A Refusal
answer a (inl e) = Ok a
answer a (inr (r, e)) = Err r

pub answer_number : {A : Type 0} (a : A) {n : ℕ} (s : Numbered n) → number_of (answer a s) ≡ n
answer_number a (inl e) = sym e
answer_number a (inr (r, e)) = e

pub answer_leaves : (q : State) (w : List ℕ) {n : ℕ} (s : Numbered n) → (n ≢ 0 → words 512 q ≡ w) → after 512 q (answer w s) ≡ w
answer_leaves q w (inl e) kept = refl
answer_leaves q w (inr (r, e)) kept = kept (λ z. refused_number r (e ∙ z))

-- ---- a claim is right exactly when it is the rebuilt image

pub claim_right : (xs ys cs : List ℕ) → batch_refusal xs ys ≡ 0 → (claim_refusal 2 31 512 xs ys cs ≡ 0) ↔ (cs ≡ image 512 (batch 2 31 512 clear xs ys))
claim_right xs ys cs e = go (ℕ_discrete (length cs) 64)
  where
    rebuilt : List ℕ
    rebuilt = image 512 (batch 2 31 512 clear xs ys)

    compared : length cs ≡ 64 → (t : Bool) → same rebuilt cs ≡ t → (claim_refusal 2 31 512 xs ys cs ≡ 0) ↔ (cs ≡ rebuilt)
    compared l true s = (λ z. sym (same_equal rebuilt cs (subst T (sym s) tt)), λ k. claim_compared xs ys cs true e l s)
    compared l false s = (λ z. absurd (differs z), λ k. absurd (subst T (ap (same rebuilt) (sym k) ∙ s) (same_itself rebuilt)))
      where
        differs : claim_refusal 2 31 512 xs ys cs ≡ 0 → ⊥
        differs z = omega (arith, sym (claim_compared xs ys cs false e l s) ∙ z)

    go : Dec (length cs ≡ 64) → (claim_refusal 2 31 512 xs ys cs ≡ 0) ↔ (cs ≡ rebuilt)
    go (yes l) = compared l (same rebuilt cs) refl
    go (no o) = (λ z. absurd (other z), λ k. absurd (o (ap length k ∙ image_long (batch 2 31 512 clear xs ys))))
      where
        other : claim_refusal 2 31 512 xs ys cs ≡ 0 → ⊥
        other z = omega (arith, sym (claim_of_other_length xs ys cs e o) ∙ z)
