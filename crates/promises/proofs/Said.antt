-- By every way a contract says the same of the words before and after, of the number and of what is left: the fact that stands on the right of each arrow here. And by every way
-- it can be met by what it says (`-met`), wherever the lent things stand.
use mathlib.Core.Path.{◌≡◌, refl, sym, ap, ◌∙◌}
use mathlib.Core.Logic.{◌≢◌}
use mathlib.Core.Bool.{Bool}
use mathlib.Core.List.{List, []}
use Prim.Native.Nat.{ℕ}
use contract.Lifetimes.{Lfts}
use Rattle.posit.specs.Accumulator.{State, clear, is_clear, is_not_real, of_posit, of_product, plus, minus, negated, words, from_words}
use Rattle.desk.specs.Desk.{length_refusal, buffer_refusal, batch_refusal, claim_refusal, written_to, read_into, after_batch}
use Rattle.quire_steps.specs.Sign.{sign_off}
use Rattle.promises.specs.History.{Direction, added, taken}
use Rattle.promises.specs.Ways.{Way, by_value, lent, for_c, Place, Beginning, by_cleared, by_init, by_clear, by_clear_for_c, Begun, Handed, a_pattern, a_pair, an_accumulator, Moved, Negated, SignDropped, SaysZero, SaysNar}
use Rattle.promises.specs.Asked.{Writing, Reading, Adding, Claiming}
use Rattle.promises.proofs.Refusals.{Numbered, answer, answer_number, answer_leaves, unread, unadded}

-- some lifetimes, and three places that are apart
pub somewhere : Place
somewhere = record { ptr = (0, 0); name = 0 }

elsewhere : Place
elsewhere = record { ptr = (1, 0); name = 1 }

farther_on : Place
farther_on = record { ptr = (2, 0); name = 2 }

pub one_lifetime : Lfts 1
one_lifetime = ([], tt)

two_lifetimes : Lfts 2
two_lifetimes = ([], one_lifetime)

three_lifetimes : Lfts 3
three_lifetimes = ([], two_lifetimes)

-- ---- the accumulator

-- what is brought by what a step is handed, and the state after it is added or taken
unfoldable pub brought : Handed → State
brought (a_pattern p) = of_posit 2 31 p
brought (a_pair a b) = of_product 2 31 a b
brought (an_accumulator p) = from_words 512 p

abbrev pub shifted : Direction → State → State → State
shifted added q x = plus 512 q x
shifted taken q x = minus 512 q x

pub begun_says : (from : Beginning) (q : List ℕ) → Begun from q → q ≡ words 512 clear
begun_says by_cleared q e = e
begun_says by_init q e = e
begun_says (by_clear before) q l = l.2
begun_says (by_clear_for_c before) q l = l.2

pub begun_met : (from : Beginning) (q : List ℕ) → q ≡ words 512 clear → Begun from q
begun_met by_cleared q e = e
begun_met by_init q e = e
begun_met (by_clear before) q e = (one_lifetime, somewhere, e)
begun_met (by_clear_for_c before) q e = (one_lifetime, somewhere, e)

pub moved_says : (way : Way) (d : Direction) (x : Handed) (q r : List ℕ) → Moved way d x q r → r ≡ words 512 (shifted d (from_words 512 q) (brought x))
unfolding brought
moved_says by_value added (a_pattern p) q r e = e
moved_says by_value taken (a_pattern p) q r e = e
moved_says by_value added (a_pair a b) q r e = e
moved_says by_value taken (a_pair a b) q r e = e
moved_says by_value added (an_accumulator p) q r e = e
moved_says by_value taken (an_accumulator p) q r e = e
moved_says lent added (a_pattern p) q r l = l.2
moved_says lent taken (a_pattern p) q r l = l.2
moved_says lent added (a_pair a b) q r l = l.2
moved_says lent taken (a_pair a b) q r l = l.2
moved_says lent added (an_accumulator p) q r l = l.2
moved_says lent taken (an_accumulator p) q r l = l.2
moved_says for_c added (a_pattern p) q r l = l.2
moved_says for_c taken (a_pattern p) q r l = l.2
moved_says for_c added (a_pair a b) q r l = l.2
moved_says for_c taken (a_pair a b) q r l = l.2
moved_says for_c added (an_accumulator p) q r l = l.3
moved_says for_c taken (an_accumulator p) q r l = l.3

pub moved_met : (way : Way) (d : Direction) (x : Handed) (q r : List ℕ) → r ≡ words 512 (shifted d (from_words 512 q) (brought x)) → Moved way d x q r
unfolding brought
moved_met by_value added (a_pattern p) q r e = e
moved_met by_value taken (a_pattern p) q r e = e
moved_met by_value added (a_pair a b) q r e = e
moved_met by_value taken (a_pair a b) q r e = e
moved_met by_value added (an_accumulator p) q r e = e
moved_met by_value taken (an_accumulator p) q r e = e
moved_met lent added (a_pattern p) q r e = (one_lifetime, somewhere, e)
moved_met lent taken (a_pattern p) q r e = (one_lifetime, somewhere, e)
moved_met lent added (a_pair a b) q r e = (one_lifetime, somewhere, e)
moved_met lent taken (a_pair a b) q r e = (one_lifetime, somewhere, e)
moved_met lent added (an_accumulator p) q r e = (one_lifetime, somewhere, e)
moved_met lent taken (an_accumulator p) q r e = (one_lifetime, somewhere, e)
moved_met for_c added (a_pattern p) q r e = (one_lifetime, somewhere, e)
moved_met for_c taken (a_pattern p) q r e = (one_lifetime, somewhere, e)
moved_met for_c added (a_pair a b) q r e = (one_lifetime, somewhere, e)
moved_met for_c taken (a_pair a b) q r e = (one_lifetime, somewhere, e)
moved_met for_c added (an_accumulator p) q r e = (two_lifetimes, somewhere, elsewhere, e)
moved_met for_c taken (an_accumulator p) q r e = (two_lifetimes, somewhere, elsewhere, e)

pub negated_says : (way : Way) (q r : List ℕ) → Negated way q r → r ≡ words 512 (negated (from_words 512 q))
negated_says by_value q r e = e
negated_says lent q r l = l.2
negated_says for_c q r l = l.2

pub negated_met : (way : Way) (q r : List ℕ) → r ≡ words 512 (negated (from_words 512 q)) → Negated way q r
negated_met by_value q r e = e
negated_met lent q r e = (one_lifetime, somewhere, e)
negated_met for_c q r e = (one_lifetime, somewhere, e)

pub dropped_says : (way : Way) (q r : List ℕ) → SignDropped way q r → r ≡ words 512 (sign_off (from_words 512 q))
dropped_says by_value q r e = e
dropped_says lent q r l = l.2
dropped_says for_c q r l = l.2

pub dropped_met : (way : Way) (q r : List ℕ) → r ≡ words 512 (sign_off (from_words 512 q)) → SignDropped way q r
dropped_met by_value q r e = e
dropped_met lent q r e = (one_lifetime, somewhere, e)
dropped_met for_c q r e = (one_lifetime, somewhere, e)

pub zero_says : (way : Way) (q : List ℕ) (b : Bool) → SaysZero way q b → b ≡ is_clear (from_words 512 q)
zero_says by_value q b e = e
zero_says lent q b l = l.2
zero_says for_c q b l = l.2

pub zero_met : (way : Way) (q : List ℕ) → SaysZero way q (is_clear (from_words 512 q))
zero_met by_value q = refl
zero_met lent q = (one_lifetime, somewhere, refl)
zero_met for_c q = (one_lifetime, somewhere, refl)

pub nar_says : (way : Way) (q : List ℕ) (b : Bool) → SaysNar way q b → b ≡ is_not_real (from_words 512 q)
nar_says by_value q b e = e
nar_says lent q b l = l.2
nar_says for_c q b l = l.2

pub nar_met : (way : Way) (q : List ℕ) → SaysNar way q (is_not_real (from_words 512 q))
nar_met by_value q = refl
nar_met lent q = (one_lifetime, somewhere, refl)
nar_met for_c q = (one_lifetime, somewhere, refl)

-- ---- the desk

pub writes_says : (way : Way) (q b : List ℕ) (n : ℕ) (c : List ℕ) → Writing way q b n c → (n ≡ buffer_refusal 512 b) × (c ≡ written_to 512 (from_words 512 q) b)
writes_says by_value q b n c (κs, m, x, p, e) = (sym e ∙ p.0, p.1)
writes_says lent q b n c (κs, l, m, x, p, e) = (sym e ∙ p.0, p.1)
writes_says for_c q b n c (κs, l, m, p) = p

-- by an answer whose number it is
pub writes_met : (way : Way) (q b : List ℕ) (n : ℕ) → Numbered n → n ≡ buffer_refusal 512 b → Writing way q b n (written_to 512 (from_words 512 q) b)
writes_met by_value q b n s e = (one_lifetime, somewhere, answer tt s, (answer_number tt s ∙ e, refl), answer_number tt s)
writes_met lent q b n s e = (two_lifetimes, somewhere, elsewhere, answer tt s, (answer_number tt s ∙ e, refl), answer_number tt s)
writes_met for_c q b n s e = (two_lifetimes, somewhere, elsewhere, (e, refl))

pub reads_says : (way : Way) (q bs : List ℕ) (n : ℕ) (r : List ℕ) → Reading way q bs n r → (n ≡ length_refusal 512 bs) × (r ≡ words 512 (read_into 512 (from_words 512 q) bs))
reads_says by_value q bs n r (κs, m, x, p, e, f) = (sym e ∙ p.0, sym f ∙ p.1)
reads_says lent q bs n r (κs, l, m, x, p, e) = (sym e ∙ p.0, p.1)
reads_says for_c q bs n r (κs, l, m, p) = p

pub reads_met : (way : Way) (q bs : List ℕ) (n : ℕ) → Numbered n → n ≡ length_refusal 512 bs → Reading way q bs n (words 512 (read_into 512 (from_words 512 q) bs))
reads_met by_value q bs n s e =
    let w = words 512 (read_into 512 (from_words 512 q) bs) in
    let left = answer_leaves (from_words 512 q) w s (λ o. ap (words 512) (sym (unread (from_words 512 q) bs (λ z. o (e ∙ z))))) in
    (one_lifetime, somewhere, answer w s, (answer_number w s ∙ e, left), answer_number w s, left)
reads_met lent q bs n s e = (two_lifetimes, somewhere, elsewhere, answer tt s, (answer_number tt s ∙ e, refl), answer_number tt s)
reads_met for_c q bs n s e = (two_lifetimes, somewhere, elsewhere, (e, refl))

pub adds_says :
    (way : Way) (q xs ys : List ℕ) (n : ℕ) (r : List ℕ) → Adding way q xs ys n r → (n ≡ batch_refusal xs ys) × (r ≡ words 512 (after_batch 2 31 512 (from_words 512 q) xs ys))
adds_says by_value q xs ys n r (κs, l, m, x, p, e, f) = (sym e ∙ p.0, sym f ∙ p.1)
adds_says lent q xs ys n r (κs, k, l, m, x, p, e) = (sym e ∙ p.0, p.1)
adds_says for_c q xs ys n r (κs, k, l, m, p) = p

pub adds_met :
    (way : Way) (q xs ys : List ℕ) (n : ℕ) → Numbered n → n ≡ batch_refusal xs ys
    → Adding way q xs ys n (words 512 (after_batch 2 31 512 (from_words 512 q) xs ys))
adds_met by_value q xs ys n s e =
    let w = words 512 (after_batch 2 31 512 (from_words 512 q) xs ys) in
    let left = answer_leaves (from_words 512 q) w s (λ o. ap (words 512) (sym (unadded (from_words 512 q) xs ys (λ z. o (e ∙ z))))) in
    (two_lifetimes, somewhere, elsewhere, answer w s, (answer_number w s ∙ e, left), answer_number w s, left)
adds_met lent q xs ys n s e = (three_lifetimes, somewhere, elsewhere, farther_on, answer tt s, (answer_number tt s ∙ e, refl), answer_number tt s)
adds_met for_c q xs ys n s e = (three_lifetimes, somewhere, elsewhere, farther_on, (e, refl))

pub claims_says : (way : Way) (xs ys cs : List ℕ) (n : ℕ) → Claiming way xs ys cs n → n ≡ claim_refusal 2 31 512 xs ys cs
claims_says by_value xs ys cs n (κs, k, l, m, x, p, e) = sym e ∙ p
claims_says lent xs ys cs n none = absurd none
claims_says for_c xs ys cs n (κs, k, l, m, p) = p

-- there is a function for it by value, and one for C
pub claims_met : (way : Way) → way ≢ lent → (xs ys cs : List ℕ) (n : ℕ) → Numbered n → n ≡ claim_refusal 2 31 512 xs ys cs → Claiming way xs ys cs n
claims_met by_value o xs ys cs n s e = (three_lifetimes, somewhere, elsewhere, farther_on, answer tt s, answer_number tt s ∙ e, answer_number tt s)
claims_met lent o xs ys cs n s e = absurd (o refl)
claims_met for_c o xs ys cs n s e = (three_lifetimes, somewhere, elsewhere, farther_on, e)
