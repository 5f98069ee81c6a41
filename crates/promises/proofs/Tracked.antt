-- The words that a history leads to are those of the state that the definitions lead to (`runs_state`), and so is its image (`shown`): each step's contract says so of
-- that step, whichever way it is taken. And every history can be run, each step by any way (`can_lead`, `can_run`).
-- Turns through the image are passed over (`turns_passed`), and a batch is its products added one by one (`batch_after`).
use mathlib.Core.Path.{◌≡◌, refl, sym, ap, ap₂, subst, ◌∙◌}
use mathlib.Core.Logic.{inl}
use mathlib.Core.List.{List, [], ◌∷◌, ◌++◌}
use Prim.Native.Nat.{ℕ, zero, suc}
use lib.Dec.{lit<}
use lib.IntN.{pos, negsuc}
use lib.ListN.{length, take, drop}
use lib.Seq.{take_at}
use Rattle.posit.specs.Accumulator.{State, not_real, total, clear, of_posit, of_product, minus, negated, words, from_words, image, from_image}
use Rattle.desk.specs.Batch.{batch}
use Rattle.desk.specs.Desk.{written_to}
use Rattle.posit.proofs.State.{Held, words_read, image_read}
use Rattle.quire_steps.specs.Sign.{sign_off}
use Rattle.quire_steps.proofs.Kept.{plus_held}
use Rattle.desk.proofs.Spelt.{image_long}
use Rattle.desk.proofs.Refused.{right_length, buffer_wide}
use Rattle.promises.specs.History.{History, begun, ◌then◌, Step, move, negate, drop_sign, turn, Operand, a_posit, a_product, a_history, Direction, added, taken, plain, plain_step, plain_operand, products}
use Rattle.promises.specs.Ways.{Way, by_value, by_cleared, a_pattern, a_pair, an_accumulator}
use Rattle.promises.specs.Asked.{Reading}
use Rattle.promises.specs.Run.{Writer, made, written_into, ImageOf, ReadOf, Routes, Route, RoutesIn, Runs, Leads, MovedBy, Image}
use Rattle.promises.proofs.Typed.{words_typed}
use Rattle.promises.proofs.Said.{brought, shifted, begun_says, begun_met, moved_says, moved_met, negated_says, negated_met, dropped_says, dropped_met, writes_says, writes_met, reads_says, reads_met}

-- the state after a history and after a step, and what an operand brings
unfoldable mutual
  pub after : History → State
  after begun = clear
  after (h then s) = stepped s (after h)

  pub stepped : Step → State → State
  stepped (move d x) q = shifted d q (led x)
  stepped negate q = negated q
  stepped drop_sign q = sign_off q
  stepped turn q = q

  pub led : Operand → State
  led (a_posit p) = of_posit 2 31 p
  led (a_product a b) = of_product 2 31 a b
  led (a_history k) = after k

-- ---- what is kept

negated_held : (q : State) → Held 512 q → Held 512 (negated q)
unfolding negated
negated_held not_real h = tt
negated_held (total (pos zero)) h = h
negated_held (total (pos (suc n))) h = h
negated_held (total (negsuc n)) h = h

sign_off_held : (q : State) → Held 512 q → Held 512 (sign_off q)
unfolding sign_off
sign_off_held not_real h = tt
sign_off_held (total t) h = h

shifted_held : (d : Direction) (q x : State) → Held 512 (shifted d q x)
unfolding minus
shifted_held added q x = plus_held q x
shifted_held taken q x = plus_held q (negated x)

pub stepped_held : (s : Step) (q : State) → Held 512 q → Held 512 (stepped s q)
unfolding stepped
stepped_held (move d x) q h = shifted_held d q (led x)
stepped_held negate q h = negated_held q h
stepped_held drop_sign q h = sign_off_held q h
stepped_held turn q h = h

pub after_held : (h : History) → Held 512 (after h)
unfolding after
after_held begun = lit< tt
after_held (h then s) = stepped_held s (after h) (after_held h)

pub back : (q : State) → Held 512 q → from_words 512 (words 512 q) ≡ q
back q h = words_read 512 (lit< tt) refl q h

pub image_back : (q : State) → Held 512 q → from_image 512 (image 512 q) ≡ q
image_back q h = image_read 512 (lit< tt) refl q h

-- words that are those of a state are read as that state
pub held_by : (S : State) (q : List ℕ) → Held 512 S → q ≡ words 512 S → from_words 512 q ≡ S
held_by S q h e = ap (from_words 512) e ∙ back S h

-- ---- images, by any writer and reader

-- the words of a state have its image
pub image_says : (by : Writer) (S : State) (q bs : List ℕ) → Held 512 S → q ≡ words 512 S → ImageOf by q bs → bs ≡ image 512 S
image_says made S q bs h e i = i ∙ ap (image 512) (ap (from_words 512) e ∙ back S h)
image_says (written_into way buffer wide) S q bs h e (left, w, first) =
    sym first
    ∙ ap (take 64) ((writes_says way q buffer 0 left w).1 ∙ (buffer_wide (from_words 512 q) buffer wide.0).1)
    ∙ take_at (image 512 (from_words 512 q)) (drop 64 buffer) 64 (image_long (from_words 512 q))
    ∙ ap (image 512) (ap (from_words 512) e ∙ back S h)

-- an image that is read is the state that it was written of
pub read_says : (way : Way) (S : State) (bs r : List ℕ) → Held 512 S → bs ≡ image 512 S → ReadOf way bs r → r ≡ words 512 S
read_says way S bs r h e (before, typed, read) =
    let long : length bs ≡ 64 = ap length e ∙ image_long S in
    (reads_says way before bs 0 r read).1 ∙ ap (words 512) ((right_length (from_words 512 before) bs long).1 ∙ ap (from_image 512) e ∙ image_back S h)

-- both can be had, by any writer and reader
pub can_show : (by : Writer) (S : State) → Held 512 S → ImageOf by (words 512 S) (image 512 S)
can_show made S h = ap (image 512) (sym (back S h))
can_show (written_into way buffer wide) S h =
    let written = buffer_wide (from_words 512 (words 512 S)) buffer wide.0 in (
      written_to 512 (from_words 512 (words 512 S)) buffer,
      writes_met way (words 512 S) buffer 0 (inl refl) (sym written.0),
      ap (take 64) (written.1 ∙ ap (λ (q : State). image 512 q ++ drop 64 buffer) (back S h)) ∙ take_at (image 512 S) (drop 64 buffer) 64 (image_long S),
    )

can_read : (way : Way) (S : State) → Held 512 S → ReadOf way (image 512 S) (words 512 S)
can_read way S h =
    let read = right_length (from_words 512 (words 512 S)) (image 512 S) (image_long S) in
    (words 512 S, words_typed S, subst (Reading way (words 512 S) (image 512 S) 0) (ap (words 512) (read.1 ∙ image_back S h)) (reads_met way (words 512 S) (image 512 S) 0 (inl refl) (sym read.0)))

-- ---- what was run

mutual
  unfolding after brought

  pub runs_state : (h : History) (by : Routes h) (z : List ℕ) → Runs h by z → z ≡ words 512 (after h)
  runs_state begun from z run = begun_says from z run
  runs_state (h then s) (by, way) z (q, run, lead) = leads_state s way (after h) q z (after_held h) (runs_state h by q run) lead

  leads_state : (s : Step) (by : Route s) (S : State) (q r : List ℕ) → Held 512 S → q ≡ words 512 S → Leads s by q r → r ≡ words 512 (stepped s S)
  leads_state (move d x) (way, by) S q r h e l = moved_state x by way d S q r h e l
  leads_state negate way S q r h e l = negated_says way q r l ∙ ap (λ (t : State). words 512 (negated t)) (held_by S q h e)
  leads_state drop_sign way S q r h e l = dropped_says way q r l ∙ ap (λ (t : State). words 512 (sign_off t)) (held_by S q h e)
  leads_state turn (writer, reader) S q r h e (bs, shows, read) = read_says reader S bs r h (image_says writer S q bs h e shows) read

  moved_state : (x : Operand) (by : RoutesIn x) (way : Way) (d : Direction) (S : State) (q r : List ℕ) → Held 512 S → q ≡ words 512 S → MovedBy x by way d q r → r ≡ words 512 (shifted d S (led x))
  moved_state (a_posit p) by way d S q r h e l = moved_says way d (a_pattern p) q r l ∙ ap (λ (t : State). words 512 (shifted d t (of_posit 2 31 p))) (held_by S q h e)
  moved_state (a_product a b) by way d S q r h e l = moved_says way d (a_pair a b) q r l ∙ ap (λ (t : State). words 512 (shifted d t (of_product 2 31 a b))) (held_by S q h e)
  moved_state (a_history k) by way d S q r h e (p, run, l) =
      moved_says way d (an_accumulator p) q r l ∙ ap₂ (λ (t u : State). words 512 (shifted d t u)) (held_by S q h e) (held_by (after k) p (after_held k) (runs_state k by p run))

-- the words that a history leads to are those of the state that the definitions lead to
pub run_leads : (h : History) (by : Routes h) (z : List ℕ) → Runs h by z → from_words 512 z ≡ after h
run_leads h by z run = held_by (after h) z (after_held h) (runs_state h by z run)

pub shown : (h : History) (bs : List ℕ) → Image h bs → bs ≡ image 512 (after h)
shown h bs i = image_says i.writer (after h) i.end bs (after_held h) (runs_state h i.routes i.end i.runs) i.shows

-- ---- what can be run

mutual
  unfolding after brought

  pub can_run : (h : History) (by : Routes h) → Runs h by (words 512 (after h))
  can_run begun from = begun_met from _ refl
  can_run (h then s) (by, way) = (words 512 (after h), can_run h by, can_lead s way (after h) (after_held h))

  pub can_lead : (s : Step) (by : Route s) (S : State) → Held 512 S → Leads s by (words 512 S) (words 512 (stepped s S))
  can_lead (move d x) (way, by) S h = can_move x by way d S h
  can_lead negate way S h = negated_met way (words 512 S) _ (ap (λ (t : State). words 512 (negated t)) (sym (back S h)))
  can_lead drop_sign way S h = dropped_met way (words 512 S) _ (ap (λ (t : State). words 512 (sign_off t)) (sym (back S h)))
  can_lead turn (writer, reader) S h = (image 512 S, can_show writer S h, can_read reader S h)

  can_move : (x : Operand) (by : RoutesIn x) (way : Way) (d : Direction) (S : State) → Held 512 S → MovedBy x by way d (words 512 S) (words 512 (shifted d S (led x)))
  can_move (a_posit p) by way d S h = moved_met way d (a_pattern p) (words 512 S) _ (ap (λ (t : State). words 512 (shifted d t (of_posit 2 31 p))) (sym (back S h)))
  can_move (a_product a b) by way d S h = moved_met way d (a_pair a b) (words 512 S) _ (ap (λ (t : State). words 512 (shifted d t (of_product 2 31 a b))) (sym (back S h)))
  can_move (a_history k) by way d S h = (
    words 512 (after k),
    can_run k by,
    moved_met way d (an_accumulator (words 512 (after k))) (words 512 S) _ (ap₂ (λ (t u : State). words 512 (shifted d t u)) (sym (back S h)) (sym (back (after k) (after_held k)))),
  )

-- by value, say
mutual
  pub plainly : (h : History) → Routes h
  plainly begun = by_cleared
  plainly (h then s) = (plainly h, plainly_step s)

  plainly_step : (s : Step) → Route s
  plainly_step (move d x) = (by_value, plainly_operand x)
  plainly_step negate = by_value
  plainly_step drop_sign = by_value
  plainly_step turn = (made, by_value)

  plainly_operand : (x : Operand) → RoutesIn x
  plainly_operand (a_posit p) = tt
  plainly_operand (a_product a b) = tt
  plainly_operand (a_history k) = plainly k

pub can_show_history : (h : History) → Image h (image 512 (after h))
can_show_history h = record { routes = plainly h; end = words 512 (after h); runs = can_run h (plainly h); writer = made; shows = can_show made (after h) (after_held h) }

-- ---- turns through the image are passed over

mutual
  unfolding after

  pub turns_passed : (h : History) → after h ≡ after (plain h)
  turns_passed begun = refl
  turns_passed (h then s) = ap (stepped s) (turns_passed h) ∙ step_passed s (plain h)

  step_passed : (s : Step) (h : History) → stepped s (after h) ≡ after (plain_step s h)
  step_passed (move d x) h = ap (shifted d (after h)) (operand_passed x)
  step_passed negate h = refl
  step_passed drop_sign h = refl
  step_passed turn h = refl

  operand_passed : (x : Operand) → led x ≡ led (plain_operand x)
  operand_passed (a_posit p) = refl
  operand_passed (a_product a b) = refl
  operand_passed (a_history k) = turns_passed k

-- ---- a batch is its products, added one by one

pub batch_after : (h : History) (xs ys : List ℕ) → batch 2 31 512 (after h) xs ys ≡ after (products h xs ys)
unfolding batch after
batch_after h [] ys = refl
batch_after h (x ∷ xs) [] = refl
batch_after h (x ∷ xs) (y ∷ ys) = batch_after (h then move added (a_product x y)) xs ys
