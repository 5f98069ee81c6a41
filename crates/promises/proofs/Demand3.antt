-- Demand 3. Histories of the accumulator from clear, without NaR and in range after every step, in those that they join too: two images are equal exactly when the exact totals
-- are; 2 ^ 31 - 1 steps never leave the range; every 64-byte string but NaR's is reached; writing and reading the image between steps changes nothing. Each step, writer and
-- reader may be by value, lent or for C, in any mixture (`Runs`). Two boxes' images that are read and joined are the image of the joined history. And of any history: it can be
-- run, and it keeps both premises or leaves them at a first place, from which on its image is NaR's.
use mathlib.Core.Path.{◌≡◌, sym, ap, subst, ◌∙◌}
use mathlib.Core.Logic.{◌≢◌, ◌↔◌, ◌⊎◌, inl, inr, ⊎_elim}
use mathlib.Core.Bool.{Bool, true}
use mathlib.Core.List.{List}
use Prim.Native.Nat.{ℕ, ◌-◌, ◌*◌, ◌^◌, ◌≤◌}
use contract.Lifetimes.{Lfts}
use lib.IntN.{ℤ, pos, nat_abs, ◌+ℤ◌}
use lib.ListN.{length}
use Rattle.posit.specs.Accumulator.{not_real, total, words, from_words, image, from_image}
use Rattle.desk.specs.Batch.{batch}
use Rattle.desk.specs.Desk.{pair_limit}
use Rattle.desk.proofs.Refused.{no_refusal, batch_done}
use Rattle.quire32.proofs.Q32E2.from_bits.Reads as from_bits
use Rattle.promises.specs.History.{History, begun, ◌then◌, Direction, added, Step, move, a_history, total_of, OfPatterns, WithoutNar, Within, Stays, Keeps, away_in, AwayAtMost, Counting, steps_in, plain, joined, products}
use Rattle.promises.specs.Outside.{Leaves}
use Rattle.promises.specs.Ways.{Way, Place, at, accumulator, EightWords, ImageBytes, an_accumulator, Moved, SaysZero, to_bits_lent}
use Rattle.promises.specs.Asked.{Adding, Claiming}
use Rattle.promises.specs.Run.{Writer, ImageOf, ReadOf, Routes, Route, Leads, Runs, Image, Reached}
use Rattle.promises.proofs.Said.{adds_says, claims_says}
use Rattle.promises.proofs.Refusals.{claim_right}
use Rattle.promises.proofs.Tracked.{after, stepped, after_held, image_back, can_show, can_lead, runs_state, run_leads, can_run, shown, can_show_history, turns_passed, batch_after}
use Rattle.promises.proofs.Totals.{exact_after, total_is_real, total_one, image_total}
use Rattle.promises.proofs.Counted.{total_at_most, not_away, few_away_stay, few_steps_few_away}
use Rattle.promises.proofs.Typed.{words_typed, image_typed, words_back, words_held}
use Rattle.promises.proofs.Reach.{reach, led_to, one_step_more}
use Rattle.promises.proofs.Boxes.{boxes_lead, sums_alike, either_order, total_joined, total_without_turns}
use Rattle.promises.proofs.Left as left
use Rattle.promises.proofs.Demand2.{zero_said_exactly}

-- whatever the routes, a history has one image
pub one_image : (h : History) (bs cs : List ℕ) → Image h bs → Image h cs → bs ≡ cs
one_image h bs cs i j = shown h bs i ∙ sym (shown h cs j)

-- ---- "two images are equal exactly when the exact totals are"

-- the image of a history that keeps the premises is that of its exact total
pub image_of_total : (h : History) (bs : List ℕ) → Keeps h → Image h bs → bs ≡ image 512 (total (total_of h))
image_of_total h bs (n, s) i = shown h bs i ∙ ap (image 512) (exact_after h n s)

pub images_equal_exactly : (h k : History) (bs cs : List ℕ) → Keeps h → Keeps k → Image h bs → Image k cs → (bs ≡ cs) ↔ (total_of h ≡ total_of k)
images_equal_exactly h k bs cs kh kk ih ik =
    let eh = image_of_total h bs kh ih in
    let ek = image_of_total k cs kk ik in (
      (λ e. total_one (sym (image_total h kh) ∙ ap (from_image 512) (sym eh ∙ e ∙ ek) ∙ image_total k kk)),
      (λ e. eh ∙ ap (λ (t : ℤ). image 512 (total t)) e ∙ sym ek),
    )

-- ---- "2 ^ 31 - 1 steps never leave the range"

-- the size of a total is at most 2 ^ 480 for each time that a posit or a product moves it away from 0, in the history and in those that it joins
pub sizes_at_most : (h : History) → WithoutNar h → nat_abs (total_of h) ≤ away_in h * 2 ^ 480
sizes_at_most = total_at_most

-- what moves the total no farther away is not counted
pub not_away_not_counted : (h : History) (s : Step) → nat_abs (total_of (h then s)) ≤ nat_abs (total_of h) → away_in (h then s) ≡ away_in h
not_away_not_counted = not_away

-- and so few moves away from 0 suffice
pub few_moves_away_stay : (h : History) → WithoutNar h → AwayAtMost (2 ^ 31 - 1) h → Stays h
few_moves_away_stay = few_away_stay

-- the steps of all joined histories together, one that is joined once for each time it is used; whatever joins, negations, dropped signs and turns count as steps
pub short_history_stays : (c : Counting) (h : History) → WithoutNar h → steps_in c h ≤ 2 ^ 31 - 1 → Stays h
short_history_stays c h n l = few_away_stay h n (few_steps_few_away c (2 ^ 31 - 1) h l)

-- and one step more may leave it
pub longer_history_leaves : (h : History) × WithoutNar h × ((c : Counting) → steps_in c h ≡ 2 ^ 31) × (Stays h → ⊥)
longer_history_leaves = one_step_more

-- ---- "every 64-byte string but NaR's is reached"

pub every_image_reached : (bs : List ℕ) → ImageBytes bs → bs ≢ image 512 not_real → Reached bs
every_image_reached = reach

pub nar_never_reached : Reached (image 512 not_real) → ⊥
nar_never_reached r = total_is_real (sym (image_total r.history r.keeps) ∙ ap (from_image 512) (sym (image_of_total r.history _ r.keeps r.shows)) ∙ image_back not_real tt)

-- and to any eight words, NaR's too, some history leads
pub every_accumulator_led_to : (q : List ℕ) → EightWords q → (h : History) × (by : Routes h) × Runs h by q
every_accumulator_led_to = led_to

-- ---- "writing and reading the image between steps changes nothing"

-- wherever the turns through the image stand, in joined histories too, and whether or not the premises hold
pub image_between_steps : (h : History) (bs cs : List ℕ) → Image h bs → Image (plain h) cs → bs ≡ cs
image_between_steps h bs cs i j = shown h bs i ∙ ap (image 512) (turns_passed h) ∙ sym (shown (plain h) cs j)

-- histories that differ in such turns alone
pub turns_anywhere : (h k : History) (bs cs : List ℕ) → plain h ≡ plain k → Image h bs → Image k cs → bs ≡ cs
turns_anywhere h k bs cs e i j = shown h bs i ∙ ap (image 512) (turns_passed h ∙ ap after e ∙ sym (turns_passed k)) ∙ sym (shown k cs j)

-- nor do they move the exact total
pub turns_leave_total : (h : History) → total_of h ≡ total_of (plain h)
turns_leave_total = total_without_turns

-- words that are handed to `Q32E2` and had back are those words, so that steps by value and lent can be mixed
pub words_handed_over : (q r : List ℕ) (κs : Lfts 1) (m : Place) → from_bits.Post tt (q, tt) (accumulator r) (q, tt) → (z : List ℕ) → to_bits_lent.Post κs (at m (accumulator r), tt) z (at m (accumulator r), tt) → z ≡ q
words_handed_over q r κs m into z out = out ∙ into

-- ---- a household: two boxes, each with a history of its own

-- Both images are read at the head end and joined there, added or taken: what comes out is the image of the one history that joins them, whatever the ways, and whether or not the
-- premises hold.
pub images_joined :
    (d : Direction) (h k : History) (bs cs ds q p r : List ℕ) (first second way : Way) (w : Writer)
    → Image h bs → Image k cs → ReadOf first bs q → ReadOf second cs p → Moved way d (an_accumulator p) q r → ImageOf w r ds → Image (h then move d (a_history k)) ds
images_joined = boxes_lead

-- where each box keeps the premises and the sum is in range, so does the joined history, and its total is the sum
pub joined_keeps : (h k : History) → Keeps h → Keeps k → Within (total_of h +ℤ total_of k) → Keeps (joined h k) × (total_of (joined h k) ≡ total_of h +ℤ total_of k)
joined_keeps h k (n, s) (m, l) w = let e = total_joined h k in (((n, m, tt), (s, l, subst Within (sym e) w)), e)

-- so what comes out is the image of that sum
pub household_total :
    (h k : History) (bs cs ds q p r : List ℕ) (first second way : Way) (w : Writer) → Keeps h → Keeps k → Within (total_of h +ℤ total_of k)
    → Image h bs → Image k cs → ReadOf first bs q → ReadOf second cs p → Moved way added (an_accumulator p) q r → ImageOf w r ds → ds ≡ image 512 (total (total_of h +ℤ total_of k))
household_total h k bs cs ds q p r first second way w kh kk sum i j read read' moved shows =
    let kept = joined_keeps h k kh kk sum in
    image_of_total (joined h k) ds kept.0 (images_joined added h k bs cs ds q p r first second way w i j read read' moved shows) ∙ ap (λ (t : ℤ). image 512 (total t)) kept.1

-- either image first: the same 64 bytes, of any two images, in range or not
pub images_in_either_order :
    (bs cs ds es q p r q' p' r' : List ℕ) (first second way first' second' way' : Way) (w w' : Writer) → ImageBytes bs → ImageBytes cs
    → ReadOf first bs q → ReadOf second cs p → Moved way added (an_accumulator p) q r → ImageOf w r ds
    → ReadOf first' cs p' → ReadOf second' bs q' → Moved way' added (an_accumulator q') p' r' → ImageOf w' r' es
    → ds ≡ es
images_in_either_order = sums_alike

-- either history first
pub joined_in_either_order : (h k : History) (bs cs : List ℕ) → Image (joined h k) bs → Image (joined k h) cs → bs ≡ cs
joined_in_either_order h k bs cs i j = shown (joined h k) bs i ∙ ap (image 512) (either_order h k) ∙ sym (shown (joined k h) cs j)

-- ---- a debt reads as settled exactly when it is

pub settled_exactly : (way : Way) (h : History) (by : Routes h) (z : List ℕ) (b : Bool) → Keeps h → Runs h by z → SaysZero way z b → (b ≡ true) ↔ (total_of h ≡ pos 0)
settled_exactly way h by z b (n, s) runs says =
    let held : from_words 512 z ≡ total (total_of h) = run_leads h by z runs ∙ exact_after h n s in
    let said = zero_said_exactly way z b says in
    (λ e. total_one (sym held ∙ said.0 e), λ e. said.1 (held ∙ ap total e))

-- ---- any history

-- it can be run by whatever routes, and its image be had by any writer
pub every_history_runs : (h : History) (by : Routes h) (w : Writer) → (z bs : List ℕ) × Runs h by z × EightWords z × ImageOf w z bs × ImageBytes bs
every_history_runs h by w = (words 512 (after h), image 512 (after h), can_run h by, words_typed (after h), can_show w (after h) (after_held h), image_typed (after h))

-- from any eight words any step can be taken, by any route
pub every_step_can_be_taken : (s : Step) (by : Route s) (q : List ℕ) → EightWords q → (r : List ℕ) × EightWords r × Leads s by q r
every_step_can_be_taken s by q t =
    (words 512 (stepped s (from_words 512 q)), words_typed _, subst (λ (z : List ℕ). Leads s by z (words 512 (stepped s (from_words 512 q)))) (words_back q t) (can_lead s by (from_words 512 q) (words_held q t)))

-- it keeps both premises or leaves them at a first place, and not both
pub keeps_or_leaves : (h : History) → OfPatterns h → Keeps h ⊎ Leaves h
keeps_or_leaves = left.keeps_or_leaves

pub never_both : (h : History) → Keeps h → Leaves h → ⊥
never_both = left.never_both

-- its image is that of the exact total, or NaR's, accordingly
pub outside_is_nar : (h : History) (bs : List ℕ) → Leaves h → Image h bs → bs ≡ image 512 not_real
outside_is_nar h bs l i = shown h bs i ∙ ap (image 512) (left.leaves_nar h l)

pub exact_total_or_nar : (h : History) (bs : List ℕ) → OfPatterns h → Image h bs → (Keeps h × (bs ≡ image 512 (total (total_of h)))) ⊎ (Leaves h × (bs ≡ image 512 not_real))
exact_total_or_nar h bs p i = ⊎_elim (λ k. inl (k, image_of_total h bs k i)) (λ l. inr (l, outside_is_nar h bs l i)) (keeps_or_leaves h p)

-- ---- the history of a batch

-- a batch that is accepted leaves what its products leave, added one by one by any routes, after whatever history
pub batch_adds_its_products : (way : Way) (h : History) (by : Routes h) (xs ys q r z : List ℕ) (routes : Routes (products h xs ys)) → Runs h by q → Adding way q xs ys 0 r → Runs (products h xs ys) routes z → z ≡ r
batch_adds_its_products way h by xs ys q r z routes before adds runs =
    let s = adds_says way q xs ys 0 r adds in
    let held = run_leads h by q before in
    runs_state (products h xs ys) routes z runs
    ∙ sym (s.1 ∙ ap (words 512) (batch_done xs ys (from_words 512 q) (sym s.0) ∙ ap (λ S. batch 2 31 512 S xs ys) held ∙ batch_after h xs ys))

-- a claim is right exactly when it is the image of the history of its batch, which may have been run by any routes
pub right_claims_are_images : (way : Way) (xs ys cs : List ℕ) (n : ℕ) → Claiming way xs ys cs n → length xs ≡ length ys → length xs ≤ pair_limit → (n ≡ 0) ↔ Image (products begun xs ys) cs
unfolding after
right_claims_are_images way xs ys cs n claims e l =
    let h = products begun xs ys in
    let right = claim_right xs ys cs (no_refusal xs ys e l) in
    let said = claims_says way xs ys cs n claims in
    let rebuilt = ap (image 512) (batch_after begun xs ys) in (
      (λ z. subst (Image h) (sym (right.0 (sym said ∙ z) ∙ rebuilt)) (can_show_history h)),
      (λ i. said ∙ right.1 (shown h cs i ∙ sym rebuilt)),
    )
