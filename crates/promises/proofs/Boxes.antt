-- Two histories, each in an accumulator of its own: their images, read and joined, are that of the one history that joins them (`boxes_lead`), either first (`either_order`, `sums_alike`).
-- Turns through the image leave the exact total as it is (`total_without_turns`).
use mathlib.Core.Path.{◌≡◌, refl, sym, ap, ap₂, subst, ◌∙◌}
use mathlib.Core.List.{List}
use Prim.Native.Nat.{ℕ}
use lib.IntN.{◌+ℤ◌, +ℤ_comm}
use Rattle.posit.specs.Accumulator.{State, not_real, total, kept, plus, words, image, from_image}
use Rattle.quire_steps.proofs.Kept.{plus_held}
use Rattle.promises.specs.History.{History, begun, ◌then◌, Direction, added, Step, move, negate, drop_sign, turn, Operand, a_posit, a_product, a_history, total_of, moves, worth, directed, plain, plain_step, plain_operand, joined}
use Rattle.promises.specs.Ways.{Way, ImageBytes, an_accumulator, Moved}
use Rattle.promises.specs.Run.{Writer, ImageOf, ReadOf, Runs, Image}
use Rattle.promises.proofs.Typed.{image_held, bytes_back}
use Rattle.promises.proofs.Said.{brought, moved_says}
use Rattle.promises.proofs.Tracked.{after, after_held, held_by, image_says, read_says, runs_state, shown}

-- ---- joined

plus_commutes : (q x : State) → plus 512 q x ≡ plus 512 x q
unfolding plus
plus_commutes not_real not_real = refl
plus_commutes not_real (total x) = refl
plus_commutes (total t) not_real = refl
plus_commutes (total t) (total x) = ap (kept 512) (+ℤ_comm t x)

pub either_order : (h k : History) → after (joined h k) ≡ after (joined k h)
unfolding after
either_order h k = plus_commutes (after h) (after k)

pub total_joined : (h k : History) → total_of (joined h k) ≡ total_of h +ℤ total_of k
unfolding total_of
total_joined h k = refl

-- ---- images that are read

-- the words that are read of a history's image are those that it led to
read_back : (h : History) (bs q : List ℕ) (way : Way) (i : Image h bs) → ReadOf way bs q → i.end ≡ q
read_back h bs q way i read = runs_state h i.routes i.end i.runs ∙ sym (read_says way (after h) bs q (after_held h) (shown h bs i) read)

pub boxes_lead :
    (d : Direction) (h k : History) (bs cs ds q p r : List ℕ) (first second way : Way) (w : Writer)
    → Image h bs → Image k cs → ReadOf first bs q → ReadOf second cs p → Moved way d (an_accumulator p) q r → ImageOf w r ds → Image (h then move d (a_history k)) ds
boxes_lead d h k bs cs ds q p r first second way w i j read read' moved shows = record {
  routes = (i.routes, (way, j.routes));
  end = r;
  runs = (q, subst (Runs h i.routes) (read_back h bs q first i read) i.runs, (p, subst (Runs k j.routes) (read_back k cs p second j read') j.runs, moved));
  writer = w;
  shows = shows;
}

-- two images that were read, the second added to the first: the image of what comes out
sum_shown :
    (bs cs ds q p r : List ℕ) (first second way : Way) (w : Writer) → ImageBytes bs → ImageBytes cs → ReadOf first bs q → ReadOf second cs p → Moved way added (an_accumulator p) q r → ImageOf w r ds
    → ds ≡ image 512 (plus 512 (from_image 512 bs) (from_image 512 cs))
unfolding brought
sum_shown bs cs ds q p r first second way w b c read read' moved shows =
    let S = from_image 512 bs in
    let T = from_image 512 cs in
    let held = held_by S q (image_held bs b) (read_says first S bs q (image_held bs b) (sym (bytes_back bs b)) read) in
    let held' = held_by T p (image_held cs c) (read_says second T cs p (image_held cs c) (sym (bytes_back cs c)) read') in
    image_says w (plus 512 S T) r ds (plus_held S T) (moved_says way added (an_accumulator p) q r moved ∙ ap₂ (λ t u. words 512 (plus 512 t u)) held held') shows

pub sums_alike :
    (bs cs ds es q p r q' p' r' : List ℕ) (first second way first' second' way' : Way) (w w' : Writer) → ImageBytes bs → ImageBytes cs
    → ReadOf first bs q → ReadOf second cs p → Moved way added (an_accumulator p) q r → ImageOf w r ds
    → ReadOf first' cs p' → ReadOf second' bs q' → Moved way' added (an_accumulator q') p' r' → ImageOf w' r' es
    → ds ≡ es
sums_alike bs cs ds es q p r q' p' r' first second way first' second' way' w w' b c read_b read_c moved shows read_c' read_b' moved' shows' =
    sum_shown bs cs ds q p r first second way w b c read_b read_c moved shows
    ∙ ap (image 512) (plus_commutes (from_image 512 bs) (from_image 512 cs))
    ∙ sym (sum_shown cs bs es p' q' r' first' second' way' w' c b read_c' read_b' moved' shows')

-- ---- turns

mutual
  unfolding total_of

  pub total_without_turns : (h : History) → total_of h ≡ total_of (plain h)
  total_without_turns begun = refl
  total_without_turns (h then s) = ap (moves s) (total_without_turns h) ∙ without_turn s (plain h)

  without_turn : (s : Step) (h : History) → moves s (total_of h) ≡ total_of (plain_step s h)
  without_turn (move d x) h = ap (directed d (total_of h)) (worth_without_turns x)
  without_turn negate h = refl
  without_turn drop_sign h = refl
  without_turn turn h = refl

  worth_without_turns : (x : Operand) → worth x ≡ worth (plain_operand x)
  worth_without_turns (a_posit p) = refl
  worth_without_turns (a_product a b) = refl
  worth_without_turns (a_history k) = total_without_turns k
