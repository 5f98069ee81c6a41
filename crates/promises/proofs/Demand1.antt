-- Demand 1. Every 32-bit pattern, accumulator and slice gets an answer; that no public function leaves a check to its caller is said of all of them in `Demand1Callers`.
-- A wrong length, an oversized batch or a false claim gets its number, each exactly when its row says so, in the order 3, 4, 1, 5, and what was lent stays untouched.
use mathlib.Core.Path.{◌≡◌, refl, sym, ap, subst, ◌∙◌}
use mathlib.Core.Logic.{◌≢◌}
use mathlib.Core.Bool.{Bool}
use mathlib.Core.List.{List}
use Prim.Native.Nat.{ℕ, ◌^◌, ◌<◌}
use lib.ListN.{length, drop}
use Rattle.posit.specs.Digits.{InBase}
use Rattle.posit.specs.Accumulator.{clear, is_clear, is_not_real, of_posit, negated, to_posit, words, from_words}
use Rattle.desk.specs.Desk.{written_to, read_into, after_batch}
use Rattle.desk.specs.declared.refusal.Refusal.TheVariants.{WrongLength, BufferTooShort, UnequalLists, TooManyPairs, Differs}
use Rattle.desk.specs.contracts as of_desk
use Rattle.capi.specs.contracts as of_capi
use Rattle.promises.specs.Contract.{Untouched}
use Rattle.quire_steps.specs.Sign.{sign_off}
use Rattle.promises.specs.History.{Direction}
use Rattle.promises.specs.Ways.{Way, lent, for_c, EightWords, Beginning, Begun, Handed, Moved, Negated, SignDropped, SaysZero, SaysNar}
use Rattle.promises.specs.Operations.{Operation, operands, Patterns, By, Offered, Done, OfPosit, ToPosit}
use Rattle.promises.specs.Asked.{Writing, Reading, Adding, Claiming}
use Rattle.promises.specs.Rows.{Due, JustDue, write_rows, read_rows, batch_rows, claim_rows}
use Rattle.promises.proofs.Typed.{words_typed, words_back, written_typed}
use Rattle.promises.proofs.Said.{brought, shifted, begun_met, moved_met, negated_met, dropped_met, zero_met, nar_met, writes_says, writes_met, reads_says, reads_met, adds_says, adds_met, claims_says, claims_met}
use Rattle.promises.proofs.Told.{answer_of, done_met, done_offered, made_met, total_met}
use Rattle.promises.proofs.Rounded.{told_pattern, total_pattern}
use Rattle.promises.proofs.Refusals.{just_due, buffer_due, bytes_due, batch_due, claim_due, unwritten, rest_unwritten, unread, unadded, numbered}

-- ---- "every 32-bit pattern, accumulator and slice gets an answer": there is one that meets the contract and has its type, by every way in, for the operations, for an accumulator
-- that is made, begun, moved by a posit, a product or another accumulator, negated, freed of its sign, rounded and asked, and for the desk

pub patterns_get_an_answer : (by : By) (f : Operation) → Offered by f → Patterns (operands f) → (r : ℕ) × (r < 2 ^ 32) × Done by f r
patterns_get_an_answer by f o k = (answer_of f, told_pattern f k, done_met by f o)

pub what_is_done_is_offered : (by : By) (f : Operation) (r : ℕ) → Done by f r → Offered by f
what_is_done_is_offered = done_offered

pub posits_make_accumulators : (way : Way) → way ≢ for_c → (p : ℕ) → (q : List ℕ) × EightWords q × OfPosit way p q
posits_make_accumulators way o p = (words 512 (of_posit 2 31 p), words_typed _, made_met way o p)

pub accumulators_begin : (from : Beginning) → (q : List ℕ) × EightWords q × Begun from q
accumulators_begin from = (words 512 clear, words_typed clear, begun_met from _ refl)

pub accumulators_move : (way : Way) (d : Direction) (x : Handed) (q : List ℕ) → (r : List ℕ) × EightWords r × Moved way d x q r
accumulators_move way d x q = (words 512 (shifted d (from_words 512 q) (brought x)), words_typed _, moved_met way d x q _ refl)

pub accumulators_negate : (way : Way) (q : List ℕ) → (r : List ℕ) × EightWords r × Negated way q r
accumulators_negate way q = (words 512 (negated (from_words 512 q)), words_typed _, negated_met way q _ refl)

pub accumulators_drop_their_sign : (way : Way) (q : List ℕ) → (r : List ℕ) × EightWords r × SignDropped way q r
accumulators_drop_their_sign way q = (words 512 (sign_off (from_words 512 q)), words_typed _, dropped_met way q _ refl)

pub accumulators_round : (way : Way) (q : List ℕ) → (r : ℕ) × (r < 2 ^ 32) × ToPosit way q r
accumulators_round way q = (to_posit 2 31 (from_words 512 q), total_pattern (from_words 512 q), total_met way q)

pub accumulators_say_whether_zero : (way : Way) (q : List ℕ) → (b : Bool) × SaysZero way q b
accumulators_say_whether_zero way q = (is_clear (from_words 512 q), zero_met way q)

pub accumulators_say_whether_nar : (way : Way) (q : List ℕ) → (b : Bool) × SaysNar way q b
accumulators_say_whether_nar way q = (is_not_real (from_words 512 q), nar_met way q)

pub buffers_get_an_answer : (way : Way) (q b : List ℕ) → InBase 256 b → (n : ℕ) × (c : List ℕ) × InBase 256 c × Writing way q b n c
buffers_get_an_answer way q b t =
    let n = numbered (write_rows b) ((BufferTooShort, refl), tt) _ (buffer_due b) in
    (_, written_to 512 (from_words 512 q) b, written_typed (from_words 512 q) b t, writes_met way q b _ n refl)

pub bytes_get_an_answer : (way : Way) (q bs : List ℕ) → (n : ℕ) × (r : List ℕ) × EightWords r × Reading way q bs n r
bytes_get_an_answer way q bs =
    let n = numbered (read_rows bs) ((WrongLength, refl), tt) _ (bytes_due bs) in
    (_, words 512 (read_into 512 (from_words 512 q) bs), words_typed _, reads_met way q bs _ n refl)

pub batches_get_an_answer : (way : Way) (q xs ys : List ℕ) → (n : ℕ) × (r : List ℕ) × EightWords r × Adding way q xs ys n r
batches_get_an_answer way q xs ys =
    let n = numbered (batch_rows xs ys) ((UnequalLists, refl), ((TooManyPairs, refl), tt)) _ (batch_due xs ys) in
    (_, words 512 (after_batch 2 31 512 (from_words 512 q) xs ys), words_typed _, adds_met way q xs ys _ n refl)

-- by value and for C
pub claims_get_an_answer : (way : Way) → way ≢ lent → (xs ys cs : List ℕ) → (n : ℕ) × Claiming way xs ys cs n
claims_get_an_answer way o xs ys cs =
    let n = numbered (claim_rows xs ys cs) ((UnequalLists, refl), ((TooManyPairs, refl), ((WrongLength, refl), ((Differs, refl), tt)))) _ (claim_due xs ys cs) in
    (_, claims_met way o xs ys cs _ n refl)

-- ---- "a wrong length, an oversized batch or a false claim gets its number": each exactly when its row says so, and the first in the order 3, 4, 1, 5

pub write_number_just_due : (way : Way) (q b : List ℕ) (n : ℕ) (c : List ℕ) → Writing way q b n c → JustDue (write_rows b) n
write_number_just_due way q b n c w = just_due (write_rows b) n (subst (Due (write_rows b)) (sym (writes_says way q b n c w).0) (buffer_due b))

pub read_number_just_due : (way : Way) (q bs : List ℕ) (n : ℕ) (r : List ℕ) → Reading way q bs n r → JustDue (read_rows bs) n
read_number_just_due way q bs n r a = just_due (read_rows bs) n (subst (Due (read_rows bs)) (sym (reads_says way q bs n r a).0) (bytes_due bs))

pub batch_number_just_due : (way : Way) (q xs ys : List ℕ) (n : ℕ) (r : List ℕ) → Adding way q xs ys n r → JustDue (batch_rows xs ys) n
batch_number_just_due way q xs ys n r a =
    just_due (batch_rows xs ys) n (subst (Due (batch_rows xs ys)) (sym (adds_says way q xs ys n r a).0) (batch_due xs ys))

pub claim_number_just_due : (way : Way) (xs ys cs : List ℕ) (n : ℕ) → Claiming way xs ys cs n → JustDue (claim_rows xs ys cs) n
claim_number_just_due way xs ys cs n a =
    just_due (claim_rows xs ys cs) n (subst (Due (claim_rows xs ys cs)) (sym (claims_says way xs ys cs n a)) (claim_due xs ys cs))

-- ---- "and lent memory stays untouched": byte for byte and word for word

pub refused_buffer_stays : (way : Way) (q b : List ℕ) (n : ℕ) (c : List ℕ) → Writing way q b n c → n ≢ 0 → c ≡ b
refused_buffer_stays way q b n c w o = let s = writes_says way q b n c w in s.1 ∙ unwritten (from_words 512 q) b (λ z. o (s.0 ∙ z))

-- of a longer buffer only the first 64 bytes change
pub rest_of_buffer_stays : (way : Way) (q b : List ℕ) (n : ℕ) (c : List ℕ) → Writing way q b n c → (length c ≡ length b) × (drop 64 c ≡ drop 64 b)
rest_of_buffer_stays way q b n c w = let s = (writes_says way q b n c w).1 in let k = rest_unwritten (from_words 512 q) b in (ap length s ∙ k.0, ap (drop 64) s ∙ k.1)

pub refused_reading_stays : (way : Way) (q bs : List ℕ) (n : ℕ) (r : List ℕ) → EightWords q → Reading way q bs n r → n ≢ 0 → r ≡ q
refused_reading_stays way q bs n r t a o = let s = reads_says way q bs n r a in s.1 ∙ ap (words 512) (unread (from_words 512 q) bs (λ z. o (s.0 ∙ z))) ∙ words_back q t

pub refused_batch_stays : (way : Way) (q xs ys : List ℕ) (n : ℕ) (r : List ℕ) → EightWords q → Adding way q xs ys n r → n ≢ 0 → r ≡ q
refused_batch_stays way q xs ys n r t a o = let s = adds_says way q xs ys n r a in s.1 ∙ ap (words 512) (unadded (from_words 512 q) xs ys (λ z. o (s.0 ∙ z))) ∙ words_back q t

-- what is lent to be read, the lists, the claim and the bytes, the accumulator whose image is written and the one that is added or taken, is at exit as it was
pub what_is_read_stays :
    Untouched of_desk.batch.add_batch.ended (λ κs s. s) (λ κs a. a)
    × Untouched of_desk.claim.check_claim.ended (λ κs s. s) (λ κs a. a)
    × Untouched of_desk.image.read_image.ended (λ κs s. s) (λ κs a. a)
    × Untouched of_capi.claims.stallhitch_check_claim.ended (λ κs s. s) (λ κs a. a)
    × Untouched of_desk.lent.add_batch.ended (λ κs s. s.1) (λ κs a. a.1)
    × Untouched of_desk.lent.read_image.ended (λ κs s. s.1) (λ κs a. a.1)
    × Untouched of_capi.claims.stallhitch_add_batch.ended (λ κs s. s.1) (λ κs a. a.1)
    × Untouched of_capi.claims.stallhitch_read_image.ended (λ κs s. s.1) (λ κs a. a.1)
    × Untouched of_desk.lent.write_image.ended (λ κs s. s.0) (λ κs a. a.0)
    × Untouched of_capi.claims.stallhitch_write_image.ended (λ κs s. s.0) (λ κs a. a.0)
    × Untouched of_capi.accumulators.stallhitch_q32e2_qAddQ.ended (λ κs s. s.1) (λ κs a. a.1)
    × Untouched of_capi.accumulators.stallhitch_q32e2_qSubQ.ended (λ κs s. s.1) (λ κs a. a.1)
what_is_read_stays = (λ κs a u. refl, λ κs a u. refl, λ κs a u. refl, λ κs a u. refl, λ κs a u. refl, λ κs a u. refl, λ κs a u. refl, λ κs a u. refl, λ κs a u. refl, λ κs a u. refl, λ κs a u. refl, λ κs a u. refl)
