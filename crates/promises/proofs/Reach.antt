-- Every 64-byte string but NaR's is the image of a history: of as many units, added or taken, as the state says that the string stands for (`reached_total`). The same count of the
-- largest product instead leads out of the range at its 2 ^ 31st (`one_step_more`). And to any eight words some history leads (`led_to`).
use mathlib.Core.Path.{◌≡◌, refl, sym, ap, subst, ◌∙◌}
use mathlib.Core.Logic.{◌≢◌, inl, inr}
use mathlib.Core.Bool.{Bool, true, false}
use mathlib.Core.List.{List}
use Prim.Native.Nat.{ℕ, zero, suc, ◌+◌, ◌-◌, ◌*◌, ◌^◌, ◌≤◌, ◌<◌}
use native.Mathlib.Nat.{zero-mul, mul-one, mul-le-mul_right, le_refl}
use native.Mathlib.Omega.{arith}
use lib.Dec.{lit<}
use lib.IntN.{ℤ, pos, negsuc, nat_abs, ◌+ℤ◌, ◌-ℤ◌}
use Rattle.posit.specs.Pattern.{nar}
use Rattle.posit.specs.Accumulator.{State, not_real, total, words, from_words, image, from_image}
use Rattle.posit.proofs.Computing.{everything}
use Rattle.posit.proofs.Signs.{with_sign, sum_same}
use Rattle.posit.proofs.State.{Held}
use Rattle.quire_steps.proofs.Range.{size_of}
use Rattle.promises.specs.History.{History, begun, ◌then◌, Direction, added, taken, move, a_posit, a_product, total_of, moves, worth, InOperand, AnyHistory, Number, WithoutNar, StaysBelow, Stays, Keeps, Counting, steps_in}
use Rattle.promises.specs.Ways.{EightWords, ImageBytes}
use Rattle.promises.specs.Run.{Routes, Runs, Image, Reached}
use Rattle.promises.proofs.Typed.{image_held, bytes_back, words_held, words_back}
use Rattle.promises.proofs.Tracked.{after, plainly, can_run, can_show_history}
use Rattle.promises.proofs.Totals.{exact_after}
use Rattle.promises.proofs.Left.{leaves_nar, within}

-- ---- one product again and again, added or taken

abbrev by : Bool → Direction
by false = added
by true = taken

module _ (a b : ℕ) (n : InOperand Number AnyHistory (a_product a b)) where
  abbrev repeated : Bool → ℕ → History
  repeated s zero = begun
  repeated s (suc k) = repeated s k then move (by s) (a_product a b)

  repeated_numbers : (s : Bool) (k : ℕ) → WithoutNar (repeated s k)
  repeated_numbers s zero = tt
  repeated_numbers s (suc k) = (repeated_numbers s k, n, tt)

  repeated_counted : (c : Counting) (s : Bool) (k : ℕ) → steps_in c (repeated s k) ≡ k
  repeated_counted c s zero = refl
  repeated_counted c s (suc k) = rw (repeated_counted c s k) (omega arith)

  -- the product is worth M units
  module _ (M : ℕ) (is : worth (a_product a b) ≡ pos M) where
    next : (s : Bool) (k : ℕ) → moves (move (by s) (a_product a b)) (with_sign s (k * M)) ≡ with_sign s (suc k * M)
    unfolding total_of
    next true k =
        let more : k * M + M ≡ suc k * M = omega arith in
        ap (λ (x : ℤ). with_sign true (k * M) -ℤ x) is ∙ sum_same true (k * M) M ∙ ap (with_sign true) more
    next false k =
        let more : k * M + M ≡ suc k * M = omega arith in
        ap (λ (x : ℤ). with_sign false (k * M) +ℤ x) is ∙ sum_same false (k * M) M ∙ ap (with_sign false) more

    repeated_total : (s : Bool) (k : ℕ) → total_of (repeated s k) ≡ with_sign s (k * M)
    unfolding total_of
    repeated_total true zero = ap (with_sign true) (sym (zero-mul M))
    repeated_total false zero = ap (with_sign false) (sym (zero-mul M))
    repeated_total s (suc k) = ap (moves (move (by s) (a_product a b))) (repeated_total s k) ∙ next s k

    repeated_stays : (H : ℕ) (s : Bool) (k : ℕ) → k * M < H → StaysBelow H (repeated s k)
    repeated_stays H s zero h = tt
    repeated_stays H s (suc k) h =
        (repeated_stays H s k (omega arith), (tt, tt), subst (λ (x : ℕ). x < H) (sym (ap nat_abs (repeated_total s (suc k)) ∙ size_of s (suc k * M))) h)

-- ---- units

one_not_nar : 1 ≡ nar 31 → ⊥
one_not_nar e = omega arith

pub unit_numbers : InOperand Number AnyHistory (a_product 1 1)
unit_numbers = ((lit< tt, λ e. one_not_nar e), (lit< tt, λ e. one_not_nar e))

unit_is_one : worth (a_product 1 1) ≡ pos 1
unfolding total_of everything
unit_is_one = refl

abbrev units : Bool → ℕ → History
units = repeated 1 1 unit_numbers

units_keep : (s : Bool) (n : ℕ) → n < 2 ^ 511 → Keeps (units s n)
units_keep s n l =
    (repeated_numbers 1 1 unit_numbers s n, repeated_stays 1 1 unit_numbers 1 unit_is_one (2 ^ 511) s n (subst (λ (m : ℕ). m < 2 ^ 511) (sym (mul-one n)) l))

units_lead : (s : Bool) (n : ℕ) → n < 2 ^ 511 → after (units s n) ≡ total (with_sign s n)
units_lead s n l =
    let k = units_keep s n l in
    exact_after (units s n) k.0 k.1 ∙ ap total (repeated_total 1 1 unit_numbers 1 unit_is_one s n ∙ ap (with_sign s) (mul-one n))

reached_total : (s : Bool) (n : ℕ) (bs : List ℕ) → n < 2 ^ 511 → image 512 (total (with_sign s n)) ≡ bs → Reached bs
reached_total s n bs l e =
    record { history = units s n; keeps = units_keep s n l; shows = subst (Image (units s n)) (ap (image 512) (units_lead s n l) ∙ e) (can_show_history (units s n)) }

-- ---- every string

pub reach : (bs : List ℕ) → ImageBytes bs → bs ≢ image 512 not_real → Reached bs
reach bs b n = go (from_image 512 bs) refl (image_held bs b)
  where
    go : (q : State) → from_image 512 bs ≡ q → Held 512 (from_image 512 bs) → Reached bs
    go not_real r h = absurd (n (sym (bytes_back bs b) ∙ ap (image 512) r))
    go (total (pos k)) r h = reached_total false k bs (subst (Held 512) r h) (sym (ap (image 512) r) ∙ bytes_back bs b)
    go (total (negsuc k)) r h = reached_total true (suc k) bs (subst (Held 512) r h) (sym (ap (image 512) r) ∙ bytes_back bs b)

-- ---- any eight words

-- NaR too: by a NaR operand
led_to_state : (q : State) → Held 512 q → (h : History) × (after h ≡ q)
led_to_state not_real k = (begun then move added (a_posit (nar 31)), leaves_nar _ (inr ((tt, tt), inl refl)))
led_to_state (total (pos n)) k = (units false n, units_lead false n k)
led_to_state (total (negsuc n)) k = (units true (suc n), units_lead true (suc n) k)

pub led_to : (q : List ℕ) → EightWords q → (h : History) × (by : Routes h) × Runs h by q
led_to q t =
    let (h, is) = led_to_state (from_words 512 q) (words_held q t) in
    (h, plainly h, subst (Runs h (plainly h)) (ap (words 512) is ∙ words_back q t) (can_run h (plainly h)))

-- ---- the largest product

largest_not_nar : 2 ^ 31 - 1 ≡ nar 31 → ⊥
largest_not_nar e = omega arith

largest_numbers : InOperand Number AnyHistory (a_product (2 ^ 31 - 1) (2 ^ 31 - 1))
largest_numbers = ((lit< tt, λ e. largest_not_nar e), (lit< tt, λ e. largest_not_nar e))

largest_is : worth (a_product (2 ^ 31 - 1) (2 ^ 31 - 1)) ≡ pos (2 ^ 480)
unfolding total_of everything
largest_is = refl

-- as many steps as this may leave the range, however they are counted
too_many : (n : ℕ) → 2 ^ 31 ≤ n → (h : History) × WithoutNar h × ((c : Counting) → steps_in c h ≡ n) × (Stays h → ⊥)
too_many n l = (
  repeated (2 ^ 31 - 1) (2 ^ 31 - 1) largest_numbers false n,
  repeated_numbers (2 ^ 31 - 1) (2 ^ 31 - 1) largest_numbers false n,
  (λ c. repeated_counted (2 ^ 31 - 1) (2 ^ 31 - 1) largest_numbers c false n),
  (λ k. above (2 ^ 480) n l (subst (λ (t : ℤ). nat_abs t < 2 ^ 511) (repeated_total (2 ^ 31 - 1) (2 ^ 31 - 1) largest_numbers (2 ^ 480) largest_is false n) (within _ k))),
)
  where
    above : (M n : ℕ) → 2 ^ 31 ≤ n → n * M < 2 ^ 31 * M → ⊥
    above M n l k = absurd (omega (arith, mul-le-mul_right M l))

pub one_step_more : (h : History) × WithoutNar h × ((c : Counting) → steps_in c h ≡ 2 ^ 31) × (Stays h → ⊥)
one_step_more = too_many (2 ^ 31) (le_refl (2 ^ 31))
