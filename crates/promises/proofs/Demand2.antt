-- Demand 2. Each operation is the rounding that the standard gives the exact result; the accumulator holds the exact sum or NaR; rounding a pattern's own value gives the pattern
-- back. All is told of the contracts of the public functions, and the first also of the function `round`, by which they tell a rounding.
use mathlib.Core.Path.{◌≡◌, refl, sym, ap, ◌∙◌}
use mathlib.Core.Logic.{◌≢◌, ◌↔◌, ◌⊎◌, inl, inr, ⊎_elim}
use mathlib.Core.Bool.{Bool, true, false}
use mathlib.Core.List.{List}
use Prim.Native.Nat.{ℕ, ◌^◌, ◌≤◌, ◌<◌}
use native.Mathlib.Omega.{arith}
use lib.Dec.{lit<, lit≤}
use lib.IntN.{ℤ}
use Rattle.posit.specs.Pattern.{nar, opposite, least, unit}
use Rattle.posit.specs.Exact.{Exact, Sound}
use Rattle.posit.specs.Rounding.{Rounds, round}
use Rattle.posit.specs.Operation.{exact}
use Rattle.posit.specs.Accumulator.{not_real, total, clear, of_posit, to_posit, from_words}
use Rattle.posit.proofs.Rounding.{round_meets, round_only, round_one}
use Rattle.posit.proofs.Value.{opposite_is}
use Rattle.posit.proofs.Operation.{own}
use Rattle.promises.specs.History.{History, total_of, OfPatterns, Keeps, Number}
use Rattle.promises.specs.Outside.{Leaves}
use Rattle.promises.specs.Run.{Routes, Runs}
use Rattle.promises.specs.Standard.{Result, nought, some, Proper, result, Gives, zero_given, size_given, opposite_given, Answered}
use Rattle.promises.specs.Operations.{Operation, operands, Patterns, exactly, Impossible, By, Done, OfPosit, ToPosit}
use Rattle.promises.specs.Ways.{Way, SaysZero, SaysNar}
use Rattle.promises.proofs.Given.{rounds_positive, as_given, rounded_given, result_proper}
use Rattle.promises.proofs.Said.{zero_says, nar_says}
use Rattle.promises.proofs.Told.{done_told, made_told, total_told}
use Rattle.promises.proofs.Rounded.{told_given, told_impossible, exactly_proper, impossible_decided, posit_held, own_value}
use Rattle.promises.proofs.Tracked.{back, after, run_leads}
use Rattle.promises.proofs.Totals.{exact_after, clear_exactly, nar_exactly}
use Rattle.promises.proofs.Left.{leaves_nar, keeps_or_leaves}

-- ---- "the rounding that the standard gives"

-- what is rounded stands in the standard's relation to its rounding, and to no other pattern
pub rounding_is_the_standards : (u : ℕ) → least 2 32 ≤ u → (x : Exact) → Sound x → Rounds 2 31 u x (round 2 31 u x)
rounding_is_the_standards u fine x sound = round_meets 2 31 u fine x sound (lit< tt)

pub standard_rounds_so_only : (u : ℕ) → least 2 32 ≤ u → (x : Exact) → Sound x → (p : ℕ) → Rounds 2 31 u x p → p ≡ round 2 31 u x
standard_rounds_so_only u fine x sound p r = sym (round_only 2 31 u fine x sound (lit< tt) r)

-- ---- "each operation is the rounding that the standard gives the exact result"

-- an impossible operation answers NaR, and any other what the standard gives its exact result
pub each_operation_rounds : (by : By) (f : Operation) (r : ℕ) → Patterns (operands f) → Done by f r → Answered (Impossible f) (exactly f) r
each_operation_rounds by f r k d =
    (λ i. done_told by f r d ∙ told_impossible f k i, λ h. as_given (exactly f) (exactly_proper f (λ u. h (inr u))) (done_told by f r d ∙ told_given f k h))

pub nar_only_so : (by : By) (f : Operation) (r : ℕ) → Patterns (operands f) → Done by f r → (r ≡ nar 31) ↔ Impossible f
nar_only_so by f r k d = (λ e. go e (impossible_decided f), (each_operation_rounds by f r k d).0)
  where
    go : r ≡ nar 31 → Dec (Impossible f) → Impossible f
    go e (yes i) = i
    go e (no h) = absurd (((each_operation_rounds by f r k d).1 h).0 e)

-- the rounding of the words q: NaR for NaR, and for a total what the standard gives it
pub total_rounds : (way : Way) (q : List ℕ) (r : ℕ) → ToPosit way q r
    → (from_words 512 q ≡ not_real → r ≡ nar 31) × ((t : ℤ) → from_words 512 q ≡ total t → (r ≢ nar 31) × Gives (result t) r)
unfolding to_posit
total_rounds way q r d =
    let told = total_told way q r d in
    (λ e. told ∙ ap (to_posit 2 31) e, λ t e. as_given (result t) (result_proper t) (told ∙ ap (to_posit 2 31) e ∙ rounded_given t))

-- no result but zero is given the pattern 0
pub never_zero : (below : Bool) (x : Exact) (p : ℕ) → Gives (some below x) p → p ≢ 0
never_zero below x p (size_given r) e = omega (arith, rounds_positive r)
never_zero below x p (opposite_given {p = b} r) e =
    let k = rounds_positive r in
    omega (arith, sym (opposite_is 31 b k.0 (omega (arith, k.1))) ∙ e, k.1)

-- a result is given one pattern; and the results of possible operations, and totals, are such as have one
pub gives_one : (x : Result) (p q : ℕ) → Proper x → Gives x p → Gives x q → p ≡ q
gives_one nought p q h zero_given zero_given = refl
gives_one (some false x) p q h (size_given r) (size_given s) = round_one 2 31 (unit 2 31) (lit≤ tt) x h (lit< tt) r s
gives_one (some true x) p q h (opposite_given r) (opposite_given s) = ap (opposite 31) (round_one 2 31 (unit 2 31) (lit≤ tt) x h (lit< tt) r s)

pub results_proper : (f : Operation) → (Impossible f → ⊥) → Proper (exactly f)
results_proper f h = exactly_proper f (λ u. h (inr u))

pub totals_proper : (t : ℤ) → Proper (result t)
totals_proper t = result_proper t

-- ---- "the accumulator holds the exact sum or NaR"

-- the words z that a history leads to: it keeps both premises or leaves them at a first place
pub holds_exact_sum_or_nar :
    (h : History) (by : Routes h) (z : List ℕ) → OfPatterns h → Runs h by z → (Keeps h × (from_words 512 z ≡ total (total_of h))) ⊎ (Leaves h × (from_words 512 z ≡ not_real))
holds_exact_sum_or_nar h by z p runs =
    let held : from_words 512 z ≡ after h = run_leads h by z runs in
    ⊎_elim (λ k. inl (k, held ∙ exact_after h k.0 k.1)) (λ l. inr (l, held ∙ leaves_nar h l)) (keeps_or_leaves h p)

-- the words say that they are zero exactly when their state is, and that they are NaR exactly when it is
pub zero_said_exactly : (way : Way) (q : List ℕ) (b : Bool) → SaysZero way q b → (b ≡ true) ↔ (from_words 512 q ≡ clear)
zero_said_exactly way q b s = (λ e. (clear_exactly (from_words 512 q)).0 (sym (zero_says way q b s) ∙ e), λ e. zero_says way q b s ∙ (clear_exactly (from_words 512 q)).1 e)

pub nar_said_exactly : (way : Way) (q : List ℕ) (b : Bool) → SaysNar way q b → (b ≡ true) ↔ (from_words 512 q ≡ not_real)
nar_said_exactly way q b s = (λ e. (nar_exactly (from_words 512 q)).0 (sym (nar_says way q b s) ∙ e), λ e. nar_says way q b s ∙ (nar_exactly (from_words 512 q)).1 e)

-- ---- "rounding a pattern's own value gives the pattern back"

-- the standard gives a pattern's own value that pattern
pub own_value_given : (p : ℕ) → Number p → Gives (result (exact 2 31 p)) p
own_value_given p (l, n) = (as_given (result (exact 2 31 p)) (result_proper (exact 2 31 p)) (sym (own 2 31 (lit< tt) p l n) ∙ rounded_given (exact 2 31 p))).1

-- p, NaR too, goes into an accumulator and is rounded out of it
pub own_value_back : (into : Way) (out : Way) (p : ℕ) (q : List ℕ) (r : ℕ) → p < 2 ^ 32 → OfPosit into p q → ToPosit out q r → r ≡ p
own_value_back into out p q r l made rounded =
    total_told out q r rounded ∙ ap (to_posit 2 31) (ap (from_words 512) (made_told into p q made) ∙ back (of_posit 2 31 p) (posit_held p l)) ∙ own_value p l
