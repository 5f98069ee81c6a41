-- Outside the premises: the state is NaR from the place on at which a history leaves them (`leaves_nar`). Each history of patterns keeps them or leaves them
-- (`keeps_or_leaves`), and none does both (`never_both`).
use mathlib.Core.Path.{◌≡◌, refl, sym, ap, subst, ◌∙◌}
use mathlib.Core.Logic.{◌⊎◌, inl, inr, ⊎_elim}
use Prim.Native.Nat.{ℕ, ◌^◌, ◌<◌}
use native.Mathlib.Decide.{dec_lt, ℕ_discrete}
use borrow.Author.Tests.{eq-eqb, ne_eqb}
use lib.Dec.{lit<}
use lib.IntN.{ℤ, nat_abs}
use Rattle.posit.specs.Pattern.{nar}
use Rattle.posit.specs.Accumulator.{State, not_real, total, of_posit, of_product, plus, minus, negated}
use Rattle.quire_steps.specs.Sign.{sign_off}
use Rattle.promises.specs.History.{History, begun, ◌then◌, Step, move, negate, drop_sign, turn, Operand, a_posit, a_product, a_history, Direction, added, taken, total_of, moves, worth, directed, InStep, InOperand, AnyPattern, AnyHistory, OfPatterns, Number, Within, Stays, Keeps, Kept}
use Rattle.promises.specs.Outside.{Leaves, LeavesBy, NarIn}
use Rattle.promises.proofs.Said.{shifted}
use Rattle.promises.proofs.Tracked.{after, stepped, led}
use Rattle.promises.proofs.Totals.{shifted_total, outside, abs_negated, exact_after, exact_operand}

-- ---- NaR from there on

shifted_from_nar : (d : Direction) (x : State) → shifted d not_real x ≡ not_real
unfolding plus minus
shifted_from_nar added x = refl
shifted_from_nar taken x = refl

shifted_by_nar : (d : Direction) (t : ℤ) → shifted d (total t) not_real ≡ not_real
unfolding plus minus negated
shifted_by_nar added t = refl
shifted_by_nar taken t = refl

-- no step leads out of NaR
nar_stays : (s : Step) → stepped s not_real ≡ not_real
unfolding after negated sign_off
nar_stays (move d x) = shifted_from_nar d (led x)
nar_stays negate = refl
nar_stays drop_sign = refl
nar_stays turn = refl

product_with_nar : (a b : ℕ) → (a ≡ nar 31) ⊎ (b ≡ nar 31) → of_product 2 31 a b ≡ not_real
unfolding of_product
product_with_nar a b o = ⊎_elim (λ e. rw (eq-eqb a (nar 31) e)) (λ e. second (ℕ_discrete a (nar 31)) e) o
  where
    second : Dec (a ≡ nar 31) → b ≡ nar 31 → of_product 2 31 a b ≡ not_real
    second (yes d) e = rw (eq-eqb a (nar 31) d)
    second (no d) e = rw (ne_eqb a (nar 31) d, eq-eqb b (nar 31) e)

mutual
  unfolding after total_of of_posit

  pub leaves_nar : (h : History) → Leaves h → after h ≡ not_real
  leaves_nar begun l = absurd l
  leaves_nar (h then s) (inl l) = ap (stepped s) (leaves_nar h l) ∙ nar_stays s
  leaves_nar (h then s) (inr (k, l)) = ap (stepped s) (exact_after h k.0 k.1) ∙ nar_by s (total_of h) l

  nar_by : (s : Step) (t : ℤ) → LeavesBy s t → stepped s (total t) ≡ not_real
  nar_by (move d x) t (inl n) = ap (shifted d (total t)) (nar_led x n) ∙ shifted_by_nar d t
  nar_by (move d x) t (inr (k, o)) = ap (shifted d (total t)) (exact_operand x k) ∙ shifted_total d t (worth x) ∙ outside (directed d t (worth x)) o
  nar_by negate t l = absurd l
  nar_by drop_sign t l = absurd l
  nar_by turn t l = absurd l

  nar_led : (x : Operand) → NarIn x → led x ≡ not_real
  nar_led (a_posit p) e = rw (eq-eqb p (nar 31) e)
  nar_led (a_product a b) o = product_with_nar a b o
  nar_led (a_history k) l = leaves_nar k l

-- ---- kept, or left at a first place

abbrev Short : ℕ → Type 0
Short p = p < 2 ^ 32

abbrev InRange : History → Type 0
InRange h = nat_abs (total_of h) < 2 ^ 511

-- a step from t keeps the premises
abbrev KeptBy : Step → ℤ → Type 0
KeptBy s t = InStep Number AnyHistory s × InStep AnyPattern InRange s × Within (moves s t)

pub within : (h : History) → Stays h → Within (total_of h)
unfolding total_of
within begun k = lit< tt
within (h then s) k = k.2

pattern_or_nar : (p : ℕ) → Short p → Number p ⊎ (p ≡ nar 31)
pattern_or_nar p l = go (ℕ_discrete p (nar 31))
  where
    go : Dec (p ≡ nar 31) → Number p ⊎ (p ≡ nar 31)
    go (yes e) = inr e
    go (no n) = inl (l, n)

-- the premises up to h, and those of the step behind it
onward : (h : History) (s : Step) → Keeps h ⊎ Leaves h → (Within (total_of h) → KeptBy s (total_of h) ⊎ LeavesBy s (total_of h)) → Keeps (h then s) ⊎ Leaves (h then s)
unfolding total_of
onward h s (inr l) rest = inr (inl l)
onward h s (inl (n, k)) rest = ⊎_elim (λ (m, i, w). inl ((n, m, tt), (k, i, w))) (λ l. inr (inr ((n, k), l))) (rest (within h k))

moved_or_left : (d : Direction) (x : Operand) (t : ℤ) → Kept x ⊎ NarIn x → Dec (Within (directed d t (worth x))) → KeptBy (move d x) t ⊎ LeavesBy (move d x) t
unfolding total_of
moved_or_left d x t (inr e) w = inr (inl e)
moved_or_left d x t (inl k) (yes w) = inl (k.0, k.1, w)
moved_or_left d x t (inl k) (no o) = inr (inr (k, o))

mutual
  unfolding total_of

  pub keeps_or_leaves : (h : History) → OfPatterns h → Keeps h ⊎ Leaves h
  keeps_or_leaves begun p = inl (tt, tt)
  keeps_or_leaves (h then s) (p, o, _) = onward h s (keeps_or_leaves h p) (λ w. step_or_left s (total_of h) w o)

  step_or_left : (s : Step) (t : ℤ) → Within t → InStep Short AnyHistory s → KeptBy s t ⊎ LeavesBy s t
  step_or_left (move d x) t w p = moved_or_left d x t (operand_or_nar x p) (dec_lt (nat_abs (directed d t (worth x))) (2 ^ 511))
  step_or_left negate t w p = inl (tt, tt, subst (λ (n : ℕ). n < 2 ^ 511) (sym (abs_negated t)) w)
  step_or_left drop_sign t w p = inl (tt, tt, w)
  step_or_left turn t w p = inl (tt, tt, w)

  operand_or_nar : (x : Operand) → InOperand Short AnyHistory x → Kept x ⊎ NarIn x
  operand_or_nar (a_posit p) l = ⊎_elim (λ n. inl (n, tt)) (λ e. inr e) (pattern_or_nar p l)
  operand_or_nar (a_product a b) l = ⊎_elim (λ n. ⊎_elim (λ m. inl ((n, m), (tt, tt))) (λ e. inr (inr e)) (pattern_or_nar b l.1)) (λ e. inr (inl e)) (pattern_or_nar a l.0)
  operand_or_nar (a_history k) l = ⊎_elim (λ n. inl n) (λ l. inr l) (keeps_or_leaves k l)

mutual
  unfolding total_of

  pub never_both : (h : History) → Keeps h → Leaves h → ⊥
  never_both begun k l = l
  never_both (h then s) (n, k) (inl l) = never_both h (n.0, k.0) l
  never_both (h then s) (n, k) (inr (_, l)) = never_by s (total_of h) (n.1, k.1, k.2) l

  never_by : (s : Step) (t : ℤ) → KeptBy s t → LeavesBy s t → ⊥
  never_by (move d x) t (n, k, w) (inl e) = never_nar x (n, k) e
  never_by (move d x) t (n, k, w) (inr (_, o)) = o w
  never_by negate t k l = l
  never_by drop_sign t k l = l
  never_by turn t k l = l

  never_nar : (x : Operand) → Kept x → NarIn x → ⊥
  never_nar (a_posit p) (n, _) e = n.1 e
  never_nar (a_product a b) (n, _) o = ⊎_elim n.0.1 n.1.1 o
  never_nar (a_history k) kept l = never_both k kept l
