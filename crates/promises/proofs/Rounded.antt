-- Where an operation is possible, what its contracts tell is the rounding of its exact result (`told_given`), and elsewhere NaR (`told_impossible`). Sums, products and fused
-- results go through one lemma on whole numbers of units (`whole_given`).
use mathlib.Core.Path.{◌≡◌, refl, sym, ap, subst, ◌∙◌}
use mathlib.Core.Logic.{◌≢◌, ◌⊎◌, inl, inr, ⊎_elim}
use mathlib.Core.List.{List, [], ◌∷◌}
use Prim.Native.Nat.{ℕ, ◌^◌, ◌<◌}
use native.Mathlib.Decide.{dec_lt, ℕ_discrete}
use native.Mathlib.Omega.{arith}
use native.Mathlib.Nat.{lt_of_le_of_lt}
use borrow.Author.Tests.{eq-eqb, ne_eqb}
use lib.Arith.{lt_of_le-ne}
use lib.Dec.{lit<, lit≤}
use lib.IntN.{ℤ, pos, negsuc, neg_ℤ, ℤ_discrete}
use Rattle.posit.specs.Pattern.{nar, opposite, unit}
use Rattle.posit.specs.Rounding.{rounded}
use Rattle.posit.specs.Operation.{unless_nar, exact, sum, difference, product, quotient, square_root, fused_sum, fused_difference, product_taken}
use Rattle.posit.specs.Accumulator.{State, not_real, total, of_posit, to_posit}
use Rattle.posit.proofs.State.{Held}
use Rattle.posit.proofs.Value.{rounded_own}
use Rattle.posit.proofs.Operation.{opposite_nar, opposite_real, exact_opposite, own}
use Rattle.posit.proofs.Root.{root_of_none}
use Rattle.promises.specs.Standard.{Proper, result, divided}
use Rattle.promises.specs.Operations.{Operation, neg, add, sub, mul, div, recip, sqrt, mul_add, mul_sub, sub_product, operands, Patterns, NarAmong, exactly, BelowZero, Undefined, Impossible}
use Rattle.promises.proofs.Totals.{posit_total, posit_at_most}
use Rattle.promises.proofs.Told.{answer_of}
use Rattle.promises.proofs.Given.{given, as_given, short_opposite, given_pattern, rounded_given, result_proper, divided_proper, root_proper}
use Rattle.promises.proofs.Operands.{below_lies, above_nar, one_value, quotient_none, quotient_some, root_some}

-- ---- NaR operands

-- NaR where one of the operands is, else r
abbrev unless_any : List ℕ → ℕ → ℕ
unless_any [] r = r
unless_any (p ∷ ps) r = unless_nar 2 31 p (unless_any ps r)

nar_through : (p r : ℕ) → r ≡ nar 31 → unless_nar 2 31 p r ≡ nar 31
nar_through p r e = go (ℕ_discrete p (nar 31))
  where
    go : Dec (p ≡ nar 31) → unless_nar 2 31 p r ≡ nar 31
    go (yes h) = rw (eq-eqb p (nar 31) h)
    go (no h) = rw (ne_eqb p (nar 31) h) e

any_nar : (ps : List ℕ) (r : ℕ) → NarAmong ps → unless_any ps r ≡ nar 31
any_nar [] r n = absurd n
any_nar (p ∷ ps) r (inl e) = rw (eq-eqb p (nar 31) e)
any_nar (p ∷ ps) r (inr n) = nar_through p (unless_any ps r) (any_nar ps r n)

none_nar : (ps : List ℕ) (r : ℕ) → (NarAmong ps → ⊥) → unless_any ps r ≡ r
none_nar [] r h = refl
none_nar (p ∷ ps) r h = rw (ne_eqb p (nar 31) (λ e. h (inl e))) (none_nar ps r (λ n. h (inr n)))

told_nar : (f : Operation) → NarAmong (operands f) → answer_of f ≡ nar 31
unfolding answer_of sum difference product quotient square_root fused_sum fused_difference product_taken
told_nar (neg a) (inl e) = ap (opposite 31) e ∙ opposite_nar 31
told_nar (neg a) (inr n) = absurd n
told_nar (add a b) h = any_nar (a ∷ b ∷ []) _ h
told_nar (sub a b) h = any_nar (a ∷ b ∷ []) _ h
told_nar (mul a b) h = any_nar (a ∷ b ∷ []) _ h
told_nar (div a b) h = any_nar (a ∷ b ∷ []) _ h
told_nar (recip a) h = any_nar (2 ^ 30 ∷ a ∷ []) _ (inr h)
told_nar (sqrt a) h = any_nar (a ∷ []) _ h
told_nar (mul_add a b c) h = any_nar (a ∷ b ∷ c ∷ []) _ h
told_nar (mul_sub a b c) h = any_nar (a ∷ b ∷ c ∷ []) _ h
told_nar (sub_product c a b) h = any_nar (c ∷ a ∷ b ∷ []) _ h

-- ---- where it is possible

negated_given : (a : ℕ) → a < 2 ^ 32 → a ≢ nar 31 → opposite 31 a ≡ given (result (neg_ℤ (exact 2 31 a)))
negated_given a k n =
    sym (own 2 31 (lit< tt) (opposite 31 a) (short_opposite a) (opposite_real 31 a k n))
    ∙ ap (rounded 2 31 (unit 2 31)) (exact_opposite 2 31 a k n)
    ∙ rounded_given (neg_ℤ (exact 2 31 a))

-- sums, products and fused results are the rounding of a whole number t of units
whole_given : (ps : List ℕ) (t : ℤ) → (NarAmong ps → ⊥) → unless_any ps (rounded 2 31 (unit 2 31) t) ≡ given (result t)
whole_given ps t h = none_nar ps _ h ∙ rounded_given t

pub told_given : (f : Operation) → Patterns (operands f) → (Impossible f → ⊥) → answer_of f ≡ given (exactly f)
unfolding answer_of sum difference product fused_sum fused_difference product_taken
told_given (neg a) k h = negated_given a k.0 (λ e. h (inl (inl e)))
told_given (add a b) k h = whole_given (a ∷ b ∷ []) _ (λ n. h (inl n))
told_given (sub a b) k h = whole_given (a ∷ b ∷ []) _ (λ n. h (inl n))
told_given (mul a b) k h = whole_given (a ∷ b ∷ []) _ (λ n. h (inl n))
told_given (div a b) k h = quotient_some a b k.0 k.1.0 (λ e. h (inl (inl e))) (λ e. h (inl (inr (inl e)))) (λ e. h (inr e))
told_given (recip a) k h =
    quotient_some (2 ^ 30) a (lit< tt) k.0 (λ e. omega arith) (λ e. h (inl (inl e))) (λ e. h (inr e))
    ∙ ap (λ (x : ℤ). given (divided x (exact 2 31 a))) one_value
told_given (sqrt a) k h = root_some a (not_negative (dec_lt a (2 ^ 31)))
  where
    not_negative : Dec (a < 2 ^ 31) → a < 2 ^ 31
    not_negative (yes l) = l
    not_negative (no l) = absurd (h (inr (above_nar a k.0 (lt_of_le-ne (omega arith) (λ e. h (inl (inl (sym e))))))))
told_given (mul_add a b c) k h = whole_given (a ∷ b ∷ c ∷ []) _ (λ n. h (inl n))
told_given (mul_sub a b c) k h = whole_given (a ∷ b ∷ c ∷ []) _ (λ n. h (inl n))
told_given (sub_product c a b) k h = whole_given (c ∷ a ∷ b ∷ []) _ (λ n. h (inl n))

pub exactly_proper : (f : Operation) → (Undefined f → ⊥) → Proper (exactly f)
exactly_proper (neg a) h = result_proper _
exactly_proper (add a b) h = result_proper _
exactly_proper (sub a b) h = result_proper _
exactly_proper (mul a b) h = result_proper _
exactly_proper (div a b) h = divided_proper _ (exact 2 31 b) h
exactly_proper (recip a) h = divided_proper _ (exact 2 31 a) h
exactly_proper (sqrt a) h = root_proper (exact 2 31 a)
exactly_proper (mul_add a b c) h = result_proper _
exactly_proper (mul_sub a b c) h = result_proper _
exactly_proper (sub_product c a b) h = result_proper _

-- ---- where it is not

either_decided : {A B : Type 0} → Dec A → Dec B → Dec (A ⊎ B)
either_decided (yes a) b = yes (inl a)
either_decided (no m) (yes b) = yes (inr b)
either_decided (no m) (no n) = no (⊎_elim m n)

nar_decided : (ps : List ℕ) → Dec (NarAmong ps)
nar_decided [] = no (λ n. n)
nar_decided (p ∷ ps) = either_decided (ℕ_discrete p (nar 31)) (nar_decided ps)

below_decided : (x : ℤ) → Dec (BelowZero x)
below_decided (pos n) = no (λ b. b)
below_decided (negsuc n) = yes tt

undefined_decided : (f : Operation) → Dec (Undefined f)
undefined_decided (neg a) = no (λ u. u)
undefined_decided (add a b) = no (λ u. u)
undefined_decided (sub a b) = no (λ u. u)
undefined_decided (mul a b) = no (λ u. u)
undefined_decided (div a b) = ℤ_discrete (exact 2 31 b) (pos 0)
undefined_decided (recip a) = ℤ_discrete (exact 2 31 a) (pos 0)
undefined_decided (sqrt a) = below_decided (exact 2 31 a)
undefined_decided (mul_add a b c) = no (λ u. u)
undefined_decided (mul_sub a b c) = no (λ u. u)
undefined_decided (sub_product c a b) = no (λ u. u)

pub impossible_decided : (f : Operation) → Dec (Impossible f)
impossible_decided f = either_decided (nar_decided (operands f)) (undefined_decided f)

told_undefined : (f : Operation) → Patterns (operands f) → (NarAmong (operands f) → ⊥) → Undefined f → answer_of f ≡ nar 31
unfolding answer_of
told_undefined (neg a) k h u = absurd u
told_undefined (add a b) k h u = absurd u
told_undefined (sub a b) k h u = absurd u
told_undefined (mul a b) k h u = absurd u
told_undefined (div a b) k h u = quotient_none a b k.0 k.1.0 (λ e. h (inl e)) (λ e. h (inr (inl e))) u
told_undefined (recip a) k h u = quotient_none (2 ^ 30) a (lit< tt) k.0 (λ e. omega arith) (λ e. h (inl e)) u
told_undefined (sqrt a) k h u = root_of_none 2 31 a (below_lies a u)
told_undefined (mul_add a b c) k h u = absurd u
told_undefined (mul_sub a b c) k h u = absurd u
told_undefined (sub_product c a b) k h u = absurd u

pub told_impossible : (f : Operation) → Patterns (operands f) → Impossible f → answer_of f ≡ nar 31
told_impossible f k (inl n) = told_nar f n
told_impossible f k (inr u) = go (nar_decided (operands f))
  where
    go : Dec (NarAmong (operands f)) → answer_of f ≡ nar 31
    go (yes n) = told_nar f n
    go (no h) = told_undefined f k h u

-- ---- what is told is a pattern of 32 bits

pub told_pattern : (f : Operation) → Patterns (operands f) → answer_of f < 2 ^ 32
told_pattern f k = go (impossible_decided f)
  where
    go : Dec (Impossible f) → answer_of f < 2 ^ 32
    go (yes i) = subst (λ (r : ℕ). r < 2 ^ 32) (sym (told_impossible f k i)) (lit< tt)
    go (no h) = given_pattern (as_given (exactly f) (exactly_proper f (λ u. h (inr u))) (told_given f k h)).1

pub total_pattern : (q : State) → to_posit 2 31 q < 2 ^ 32
unfolding to_posit
total_pattern not_real = lit< tt
total_pattern (total t) = given_pattern (as_given (result t) (result_proper t) (rounded_given t)).1

-- ---- a pattern's own value

pub posit_held : (p : ℕ) → p < 2 ^ 32 → Held 512 (of_posit 2 31 p)
unfolding of_posit
posit_held p l = go (ℕ_discrete p (nar 31))
  where
    go : Dec (p ≡ nar 31) → Held 512 (of_posit 2 31 p)
    go (yes e) = rw (eq-eqb p (nar 31) e) tt
    go (no n) = rw (posit_total p n) (lt_of_le_of_lt (posit_at_most p (l, n)) (lit< tt))

pub own_value : (p : ℕ) → p < 2 ^ 32 → to_posit 2 31 (of_posit 2 31 p) ≡ p
unfolding to_posit of_posit exact
own_value p l = go (ℕ_discrete p (nar 31))
  where
    go : Dec (p ≡ nar 31) → to_posit 2 31 (of_posit 2 31 p) ≡ p
    go (yes e) = rw (eq-eqb p (nar 31) e) (sym e)
    go (no n) = ap (to_posit 2 31) (posit_total p n) ∙ rounded_own 2 31 (unit 2 31) (lit< tt) (lit≤ tt) p l n
