-- The state that a history leads to is its exact total, as long as no operand is NaR and the total stays within the range (`exact_after`); and a posit or a product is at
-- most 2 ^ 480 in size (`posit_at_most`, `product_at_most`).
use mathlib.Core.Path.{◌≡◌, refl, sym, ap, ap₂, subst, subst₂, ◌∙◌}
use mathlib.Core.Logic.{◌≢◌, ◌↔◌}
use mathlib.Core.Bool.{Bool, true, false, cond, not, xor, false≢true}
use Prim.Native.Nat.{ℕ, zero, suc, ◌+◌, ◌-◌, ◌*◌, ◌^◌, ◌≤◌, ◌<◌, zero-le}
use native.Mathlib.Nat.{le_trans, le_refl, mul-le-mul_left, mul-le-mul_right}
use native.Mathlib.Decide.{dec_lt, ℕ_discrete}
use native.Mathlib.Omega.{arith}
use borrow.Author.Tests.{eq-eqb, ne_eqb, lt-ltb, le-ltb}
use lib.Dec.{T, ltb, lit<, lit≤, eqb→eq}
use lib.IntN.{ℤ, pos, negsuc, neg_ℤ, nat_abs, ◌+ℤ◌, ◌*ℤ◌, +ℤ_comm}
use Rattle.posit.specs.Pattern.{nar, is_negative, unsigned, size, value, least, unit}
use Rattle.posit.specs.Operation.{exact, exact_product}
use Rattle.posit.specs.Accumulator.{State, not_real, total, clear, is_clear, is_not_real, image, from_image, kept, of_posit, of_product, plus, minus, negated}
use Rattle.posit.proofs.Size.{size_le, largest_size}
use Rattle.posit.proofs.State.{Held}
use Rattle.posit.proofs.Signs.{with_sign, by_sign, product_signs, sum_same, sum_unlike}
use Rattle.posit.proofs.Unsigned.{unsigned_positive, value_real}
use Rattle.quire_steps.proofs.Range.{size_of}
use Rattle.quire_steps.specs.Sign.{sign_off}
use Rattle.promises.specs.History.{History, begun, ◌then◌, Step, move, negate, drop_sign, turn, Operand, a_posit, a_product, a_history, Direction, added, taken, total_of, moves, worth, directed, InStep, AnyPattern, AnyHistory, Number, WithoutNar, Within, Stays, Keeps, Kept}
use Rattle.promises.proofs.Said.{shifted}
use Rattle.promises.proofs.Tracked.{after, stepped, led, after_held, image_back}

-- ---- the exact total

pub posit_total : (p : ℕ) → p ≢ nar 31 → of_posit 2 31 p ≡ total (exact 2 31 p)
unfolding of_posit
posit_total p n = rw (ne_eqb p (nar 31) n)

product_total : (a b : ℕ) → a ≢ nar 31 → b ≢ nar 31 → of_product 2 31 a b ≡ total (exact_product 2 31 a b)
unfolding of_product
product_total a b n m = rw (ne_eqb a (nar 31) n, ne_eqb b (nar 31) m)

-- a state that is moved by a total: the exact new total, where it is kept
pub shifted_total : (d : Direction) (t x : ℤ) → shifted d (total t) (total x) ≡ kept 512 (directed d t x)
unfolding plus minus negated
shifted_total added t x = refl
shifted_total taken t x = refl

pub inside : (t : ℤ) → Within t → kept 512 t ≡ total t
inside t w = rw (lt-ltb (nat_abs t) (2 ^ 511) w)

-- a total outside the range is not kept
pub outside : (t : ℤ) → (Within t → ⊥) → kept 512 t ≡ not_real
outside t o = above (2 ^ 511) (nat_abs t) o
  where
    above : (H n : ℕ) → (n < H → ⊥) → cond (ltb n H) (total t) not_real ≡ not_real
    above H n o = rw (le-ltb n H (omega arith))

mutual
  unfolding after total_of negated sign_off

  pub exact_after : (h : History) → WithoutNar h → Stays h → after h ≡ total (total_of h)
  exact_after begun n k = refl
  exact_after (h then s) (n, m, _) (k, l, w) = ap (stepped s) (exact_after h n k) ∙ exact_step s (total_of h) m l w

  pub exact_step : (s : Step) (t : ℤ) → InStep Number AnyHistory s → InStep AnyPattern (λ g. Within (total_of g)) s → Within (moves s t) → stepped s (total t) ≡ total (moves s t)
  exact_step (move d x) t n k w = ap (shifted d (total t)) (exact_operand x (n, k)) ∙ shifted_total d t (worth x) ∙ inside (directed d t (worth x)) w
  exact_step negate t n k w = refl
  exact_step drop_sign t n k w = refl
  exact_step turn t n k w = refl

  -- what an operand brings that keeps the premises
  pub exact_operand : (x : Operand) → Kept x → led x ≡ total (worth x)
  exact_operand (a_posit p) (n, _) = posit_total p n.1
  exact_operand (a_product a b) (n, _) = product_total a b n.0.1 n.1.1
  exact_operand (a_history k) (n, s) = exact_after k n s

-- ---- sizes

pub abs_negated : (x : ℤ) → nat_abs (neg_ℤ x) ≡ nat_abs x
abs_negated (pos zero) = refl
abs_negated (pos (suc n)) = refl
abs_negated (negsuc n) = refl

-- a size by what it is of
at_most : {x y : ℤ} {m n : ℕ} → x ≡ y → nat_abs y ≡ m → m ≤ n → nat_abs x ≤ n
at_most {n = n} e f h = subst (λ (k : ℕ). k ≤ n) (sym (ap nat_abs e ∙ f)) h

pub abs_sum : (x y : ℤ) → nat_abs (x +ℤ y) ≤ nat_abs x + nat_abs y
abs_sum x y = by_sign (λ x. nat_abs (x +ℤ y) ≤ nat_abs x + nat_abs y) (λ s a. by_sign (λ y. nat_abs (with_sign s a +ℤ y) ≤ nat_abs (with_sign s a) + nat_abs y) (λ t b. subst₂ (λ (m n : ℕ). nat_abs (with_sign s a +ℤ with_sign t b) ≤ m + n) (sym (size_of s a)) (sym (size_of t b)) (go s t a b)) y) x
  where
    less : (s : Bool) (a b : ℕ) → b ≤ a → nat_abs (with_sign s a +ℤ with_sign (not s) b) ≤ a + b
    less s a b h = at_most (sum_unlike s a b h) (size_of s (a - b)) (omega arith)

    unlike : (s : Bool) (a b : ℕ) → Dec (b < a) → nat_abs (with_sign s a +ℤ with_sign (not s) b) ≤ a + b
    unlike s a b (yes h) = less s a b (omega arith)
    unlike true a b (no h) = at_most (+ℤ_comm (with_sign true a) (with_sign false b)) refl (omega (arith, less false b a (omega arith)))
    unlike false a b (no h) = at_most (+ℤ_comm (with_sign false a) (with_sign true b)) refl (omega (arith, less true b a (omega arith)))

    go : (s t : Bool) (a b : ℕ) → nat_abs (with_sign s a +ℤ with_sign t b) ≤ a + b
    go true true a b = at_most (sum_same true a b) (size_of true (a + b)) (le_refl (a + b))
    go false false a b = at_most (sum_same false a b) (size_of false (a + b)) (le_refl (a + b))
    go true false a b = unlike true a b (dec_lt b a)
    go false true a b = unlike false a b (dec_lt b a)

abs_product : (x y : ℤ) → nat_abs (x *ℤ y) ≡ nat_abs x * nat_abs y
abs_product x y = by_sign (λ x. nat_abs (x *ℤ y) ≡ nat_abs x * nat_abs y) (λ s a. by_sign (λ y. nat_abs (with_sign s a *ℤ y) ≡ nat_abs (with_sign s a) * nat_abs y) (λ t b. ap nat_abs (product_signs s t a b) ∙ size_of (xor s t) (a * b) ∙ sym (ap₂ ◌*◌ (size_of s a) (size_of t b))) y) x

-- ---- what a posit or a product may move the total by

value_at_most : (u p : ℕ) → 120 ≤ u → Number p → nat_abs (value 2 31 u p) ≤ 2 ^ (u + 120)
unfolding value
value_at_most u p h n = go (ℕ_discrete p 0)
  where
    go : Dec (p ≡ 0) → nat_abs (value 2 31 u p) ≤ 2 ^ (u + 120)
    go (yes z) = rw z zero-le
    go (no z) =
        let b = unsigned_positive 31 p n.0 z n.1 in
        rw (value_real 2 31 p u z n.1, size_of (is_negative 31 p) (size 2 31 u (unsigned 31 p)), ← largest_size 2 u 31 (lit< tt))
        (size_le 2 u 31 h (unsigned 31 p) (2 ^ 31 - 1) b.0 (omega arith) (lit< tt))

pub posit_at_most : (p : ℕ) → Number p → nat_abs (exact 2 31 p) ≤ 2 ^ 480
unfolding exact
posit_at_most p n = le_trans (value_at_most (unit 2 31) p (lit≤ tt) n) (lit≤ tt)

pub product_at_most : (a b : ℕ) → Number a → Number b → nat_abs (exact_product 2 31 a b) ≤ 2 ^ 480
unfolding exact_product
product_at_most a b n m =
    rw (abs_product (value 2 31 (least 2 31) a) (value 2 31 (least 2 31) b))
    (le_trans (mul-le-mul_left (nat_abs (value 2 31 (least 2 31) a)) (value_at_most (least 2 31) b (lit≤ tt) m)) (mul-le-mul_right (2 ^ unit 2 31) (value_at_most (least 2 31) a (lit≤ tt) n)))

-- ---- a total, of its state and of its image

pub total_is_real : {t : ℤ} → total t ≡ not_real → ⊥
total_is_real e = subst real e tt
  where
    real : State → Type 0
    real not_real = ⊥
    real (total t) = Unit {0}

pub total_one : {x y : ℤ} → total x ≡ total y → x ≡ y
total_one e = ap value_of e
  where
    value_of : State → ℤ
    value_of not_real = pos 0
    value_of (total t) = t

-- what is read of the image of a kept history's total is that total
pub image_total : (h : History) → Keeps h → from_image 512 (image 512 (total (total_of h))) ≡ total (total_of h)
image_total h (n, s) = image_back (total (total_of h)) (subst (Held 512) (exact_after h n s) (after_held h))

-- ---- the two questions

pub clear_exactly : (q : State) → (is_clear q ≡ true) ↔ (q ≡ clear)
unfolding is_clear
clear_exactly not_real = (λ e. absurd (false≢true e), λ e. absurd (total_is_real (sym e)))
clear_exactly (total (pos n)) = (λ e. ap (λ (k : ℕ). total (pos k)) (eqb→eq n 0 (subst T (sym e) tt)), λ e. eq-eqb n 0 (ap nat_abs (total_one e)))
clear_exactly (total (negsuc n)) = (λ e. absurd (false≢true e), λ e. absurd (below (total_one e)))
  where
    below : negsuc n ≡ pos 0 → ⊥
    below e = let k : suc n ≡ 0 = ap nat_abs e in omega arith

pub nar_exactly : (q : State) → (is_not_real q ≡ true) ↔ (q ≡ not_real)
unfolding is_not_real
nar_exactly not_real = (λ e. refl, λ e. refl)
nar_exactly (total t) = (λ e. absurd (false≢true e), λ e. absurd (total_is_real e))
