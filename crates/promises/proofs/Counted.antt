-- How far a total may lie from 0: at most 2 ^ 480 for each time that a posit or a product moves it away from there (`total_at_most`). So 2 ^ 31 - 1 such moves never lead out of the
-- range (`few_away_stay`), and in whatever way steps are counted, there are no more of these than of steps (`away_counted`, `few_steps_few_away`).
use mathlib.Core.Path.{◌≡◌, refl}
use mathlib.Core.Bool.{Bool, true, false, cond}
use Prim.Native.Nat.{ℕ, ◌+◌, ◌-◌, ◌*◌, ◌^◌, ◌≤◌, ◌<◌}
use native.Mathlib.Nat.{add-zero, le_trans, lt_of_le_of_lt, add-mul, mul-lt-mul_of_pos_right}
use native.Mathlib.Decide.{dec_lt}
use native.Mathlib.Omega.{arith}
use borrow.Author.Tests.{lt-ltb, le-ltb}
use lib.Dec.{ltb, lit≤}
use lib.IntN.{ℤ, neg_ℤ, nat_abs}
use lib.Pow.{pow_pos}
use Rattle.promises.specs.History.{History, begun, ◌then◌, Step, move, negate, drop_sign, turn, Operand, a_posit, a_product, a_history, Direction, added, taken, total_of, moves, worth, directed, InStep, InOperand, AnyPattern, AnyHistory, Number, WithoutNar, Stays, away_in, away_by, away_with, AwayAtMost, Counting, steps_in, steps_by, steps_with}
use Rattle.promises.proofs.Totals.{abs_negated, abs_sum, posit_at_most, product_at_most}

-- ---- how far the total lies from 0

directed_at_most : (d : Direction) (t x : ℤ) → nat_abs (directed d t x) ≤ nat_abs t + nat_abs x
directed_at_most added t x = abs_sum t x
directed_at_most taken t x = omega (arith, abs_sum t (neg_ℤ x), abs_negated x)

-- c moves of at most M each have led to t, and a of them are x, which moves the total to z
farther : (M c a t x z : ℕ) → t ≤ c * M → x ≤ a * M → z ≤ t + x → z ≤ (c + cond (ltb t z) a 0) * M
farther M c a t x z h k l = go (dec_lt t z)
  where
    go : Dec (t < z) → z ≤ (c + cond (ltb t z) a 0) * M
    go (yes g) = rw (lt-ltb t z g, add-mul c a M) (omega arith)
    go (no g) = rw (le-ltb t z (omega arith), add-mul c 0 M) (omega arith)

no_farther : (M c t z : ℕ) → t ≤ c * M → z ≡ t → z ≤ (c + 0) * M
no_farther M c t z h e = rw (e, add-mul c 0 M) (omega arith)

once : {n : ℕ} (M : ℕ) → n ≤ M → n ≤ 1 * M
once M h = omega arith

mutual
  unfolding total_of

  pub total_at_most : (h : History) → WithoutNar h → nat_abs (total_of h) ≤ away_in h * 2 ^ 480
  total_at_most begun n = lit≤ tt
  total_at_most (h then s) (n, m, _) = step_at_most s (total_of h) (away_in h) m (total_at_most h n)

  step_at_most : (s : Step) (t : ℤ) (c : ℕ) → InStep Number AnyHistory s → nat_abs t ≤ c * 2 ^ 480 → nat_abs (moves s t) ≤ (c + away_by s t) * 2 ^ 480
  step_at_most (move d x) t c n k = farther (2 ^ 480) c (away_with x) (nat_abs t) (nat_abs (worth x)) (nat_abs (directed d t (worth x))) k (worth_at_most x n) (directed_at_most d t (worth x))
  step_at_most negate t c n k = no_farther (2 ^ 480) c (nat_abs t) (nat_abs (neg_ℤ t)) k (abs_negated t)
  step_at_most drop_sign t c n k = no_farther (2 ^ 480) c (nat_abs t) (nat_abs t) k refl
  step_at_most turn t c n k = no_farther (2 ^ 480) c (nat_abs t) (nat_abs t) k refl

  worth_at_most : (x : Operand) → InOperand Number AnyHistory x → nat_abs (worth x) ≤ away_with x * 2 ^ 480
  worth_at_most (a_posit p) n = once (2 ^ 480) (posit_at_most p n)
  worth_at_most (a_product a b) n = once (2 ^ 480) (product_at_most a b n.0 n.1)
  worth_at_most (a_history k) n = total_at_most k n

-- what moves the total no farther away is not counted
pub not_away : (h : History) (s : Step) → nat_abs (total_of (h then s)) ≤ nat_abs (total_of h) → away_in (h then s) ≡ away_in h
unfolding total_of
not_away h (move d x) l = rw (le-ltb (nat_abs (total_of h)) (nat_abs (directed d (total_of h) (worth x))) l, add-zero)
not_away h negate l = add-zero (away_in h)
not_away h drop_sign l = add-zero (away_in h)
not_away h turn l = add-zero (away_in h)

-- ---- few moves away from 0 stay within the range

in_range : (M c x : ℕ) → 0 < M → x ≤ c * M → c < 2 ^ 31 → x < 2 ^ 31 * M
in_range M c x p h k = lt_of_le_of_lt h (mul-lt-mul_of_pos_right k p)

mutual
  pub few_away_stay : (h : History) → WithoutNar h → AwayAtMost (2 ^ 31 - 1) h → Stays h
  few_away_stay begun n a = tt
  few_away_stay (h then s) (n, m, o) (a, b, l) =
      (few_away_stay h n a, few_in_step s m b, in_range (2 ^ 480) (away_in (h then s)) (nat_abs (total_of (h then s))) (pow_pos 480) (total_at_most (h then s) (n, m, o)) (omega arith))

  few_in_step : (s : Step) → InStep Number AnyHistory s → InStep AnyPattern (λ g. away_in g ≤ 2 ^ 31 - 1) s → InStep AnyPattern (λ g. nat_abs (total_of g) < 2 ^ 511) s
  few_in_step (move d x) n a = few_in_operand x n a
  few_in_step negate n a = tt
  few_in_step drop_sign n a = tt
  few_in_step turn n a = tt

  few_in_operand : (x : Operand) → InOperand Number AnyHistory x → InOperand AnyPattern (λ g. away_in g ≤ 2 ^ 31 - 1) x → InOperand AnyPattern (λ g. nat_abs (total_of g) < 2 ^ 511) x
  few_in_operand (a_posit p) n a = tt
  few_in_operand (a_product b c) n a = (tt, tt)
  few_in_operand (a_history k) n a = few_away_stay k n a

-- ---- steps, by any reading of the word

at_most_chosen : (b : Bool) (m n : ℕ) → m ≤ n → cond b m 0 ≤ n
at_most_chosen true m n h = h
at_most_chosen false m n h = omega arith

module _ (c : Counting) where
  mutual
    pub away_counted : (h : History) → away_in h ≤ steps_in c h
    away_counted begun = lit≤ tt
    away_counted (h then s) = omega (arith, away_counted h, step_counted s (total_of h))

    step_counted : (s : Step) (t : ℤ) → away_by s t ≤ steps_by c s
    step_counted (move d x) t = at_most_chosen (ltb (nat_abs t) (nat_abs (directed d t (worth x)))) (away_with x) (steps_with c x) (operand_counted x)
    step_counted negate t = omega arith
    step_counted drop_sign t = omega arith
    step_counted turn t = omega arith

    operand_counted : (x : Operand) → away_with x ≤ steps_with c x
    operand_counted (a_posit p) = lit≤ tt
    operand_counted (a_product a b) = lit≤ tt
    operand_counted (a_history k) = omega (arith, away_counted k)

  mutual
    pub few_steps_few_away : (n : ℕ) (h : History) → steps_in c h ≤ n → AwayAtMost n h
    few_steps_few_away n begun l = tt
    few_steps_few_away n (h then s) l = (few_steps_few_away n h (omega arith), few_by_step n s (omega arith), le_trans (away_counted (h then s)) l)

    few_by_step : (n : ℕ) (s : Step) → steps_by c s ≤ n → InStep AnyPattern (λ g. away_in g ≤ n) s
    few_by_step n (move d x) l = few_with n x l
    few_by_step n negate l = tt
    few_by_step n drop_sign l = tt
    few_by_step n turn l = tt

    few_with : (n : ℕ) (x : Operand) → steps_with c x ≤ n → InOperand AnyPattern (λ g. away_in g ≤ n) x
    few_with n (a_posit p) l = tt
    few_with n (a_product a b) l = (tt, tt)
    few_with n (a_history k) l = few_steps_few_away n k (omega arith)
