-- A history of the accumulator. It is a tree: begun clear, or a history and one step more; what a step adds or takes may itself be a history, run in an accumulator of its
-- own. The exact total comes from the history alone, by exact arithmetic.
use Rattle.std.specs.Prelude.{◌≢◌, cond, List, [], ◌∷◌, ℕ, ◌+◌, ◌^◌, ◌≤◌, ◌<◌, ltb, ℤ, pos, neg_ℤ, nat_abs, ◌+ℤ◌, ◌-ℤ◌}
use Rattle.posit.specs.Pattern.{nar}
use Rattle.posit.specs.Operation.{exact, exact_product}

-- ---- histories

pub data Direction : Type 0 where
  added : Direction
  taken : Direction

infixl 20 ◌then◌
mutual
  -- begun clear, or a history and one step more
  pub data History : Type 0 where
    begun : History
    ◌then◌ : History → Step → History

  -- an operand added or taken; the negative; the sign dropped; or the image written and read back, which is a turn through the image
  pub data Step : Type 0 where
    move : Direction → Operand → Step
    negate : Step
    drop_sign : Step
    turn : Step

  -- by patterns one posit, or the exact product of two; or the total of another history
  pub data Operand : Type 0 where
    a_posit : ℕ → Operand
    a_product : ℕ → ℕ → Operand
    a_history : History → Operand

-- ---- the exact total, in units of 2 ^ - 240

abbrev pub directed : Direction → ℤ → ℤ → ℤ
directed added t x = t +ℤ x
directed taken t x = t -ℤ x

unfoldable mutual
  pub total_of : History → ℤ
  total_of begun = pos 0
  total_of (h then s) = moves s (total_of h)

  -- the total after a step from t
  pub moves : Step → ℤ → ℤ
  moves (move d x) t = directed d t (worth x)
  moves negate t = neg_ℤ t
  moves drop_sign t = pos (nat_abs t)
  moves turn t = t

  -- what an operand is worth
  pub worth : Operand → ℤ
  worth (a_posit p) = exact 2 31 p
  worth (a_product a b) = exact_product 2 31 a b
  worth (a_history k) = total_of k

-- ---- what is said throughout a history: L of every pattern, and P after every step; of those that it joins too

abbrev mutual
  pub Throughout : (ℕ → Type 0) → (History → Type 0) → History → Type 0
  Throughout L P begun = Unit {0}
  Throughout L P (h then s) = Throughout L P h × InStep L P s × P (h then s)

  pub InStep : (ℕ → Type 0) → (History → Type 0) → Step → Type 0
  InStep L P (move d x) = InOperand L P x
  InStep L P negate = Unit {0}
  InStep L P drop_sign = Unit {0}
  InStep L P turn = Unit {0}

  pub InOperand : (ℕ → Type 0) → (History → Type 0) → Operand → Type 0
  InOperand L P (a_posit p) = L p
  InOperand L P (a_product a b) = L a × L b
  InOperand L P (a_history k) = Throughout L P k

-- nothing is said of the patterns, or after the steps
abbrev pub AnyPattern : ℕ → Type 0
AnyPattern p = Unit {0}

abbrev pub AnyHistory : History → Type 0
AnyHistory h = Unit {0}

-- ---- "without NaR"

abbrev pub OfPatterns : History → Type 0
OfPatterns h = Throughout (λ p. p < 2 ^ 32) AnyHistory h

-- a pattern of 32 bits that is not NaR
abbrev pub Number : ℕ → Type 0
Number p = (p < 2 ^ 32) × (p ≢ nar 31)

abbrev pub WithoutNar : History → Type 0
WithoutNar h = Throughout Number AnyHistory h

-- ---- "in range after every step"

-- within plus or minus (2 ^ 511 - 1)
abbrev pub Within : ℤ → Type 0
Within t = nat_abs t < 2 ^ 511

-- the total stays below H in size after every step
abbrev pub StaysBelow : ℕ → History → Type 0
StaysBelow H h = Throughout AnyPattern (λ g. nat_abs (total_of g) < H) h

abbrev pub Stays : History → Type 0
Stays h = StaysBelow (2 ^ 511) h

-- both premises, of a history and of an operand
abbrev pub Keeps : History → Type 0
Keeps h = WithoutNar h × Stays h

abbrev pub Kept : Operand → Type 0
Kept x = InOperand Number AnyHistory x × InOperand AnyPattern (λ g. Within (total_of g)) x

-- ---- counting

-- How many times a posit or a product moves the total away from 0, in the history and in those that it joins: one that is joined counts once for each time that it is used,
-- and not at all where it moves the total no farther away.
abbrev mutual
  pub away_in : History → ℕ
  away_in begun = 0
  away_in (h then s) = away_in h + away_by s (total_of h)

  pub away_by : Step → ℤ → ℕ
  away_by (move d x) t = cond (ltb (nat_abs t) (nat_abs (directed d t (worth x)))) (away_with x) 0
  away_by negate t = 0
  away_by drop_sign t = 0
  away_by turn t = 0

  pub away_with : Operand → ℕ
  away_with (a_posit p) = 1
  away_with (a_product a b) = 1
  away_with (a_history k) = away_in k

-- at most n such moves up to any step, also of a history that is joined
abbrev pub AwayAtMost : ℕ → History → Type 0
AwayAtMost n h = Throughout AnyPattern (λ g. away_in g ≤ n) h

-- A reading of 'step': what each of these counts beside the operands. A posit or a product that is added or taken counts 1.
pub record Counting : Type 0 where
  pub of_join : ℕ
  pub of_negation : ℕ
  pub of_sign_dropped : ℕ
  pub of_turn : ℕ

-- the steps of a history and of all that it joins together, each of these once for each time that it is used
abbrev mutual
  pub steps_in : Counting → History → ℕ
  steps_in c begun = 0
  steps_in c (h then s) = steps_in c h + steps_by c s

  pub steps_by : Counting → Step → ℕ
  steps_by c (move d x) = steps_with c x
  steps_by c negate = c.of_negation
  steps_by c drop_sign = c.of_sign_dropped
  steps_by c turn = c.of_turn

  pub steps_with : Counting → Operand → ℕ
  steps_with c (a_posit p) = 1
  steps_with c (a_product a b) = 1
  steps_with c (a_history k) = c.of_join + steps_in c k

-- ---- turns are no steps of the total

-- the history without its turns through the image, in those that it joins too
abbrev mutual
  pub plain : History → History
  plain begun = begun
  plain (h then s) = plain_step s (plain h)

  pub plain_step : Step → History → History
  plain_step (move d x) h = h then move d (plain_operand x)
  plain_step negate h = h then negate
  plain_step drop_sign h = h then drop_sign
  plain_step turn h = h

  pub plain_operand : Operand → Operand
  plain_operand (a_posit p) = a_posit p
  plain_operand (a_product a b) = a_product a b
  plain_operand (a_history k) = a_history (plain k)

-- ---- histories that are made of others

-- the total of k added to that of h
abbrev pub joined : History → History → History
joined h k = h then move added (a_history k)

-- the products of the pairs of two lists, added from the front, of a batch
abbrev pub products : History → List ℕ → List ℕ → History
products h [] ys = h
products h (x ∷ xs) [] = h
products h (x ∷ xs) (y ∷ ys) = products (h then move added (a_product x y)) xs ys
