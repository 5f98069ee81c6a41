-- Rounding (2): which pattern an exact result is given. `round` computes it. `Rounds` says what it is in the standard's words, and is all that
-- a reader has to believe: that `round` meets it, and that it has one answer, is shown in proofs/.
use Rattle.std.specs.Prelude.{Bool, true, cond, ◌≡◌, ◌⊎◌, ℕ, zero, suc, ◌+◌, ◌-◌, ◌*◌, ◌%◌, ◌^◌, ◌<◌, ℤ, pos, negsuc, eqb}
use Rattle.posit.specs.Pattern.{Positive, size, opposite}
use Rattle.posit.specs.Exact.{Exact, whole, at_least, above, Above, Under, Just}

-- (2.4) v, the value of the posit one digit longer, the pattern p followed by 1
unfoldable pub cut : ℕ → ℕ → ℕ → ℕ → ℕ
cut es w u p = size es (suc w) u (2 * p + 1)

-- ---- the relation

-- (2.4) x lies between the sizes of p and q, and no posit between those
pub record Between (es w u : ℕ) (x : Exact) (p q : ℕ) : Type 0 where
  pub from : Positive w p
  pub to : Positive w q
  pub over : Above x (size es w u p)
  pub under : Under x (size es w u q)
  pub next : (r : ℕ) → Positive w r → size es w u p < size es w u r → size es w u r < size es w u q → ⊥

-- (2.5) below v, or at v with an even pattern
abbrev pub Down : ℕ → ℕ → ℕ → Exact → ℕ → Type 0
Down es w u x p = (Under x (cut es w u p)) ⊎ ((Just x (cut es w u p)) × (p % 2 ≡ 0))

pub data Rounds (es w u : ℕ) (x : Exact) : ℕ → Type 0 where
  -- (2.2) an exact pattern is itself
  itself : (p : ℕ) → Positive w p → Just x (size es w u p) → Rounds es w u x p
  -- (2.3) above the largest size: the largest pattern
  largest : Above x (size es w u (2 ^ w - 1)) → Rounds es w u x (2 ^ w - 1)
  -- (2.3) above 0 and below the smallest size: the smallest pattern, never 0
  smallest : Under x (size es w u 1) → Rounds es w u x 1
  -- (2.5) otherwise the lower of the two neighbours, or else the upper one
  lower : (p q : ℕ) → Between es w u x p q → Down es w u x p → Rounds es w u x p
  upper : (p q : ℕ) → Between es w u x p q → (Down es w u x p → ⊥) → Rounds es w u x q

-- ---- the function

-- the greatest pattern whose size is at most x, or 0: its d lowest digits are still to be settled, the others are p
unfoldable pub search_down : ℕ → ℕ → ℕ → Exact → ℕ → ℕ → ℕ
search_down es w u x zero p = p
search_down es w u x (suc d) p = search_down es w u x d (cond (at_least x (size es w u (p + 2 ^ d))) (p + 2 ^ d) p)

unfoldable pub below : ℕ → ℕ → ℕ → Exact → ℕ
below es w u x = search_down es w u x w 0

-- x lies from p up to the next pattern: above the cut the next, at it the even one of the two, else p
unfoldable pub nearer : ℕ → ℕ → ℕ → Exact → ℕ → ℕ
nearer es w u x p = cond (above x (cut es w u p)) (suc p) (cond (at_least x (cut es w u p)) (p + p % 2) p)

unfoldable pub round : ℕ → ℕ → ℕ → Exact → ℕ
round es w u x =
    let p = below es w u x in
    cond (eqb p 0) 1 (cond (eqb p (2 ^ w - 1)) p (nearer es w u x p))

-- (2.6) a result below 0 is the opposite of its size's rounding
unfoldable pub signed : ℕ → Bool → ℕ → ℕ
signed w negative p = cond negative (opposite w p) p

-- (2.6) the rounding of a whole number of units with its sign
unfoldable pub rounded : ℕ → ℕ → ℕ → ℤ → ℕ
rounded es w u (pos zero) = 0
rounded es w u (pos (suc n)) = round es w u (whole (suc n))
rounded es w u (negsuc n) = signed w true (round es w u (whole (suc n)))
