-- The greatest pattern whose size is at most x: `below` finds it digit by digit, and there is one only.
use mathlib.Core.Path.{◌≡◌}
use Prim.Native.Nat.{ℕ, zero, suc, ◌+◌, ◌^◌, ◌≤◌, ◌<◌}
use native.Mathlib.Nat.{pow-suc, le_antisymm}
use native.Mathlib.Numerals.{add-one}
use native.Mathlib.Decide.{dec_lt}
use native.Mathlib.Omega.{arith}
use borrow.Author.Tests.{le-leb, lt-leb}
use Rattle.posit.specs.Pattern.{size, least}
use Rattle.posit.specs.Exact.{Exact, Sound, bound, told, Under}
use Rattle.posit.specs.Rounding.{search_down, below}
use Rattle.posit.proofs.Compare.{AtLeast, told_le}
use Rattle.posit.proofs.Size.{size_le}

-- x is at least p's size, unless p is 0, and under the next one's, unless there is none
pub record Brackets (es w u : ℕ) (x : Exact) (p : ℕ) : Type 0 where
  pub short : p < 2 ^ w
  pub low : 0 < p → AtLeast x (size es w u p)
  pub high : suc p < 2 ^ w → Under x (size es w u (suc p))

module _ (es w u : ℕ) (x : Exact) where
  found : (d p : ℕ) → p + 2 ^ d ≤ 2 ^ w → (0 < p → AtLeast x (size es w u p)) → (p + 2 ^ d < 2 ^ w → Under x (size es w u (p + 2 ^ d)))
      → Brackets es w u x (search_down es w u x d p)
  unfolding search_down
  found zero p s l h = record { short = omega arith; low = l; high = rw add-one at h }
  found (suc d) p s l h = go (found d) (dec_lt (bound x) (told x (size es w u (p + 2 ^ d))))
    where
      wide : p + 2 ^ d + 2 ^ d ≡ p + 2 ^ suc d
      wide = omega (arith, pow-suc 2 d)

      go : ((p : ℕ) → p + 2 ^ d ≤ 2 ^ w → (0 < p → AtLeast x (size es w u p)) → (p + 2 ^ d < 2 ^ w → Under x (size es w u (p + 2 ^ d))) → Brackets es w u x (search_down es w u x d p))
          → Dec (bound x < told x (size es w u (p + 2 ^ d)))
          → Brackets es w u x (search_down es w u x (suc d) p)
      go more (yes q) = rw (lt-leb (told x (size es w u (p + 2 ^ d))) (bound x) q) (more p (omega (arith, wide)) l (λ _. q))
      go more (no q) =
          rw (le-leb (told x (size es w u (p + 2 ^ d))) (bound x) (omega arith))
          (more (p + 2 ^ d) (rw wide s) (λ _. omega arith) (rw wide h))

  pub below_brackets : Brackets es w u x (below es w u x)
  unfolding below
  below_brackets = found w 0 (omega arith) (λ z. omega arith) (λ z. omega arith)

  module _ (sound : Sound x) (fine : least es w ≤ u) where
    -- a pattern whose size is at most x is no greater than one that brackets x
    pub bracket_most : {p q : ℕ} → Brackets es w u x p → q < 2 ^ w → AtLeast x (size es w u q) → q ≤ p
    bracket_most {p} {q} b k h = go (dec_lt p q)
      where
        go : Dec (p < q) → q ≤ p
        go (yes l) = absurd (omega (arith, b.high (omega arith), told_le x sound (size_le es u w fine (suc p) q (omega arith) l k)))
        go (no l) = omega arith

    bracket_le : {p q : ℕ} → Brackets es w u x p → Brackets es w u x q → q ≤ p
    bracket_le {p} {q} b c = go (dec_lt 0 q)
      where
        go : Dec (0 < q) → q ≤ p
        go (yes l) = bracket_most b c.short (c.low l)
        go (no l) = omega arith

    pub bracket_one : {p q : ℕ} → Brackets es w u x p → Brackets es w u x q → p ≡ q
    bracket_one b c = le_antisymm (bracket_le c b) (bracket_le b c)
