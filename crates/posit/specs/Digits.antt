-- A number in digits to a base, the first digit the most significant, and two's complement (4.1).
use Rattle.std.specs.Prelude.{Bool, true, false, cond, ◌&&◌, List, [], ◌∷◌, ℕ, zero, suc, ◌+◌, ◌-◌, ◌*◌, ◌/◌, ◌%◌, ◌^◌, ◌<◌, ℤ, pos, negsuc, eqb, ltb, length}

-- the c lowest digits of n to the base B
unfoldable pub digits : ℕ → ℕ → ℕ → List ℕ
digits B zero n = []
digits B (suc c) n = n / B ^ c % B ∷ digits B c n

-- the number that a list of digits is
unfoldable pub number : ℕ → List ℕ → ℕ
number B [] = 0
number B (d ∷ ds) = d * B ^ length ds + number B ds

-- each digit is below the base
abbrev pub InBase : ℕ → List ℕ → Type 0
InBase B [] = Unit {0}
InBase B (d ∷ ds) = (d < B) × InBase B ds

-- two lists are the same, digit by digit
unfoldable pub same : List ℕ → List ℕ → Bool
same [] [] = true
same [] (y ∷ ys) = false
same (x ∷ xs) [] = false
same (x ∷ xs) (y ∷ ys) = eqb x y && same xs ys

-- n, below 2 * H, read in two's complement: from the half H on it stands for n - 2 * H
unfoldable pub reading : ℕ → ℕ → ℤ
reading H n = cond (ltb n H) (pos n) (negsuc (2 * H - suc n))

-- the number below 2 * H that stands for z in two's complement
unfoldable pub complement : ℕ → ℤ → ℕ
complement H (pos n) = n
complement H (negsuc n) = 2 * H - suc n
