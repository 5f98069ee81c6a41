-- An exact result before it is rounded (2.1): a size above 0, told without division and without roots, so that it can be compared with any
-- whole number v of units: a quotient by cross multiplication, a root by comparing squares.
use Rattle.std.specs.Prelude.{Bool, ◌≡◌, ℕ, ◌*◌, ◌<◌, leb, ltb}

-- x units; x / y units; the number of units whose square is x
pub data Exact : Type 0 where
  whole : ℕ → Exact
  ratio : ℕ → ℕ → Exact
  root : ℕ → Exact

-- a size above 0, and no division by 0
abbrev pub Sound : Exact → Type 0
Sound (whole x) = 0 < x
Sound (ratio x y) = (0 < x) × (0 < y)
Sound (root x) = 0 < x

-- to compare with v units, `told` of v is compared with `bound`
abbrev pub bound : Exact → ℕ
bound (whole x) = x
bound (ratio x y) = x
bound (root x) = x

abbrev pub told : Exact → ℕ → ℕ
told (whole x) v = v
told (ratio x y) v = v * y
told (root x) v = v * v

-- v units or more; more than v units: as tests
abbrev pub at_least : Exact → ℕ → Bool
at_least x v = leb (told x v) (bound x)

abbrev pub above : Exact → ℕ → Bool
above x v = ltb (told x v) (bound x)

-- more than v units, fewer, and just v units: as facts
abbrev pub Above : Exact → ℕ → Type 0
Above x v = told x v < bound x

abbrev pub Under : Exact → ℕ → Type 0
Under x v = bound x < told x v

abbrev pub Just : Exact → ℕ → Type 0
Just x v = told x v ≡ bound x
