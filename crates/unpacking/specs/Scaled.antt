-- A size as a significand at a scale, and what `scaled_of` answers for every pattern.
use Rattle.std.specs.Prelude.{◌≡◌, ℕ, ◌+◌, ◌*◌, ◌^◌, ◌<◌, ◌≤◌, ◌≢◌, ◌⊎◌}
use Rattle.posit.specs.Pattern.{nar, unsigned, size, least, unit}

-- A significand has 30 digits behind its leading one: in units of 2 ^ - scaled_unit the smallest size, 2 ^ - least, has the scale 0.
abbrev pub scaled_unit : ℕ
scaled_unit = least 2 31 + 30

-- the leading one of g is at bit 30, and the scale c is one that a posit may have
pub record InScale (c g : ℕ) : Type 0 where
  pub leading : 2 ^ 30 ≤ g
  pub below : g < 2 ^ 31
  pub high : c ≤ unit 2 31

-- the size of the pattern b is g * 2 ^ c units of 2 ^ - scaled_unit
pub record Scales (b c g : ℕ) : Type 0 where
  pub size_is : size 2 31 scaled_unit b ≡ g * 2 ^ c
  pub in_scale : InScale c g

-- a pattern that is neither zero nor NaR
abbrev pub Real : ℕ → Type 0
Real p = (p ≢ 0) × (p ≢ nar 31)

-- c and g are the scale and the significand of the pattern p; zero and NaR have neither, and the answer for them is 0 and 0
pub record IsScaled (p c g : ℕ) : Type 0 where
  pub of_real : Real p → Scales (unsigned 31 p) c g
  pub of_other : (p ≡ 0) ⊎ (p ≡ nar 31) → (c ≡ 0) × (g ≡ 0)
