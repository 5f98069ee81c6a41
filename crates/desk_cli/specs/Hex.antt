-- A hexadecimal digit and its value.
use Rattle.std.specs.Prelude.{ℕ, ◌-◌, ◌≤◌, ◌<◌, ◌≡◌, Option, Some, None, IfSome}

-- v is the value of the digit whose code is c: `0` to `9`, `A` to `F`, `a` to `f`; and there is none where c is none of these
pub record DigitOf (c : ℕ) (v : Option ℕ) : Type 0 where
  pub small : IfSome v (λ d. d < 16)
  pub figure : 48 ≤ c → c ≤ 57 → v ≡ Some (c - 48)
  pub capital : 65 ≤ c → c ≤ 70 → v ≡ Some (c - 55)
  pub lower : 97 ≤ c → c ≤ 102 → v ≡ Some (c - 87)
  pub before_figures : c < 48 → v ≡ None
  pub before_capitals : 57 < c → c < 65 → v ≡ None
  pub before_lowers : 70 < c → c < 97 → v ≡ None
  pub after_lowers : 102 < c → v ≡ None
