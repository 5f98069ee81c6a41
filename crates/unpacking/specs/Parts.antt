-- What unpacking answers (1.9): zero, NaR, or the sign (true below 0), k, e, and the significand 1 + f with its leading one at bit w - 1.
use Rattle.std.specs.Prelude.{ℕ, ◌+◌, ◌-◌, ◌*◌, ◌^◌, Bool, cond, ℤ, ◌==◌}
use Rattle.posit.specs.Pattern.{nar, is_negative, unsigned, regime, left, exponent, fraction}

pub data Parts : Type 0 where
  is_zero : Parts
  is_nar : Parts
  is_real : Bool → ℤ → ℕ → ℕ → Parts

-- of a pattern b above 0, or with its sign off
abbrev pub significand : ℕ → ℕ → ℕ → ℕ
significand es w b = 2 ^ (w - 1) + fraction es w b * 2 ^ (w - 1 - left w b)

unfoldable pub parts : ℕ → ℕ → ℕ → Parts
parts es w p =
    let b = unsigned w p in
    cond (p == 0) is_zero (cond (p == nar w) is_nar (is_real (is_negative w p) (regime w b) (exponent es w b) (significand es w b)))
