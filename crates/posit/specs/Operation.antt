-- The operations (3): each is the rounding of the exact result, or NaR. Sums, products and fused results are whole numbers of units of
-- 2 ^ - unit; a quotient is told by cross multiplication and a root by its square.
use Rattle.std.specs.Prelude.{cond, ℕ, ◌*◌, ◌^◌, ℤ, ◌+ℤ◌, ◌-ℤ◌, ◌*ℤ◌, eqb}
use Rattle.std.specs.Bool.{xor}
use Rattle.posit.specs.Pattern.{nar, is_negative, unsigned, size, value, least, unit}
use Rattle.posit.specs.Exact.{ratio, root}
use Rattle.posit.specs.Rounding.{round, rounded, signed}

module _ (es w : ℕ) where
  -- (3.1) a NaR operand gives NaR
  abbrev pub unless_nar : ℕ → ℕ → ℕ
  unless_nar a r = cond (eqb a (nar w)) (nar w) r

  -- a pattern's value in units of 2 ^ - unit
  unfoldable pub exact : ℕ → ℤ
  exact a = value es w (unit es w) a

  -- (3.2) the exact product of two patterns, in units of 2 ^ - unit
  unfoldable pub exact_product : ℕ → ℕ → ℤ
  exact_product a b = value es w (least es w) a *ℤ value es w (least es w) b

  abbrev pub rounded_here : ℤ → ℕ
  rounded_here x = rounded es w (unit es w) x

  -- (3.3)
  unfoldable pub sum : ℕ → ℕ → ℕ
  sum a b = unless_nar a (unless_nar b (rounded_here (exact a +ℤ exact b)))

  unfoldable pub difference : ℕ → ℕ → ℕ
  difference a b = unless_nar a (unless_nar b (rounded_here (exact a -ℤ exact b)))

  unfoldable pub product : ℕ → ℕ → ℕ
  product a b = unless_nar a (unless_nar b (rounded_here (exact_product a b)))

  -- (3.4) division by zero gives NaR
  unfoldable pub quotient : ℕ → ℕ → ℕ
  quotient a b =
      let u = unit es w in
      let x = ratio (size es w u (unsigned w a) * 2 ^ u) (size es w u (unsigned w b)) in
      let q = cond (eqb a 0) 0 (signed w (xor (is_negative w a) (is_negative w b)) (round es w u x)) in
      unless_nar a (unless_nar b (cond (eqb b 0) (nar w) q))

  -- (3.5) the root of a negative gives NaR
  unfoldable pub square_root : ℕ → ℕ
  square_root a =
      let u = unit es w in
      let r = round es w u (root (size es w u a * 2 ^ u)) in
      unless_nar a (cond (is_negative w a) (nar w) (cond (eqb a 0) 0 r))

  -- (3.6) a * b + c, a * b - c and c - a * b, each rounded once
  unfoldable pub fused_sum : ℕ → ℕ → ℕ → ℕ
  fused_sum a b c = unless_nar a (unless_nar b (unless_nar c (rounded_here (exact_product a b +ℤ exact c))))

  unfoldable pub fused_difference : ℕ → ℕ → ℕ → ℕ
  fused_difference a b c = unless_nar a (unless_nar b (unless_nar c (rounded_here (exact_product a b -ℤ exact c))))

  unfoldable pub product_taken : ℕ → ℕ → ℕ → ℕ
  product_taken c a b = unless_nar c (unless_nar a (unless_nar b (rounded_here (exact c -ℤ exact_product a b))))
