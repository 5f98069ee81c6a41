-- How the operations hang together: a NaR operand, a zero operand, and the forms that subtract, which are those that add on the opposite of an operand. So
-- code needs one addition of two terms, and one product.
use mathlib.Core.Path.{◌≡◌, sym, ap, ap₂, ◌∙◌}
use mathlib.Core.Logic.{◌≢◌}
use mathlib.Core.Bool.{Bool, true, false, ◌||◌, or-true, true≢false}
use Prim.Native.Nat.{ℕ, zero, suc, ◌^◌, ◌<◌}
use native.Mathlib.Nat.{sub-zero, mod_self, pow-suc}
use native.Mathlib.Decide.{dec_lt, ℕ_discrete}
use native.Mathlib.Omega.{arith}
use borrow.Author.Tests.{eq-eqb, ne_eqb}
use lib.Arith.{lt_of_le-ne}
use lib.Dec.{eqb}
use lib.IntN.{ℤ, pos, neg_ℤ, ◌+ℤ◌, ◌-ℤ◌, ◌*ℤ◌, neg_ℤ-neg_ℤ, +ℤ_idl, +ℤ_idr, +ℤ_comm, zero-*ℤ, *ℤ-zero}
use lib.Pow.{pow_pos}
use Rattle.posit.specs.Pattern.{nar, opposite, size, value, least, unit}
use Rattle.posit.specs.Operation.{unless_nar, exact, exact_product, rounded_here, sum, difference, product, quotient, fused_sum, fused_difference, product_taken}
use Rattle.posit.proofs.Signs.{negated_product}
use Rattle.posit.proofs.Rounding.{unit_fine}
use Rattle.posit.proofs.Value.{opposite_is, opposite_twice, opposite_positive, value_zero, value_positive, value_negative, rounded_own}

-- ---- the opposite of a pattern has the opposite value

module _ (w : ℕ) where
  pub opposite_zero : opposite w 0 ≡ 0
  unfolding opposite
  opposite_zero = rw sub-zero (mod_self (2 ^ suc w))

  pub opposite_nar : opposite w (nar w) ≡ nar w
  opposite_nar = opposite_is w (nar w) (pow_pos w) (omega (arith, pow-suc 2 w, pow_pos w)) ∙ omega (arith, pow-suc 2 w)

  pub opposite_real : (p : ℕ) → p < 2 ^ suc w → p ≢ nar w → opposite w p ≢ nar w
  opposite_real zero k n e = omega (arith, sym opposite_zero ∙ e, pow_pos w)
  opposite_real (suc p) k n e = n (sym (opposite_twice w (suc p) (omega arith) k) ∙ ap (opposite w) e ∙ opposite_nar)

module _ (es w u : ℕ) where
  pub value_opposite : (p : ℕ) → p < 2 ^ suc w → p ≢ nar w → value es w u (opposite w p) ≡ neg_ℤ (value es w u p)
  value_opposite zero k n = ap (value es w u) (opposite_zero w) ∙ value_zero es w u ∙ ap neg_ℤ (sym (value_zero es w u))
  value_opposite (suc p) k n = go (dec_lt (suc p) (2 ^ w))
    where
      twice : opposite w (opposite w (suc p)) ≡ suc p
      twice = opposite_twice w (suc p) (omega arith) k

      go : Dec (suc p < 2 ^ w) → value es w u (opposite w (suc p)) ≡ neg_ℤ (value es w u (suc p))
      go (yes l) =
          let below : nar w < opposite w (suc p) = rw (opposite_is w (suc p) (omega arith) k) (omega (arith, pow-suc 2 w)) in
          value_negative es w u (opposite w (suc p)) below
          ∙ ap (λ (b : ℕ). neg_ℤ (pos (size es w u b))) twice
          ∙ ap neg_ℤ (sym (value_positive es w u (suc p) (omega arith, l)))
      go (no l) =
          let above : nar w < suc p = lt_of_le-ne (omega arith) (λ e. n (sym e)) in
          value_positive es w u (opposite w (suc p)) (opposite_positive w (suc p) above k)
          ∙ sym (neg_ℤ-neg_ℤ (pos (size es w u (opposite w (suc p)))))
          ∙ ap neg_ℤ (sym (value_negative es w u (suc p) above))

-- ---- the operations

module _ (es w : ℕ) where
  -- a NaR operand
  nar_gives : (a r : ℕ) → a ≡ nar w → unless_nar es w a r ≡ nar w
  nar_gives a r e = rw (eq-eqb a (nar w) e)

  real_gives : (a r : ℕ) → a ≢ nar w → unless_nar es w a r ≡ r
  real_gives a r n = rw (ne_eqb a (nar w) n)

  nar_through : (a : ℕ) {r : ℕ} → r ≡ nar w → unless_nar es w a r ≡ nar w
  nar_through a {r} e = go (ℕ_discrete a (nar w))
    where
      go : Dec (a ≡ nar w) → unless_nar es w a r ≡ nar w
      go (yes h) = nar_gives a r h
      go (no h) = real_gives a r h ∙ e

  -- one of the first two operands is NaR, as a test
  abbrev pub either_nar : ℕ → ℕ → Bool
  either_nar a b = eqb a (nar w) || eqb b (nar w)

  pub neither_nar : (a b : ℕ) → either_nar a b ≡ false → (a ≢ nar w) × (b ≢ nar w)
  neither_nar a b e = go (ℕ_discrete a (nar w)) (ℕ_discrete b (nar w))
    where
      go : Dec (a ≡ nar w) → Dec (b ≡ nar w) → (a ≢ nar w) × (b ≢ nar w)
      go (yes h) k = absurd (true≢false (sym (ap (λ (t : Bool). t || eqb b (nar w)) (eq-eqb a (nar w) h)) ∙ e))
      go (no h) (yes k) = absurd (true≢false (sym (or-true (eqb a (nar w))) ∙ ap (λ (t : Bool). eqb a (nar w) || t) (sym (eq-eqb b (nar w) k)) ∙ e))
      go (no h) (no k) = (h, k)

  either_gives : (a b r : ℕ) → either_nar a b ≡ true → unless_nar es w a (unless_nar es w b r) ≡ nar w
  either_gives a b r e = go (ℕ_discrete a (nar w)) (ℕ_discrete b (nar w))
    where
      go : Dec (a ≡ nar w) → Dec (b ≡ nar w) → unless_nar es w a (unless_nar es w b r) ≡ nar w
      go (yes h) k = nar_gives a _ h
      go (no h) (yes k) = nar_through a (nar_gives b r k)
      go (no h) (no k) = absurd (true≢false (sym e ∙ ap₂ ◌||◌ (ne_eqb a (nar w) h) (ne_eqb b (nar w) k)))

  module _ (a b : ℕ) where
    pub sum_nar : either_nar a b ≡ true → sum es w a b ≡ nar w
    unfolding sum
    sum_nar e = either_gives a b _ e

    pub sum_real : a ≢ nar w → b ≢ nar w → sum es w a b ≡ rounded_here es w (exact es w a +ℤ exact es w b)
    unfolding sum
    sum_real m n = real_gives a _ m ∙ real_gives b _ n

    pub product_nar : either_nar a b ≡ true → product es w a b ≡ nar w
    unfolding product
    product_nar e = either_gives a b _ e

    pub product_real : a ≢ nar w → b ≢ nar w → product es w a b ≡ rounded_here es w (exact_product es w a b)
    unfolding product
    product_real m n = real_gives a _ m ∙ real_gives b _ n

    pub quotient_nar : either_nar a b ≡ true → quotient es w a b ≡ nar w
    unfolding quotient
    quotient_nar e = either_gives a b _ e

    module _ (c : ℕ) where
      pub fused_nar : either_nar a b ≡ true → fused_sum es w a b c ≡ nar w
      unfolding fused_sum
      fused_nar e = either_gives a b _ e

      pub fused_third : c ≡ nar w → fused_sum es w a b c ≡ nar w
      unfolding fused_sum
      fused_third e = nar_through a (nar_through b (nar_gives c _ e))

      pub fused_real : a ≢ nar w → b ≢ nar w → c ≢ nar w → fused_sum es w a b c ≡ rounded_here es w (exact_product es w a b +ℤ exact es w c)
      unfolding fused_sum
      fused_real l m n = real_gives a _ l ∙ real_gives b _ m ∙ real_gives c _ n

  -- the exact value of 0 and of the opposite, and a product with either
  pub exact_zero : exact es w 0 ≡ pos 0
  unfolding exact
  exact_zero = value_zero es w (unit es w)

  pub exact_opposite : (p : ℕ) → p < 2 ^ suc w → p ≢ nar w → exact es w (opposite w p) ≡ neg_ℤ (exact es w p)
  unfolding exact
  exact_opposite = value_opposite es w (unit es w)

  pub product_zero_left : (b : ℕ) → exact_product es w 0 b ≡ pos 0
  unfolding exact_product
  product_zero_left b = ap (λ (z : ℤ). z *ℤ value es w (least es w) b) (value_zero es w (least es w)) ∙ zero-*ℤ (value es w (least es w) b)

  pub product_zero_right : (a : ℕ) → exact_product es w a 0 ≡ pos 0
  unfolding exact_product
  product_zero_right a = ap (λ (z : ℤ). value es w (least es w) a *ℤ z) (value_zero es w (least es w)) ∙ *ℤ-zero (value es w (least es w) a)

  pub product_opposite : (a b : ℕ) → a < 2 ^ suc w → a ≢ nar w → exact_product es w (opposite w a) b ≡ neg_ℤ (exact_product es w a b)
  unfolding exact_product
  product_opposite a b k n =
      ap (λ (z : ℤ). z *ℤ value es w (least es w) b) (value_opposite es w (least es w) a k n)
      ∙ negated_product (value es w (least es w) a) (value es w (least es w) b)

  -- ---- what subtracts is what adds, on an opposite

  opposite_operand : (x : ℤ) (b : ℕ) → b < 2 ^ suc w
      → unless_nar es w b (rounded_here es w (x -ℤ exact es w b)) ≡ unless_nar es w (opposite w b) (rounded_here es w (x +ℤ exact es w (opposite w b)))
  opposite_operand x b k = go (ℕ_discrete b (nar w))
    where
      go : Dec (b ≡ nar w)
          → unless_nar es w b (rounded_here es w (x -ℤ exact es w b))
          ≡ unless_nar es w (opposite w b) (rounded_here es w (x +ℤ exact es w (opposite w b)))
      go (yes e) = nar_gives b _ e ∙ sym (nar_gives (opposite w b) _ (ap (opposite w) e ∙ opposite_nar w))
      go (no n) =
          real_gives b _ n
          ∙ ap (λ (z : ℤ). rounded_here es w (x +ℤ z)) (sym (exact_opposite b k n))
          ∙ sym (real_gives (opposite w b) _ (opposite_real w b k n))

  pub difference_is : (a b : ℕ) → b < 2 ^ suc w → difference es w a b ≡ sum es w a (opposite w b)
  unfolding difference sum
  difference_is a b k = ap (unless_nar es w a) (opposite_operand (exact es w a) b k)

  pub fused_difference_is : (a b c : ℕ) → c < 2 ^ suc w → fused_difference es w a b c ≡ fused_sum es w a b (opposite w c)
  unfolding fused_difference fused_sum
  fused_difference_is a b c k = ap (λ (r : ℕ). unless_nar es w a (unless_nar es w b r)) (opposite_operand (exact_product es w a b) c k)

  -- the order of the operands does not matter for NaR
  nar_swap : (a b r : ℕ) → unless_nar es w a (unless_nar es w b r) ≡ unless_nar es w b (unless_nar es w a r)
  nar_swap a b r = go (ℕ_discrete a (nar w))
    where
      go : Dec (a ≡ nar w) → unless_nar es w a (unless_nar es w b r) ≡ unless_nar es w b (unless_nar es w a r)
      go (yes e) = nar_gives a _ e ∙ sym (nar_through b (nar_gives a r e))
      go (no n) = real_gives a _ n ∙ ap (unless_nar es w b) (sym (real_gives a r n))

  pub product_taken_is : (c a b : ℕ) → a < 2 ^ suc w → product_taken es w c a b ≡ fused_sum es w (opposite w a) b c
  unfolding product_taken fused_sum
  product_taken_is c a b k = nar_swap c a _ ∙ ap (unless_nar es w a) (nar_swap c b _) ∙ go (ℕ_discrete a (nar w))
    where
      rest : ℤ → ℕ
      rest x = unless_nar es w b (unless_nar es w c (rounded_here es w x))

      go : Dec (a ≡ nar w)
          → unless_nar es w a (rest (exact es w c -ℤ exact_product es w a b)) ≡ unless_nar es w (opposite w a) (rest (exact_product es w (opposite w a) b +ℤ exact es w c))
      go (yes e) = nar_gives a _ e ∙ sym (nar_gives (opposite w a) _ (ap (opposite w) e ∙ opposite_nar w))
      go (no n) =
          real_gives a _ n
          ∙ ap rest (+ℤ_comm (exact es w c) (neg_ℤ (exact_product es w a b)) ∙ ap (λ (z : ℤ). z +ℤ exact es w c) (sym (product_opposite a b k n)))
          ∙ sym (real_gives (opposite w a) _ (opposite_real w a k n))

  -- ---- a zero operand: the other one is the answer, since its own value is rounded to it

  module _ (wide : 1 < w) where
    pub own : (p : ℕ) → p < 2 ^ suc w → p ≢ nar w → rounded_here es w (exact es w p) ≡ p
    unfolding exact
    own p k n = rounded_own es w (unit es w) (omega arith) (unit_fine es w wide) p k n

    pub zero_plus : {z : ℤ} → z ≡ pos 0 → (p : ℕ) → p < 2 ^ suc w → p ≢ nar w → rounded_here es w (z +ℤ exact es w p) ≡ p
    zero_plus e p k n = ap (λ (x : ℤ). rounded_here es w (x +ℤ exact es w p)) e ∙ ap (rounded_here es w) (+ℤ_idl (exact es w p)) ∙ own p k n

  pub plus_zero : (x : ℤ) → rounded_here es w (x +ℤ exact es w 0) ≡ rounded_here es w x
  plus_zero x = ap (λ (z : ℤ). rounded_here es w (x +ℤ z)) exact_zero ∙ ap (rounded_here es w) (+ℤ_idr x)
