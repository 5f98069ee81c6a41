-- What the parts of a pattern tell of it: the significand times a power of two is the size, with the sign it is the value, and each part has a
-- range. `parts_tell` reads it off the answer of `parts`.
use Rattle.std.proofs.Common.{◌≡◌, ℕ, suc, ◌+◌, ◌-◌, ◌*◌, ◌^◌, ◌<◌, ◌≤◌, Bool, ◌≢◌, ℤ, pos, negsuc, nat_abs, sym, refl, ap, ◌∙◌, mod-lt, mul_assoc, add-mul, mul-le-mul_left, pow-suc, arith, pow_pos, pow-add, eq-eqb, ne_eqb}
use native.Mathlib.Decide.{ℕ_discrete}
use Rattle.posit.specs.Pattern.{nar, is_negative, unsigned, Positive, regime, left, exponent, fraction, raised, size, value, least}
use Rattle.posit.proofs.Word.{behind, behind_fraction, left_le, split_by_left}
use Rattle.posit.proofs.Signs.{with_sign}
use Rattle.posit.proofs.Unsigned.{regime_small, exponent_lt, unsigned_positive, value_real}
use Rattle.unpacking.specs.Parts.{Parts, is_zero, is_nar, is_real, significand, parts}

-- ---- a pattern b above 0 with its sign off

module _ (es w b : ℕ) where
  pub significand_ge : 2 ^ (w - 1) ≤ significand es w b
  significand_ge = omega arith

  pub significand_lt : 0 < w → significand es w b < 2 ^ w
  significand_lt z =
      let e : w ≡ suc (w - 1) = omega arith in
      omega (arith, behind_fraction es w b, mod-lt (behind es w b) (pow_pos (w - 1)), pow-suc 2 (w - 1), ap (λ (n : ℕ). 2 ^ n) e)

  significand_spread : significand es w b ≡ (2 ^ left w b + fraction es w b) * 2 ^ (w - 1 - left w b)
  significand_spread = rw (split_by_left w b) (sym (add-mul (2 ^ left w b) (fraction es w b) (2 ^ (w - 1 - left w b))))

-- a unit that is fine enough leaves c digits
raised_ge : (es u c n : ℕ) (k : ℤ) → nat_abs k ≤ n → 2 ^ es * n + c ≤ u → c ≤ raised es u k
raised_ge es u c n (pos k) h r = omega arith
raised_ge es u c n (negsuc k) h r = omega (arith, mul-le-mul_left (2 ^ es) h)

pub size_parts : (es w u b : ℕ) → Positive w b → least es w + (w - 1) ≤ u
    → size es w u b ≡ significand es w b * 2 ^ (raised es u (regime w b) + exponent es w b - (w - 1))
unfolding size
size_parts es w u b k r =
    let s = raised es u (regime w b) + exponent es w b in
    let room = raised_ge es u (w - 1) (w - 1) (regime w b) (omega (arith, regime_small w b k)) r in
    let e : s - left w b ≡ (w - 1 - left w b) + (s - (w - 1)) = omega (arith, left_le w b) in
    rw (significand_spread es w b, e, pow-add) (sym (mul_assoc (2 ^ left w b + fraction es w b) (2 ^ (w - 1 - left w b)) (2 ^ (s - (w - 1)))))

-- ---- a pattern p with its sign

-- g * 2 ^ (2 ^ es * k + e) with its leading one at bit w - 1, in units of 2 ^ - u
abbrev pub size_of : ℕ → ℕ → ℕ → ℤ → ℕ → ℕ → ℕ
size_of es w u k e g = g * 2 ^ (raised es u k + e - (w - 1))

-- What the answer for a real pattern tells of it.
pub record Tells (es w p : ℕ) (s : Bool) (k : ℤ) (e g : ℕ) : Type 0 where
  pub not_zero : p ≢ 0
  pub not_nar : p ≢ nar w
  pub sign_is : s ≡ is_negative w p
  pub regime_below : nat_abs k < w
  pub exponent_below : e < 2 ^ es
  pub leading_one : 2 ^ (w - 1) ≤ g
  pub significand_below : g < 2 ^ w
  pub size_is : (u : ℕ) → least es w + (w - 1) ≤ u → size es w u (unsigned w p) ≡ size_of es w u k e g
  pub value_is : (u : ℕ) → least es w + (w - 1) ≤ u → value es w u p ≡ with_sign s (size_of es w u k e g)

-- What each answer tells.
abbrev pub PartsTell : ℕ → ℕ → ℕ → Parts → Type 0
PartsTell es w p is_zero = p ≡ 0
PartsTell es w p is_nar = p ≡ nar w
PartsTell es w p (is_real s k e g) = Tells es w p s k e g

module _ (es w p : ℕ) where
  abbrev real_parts : Parts
  real_parts = let b = unsigned w p in is_real (is_negative w p) (regime w b) (exponent es w b) (significand es w b)

  pub parts_zero : p ≡ 0 → parts es w p ≡ is_zero
  unfolding parts
  parts_zero e = rw (eq-eqb p 0 e)

  pub parts_nar : p ≡ nar w → parts es w p ≡ is_nar
  unfolding parts
  parts_nar e = rw (ne_eqb p 0 (λ z. omega (arith, pow_pos w)), eq-eqb p (nar w) e)

  pub parts_real : p ≢ 0 → p ≢ nar w → parts es w p ≡ real_parts
  unfolding parts
  parts_real z n = rw (ne_eqb p 0 z, ne_eqb p (nar w) n)

  real_tells : p < 2 ^ suc w → p ≢ 0 → p ≢ nar w → PartsTell es w p real_parts
  real_tells h z n =
      let b = unsigned w p in
      let above = unsigned_positive w p h z n in
      record {
        not_zero = z;
        not_nar = n;
        sign_is = refl;
        regime_below = regime_small w b above;
        exponent_below = exponent_lt es w b;
        leading_one = significand_ge es w b;
        significand_below = significand_lt es w b (omega (arith, regime_small w b above));
        size_is = λ u l. size_parts es w u b above l;
        value_is = λ u l. value_real es w p u z n ∙ ap (with_sign (is_negative w p)) (size_parts es w u b above l);
      }

  tells : p < 2 ^ suc w → Dec (p ≡ 0) → Dec (p ≡ nar w) → PartsTell es w p (parts es w p)
  tells h (yes z) n = rw (parts_zero z) z
  tells h (no z) (yes n) = rw (parts_nar n) n
  tells h (no z) (no n) = rw (parts_real z n) (real_tells h z n)

  pub parts_tell : p < 2 ^ suc w → {q : Parts} → parts es w p ≡ q → PartsTell es w p q
  parts_tell h t = rw t at (tells h (ℕ_discrete p 0) (ℕ_discrete p (nar w)))
