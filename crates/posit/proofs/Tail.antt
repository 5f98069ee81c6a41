-- What follows the run, as a size: 2 ^ s * 2 ^ e * (1 + f) for the l digits t. It grows with t, a digit 0 more at the end leaves it as it is,
-- and from t = 0 up to t = 2 ^ l it goes from 2 ^ s up to 2 ^ (s + 2 ^ es). All of it is read off `grow`, the same over 2 ^ (s - l).
use mathlib.Core.Path.{◌≡◌, refl, sym, ap, ◌∙◌, subst}
use Prim.Native.Nat.{ℕ, suc, ◌+◌, ◌-◌, ◌*◌, ◌/◌, ◌%◌, ◌^◌, ◌≤◌, ◌<◌}
use native.Mathlib.Nat.{le_trans, lt_of_lt_of_le, mod-lt, div-add-mod', mul-le-mul_right, mul-le-mul_left, mul-lt-mul_of_pos_right, le_of_lt, le_antisymm, pow-suc, mul_assoc, mul_comm, mul-div-mul_left, mul-add, pow-succ' as pow-suc', zero-mul, mul-zero, add-zero, mul-div_cancel_left, mul-mod_right}
use native.Mathlib.Decide.{dec_lt}
use native.Mathlib.Omega.{arith}
use lib.Dec.{lit<}
use lib.Pow.{pow_pos, pow_mono, pow-add, shr_mono}
use Rattle.posit.proofs.Arith.{mul_mod_mul_left}
use Rattle.posit.specs.Pattern.{exponent_of, fraction_of}

-- the sizes 2 ^ e * (2 ^ l + f), one after the other
unfoldable pub grow : ℕ → ℕ → ℕ
grow l y = (2 ^ l + y % 2 ^ l) * 2 ^ (y / 2 ^ l)

grow_ge : (l y : ℕ) → 2 ^ l * 2 ^ (y / 2 ^ l) ≤ grow l y
unfolding grow
grow_ge l y = mul-le-mul_right (2 ^ (y / 2 ^ l)) (omega arith)

grow_lt : (l y : ℕ) → grow l y < 2 ^ l * 2 ^ suc (y / 2 ^ l)
unfolding grow
grow_lt l y =
    let h : 2 ^ l + y % 2 ^ l < 2 ^ l * 2 = omega (arith, mod-lt y (pow_pos l)) in
    let g : (2 ^ l + y % 2 ^ l) * 2 ^ (y / 2 ^ l) < 2 ^ l * 2 * 2 ^ (y / 2 ^ l) = mul-lt-mul_of_pos_right h (pow_pos (y / 2 ^ l)) in
    rw (pow-suc, mul_comm (2 ^ (y / 2 ^ l)) 2, ← mul_assoc) g

grow_mono : (l y z : ℕ) → y < z → grow l y < grow l z
unfolding grow
grow_mono l y z h = go (dec_lt (y / 2 ^ l) (z / 2 ^ l))
  where
    go : Dec (y / 2 ^ l < z / 2 ^ l) → grow l y < grow l z
    go (yes q) = lt_of_lt_of_le (grow_lt l y) (le_trans (mul-le-mul_left (2 ^ l) (pow_mono q)) (grow_ge l z))
    go (no q) =
        let e : y / 2 ^ l ≡ z / 2 ^ l = le_antisymm (shr_mono l (le_of_lt h)) (omega arith) in
        let d : y % 2 ^ l < z % 2 ^ l = omega (arith, div-add-mod' y (2 ^ l), div-add-mod' z (2 ^ l), ap (λ (t : ℕ). t * 2 ^ l) e) in
        subst (λ (t : ℕ). (2 ^ l + y % 2 ^ l) * 2 ^ (y / 2 ^ l) < (2 ^ l + z % 2 ^ l) * 2 ^ t) e
        (mul-lt-mul_of_pos_right (omega arith) (pow_pos (y / 2 ^ l)))

grow_double : (l y : ℕ) → grow (suc l) (2 * y) ≡ 2 * grow l y
unfolding grow
grow_double l y =
    rw (pow-suc' 2 l, mul-div-mul_left y (2 ^ l) (lit< tt), mul_mod_mul_left y {m = 2 ^ l} {c = 2} (pow_pos l) (lit< tt), ← mul-add)
    (mul_assoc 2 (2 ^ l + y % 2 ^ l) (2 ^ (y / 2 ^ l)))

-- q whole steps and no fraction
grow_whole : (l q : ℕ) → grow l (2 ^ l * q) ≡ 2 ^ l * 2 ^ q
unfolding grow
grow_whole l q = rw (mul-div_cancel_left q (pow_pos l), mul-mod_right, add-zero)

-- ---- the tail

abbrev pub tail : ℕ → ℕ → ℕ → ℕ → ℕ
tail es s l t = (2 ^ l + fraction_of es l t) * 2 ^ (s + exponent_of es l t - l)

module _ (es s l : ℕ) (fits : l ≤ s) where
  tail_grow : (t : ℕ) → tail es s l t ≡ grow l (t * 2 ^ es) * 2 ^ (s - l)
  unfolding grow
  tail_grow t =
      let e : s + exponent_of es l t - l ≡ exponent_of es l t + (s - l) = omega arith in
      rw (e, pow-add) (sym (mul_assoc (2 ^ l + fraction_of es l t) (2 ^ exponent_of es l t) (2 ^ (s - l))))

  pub tail_mono : {t v : ℕ} → t < v → tail es s l t < tail es s l v
  tail_mono {t} {v} h =
      rw (tail_grow t, tail_grow v)
      (mul-lt-mul_of_pos_right (grow_mono l (t * 2 ^ es) (v * 2 ^ es) (mul-lt-mul_of_pos_right h (pow_pos es))) (pow_pos (s - l)))

  whole_tail : (q t : ℕ) → t * 2 ^ es ≡ 2 ^ l * q → tail es s l t ≡ 2 ^ (s + q)
  whole_tail q t e =
      let f : s + q ≡ l + (q + (s - l)) = omega arith in
      rw (tail_grow t, e, grow_whole, f, pow-add 2 l, pow-add 2 q) (mul_assoc (2 ^ l) (2 ^ q) (2 ^ (s - l)))

  pub tail_none : tail es s l 0 ≡ 2 ^ s
  tail_none = whole_tail 0 0 (rw (zero-mul, mul-zero)) ∙ (rw add-zero)

  pub tail_all : tail es s l (2 ^ l) ≡ 2 ^ (s + 2 ^ es)
  tail_all = whole_tail (2 ^ es) (2 ^ l) refl

  -- i digits more of a smaller unit
  pub tail_unit : (i t : ℕ) → tail es (s + i) l t ≡ tail es s l t * 2 ^ i
  tail_unit i t =
      let e : s + i + exponent_of es l t - l ≡ s + exponent_of es l t - l + i = omega arith in
      rw (e, pow-add) (sym (mul_assoc (2 ^ l + fraction_of es l t) (2 ^ (s + exponent_of es l t - l)) (2 ^ i)))

pub tail_double : (es s l : ℕ) → suc l ≤ s → (t : ℕ) → tail es s (suc l) (2 * t) ≡ tail es s l t
tail_double es s l h t =
    let e : s - l ≡ suc (s - suc l) = omega arith in
    rw (tail_grow es s (suc l) h, tail_grow es s l (omega arith), mul_assoc 2 t (2 ^ es), grow_double, e, pow-suc')
    (omega arith)
