-- Digits to any base B above 0 and of any count: how many there are and how large, and that digits and number undo each other; lists that are the same are equal. Digits and their number
-- meet at the first digit: what stands above the digits that are asked for does not matter (`digits_past`).
use mathlib.Core.Path.{◌≡◌, refl, sym, ap, ap₂, ◌∙◌}
use mathlib.Core.Bool.{Bool, true, false, ◌&&◌}
use mathlib.Core.List.{List, [], ◌∷◌}
use Prim.Native.Nat.{ℕ, zero, suc, ◌+◌, ◌-◌, ◌*◌, ◌/◌, ◌%◌, ◌^◌, ◌<◌}
use native.Mathlib.Nat.{mul_assoc, pow-zero, pow-succ' as pow-suc', pow-suc, mod-lt, mod-one, mod-eq_of_lt, div-add-mod', mul-add-div_right, mul-add-mod_self_right, mul-pos}
use native.Mathlib.Omega.{arith}
use lib.Dec.{T, eqb, eqb→eq}
use lib.Arith.{digits_lt, digits_div, digits_mod}
use lib.ListN.{length, drop}
use Rattle.posit.specs.Digits.{digits, number, InBase, same}

pub length_digits : (B c n : ℕ) → length (digits B c n) ≡ c
unfolding digits
length_digits B zero n = refl
length_digits B (suc c) n = ap suc (length_digits B c n)

pub number_lt : (B : ℕ) (ds : List ℕ) → InBase B ds → number B ds < B ^ length ds
unfolding number
number_lt B [] h = rw pow-zero (omega arith)
number_lt B (d ∷ ds) h = rw pow-suc' (digits_lt h.0 (number_lt B ds h.1))

module _ (B : ℕ) (base : 0 < B) where
  power_pos : (c : ℕ) → 0 < B ^ c
  power_pos zero = rw pow-zero (omega arith)
  power_pos (suc c) = rw pow-suc (mul-pos (power_pos c) base)

  pub below_digits : (c n : ℕ) → InBase B (digits B c n)
  unfolding digits
  below_digits zero n = tt
  below_digits (suc c) n = (mod-lt (n / B ^ c) base, below_digits c n)

  digits_past : (c q v : ℕ) → digits B c (q * B ^ c + v) ≡ digits B c v
  unfolding digits
  digits_past zero q v = refl
  digits_past (suc c) q v =
      let e : q * B ^ suc c ≡ q * B * B ^ c = rw pow-suc' (sym (mul_assoc q B (B ^ c))) in
      rw (e, mul-add-div_right {m = B ^ c} (power_pos c) (q * B) v, mul-add-mod_self_right, digits_past c (q * B) v)

  -- the digits of a number that digits make up are those digits
  pub digits_number : (ds : List ℕ) → InBase B ds → digits B (length ds) (number B ds) ≡ ds
  unfolding digits number
  digits_number [] h = refl
  digits_number (d ∷ ds) h =
      rw (digits_div d (number_lt B ds h.1), mod-eq_of_lt h.0, digits_past (length ds) d (number B ds), digits_number ds h.1)

  -- one digit more
  mod_more : (P n : ℕ) → 0 < P → n / P % B * P + n % P ≡ n % (B * P)
  mod_more P n h =
      let e : n ≡ n / P / B * (B * P) + (n / P % B * P + n % P) = omega (arith, div-add-mod' n P, ap (λ (t : ℕ). t * P) (div-add-mod' (n / P) B)) in
      sym (ap (λ (t : ℕ). t % (B * P)) e ∙ digits_mod (n / P / B) (digits_lt (mod-lt (n / P) base) (mod-lt n h)))

  -- the number of c digits is the number that they were taken from, as far as c digits reach
  pub number_digits : (c n : ℕ) → number B (digits B c n) ≡ n % B ^ c
  unfolding digits number
  number_digits zero n = rw pow-zero (sym (mod-one n))
  number_digits (suc c) n = rw (length_digits B c n, number_digits c n, pow-suc') (mod_more (B ^ c) n (power_pos c))

-- ---- a number that is read digit by digit

-- x is the number of the k digits from `at` on
abbrev pub Prefix : ℕ → List ℕ → ℕ → ℕ → ℕ → Type 0
Prefix B ds at k x = number B (drop at ds) ≡ x * B ^ (length ds - (at + k)) + number B (drop (at + k) ds)

-- ---- lists that are the same are equal

both_true : (a b : Bool) → T (a && b) → T a × T b
both_true true b h = (tt, h)
both_true false b h = absurd h

pub same_equal : (xs ys : List ℕ) → T (same xs ys) → xs ≡ ys
unfolding same
same_equal [] [] h = refl
same_equal [] (y ∷ ys) h = absurd h
same_equal (x ∷ xs) [] h = absurd h
same_equal (x ∷ xs) (y ∷ ys) h =
    let k = both_true (eqb x y) (same xs ys) h in
    ap₂ ◌∷◌ (eqb→eq x y k.0) (same_equal xs ys k.1)
