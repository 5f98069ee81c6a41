-- What a word shows of a pattern. The run is the count of zeros above the pattern, or above its complement for a run of ones. With the
-- digits behind the run at the top of w - 1 + es digits, the exponent and the fraction are a quotient and a remainder by 2 ^ (w - 1).
use mathlib.Core.Path.{◌≡◌, refl, sym, ap, ◌∙◌}
use mathlib.Core.Bool.{Bool, true, false, not}
use Prim.Native.Nat.{ℕ, zero, suc, ◌+◌, ◌-◌, ◌*◌, ◌/◌, ◌%◌, ◌^◌, ◌≤◌, ◌<◌, zero-le, suc-le-suc}
use native.Mathlib.Nat.{zero-add, add_comm, zero-mul, mul_assoc, pow-suc, pow-succ' as pow-suc', mod-lt, mod-one, div-add-mod', add-mul, mul_right_comm, mul-add-mod_self_right, mul-mod_left, mul-div-mul_right, mul-pos}
use native.Mathlib.Decide.{ℕ_discrete, dec_lt}
use native.Mathlib.Omega.{arith}
use lib.Count.{count_leading_zeros, leading_length, leading_unique}
use lib.Pow.{pow_pos, pow-add, high}
use mir.Val.{bool_byte}
use Rattle.posit.specs.Pattern.{run, first, left, exponent, fraction}
use Rattle.posit.proofs.Arith.{mul_mod_mul}
use Rattle.posit.proofs.Built.{run_more, run_ends, first_lt, the_other, digit_first}

-- ---- the run

leading_more : (w a : ℕ) → a < 2 ^ w → count_leading_zeros (suc w) a ≡ suc (count_leading_zeros w a)
leading_more w a h =
    let s = leading_length w a h in
    sym (leading_unique (suc w) a (suc (count_leading_zeros w a)) s.0 (omega (arith, s.1)) s.2 s.3)

leading_none : (w a : ℕ) → 2 ^ w ≤ a → a < 2 ^ suc w → count_leading_zeros (suc w) a ≡ 0
leading_none w a h k = sym (leading_unique (suc w) a 0 (suc w) (zero-add (suc w)) k (omega (arith, pow-suc 2 w)))

leading_half : (w a : ℕ) → 0 < a → count_leading_zeros (suc w) a ≡ count_leading_zeros w (a / 2)
unfolding count_leading_zeros
leading_half w zero h = absurd (omega arith)
leading_half w (suc a) h = refl

-- the w digits b as they are, or each the other: a run of o is then one of zeros
abbrev pub zeroed : Bool → ℕ → ℕ → ℕ
zeroed true w b = 2 ^ w - 1 - b
zeroed false w b = b

zeroed_lt : (o : Bool) (w b : ℕ) → b < 2 ^ w → zeroed o w b < 2 ^ w
zeroed_lt true w b h = omega arith
zeroed_lt false w b h = h

zeroed_more : (o : Bool) (w b : ℕ) → b ≡ bool_byte o * 2 ^ w + b % 2 ^ w → zeroed o (suc w) b ≡ zeroed o w (b % 2 ^ w)
zeroed_more true w b e = omega (arith, pow-suc 2 w)
zeroed_more false w b e = omega arith

zeroed_ends : (o : Bool) (w b : ℕ) → b ≡ bool_byte (not o) * 2 ^ w + b % 2 ^ w → 2 ^ w ≤ zeroed o (suc w) b
zeroed_ends true w b e = omega (arith, pow-suc 2 w, mod-lt b (pow_pos w))
zeroed_ends false w b e = omega arith

module _ (o : Bool) (w b : ℕ) (h : b < 2 ^ suc w) where
  run_leading_more : run (bool_byte o) w (b % 2 ^ w) ≡ count_leading_zeros w (zeroed o w (b % 2 ^ w)) → Dec (b / 2 ^ w ≡ bool_byte o)
      → run (bool_byte o) (suc w) b ≡ count_leading_zeros (suc w) (zeroed o (suc w) b)
  run_leading_more rest (yes e) =
      rw (zeroed_more o w b (digit_first w b (bool_byte o) e), leading_more w (zeroed o w (b % 2 ^ w)) (zeroed_lt o w (b % 2 ^ w) (mod-lt b (pow_pos w))))
      (run_more (bool_byte o) w b e ∙ ap suc rest)
  run_leading_more rest (no n) =
      let e = digit_first w b (bool_byte (not o)) (the_other o (first_lt w b h) n) in
      run_ends (bool_byte o) w b n ∙ sym (leading_none w (zeroed o (suc w) b) (zeroed_ends o w b e) (zeroed_lt o (suc w) b h))

run_leading : (o : Bool) (w b : ℕ) → b < 2 ^ w → run (bool_byte o) w b ≡ count_leading_zeros w (zeroed o w b)
unfolding run count_leading_zeros
run_leading o zero b h = refl
run_leading o (suc w) b h = run_leading_more o w b h (run_leading o w (b % 2 ^ w) (mod-lt b (pow_pos w))) (ℕ_discrete (b / 2 ^ w) (bool_byte o))

pub run_le : (d w b : ℕ) → run d w b ≤ w
unfolding run
run_le d zero b = zero-le
run_le d (suc w) b = go (run_le d w (b % 2 ^ w)) (ℕ_discrete (b / 2 ^ w) d)
  where
    go : run d w (b % 2 ^ w) ≤ w → Dec (b / 2 ^ w ≡ d) → run d (suc w) b ≤ suc w
    go rest (yes e) = rw (run_more d w b e) (suc-le-suc rest)
    go rest (no n) = rw (run_ends d w b n) zero-le

-- the run that starts with the first digit has that digit
pub run_positive : (w b : ℕ) → 0 < run (first (suc w) b) (suc w) b
run_positive w b =
    let e : suc w - 1 ≡ w = omega arith in
    rw (e, run_more (b / 2 ^ w) w b refl) (omega arith)

pub first_is : (o : Bool) (w b : ℕ) → bool_byte o * 2 ^ w ≤ b → b < bool_byte o * 2 ^ w + 2 ^ w → first (suc w) b ≡ bool_byte o
first_is o w b l h =
    let e : suc w - 1 ≡ w = omega arith in
    let d : b ≡ bool_byte o * 2 ^ w + (b - bool_byte o * 2 ^ w) = omega arith in
    rw (e, d) (high (bool_byte o) w (omega arith))

-- the run of the first digit, o, by a word x of one digit more, whose others are those of b or, for ones, of its complement
pub counted : (o : Bool) (w b x : ℕ) → first w b ≡ bool_byte o → b < 2 ^ w → 0 < x → x / 2 ≡ zeroed o w b → count_leading_zeros (suc w) x ≡ run (first w b) w b
counted o w b x f h z e = leading_half w x z ∙ ap (count_leading_zeros w) e ∙ (rw f (sym (run_leading o w b h)))

-- ---- what follows it

-- what a product wraps to does not depend on what was cut off before
mod_mul_mod : (a c n : ℕ) → a % n * c % n ≡ a * c % n
mod_mul_mod a c n =
    let e : a * c ≡ a / n * c * n + a % n * c = ap (λ (x : ℕ). x * c) (sym (div-add-mod' a n)) ∙ (rw (add-mul, mul_right_comm (a / n) n c)) in
    rw e (sym (mul-add-mod_self_right (a / n * c) n (a % n * c)))

pub shifts : (a j k w : ℕ) → a * 2 ^ j % 2 ^ w * 2 ^ k % 2 ^ w ≡ a * 2 ^ (j + k) % 2 ^ w
shifts a j k w = mod_mul_mod (a * 2 ^ j) (2 ^ k) (2 ^ w) ∙ (rw (pow-add, mul_assoc))

-- the l digits t, at the top of w - 1 + es digits
abbrev pub at_top : ℕ → ℕ → ℕ → ℕ → ℕ
at_top es w l t = t * 2 ^ es * 2 ^ (w - 1 - l)

-- m digits and one more are shifted out of w; m = w leaves nothing
shifted_out : (es w b m : ℕ) → 0 < w → m ≤ w → b * 2 ^ (m + es) % 2 ^ (w - 1 + es) ≡ at_top es w (w - suc m) (b % 2 ^ (w - suc m))
shifted_out es w b m z h = go (dec_lt m w)
  where
    go : Dec (m < w) → b * 2 ^ (m + es) % 2 ^ (w - 1 + es) ≡ at_top es w (w - suc m) (b % 2 ^ (w - suc m))
    go (yes q) =
        let n : w - 1 + es ≡ w - suc m + (es + m) = omega arith in
        let i : w - 1 - (w - suc m) ≡ m = omega arith in
        rw (n, add_comm m es, i, pow-add 2 (w - suc m), pow-add 2 es m, mul_assoc) (mul_mod_mul b (pow_pos (w - suc m)) (mul-pos (pow_pos es) (pow_pos m)))
    go (no q) =
        let n : m + es ≡ suc (w - 1 + es) = omega arith in
        let l : w - suc m ≡ 0 = omega arith in
        rw (l, mod-one b, n, pow-suc', zero-mul, zero-mul, ← mul_assoc) (mul-mod_left (b * 2) (2 ^ (w - 1 + es)))

-- the digits of b behind the run
abbrev pub behind : ℕ → ℕ → ℕ → ℕ
behind es w b = at_top es w (left w b) (b % 2 ^ left w b)

pub left_le : (w b : ℕ) → left w b ≤ w - 1
unfolding left
left_le w b = omega arith

-- 2 ^ (w - 1) by the digits behind the run and the others
pub split_by_left : (w b : ℕ) → 2 ^ (w - 1) ≡ 2 ^ left w b * 2 ^ (w - 1 - left w b)
split_by_left w b =
    let e : w - 1 ≡ left w b + (w - 1 - left w b) = omega (arith, left_le w b) in
    ap (λ (n : ℕ). 2 ^ n) e ∙ pow-add 2 (left w b) (w - 1 - left w b)

module _ (es w b : ℕ) where
  pub behind_exponent : behind es w b / 2 ^ (w - 1) ≡ exponent es w b
  unfolding exponent
  behind_exponent =
      ap (λ (n : ℕ). behind es w b / n) (split_by_left w b)
      ∙ mul-div-mul_right (b % 2 ^ left w b * 2 ^ es) (2 ^ left w b) (pow_pos (w - 1 - left w b))

  pub behind_fraction : behind es w b % 2 ^ (w - 1) ≡ fraction es w b * 2 ^ (w - 1 - left w b)
  unfolding fraction
  behind_fraction =
      ap (λ (n : ℕ). behind es w b % n) (split_by_left w b) ∙ mul_mod_mul (b % 2 ^ left w b * 2 ^ es) (pow_pos (left w b)) (pow_pos (w - 1 - left w b))

  pub shifted_behind : 0 < w → b * 2 ^ (run (first w b) w b + es) % 2 ^ (w - 1 + es) ≡ behind es w b
  unfolding left
  shifted_behind z = shifted_out es w b (run (first w b) w b) z (run_le (first w b) w b)
