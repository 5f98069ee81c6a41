-- A pattern by its parts: a run of digits, the digit that ends it, and l digits t. `run`, `left` and the rest of `size` are read off it,
-- and every pattern above 0 is built so or is all ones (`by_shape`). One law serves runs of ones and of zeros: the digit is a parameter.
use mathlib.Core.Path.{◌≡◌, refl, sym, ap, ◌∙◌, subst₂}
use mathlib.Core.Bool.{Bool, true, false, not}
use Prim.Native.Nat.{ℕ, zero, suc, ◌+◌, ◌-◌, ◌*◌, ◌/◌, ◌%◌, ◌^◌, ◌<◌, zero-le}
use native.Mathlib.Nat.{zero-add, add-suc, suc-add, one-mul, mul-add, mul-zero, pow-suc, pow-succ' as pow-suc', mul_assoc, mod-lt, mod-one, div-add-mod', div-lt_iff_lt-mul, mul-add-mod_self_right}
use native.Mathlib.Decide.{ℕ_discrete}
use native.Mathlib.Omega.{arith}
use borrow.Author.Tests.{eq-eqb, ne_eqb}
use lib.IntN.{pos}
use lib.Arith.{digits_lt, lt-one}
use lib.Pow.{pow_pos, pow-add, low, high, ones_lt}
use mir.Val.{bool_byte}
use Rattle.posit.specs.Pattern.{run, first, left, regime, regime_of, exponent, fraction, size, raised}
use Rattle.posit.proofs.Arith.{suc_sub_one, digit_lt}
use Rattle.posit.proofs.Tail.{tail, tail_none}

-- m digits o, then the other digit, then l digits t
unfoldable pub built : Bool → ℕ → ℕ → ℕ → ℕ
built o zero l t = bool_byte (not o) * 2 ^ l + t
built o (suc m) l t = bool_byte o * 2 ^ (m + suc l) + built o m l t

sub_self_suc : (n : ℕ) → n - suc n ≡ 0
sub_self_suc n = omega arith

other_bit : (o : Bool) → bool_byte (not o) ≡ bool_byte o → ⊥
other_bit true e = omega arith
other_bit false e = omega arith

-- ---- the run, digit by digit

pub run_more : (d w b : ℕ) → b / 2 ^ w ≡ d → run d (suc w) b ≡ suc (run d w (b % 2 ^ w))
unfolding run
run_more d w b e = rw (eq-eqb (b / 2 ^ w) d e)

pub run_ends : (d w b : ℕ) → (b / 2 ^ w ≡ d → ⊥) → run d (suc w) b ≡ 0
unfolding run
run_ends d w b e = rw (ne_eqb (b / 2 ^ w) d e)

module _ (o : Bool) (l t : ℕ) (h : t < 2 ^ l) where
  pub built_lt : (m : ℕ) → built o m l t < 2 ^ (m + suc l)
  unfolding built
  built_lt zero = rw (zero-add, pow-suc') (digits_lt (digit_lt (not o)) h)
  built_lt (suc m) = rw (suc-add, pow-suc') (digits_lt (digit_lt o) (built_lt m))

  pub run_built : (m : ℕ) → run (bool_byte o) (m + suc l) (built o m l t) ≡ m
  unfolding built
  run_built zero = rw zero-add (run_ends (bool_byte o) l (built o 0 l t) (λ e. other_bit o (sym (high (bool_byte (not o)) l h) ∙ e)))
  run_built (suc m) =
      rw suc-add
      (run_more (bool_byte o) (m + suc l) (built o (suc m) l t) (high (bool_byte o) (m + suc l) (built_lt m))
      ∙ ap suc (ap (run (bool_byte o) (m + suc l)) (low (bool_byte o) (m + suc l) (built_lt m)) ∙ run_built m))

  pub built_mod : (m : ℕ) → built o m l t % 2 ^ l ≡ t
  unfolding built
  built_mod zero = low (bool_byte (not o)) l h
  built_mod (suc m) =
      let e : bool_byte o * 2 ^ (m + suc l) ≡ bool_byte o * 2 ^ suc m * 2 ^ l = rw (add-suc, ← suc-add, pow-add) (sym (mul_assoc (bool_byte o) (2 ^ suc m) (2 ^ l))) in
      rw (e, mul-add-mod_self_right) (built_mod m)

  -- the size of a pattern that is built
  module _ (m : ℕ) where
    pub first_built : first (suc m + suc l) (built o (suc m) l t) ≡ bool_byte o
    unfolding built
    first_built = rw (suc-add, suc_sub_one) (high (bool_byte o) (m + suc l) (built_lt m))

    runs : run (first (suc m + suc l) (built o (suc m) l t)) (suc m + suc l) (built o (suc m) l t) ≡ suc m
    runs = rw first_built (run_built (suc m))

    pub regime_built : regime (suc m + suc l) (built o (suc m) l t) ≡ regime_of (bool_byte o) (suc m)
    unfolding regime
    regime_built = rw (runs, first_built)

    pub left_built : left (suc m + suc l) (built o (suc m) l t) ≡ l
    unfolding left
    left_built = rw (runs) (omega arith)

    pub size_built : (es u : ℕ) → size es (suc m + suc l) u (built o (suc m) l t) ≡ tail es (raised es u (regime_of (bool_byte o) (suc m))) l t
    unfolding size exponent fraction
    size_built es u = rw (left_built, regime_built, built_mod (suc m))

-- ---- the pattern of ones

ones_more : (w : ℕ) → 2 ^ suc w - 1 ≡ 1 * 2 ^ w + (2 ^ w - 1)
ones_more w = omega (arith, pow-suc 2 w, pow_pos w)

first_ones : (w : ℕ) → (2 ^ suc w - 1) / 2 ^ w ≡ 1
first_ones w = rw (ones_more w) (high 1 w (ones_lt w))

run_ones : (w : ℕ) → run 1 w (2 ^ w - 1) ≡ w
unfolding run
run_ones zero = refl
run_ones (suc w) =
    run_more 1 w (2 ^ suc w - 1) (first_ones w)
    ∙ ap suc (ap (run 1 w) (ap (λ (b : ℕ). b % 2 ^ w) (ones_more w) ∙ low 1 w (ones_lt w)) ∙ run_ones w)

pub regime_ones : (w : ℕ) → regime (suc w) (2 ^ suc w - 1) ≡ pos w
unfolding regime
regime_ones w = rw (suc_sub_one w, first_ones w, run_ones (suc w)) (ap pos (suc_sub_one w))

pub size_ones : (es w u : ℕ) → size es (suc w) u (2 ^ suc w - 1) ≡ 2 ^ (u + 2 ^ es * w)
unfolding size regime left exponent fraction
size_ones es w u = rw (suc_sub_one w, first_ones w, run_ones (suc w), suc_sub_one w, sub_self_suc, mod-one (2 ^ suc w - 1)) (tail_none es (u + 2 ^ es * w) 0 zero-le)

-- ---- every pattern above 0 has a shape

-- the w digits b: all of them o, or a run of o that ends
data Split (o : Bool) (w b : ℕ) : Type 0 where
  all : b ≡ bool_byte o * (2 ^ w - 1) → Split o w b
  ends : (m l t : ℕ) → w ≡ m + suc l → t < 2 ^ l → b ≡ built o m l t → Split o w b

a_bit : (n : ℕ) → n < 2 → (o : Bool) × (n ≡ bool_byte o)
a_bit zero h = (false, refl)
a_bit (suc zero) h = (true, refl)
a_bit (suc (suc n)) h = absurd (omega arith)

pub the_other : (o : Bool) {n : ℕ} → n < 2 → (n ≡ bool_byte o → ⊥) → n ≡ bool_byte (not o)
the_other true h k = omega arith
the_other false h k = omega arith

pub first_lt : (w b : ℕ) → b < 2 ^ suc w → b / 2 ^ w < 2
first_lt w b h = (div-lt_iff_lt-mul (pow_pos w)).1 (rw pow-suc' at h)

-- one digit n in front of the others
pub digit_first : (w b n : ℕ) → b / 2 ^ w ≡ n → b ≡ n * 2 ^ w + b % 2 ^ w
digit_first w b n e = sym (div-add-mod' b (2 ^ w)) ∙ ap (λ (d : ℕ). d * 2 ^ w + b % 2 ^ w) e

split_more : (o : Bool) (w b : ℕ) → b < 2 ^ suc w → Dec (b / 2 ^ w ≡ bool_byte o) → Split o w (b % 2 ^ w) → Split o (suc w) b
unfolding built
split_more o w b h (yes e) (all f) = all (digit_first w b (bool_byte o) e ∙ (rw (f, ones_more w, one-mul) (sym (mul-add (bool_byte o) (2 ^ w) (2 ^ w - 1)))))
split_more o w b h (yes e) (ends m l t f k g) =
    ends (suc m) l t (ap suc f ∙ sym (suc-add m (suc l))) k (digit_first w b (bool_byte o) e ∙ (rw (g, f)))
split_more o w b h (no n) s =
    ends 0 w (b % 2 ^ w) (sym (zero-add (suc w))) (mod-lt b (pow_pos w)) (digit_first w b (bool_byte (not o)) (the_other o (first_lt w b h) n))

split : (o : Bool) (w b : ℕ) → b < 2 ^ w → Split o w b
split o zero b h = all (lt-one h ∙ sym (mul-zero (bool_byte o)))
split o (suc w) b h = split_more o w b h (ℕ_discrete (b / 2 ^ w) (bool_byte o)) (split o w (b % 2 ^ w) (mod-lt b (pow_pos w)))

-- What holds of the pattern of ones, and of all that are built, holds of every pattern above 0.
pub by_shape : (P : ℕ → ℕ → Type 0)
    → ((w : ℕ) → P (suc w) (2 ^ suc w - 1))
    → ((o : Bool) (m l t : ℕ) → t < 2 ^ l → P (suc m + suc l) (built o (suc m) l t))
    → (w b : ℕ) → 0 < b → b < 2 ^ w → P w b
unfolding built
by_shape P ones parts zero b h k = absurd (omega arith)
by_shape P ones parts (suc w) b h k = go (a_bit (b / 2 ^ w) (first_lt w b k))
  where
    one : (o : Bool) → b ≡ bool_byte o * 2 ^ w + b % 2 ^ w → Split o w (b % 2 ^ w) → P (suc w) b
    one true e (all f) = rw (e, f, one-mul (2 ^ w - 1), ← ones_more w) (ones w)
    one false e (all f) = absurd (omega arith)
    one o e (ends m l t f r g) =
        let digits : built o (suc m) l t ≡ b = sym (e ∙ (rw (g, f))) in
        subst₂ P (suc-add m (suc l) ∙ ap suc (sym f)) digits (parts o m l t r)

    go : (o : Bool) × (b / 2 ^ w ≡ bool_byte o) → P (suc w) b
    go d = one d.0 (digit_first w b (bool_byte d.0) d.1) (split d.0 w (b % 2 ^ w) (mod-lt b (pow_pos w)))
