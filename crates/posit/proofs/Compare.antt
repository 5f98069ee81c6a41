-- What a size is compared with grows with the number of units, whichever way it is told; and a finer unit changes no comparison. `Counts` says how many whole units a
-- size has, and whether there is more: how every operation tells what it has found before it is rounded.
use mathlib.Core.Path.{◌≡◌, refl, sym, ap, ◌∙◌}
use mathlib.Core.Bool.{Bool, not}
use Prim.Native.Nat.{ℕ, suc, ◌*◌, ◌^◌, ◌≤◌, ◌<◌}
use native.Mathlib.Nat.{le_of_lt, lt_of_le_of_lt, mul-le-mul_right, mul-le-mul_left, mul-lt-mul_of_pos_right, mul_assoc, mul-pos}
use native.Mathlib.Decide.{dec_lt}
use native.Mathlib.Omega.{arith}
use lib.Dec.{leb, ltb}
use lib.Pow.{pow_pos}
use borrow.Author.Tests.{lt-ltb, le-ltb, le-leb, lt-leb}
use Rattle.posit.specs.Exact.{Exact, whole, ratio, root, Sound, bound, told, at_least, above, Under}

-- v units or more, as a fact
abbrev pub AtLeast : Exact → ℕ → Type 0
AtLeast x v = told x v ≤ bound x

-- x is n whole units and less than one more, and above them just where `more` says so
pub record Counts (x : Exact) (n unit : ℕ) (more : Bool) : Type 0 where
  pub low : AtLeast x (n * unit)
  pub high : Under x (suc n * unit)
  pub seen : above x (n * unit) ≡ more

module _ (x : Exact) (sound : Sound x) where
  pub told_lt : {v z : ℕ} → v < z → told x v < told x z
  told_lt {v} {z} h = go x sound
    where
      go : (x : Exact) → Sound x → told x v < told x z
      go (whole x) s = h
      go (ratio x y) s = mul-lt-mul_of_pos_right h s.1
      go (root x) s = lt_of_le_of_lt (mul-le-mul_left v (le_of_lt h)) (mul-lt-mul_of_pos_right h (omega arith))

  pub told_le : {v z : ℕ} → v ≤ z → told x v ≤ told x z
  told_le {v} {z} h = go (dec_lt v z)
    where
      go : Dec (v < z) → told x v ≤ told x z
      go (yes q) = le_of_lt (told_lt q)
      go (no q) =
          let e : v ≡ z = omega arith in
          rw e (omega arith)

  pub told_lt_back : {v z : ℕ} → told x v < told x z → v < z
  told_lt_back {v} {z} h = go (dec_lt v z)
    where
      go : Dec (v < z) → v < z
      go (yes q) = q
      go (no q) = absurd (omega (arith, told_le {v = z} {z = v} (omega arith)))

-- the same size in units that are i binary digits finer
abbrev pub finer : ℕ → Exact → Exact
finer i (whole x) = whole (x * 2 ^ i)
finer i (ratio x y) = ratio (x * 2 ^ i) y
finer i (root x) = root (x * (2 ^ i * 2 ^ i))

pub leb_factor : (a b c : ℕ) → 0 < c → leb (a * c) (b * c) ≡ leb a b
leb_factor a b c h = go (dec_lt b a)
  where
    go : Dec (b < a) → leb (a * c) (b * c) ≡ leb a b
    go (yes q) = rw (lt-leb (a * c) (b * c) (mul-lt-mul_of_pos_right q h), lt-leb a b q)
    go (no q) = rw (le-leb (a * c) (b * c) (mul-le-mul_right c (omega arith)), le-leb a b (omega arith))

-- less is not at least
ltb_leb : (a b : ℕ) → ltb a b ≡ not (leb b a)
ltb_leb a b = go (dec_lt a b)
  where
    go : Dec (a < b) → ltb a b ≡ not (leb b a)
    go (yes q) = rw (lt-ltb a b q, lt-leb b a q)
    go (no q) = rw (le-ltb a b (omega arith), le-leb b a (omega arith))

pub ltb_factor : (a b c : ℕ) → 0 < c → ltb (a * c) (b * c) ≡ ltb a b
ltb_factor a b c h = ltb_leb (a * c) (b * c) ∙ ap not (leb_factor b a c h) ∙ sym (ltb_leb a b)

pub counts_times : {M n D : ℕ} {more : Bool} (P : ℕ) → 0 < P → Counts (whole M) n D more → Counts (whole (M * P)) n (D * P) more
counts_times {M} {n} {D} P z c =
    record {
      low = rw (← mul_assoc n D P) (mul-le-mul_right P c.low);
      high = rw (← mul_assoc (suc n) D P) (mul-lt-mul_of_pos_right c.high z);
      seen = rw (← mul_assoc n D P) (ltb_factor (n * D) M P z ∙ c.seen);
    }

-- both sides of the comparison grow by one factor above 0
factor : ℕ → Exact → ℕ
factor i (whole x) = 2 ^ i
factor i (ratio x y) = 2 ^ i
factor i (root x) = 2 ^ i * 2 ^ i

module _ (i : ℕ) where
  factor_pos : (x : Exact) → 0 < factor i x
  unfolding factor
  factor_pos (whole x) = pow_pos i
  factor_pos (ratio x y) = pow_pos i
  factor_pos (root x) = mul-pos (pow_pos i) (pow_pos i)

  finer_bound : (x : Exact) → bound (finer i x) ≡ bound x * factor i x
  unfolding factor
  finer_bound (whole x) = refl
  finer_bound (ratio x y) = refl
  finer_bound (root x) = refl

  finer_told : (x : Exact) (v : ℕ) → told (finer i x) (v * 2 ^ i) ≡ told x v * factor i x
  unfolding factor
  finer_told (whole x) v = refl
  finer_told (ratio x y) v = omega arith
  finer_told (root x) v = omega arith

  pub finer_sound : (x : Exact) → Sound x → Sound (finer i x)
  finer_sound (whole x) s = mul-pos s (pow_pos i)
  finer_sound (ratio x y) s = (mul-pos s.0 (pow_pos i), s.1)
  finer_sound (root x) s = mul-pos s (mul-pos (pow_pos i) (pow_pos i))

  pub finer_at_least : (x : Exact) (v : ℕ) → AtLeast x v → AtLeast (finer i x) (v * 2 ^ i)
  finer_at_least x v h = rw (finer_told x v, finer_bound x) (mul-le-mul_right (factor i x) h)

  pub finer_under : (x : Exact) (v : ℕ) → Under x v → Under (finer i x) (v * 2 ^ i)
  finer_under x v h = rw (finer_told x v, finer_bound x) (mul-lt-mul_of_pos_right h (factor_pos x))

  pub finer_least : (x : Exact) (v : ℕ) → at_least (finer i x) (v * 2 ^ i) ≡ at_least x v
  finer_least x v = rw (finer_told x v, finer_bound x) (leb_factor (told x v) (bound x) (factor i x) (factor_pos x))

  pub finer_above : (x : Exact) (v : ℕ) → above (finer i x) (v * 2 ^ i) ≡ above x v
  finer_above x v = rw (finer_told x v, finer_bound x) (ltb_factor (told x v) (bound x) (factor i x) (factor_pos x))
