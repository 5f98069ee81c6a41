-- An operand at its place: the two words of a significand that was moved up are two columns of a chain, with all of it (`two_columns`), and where a chain over eight words and the one below them has ended, the
-- eight are the wrapped sum (`chained`), since no digit of an operand is below the accumulator's unit. `set_adds` is of numbers with the highest digit first, as the bytes of an image are.
use mathlib.Core.Path.{◌≡◌, sym, ap, ◌∙◌, subst}
use mathlib.Core.Bool.{Bool, true, false}
use mathlib.Core.List.{List, [], ◌∷◌}
use Prim.Native.Nat.{ℕ, zero, suc, ◌+◌, ◌-◌, ◌*◌, ◌/◌, ◌%◌, ◌^◌, ◌<◌}
use native.Mathlib.Nat.{not-suc-le-zero, div-add-mod', pow-succ' as pow-suc', mul-div-mul_right, add_comm, zero-add, lt_of_le_of_lt, le_trans, div-le_self, mod-lt}
use native.Mathlib.Omega.{arith}
use mir.Val.{bool_byte}
use lib.Arith.{digits_mod}
use lib.Pow.{pow_pos, pow-add, shr-shr}
use lib.ListN.{length, get_or, set, length-set}
use Rattle.posit.specs.Digits.{number}
use Rattle.posit.proofs.Arith.{pow_sum, pow_mul}
use Rattle.quire_words.proofs.Operand.{turned}
use Rattle.quire_words.proofs.Chain.{Shifted, Chain, begun, column}

-- ---- a word that is written

-- a digit v written at i takes the place of the one that stood there
pub set_adds : (B : ℕ) (ws : List ℕ) (i v : ℕ) → i < length ws
    → number B (set ws i v) + get_or ws i 0 * B ^ (length ws - suc i) ≡ number B ws + v * B ^ (length ws - suc i)
unfolding number
set_adds B [] i v h = absurd (not-suc-le-zero h)
set_adds B (w ∷ ws) zero v h =
    let e : suc (length ws) - 1 ≡ length ws = omega arith in
    rw e (omega arith)
set_adds B (w ∷ ws) (suc i) v h =
    let e : suc (length ws) - suc (suc i) ≡ length ws - suc i = omega arith in
    let first : number B (set (w ∷ ws) (suc i) v) ≡ w * B ^ length ws + number B (set ws i v) = ap (λ (n : ℕ). w * B ^ n + number B (set ws i v)) (length-set ws i v) in
    rw (e, first) (omega (arith, set_adds B ws i v (omega arith)))

-- ---- the two words of a significand

-- a significand m, moved up by o digits within its word and by j words
module _ (m o : ℕ) (below : o < 64) where
  pub moved_down : m / 2 / 2 ^ (63 - o) ≡ m / 2 ^ (64 - o)
  moved_down =
      let e : 1 + (63 - o) ≡ 64 - o = omega arith in
      shr-shr m 1 (63 - o) ∙ ap (λ (n : ℕ). m / 2 ^ n) e

  upper_word : m / 2 / 2 ^ (63 - o) ≡ m * 2 ^ o / 2 ^ 64
  upper_word =
      moved_down
      ∙ sym (ap (λ (n : ℕ). m * 2 ^ o / n) (sym (pow_sum (64 - o) o 64 (omega arith))) ∙ mul-div-mul_right m (2 ^ (64 - o)) (pow_pos o))

  two_words : (d j : ℕ) → d ≡ o + 64 * j → m * 2 ^ o % 2 ^ 64 * (2 ^ 64) ^ j + m / 2 / 2 ^ (63 - o) * (2 ^ 64) ^ (j + 1) ≡ m * 2 ^ d
  two_words d j e =
      let x = m * 2 ^ o in
      let one : j + 1 ≡ suc j = omega arith in
      let powers : 2 ^ d ≡ 2 ^ o * (2 ^ 64) ^ j = ap (λ (n : ℕ). 2 ^ n) e ∙ pow-add 2 o (64 * j) ∙ ap (λ (n : ℕ). 2 ^ o * n) (pow_mul 64 j) in
      rw (powers, upper_word, one, pow-suc' (2 ^ 64) j) (omega (arith, ap (λ (n : ℕ). n * (2 ^ 64) ^ j) (div-add-mod' x (2 ^ 64))))

-- ---- the two columns of a chain

-- t and u are the two words as they are added, low and high what comes of them
module _ (s c k : Bool) (m d t u low high : ℕ) (r : List ℕ) (nine : length r ≡ 9) (short : m < 2 ^ 64) (within : d < 512)
    (et : t ≡ turned s (2 ^ 64 - 1) (m * 2 ^ (d % 64) % 2 ^ 64)) (eu : u ≡ turned s (2 ^ 64 - 1) (m / 2 / 2 ^ (63 - d % 64)))
    (first : low + bool_byte c * 2 ^ 64 ≡ get_or r (d / 64) 0 + t + bool_byte s) (second : high + bool_byte k * 2 ^ 64 ≡ get_or r (d / 64 + 1) 0 + u + bool_byte c) where
  pub two_columns : Chain s (2 ^ 64) (d / 64) (d / 64 + 2) k r (set (set r (d / 64) low) (d / 64 + 1) high) (m * 2 ^ d)
  two_columns =
      let at : d / 64 < length r = omega arith in
      let next : d / 64 + 1 < length r = omega arith in
      let upper : m / 2 / 2 ^ (63 - d % 64) < 2 ^ 64 = lt_of_le_of_lt (le_trans (div-le_self (m / 2) (2 ^ (63 - d % 64))) (div-le_self m 2)) short in
      let one = column c low _ (begun s (2 ^ 64) (d / 64) r) at (mod-lt (m * 2 ^ (d % 64)) (pow_pos 64)) (rw et at first) in
      let two = column k high _ one next upper (rw eu at second) in
      let places : d / 64 + 1 + 1 ≡ d / 64 + 2 = omega arith in
      rw (places, zero-add, two_words m (d % 64) (omega arith) d (d / 64) (omega arith)) at two

-- ---- the end of a chain

-- what is whole words above the lowest is told without it: P is what the others count in all, and y is what has come
without_lowest : (s c : Bool) (P y v m : ℕ) → Shifted s (y + bool_byte c * (2 ^ 64 * P)) (2 ^ 64 * v + bool_byte s * (2 ^ 64 * P)) (2 ^ 64 * m)
    → Shifted s (y / 2 ^ 64 + bool_byte c * P) (v + bool_byte s * P) m
without_lowest true true P y v m h = omega arith
without_lowest true false P y v m h = omega arith
without_lowest false true P y v m h = omega arith
without_lowest false false P y v m h = omega arith

-- the wrapped sum, with an operand that is turned round and the one that its negative lacks
wrapped_sum : (s c : Bool) (P w v m : ℕ) → w < P → m < P → Shifted s (w + bool_byte c * P) (v + bool_byte s * P) m → w ≡ (v + turned s (P - 1) m + bool_byte s) % P
wrapped_sum s c P w v m l k h = sym (digits_mod (bool_byte c) l) ∙ ap (λ (n : ℕ). n % P) (add_comm (bool_byte c * P) w ∙ go s h)
  where
    go : (s : Bool) → Shifted s (w + bool_byte c * P) (v + bool_byte s * P) m → w + bool_byte c * P ≡ v + turned s (P - 1) m + bool_byte s
    go true f = omega arith
    go false f = omega arith

-- eight words v stood above nothing, in all z by their places; y has come of it, w without the lowest
pub chained : (s c : Bool) (w v x y z : ℕ) → w < 2 ^ 512 → x / 2 ^ 64 < 2 ^ 512 → x % 2 ^ 64 ≡ 0 → z ≡ 2 ^ 64 * v → w ≡ y / 2 ^ 64
    → Shifted s (y + bool_byte c * (2 ^ 64) ^ 9) (z + bool_byte s * (2 ^ 64) ^ 9) x → w ≡ (v + turned s (2 ^ 512 - 1) (x / 2 ^ 64) + bool_byte s) % 2 ^ 512
chained s c w v x y z short small whole before after h =
    let parts : x ≡ 2 ^ 64 * (x / 2 ^ 64) = omega arith in
    let shifted = without_lowest s c (2 ^ 512) y v (x / 2 ^ 64) (subst (Shifted s _ _) parts (rw before at h)) in
    wrapped_sum s c (2 ^ 512) w v (x / 2 ^ 64) short small (rw (← after) at shifted)
