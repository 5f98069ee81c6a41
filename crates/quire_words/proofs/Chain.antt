-- Digits that are added at a place, or taken there, and what is carried upwards from it: to any base, over any number of digits, from any place. What is below the
-- place stays, what is above the end of the chain stays, and the number is the sum (`Chain`). The chain may leave off where what is carried is the digit above, and ends where
-- there is none (`ended`).
use Rattle.std.proofs.Common.{◌≡◌, ℕ, zero, suc, ◌+◌, ◌-◌, ◌*◌, ◌^◌, ◌<◌, ◌≤◌, Bool, true, false, ◌⊎◌, List, [], ◌∷◌, length, get_or, drop, set, sym, refl, ap, ◌∙◌, ap₂, inl, inr, le_of_eq, le_refl, not-suc-le-zero, add-zero, mul_assoc, mul_comm, add-mul, zero-mul, mul-add, mul_left_comm, arith, length-set, drop_of_length-le, drop-cons, get_or-set_other}
use native.Mathlib.Nat.{pow-zero, pow-succ' as pow-suc', sub_self}
use mir.Val.{bool_byte}
use Rattle.posit.specs.Digits.{number}
use Rattle.quire_words.proofs.Operand.{turned, upward}
use Rattle.quire_words.proofs.Places.{number_drop, number_none}
use Rattle.quire_words.proofs.Carry.{base_parts}

-- ---- digits by their places

-- n digits of r, from the place n - 1 down
abbrev pub downward : ℕ → List ℕ → List ℕ
downward zero r = []
downward (suc n) r = get_or r n 0 ∷ downward n r

module _ (B : ℕ) where
  length_downward : (n : ℕ) (r : List ℕ) → length (downward n r) ≡ n
  length_downward zero r = refl
  length_downward (suc n) r = ap suc (length_downward n r)

  upward_drop : (ws : List ℕ) (i : ℕ) → i < length ws → upward B (drop i ws) ≡ get_or ws i 0 + B * upward B (drop (suc i) ws)
  unfolding upward
  upward_drop ws i h = rw (drop-cons ws i 0)

  -- n digits, lowest first, read from the highest down, and those above them
  parts_read : (n : ℕ) (r : List ℕ) → n ≤ length r → upward B r ≡ number B (downward n r) + B ^ n * upward B (drop n r)
  unfolding number
  parts_read zero r h = rw pow-zero (omega arith)
  parts_read (suc n) r h =
      let P = B ^ n in
      let x = upward B (drop (suc n) r) in
      let more : P * (get_or r n 0 + B * x) ≡ get_or r n 0 * P + B * P * x = mul-add P (get_or r n 0) (B * x) ∙ ap₂ ◌+◌ (mul_comm P (get_or r n 0)) (sym (mul_assoc P B x) ∙ ap (λ (m : ℕ). m * x) (mul_comm P B)) in
      rw (length_downward n r, pow-suc') (parts_read n r (omega arith) ∙ ap (λ (m : ℕ). number B (downward n r) + P * m) (upward_drop r n h) ∙ omega (arith, more))

  -- n digits, highest first, read from the lowest up, and those below them
  parts_turned : (n : ℕ) (ws : List ℕ) → n ≤ length ws → number B ws ≡ upward B (downward n ws) * B ^ (length ws - n) + number B (drop n ws)
  unfolding upward
  parts_turned zero ws h = omega arith
  parts_turned (suc n) ws h =
      let one : length ws - n ≡ suc (length ws - suc n) = omega arith in
      let P = B ^ (length ws - suc n) in
      let x = upward B (downward n ws) in
      let more : (get_or ws n 0 + B * x) * P ≡ get_or ws n 0 * P + x * (B * P) = add-mul (get_or ws n 0) (B * x) P ∙ ap (λ (m : ℕ). get_or ws n 0 * P + m) (ap (λ (m : ℕ). m * P) (mul_comm B x) ∙ mul_assoc x B P) in
      parts_turned n ws (omega arith) ∙ rw (one, pow-suc', number_drop B ws n h) (omega (arith, more))

  -- all of them
  pub read_down : (n : ℕ) (r : List ℕ) → length r ≡ n → upward B r ≡ number B (downward n r)
  unfolding upward
  read_down n r e = parts_read n r (le_of_eq (sym e)) ∙ rw (drop_of_length-le r {i = n} (le_of_eq e)) (omega arith)

  pub turned_round : (n : ℕ) (ws : List ℕ) → length ws ≡ n → upward B (downward n ws) ≡ number B ws
  turned_round n ws e = sym (parts_turned n ws (le_of_eq (sym e)) ∙ rw (e, sub_self, pow-zero, number_none B n ws (le_of_eq e)) (omega arith))

-- a digit v written at the place i takes the place of the one that stood there
upward_set : (B : ℕ) (ws : List ℕ) (i v : ℕ) → i < length ws → upward B (set ws i v) + get_or ws i 0 * B ^ i ≡ upward B ws + v * B ^ i
unfolding upward
upward_set B [] i v h = absurd (not-suc-le-zero h)
upward_set B (w ∷ ws) zero v h = rw pow-zero (omega arith)
upward_set B (w ∷ ws) (suc i) v h =
    let x = upward B (set ws i v) in
    let y = upward B ws in
    let P = B ^ i in
    let more : B * x + B * (get_or ws i 0 * P) ≡ B * y + B * (v * P) = sym (mul-add B x (get_or ws i 0 * P)) ∙ ap (λ (n : ℕ). B * n) (upward_set B ws i v (omega arith)) ∙ mul-add B y (v * P) in
    rw (pow-suc', mul_left_comm (get_or ws i 0) B P, mul_left_comm v B P) (omega (arith, more))

-- ---- the chain

-- z with x added, or with x taken where s is set
abbrev pub Shifted : Bool → ℕ → ℕ → ℕ → Type 0
Shifted false y z x = y ≡ z + x
Shifted true y z x = y + x ≡ z

-- To a number of digits a, digits from the place `from` up to that before `to` have been added, x in all; r has come of it, and c is carried to the place `to`. Where x
-- is taken, that is told of what goes in as well: above its digits all are the largest, and the one that it lacks is carried in.
pub record Chain (s : Bool) (B from to : ℕ) (c : Bool) (a r : List ℕ) (x : ℕ) : Type 0 where
  pub long : length r ≡ length a
  pub within : from ≤ to
  pub below : (k : ℕ) → k < from → get_or r k 0 ≡ get_or a k 0
  pub above : (k : ℕ) → to ≤ k → get_or r k 0 ≡ get_or a k 0
  pub sum : Shifted s (upward B r + bool_byte c * B ^ to) (upward B a + bool_byte s * B ^ to) x

pub begun : (s : Bool) (B from : ℕ) (a : List ℕ) → Chain s B from from s a a 0
begun s B from a =
    record {
      long = refl;
      within = le_refl from;
      below = λ k l. refl;
      above = λ k l. refl;
      sum = nothing s;
    }
  where
    nothing : (s : Bool) → Shifted s (upward B a + bool_byte s * B ^ from) (upward B a + bool_byte s * B ^ from) 0
    nothing true = omega arith
    nothing false = omega arith

-- one column: y is the number before it and y' the number with the digit t in the place of g, P is what the place counts, and k is carried out
column_sum : (s : Bool) (B P c k g t d x y y' z : ℕ) → d < B → y' + g * P ≡ y + t * P → t + k * B ≡ g + turned s (B - 1) d + c
    → Shifted s (y + c * P) (z + bool_byte s * P) x → Shifted s (y' + k * (B * P)) (z + bool_byte s * (B * P)) (x + d * P)
column_sum s B P c k g t d x y y' z l written e =
    let counted : t * P + k * (B * P) ≡ g * P + turned s (B - 1) d * P + c * P =
    ap (λ (n : ℕ). t * P + n) (sym (mul_assoc k B P)) ∙ sym (add-mul t (k * B) P) ∙ ap (λ (n : ℕ). n * P) e ∙ add-mul (g + turned s (B - 1) d) c P ∙ ap (λ (n : ℕ). n + c * P) (add-mul g (turned s (B - 1) d) P) in
    go s counted
  where
    go : (s : Bool) → t * P + k * (B * P) ≡ g * P + turned s (B - 1) d * P + c * P → Shifted s (y + c * P) (z + bool_byte s * P) x
        → Shifted s (y' + k * (B * P)) (z + bool_byte s * (B * P)) (x + d * P)
    go false counted h = omega arith
    go true counted h = omega (arith, base_parts B P d l)

pub column : {s : Bool} {B from to : ℕ} {c : Bool} {a r : List ℕ} {x : ℕ} (k : Bool) (t d : ℕ) → Chain s B from to c a r x → to < length a → d < B
    → t + bool_byte k * B ≡ get_or a to 0 + turned s (B - 1) d + bool_byte c → Chain s B from (to + 1) k a (set r to t) (x + d * B ^ to)
column {s} {B} {from} {to} {c} {a} {r} {x} k t d h at l e =
    let place : to < length r = omega (arith, h.long) in
    let one : to + 1 ≡ suc to = omega arith in
    let written : upward B (set r to t) + get_or a to 0 * B ^ to ≡ upward B r + t * B ^ to = rw (h.above to (le_refl to)) at (upward_set B r to t place) in
    record {
      long = length-set r to t ∙ h.long;
      within = omega (arith, h.within);
      below = λ n m. get_or-set_other r to n t 0 (λ q. omega (arith, h.within)) ∙ h.below n m;
      above = λ n m. get_or-set_other r to n t 0 (λ q. omega arith) ∙ h.above n (omega arith);
      sum = rw (one, pow-suc') (column_sum s B (B ^ to) (bool_byte c) (bool_byte k) (get_or a to 0) t d x _ _ _ l written e h.sum);
    }

-- a column above the digits that are added
pub carried_on : {s : Bool} {B from to : ℕ} {c : Bool} {a r : List ℕ} {x : ℕ} (k : Bool) (t : ℕ) → Chain s B from to c a r x → to < length a → 0 < B
    → t + bool_byte k * B ≡ get_or r to 0 + turned s (B - 1) 0 + bool_byte c → Chain s B from (to + 1) k a (set r to t) x
carried_on {s} {B} {from} {to} {c} {a} {r} {x} k t h at p e =
    rw (zero-mul, add-zero) at (column k t 0 h at p (e ∙ ap (λ (n : ℕ). n + turned s (B - 1) 0 + bool_byte c) (h.above to (le_refl to))))

-- the chain has left off, or has come to the top: then as much is carried out of the whole
pub ended : {s : Bool} {B from to : ℕ} {c : Bool} {a r : List ℕ} {x : ℕ} → Chain s B from to c a r x → (c ≡ s) ⊎ (to ≡ length a)
    → Shifted s (upward B r + bool_byte c * B ^ length a) (upward B a + bool_byte s * B ^ length a) x
ended {s} {B} {from} {to} {c} {a} {r} {x} h (inr e) = rw e at h.sum
ended {s} {B} {from} {to} {c} {a} {r} {x} h (inl e) = rw e (go s (rw e at h.sum))
  where
    go : (s : Bool) → Shifted s (upward B r + bool_byte s * B ^ to) (upward B a + bool_byte s * B ^ to) x → Shifted s (upward B r + bool_byte s * B ^ length a) (upward B a + bool_byte s * B ^ length a) x
    go true f = omega arith
    go false f = omega arith
