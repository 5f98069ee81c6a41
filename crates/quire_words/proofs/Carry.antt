-- A loop from the last digit down to the first that writes a digit of the result and carries the rest: to any base, over any number of digits. What the
-- digits from a place on are to be is S; it grows by one column a turn (`turn`). Sums are of this kind. A complement is told digit by digit (`complemented`).
use Rattle.std.proofs.Common.{◌≡◌, ℕ, suc, ◌+◌, ◌-◌, ◌*◌, ◌%◌, ◌^◌, ◌<◌, ◌≤◌, List, [], ◌∷◌, map, length, get_or, drop, set, sym, ap, ◌∙◌, subst, le_refl, mul_assoc, suc-mul, add-mul, add_comm, zero-add, mul-one, arith, length-drop, length-set, drop_of_length-le}
use Rattle.std.proofs.lemmas.List.{length-map}
use native.Mathlib.Nat.{pow-succ' as pow-suc', sub-zero, sub_self, pow-zero}
use lib.Arith.{digits_mod}
use Rattle.posit.specs.Digits.{number, InBase}
use Rattle.posit.proofs.Digits.{number_lt}
use Rattle.quire_words.proofs.Places.{number_drop, drop_set}

-- The digits of r from i on, with the carry c in front of them, are the number s: r has n digits.
pub record Carried (B n i c : ℕ) (r : List ℕ) (s : ℕ) : Type 0 where
  pub long : length r ≡ n
  pub within : i ≤ n
  pub below : InBase B (drop i r)
  pub sum : number B (drop i r) + c * B ^ (n - i) ≡ s

-- one column: a digit t and a carry k for the column's sum y + c, in front of v and c, which are s
column : (B P t k y c v s : ℕ) → t + k * B ≡ y + c → v + c * P ≡ s → (t * P + v) + k * (B * P) ≡ y * P + s
column B P t k y c v s e f = omega (arith, sym (add-mul t (k * B) P) ∙ ap (λ (x : ℕ). x * P) e ∙ add-mul y c P, mul_assoc k B P)

column_at : {B n i c : ℕ} {r : List ℕ} {s : ℕ} (t k y : ℕ) → Carried B n (suc i) c r s → t < B → t + k * B ≡ y + c → Carried B n i k (set r i t) (y * B ^ (n - suc i) + s)
unfolding number
column_at {B} {n} {i} {c} {r} {s} t k y h l e =
    let at : i < length r = omega arith in
    let one : n - i ≡ suc (n - suc i) = omega arith in
    record {
      long = length-set r i t ∙ h.long;
      within = omega arith;
      below = rw (drop_set r i t at) (l, h.below);
      sum = rw (drop_set r i t at, length-drop, h.long, one, pow-suc') (column B (B ^ (n - suc i)) t k y c (number B (drop (suc i) r)) s e h.sum);
    }

-- the start: no digit yet, and the carry alone
pub start : (B n c : ℕ) (r : List ℕ) → length r ≡ n → Carried B n n c r c
unfolding number
start B n c r e =
    record {
      long = e;
      within = le_refl n;
      below = rw (drop_of_length-le r {i = n} (omega arith)) tt;
      sum = rw (drop_of_length-le r {i = n} (omega arith), sub_self, pow-zero, mul-one, zero-add);
    }

-- one turn of a loop that counts i down. S i is what the digits from i on are to be, and y j is the sum of column j, by which it grows
pub turn : {B n i c : ℕ} {r : List ℕ} (S y : ℕ → ℕ) (t k : ℕ) → ((j : ℕ) → suc j ≡ i → S j ≡ y j * B ^ (n - suc j) + S i) → 0 < i
    → Carried B n i c r (S i) → t < B → t + k * B ≡ y (i - 1) + c → Carried B n (i - 1) k (set r (i - 1) t) (S (i - 1))
turn {B} {n} {i} {c} {r} S y t k grows p h l e =
    let down : suc (i - 1) ≡ i = omega arith in
    let h' : Carried B n (suc (i - 1)) c r (S i) = subst (λ (x : ℕ). Carried B n x c r (S i)) (sym down) h in
    rw (grows (i - 1) down) (column_at t k (y (i - 1)) h' l e)

-- the end: what is left in front of the n digits is dropped
pub wrapped : {B n c : ℕ} {r : List ℕ} {s : ℕ} → Carried B n 0 c r s → number B r ≡ s % B ^ n
wrapped {B} {n} {c} {r} h =
    let l : number B r < B ^ n = rw h.long at (number_lt B r h.below) in
    sym (digits_mod c l) ∙ ap (λ (x : ℕ). x % B ^ n) (add_comm (c * B ^ n) (number B r) ∙ (rw sub-zero at h.sum))

-- what a sum of two numbers, and what is carried in, grows by
pub sum_grows : (B n i c : ℕ) (a b : List ℕ) → length a ≡ n → length b ≡ n → i ≤ n
    → (j : ℕ) → suc j ≡ i → number B (drop j a) + number B (drop j b) + c ≡ (get_or a j 0 + get_or b j 0) * B ^ (n - suc j) + (number B (drop i a) + number B (drop i b) + c)
sum_grows B n i c a b ha hb w j e =
    let va = rw (ha, e) at (number_drop B a j (omega arith)) in
    let vb = rw (hb, e) at (number_drop B b j (omega arith)) in
    rw e (omega (arith, va, vb, add-mul (get_or a j 0) (get_or b j 0) (B ^ (n - i))))

-- the largest digit less x, and x, and one, are the base
pub base_parts : (B P x : ℕ) → x < B → B * P ≡ (B - 1 - x) * P + (x * P + P)
base_parts B P x l =
    let e : B ≡ (B - 1 - x) + suc x = omega arith in
    ap (λ (b : ℕ). b * P) e ∙ add-mul (B - 1 - x) (suc x) P ∙ ap (λ (z : ℕ). (B - 1 - x) * P + z) (suc-mul x P)

-- each digit of a number less than the largest: what the number lacks to the largest of as many digits
pub complemented : (B : ℕ) (ds : List ℕ) → InBase B ds → number B (map (λ (d : ℕ). B - 1 - d) ds) ≡ B ^ length ds - 1 - number B ds
unfolding number
complemented B [] b = rw pow-zero
complemented B (d ∷ ds) b = rw (length-map ds (λ (d : ℕ). B - 1 - d), complemented B ds b.1, pow-suc') (omega (arith, base_parts B (B ^ length ds) d b.0, number_lt B ds b.1))
