-- A total in parts: what is left behind the first ones (`left_by`), and a loop that writes them one after the other (`Parted`): each is the rounding of what those before it leave.
use mathlib.Core.Path.{◌≡◌, refl, sym, ap, ◌∙◌}
use mathlib.Core.List.{List}
use Prim.Native.Nat.{ℕ, zero, suc, ◌+◌, ◌-◌, ◌≤◌, ◌<◌}
use native.Mathlib.Decide.{ℕ_discrete}
use native.Mathlib.Omega.{arith}
use lib.ListN.{length, get_or, set, length-set}
use Rattle.std.proofs.Common.{get_or-set_same, get_or-set_other}
use Rattle.std.proofs.lemmas.Grind.{same_number_lists}
use Rattle.posit.specs.Accumulator.{State, minus, of_posit, to_posit, parts_of, words, from_words}
use Rattle.quire_steps.proofs.Kept.{plus_read}

-- what a total leaves when its rounding is taken, and when n roundings are
abbrev left : State → State
left q = minus 512 q (of_posit 2 31 (to_posit 2 31 q))

pub left_by : ℕ → State → State
left_by zero q = q
left_by (suc n) q = left_by n (left q)

left_more : (n : ℕ) (q : State) → left_by (suc n) q ≡ left (left_by n q)
unfolding left_by
left_more zero q = refl
left_more (suc n) q = left_more n (left q)

length_parts : (n : ℕ) (q : State) → length (parts_of 2 31 512 n q) ≡ n
unfolding parts_of
length_parts zero q = refl
length_parts (suc n) q = ap suc (length_parts n (left q))

part_at : (n k : ℕ) (q : State) → k < n → get_or (parts_of 2 31 512 n q) k 0 ≡ to_posit 2 31 (left_by k q)
unfolding parts_of left_by
part_at zero k q h = absurd (omega arith)
part_at (suc n) zero q h = refl
part_at (suc n) (suc k) q h = part_at n k (left q) (omega arith)

-- i parts of n are written, and the words `rest` are what all but the last of them leave
pub record Parted (n : ℕ) (q : State) (i : ℕ) (rest ps : List ℕ) : Type 0 where
  pub long : length ps ≡ n
  pub behind : from_words 512 rest ≡ left_by (i - 1) q
  pub each : (k : ℕ) → k < i → k < n → get_or ps k 0 ≡ to_posit 2 31 (left_by k q)

pub parted_first : (n f : ℕ) (ws ps : List ℕ) → length ps ≡ n → (0 < n → get_or ps 0 0 ≡ f) → f ≡ to_posit 2 31 (from_words 512 ws) → Parted n (from_words 512 ws) 1 ws ps
unfolding left_by
parted_first n f ws ps e h r =
    record {
      long = e;
      behind = refl;
      each = λ k a b. go k a b;
    }
  where
    go : (k : ℕ) → k < 1 → k < n → get_or ps k 0 ≡ to_posit 2 31 (left_by k (from_words 512 ws))
    go zero a b = h b ∙ r
    go (suc k) a b = absurd (omega arith)

pub parted_more : {n i : ℕ} {q : State} {rest ps : List ℕ} (ws : List ℕ) (f : ℕ) → Parted n q i rest ps → 0 < i → i < n
    → ws ≡ words 512 (minus 512 (from_words 512 rest) (of_posit 2 31 (get_or ps (i - 1) 0))) → f ≡ to_posit 2 31 (from_words 512 ws) → Parted n q (i + 1) ws (set ps i f)
unfolding minus
parted_more {n} {i} {q} {rest} {ps} ws f h p l e r =
    let down : suc (i - 1) ≡ i = omega arith in
    let up : i + 1 - 1 ≡ i = omega arith in
    let next : from_words 512 ws ≡ left_by i q = rw (e, h.each (i - 1) (omega arith) (omega arith), h.behind, plus_read) (sym (rw down at (left_more (i - 1) q))) in
    record {
      long = length-set ps i f ∙ h.long;
      behind = rw up next;
      each = λ k a b. go k a b next (ℕ_discrete k i);
    }
  where
    go : (k : ℕ) → k < i + 1 → k < n → from_words 512 ws ≡ left_by i q → Dec (k ≡ i) → get_or (set ps i f) k 0 ≡ to_posit 2 31 (left_by k q)
    go k a b next (yes same) = rw same (get_or-set_same ps i f 0 (omega (arith, h.long)) ∙ r ∙ ap (to_posit 2 31) next)
    go k a b next (no other) = get_or-set_other ps i k f 0 (λ s. other s) ∙ h.each k (omega arith) b

pub parted_all : {n i : ℕ} {q : State} {rest ps : List ℕ} → Parted n q i rest ps → n ≤ i → ps ≡ parts_of 2 31 512 n q
parted_all {n} {i} {q} {rest} {ps} h l = same_number_lists _ _ (h.long ∙ sym (length_parts n q)) (λ k a. h.each k (omega (arith, h.long)) (omega (arith, h.long)) ∙ sym (part_at n k q (omega (arith, h.long))))
