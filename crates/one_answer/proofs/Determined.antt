-- Where a contract tells an answer by what it means, the meaning determines the answer.
use mathlib.Core.Path.{◌≡◌, refl, sym, ap, ap₂, subst, ◌∙◌}
use mathlib.Core.Bool.{Bool, true, false, cond}
use mathlib.Core.Logic.{inl, inr}
use mathlib.Core.List.{List, [], ◌∷◌, map}
use Prim.Native.Nat.{ℕ, ◌+◌, ◌*◌, ◌/◌, ◌^◌, ◌≤◌, ◌<◌}
use native.Mathlib.Nat.{mul-le-mul_right}
use native.Mathlib.Decide.{dec_lt, ℕ_discrete}
use native.Mathlib.Omega.{arith}
use borrow.Kind.Array.{r_arr, e_int, e_int_laws}
use mir.Syntax.{w64}
use mir.Val.{bool_byte}
use lib.Dec.{eqb}
use lib.Pow.{pow_pos, pow_mono, pow-add, shl_lt, shl-shr}
use Rattle.std.specs.Prelude.{Result, Ok, Err}
use Rattle.posit.specs.Pattern.{nar, unsigned}
use Rattle.posit.specs.Digits.{digits}
use Rattle.posit.specs.Accumulator.{State}
use Rattle.posit.proofs.Digits.{digits_number}
use Rattle.unpacking.specs.Parts.{Parts, is_zero, is_nar, is_real}
use Rattle.unpacking.specs.Unpacked.{meaning}
use Rattle.unpacking.specs.Scaled.{Scales, IsScaled}
use Rattle.unpacking.specs.declared.Unpacked.{Unpacked}
use Rattle.unpacking.specs.declared.Unpacked.TheVariants.{Zero, NaR, Real}
use Rattle.p32e2.specs.declared.P32E2.{P32E2}
use Rattle.quire_words.specs.Words.{wide}
use Rattle.quire_words.proofs.Places.{words_typed}
use Rattle.desk.specs.Answers.{refusal_number, number_of, after}
use Rattle.desk.specs.declared.refusal.Refusal.{Refusal}
use Rattle.desk.specs.declared.refusal.Refusal.TheVariants.{WrongLength, BufferTooShort, UnequalLists, TooManyPairs, Differs}
use Rattle.desk.proofs.Refused.{refused_number}

-- what can be had back from its meaning is determined by it
determined : {A B : Type 0} (f : A → B) (g : B → A) → ((x : A) → g (f x) ≡ x) → (x y : A) → f x ≡ f y → x ≡ y
determined f g back x y e = sym (back x) ∙ ap g e ∙ back y

-- ---- the answer of `unpack`, by the parts that it means
of_parts : Parts → Unpacked
of_parts is_zero = Zero
of_parts is_nar = NaR
of_parts (is_real s k e g) = Real s k e g

unpacked_back : (x : Unpacked) → of_parts (meaning x) ≡ x
unfolding of_parts
unpacked_back Zero = refl
unpacked_back NaR = refl
unpacked_back (Real s k e g) = refl

pub unpacked : (x y : Unpacked) → meaning x ≡ meaning y → x ≡ y
unpacked = determined meaning of_parts unpacked_back

-- ---- a scale and a significand, by the size of the pattern
apart : (c d g h : ℕ) → g < 2 ^ 31 → 2 ^ 30 ≤ h → c < d → g * 2 ^ c ≡ h * 2 ^ d → ⊥
apart c d g h low high l e =
    let below : g * 2 ^ c < 2 ^ (31 + c) = shl_lt 31 c low in
    let over : 2 ^ (30 + d) ≤ h * 2 ^ d = subst (λ (n : ℕ). n ≤ h * 2 ^ d) (sym (pow-add 2 30 d)) (mul-le-mul_right (2 ^ d) high) in
    let between : 2 ^ (31 + c) ≤ 2 ^ (30 + d) = pow_mono (omega arith) in
    omega arith

scales_one : (b c d g h : ℕ) → Scales b c g → Scales b d h → (c ≡ d) × (g ≡ h)
scales_one b c d g h s t = go (dec_lt c d) (dec_lt d c)
  where
    e : g * 2 ^ c ≡ h * 2 ^ d
    e = sym s.size_is ∙ t.size_is

    same : c ≡ d → g ≡ h
    same k = sym (shl-shr g c) ∙ ap (λ (n : ℕ). n / 2 ^ c) (e ∙ ap (λ (n : ℕ). h * 2 ^ n) (sym k)) ∙ shl-shr h c

    go : Dec (c < d) → Dec (d < c) → (c ≡ d) × (g ≡ h)
    go (yes l) m = absurd (apart c d g h s.in_scale.below t.in_scale.leading l e)
    go (no l) (yes m) = absurd (apart d c h g t.in_scale.below s.in_scale.leading m (sym e))
    go (no l) (no m) = let k : c ≡ d = omega arith in (k, same k)

pub scaled_one : (p c d g h : ℕ) → IsScaled p c g → IsScaled p d h → (c ≡ d) × (g ≡ h)
scaled_one p c d g h s t = go (ℕ_discrete p 0) (ℕ_discrete p (nar 31))
  where
    both : (c ≡ 0) × (g ≡ 0) → (d ≡ 0) × (h ≡ 0) → (c ≡ d) × (g ≡ h)
    both k l = (k.0 ∙ sym l.0, k.1 ∙ sym l.1)

    go : Dec (p ≡ 0) → Dec (p ≡ nar 31) → (c ≡ d) × (g ≡ h)
    go (yes z) n = both (s.of_other (inl z)) (t.of_other (inl z))
    go (no z) (yes n) = both (s.of_other (inr n)) (t.of_other (inr n))
    go (no z) (no n) = scales_one (unsigned 31 p) c d g h (s.of_real (z, n)) (t.of_real (z, n))

-- ---- eight words, by their number
abbrev pub Words : List ℕ → Type 0
Words ws = (r_arr {k = 0} (e_int w64) (e_int_laws w64) 8).is.Ok tt ws

from_number : (ws : List ℕ) → Words ws → digits (2 ^ 64) 8 (wide ws) ≡ ws
from_number ws o =
    let t = words_typed 8 ws o in
    ap (λ (c : ℕ). digits (2 ^ 64) c (wide ws)) (sym t.0) ∙ digits_number (2 ^ 64) (pow_pos 64) ws t.1

-- ---- a word of a sum and its carry, by what they count
pub same_sum : (m n : ℕ) (c d : Bool) → m < 2 ^ 64 → n < 2 ^ 64 → m + bool_byte c * 2 ^ 64 ≡ n + bool_byte d * 2 ^ 64 → (m ≡ n) × (c ≡ d)
same_sum m n true true h k e = (omega arith, refl)
same_sum m n false false h k e = (omega arith, refl)
same_sum m n true false h k e = absurd (omega arith)
same_sum m n false true h k e = absurd (omega arith)

pub same_words : (x y : List ℕ) → Words x → Words y → wide x ≡ wide y → x ≡ y
same_words x y o o' e = sym (from_number x o) ∙ ap (digits (2 ^ 64) 8) e ∙ from_number y o'

-- ---- posits, by their patterns
pub same_posits : (x y : List P32E2) → map (λ (p : P32E2). p.0) x ≡ map (λ (p : P32E2). p.0) y → x ≡ y
same_posits [] [] e = refl
same_posits [] (q ∷ y) e = absurd (cc)
same_posits (p ∷ x) [] e = absurd (cc)
same_posits (p ∷ x) (q ∷ y) e =
    let first : p.0 ≡ q.0 = cc in
    let rest : map (λ (p : P32E2). p.0) x ≡ map (λ (p : P32E2). p.0) y = cc in
    ap₂ ◌∷◌ (λ i. record { 0 = first i }) (same_posits x y rest)

-- ---- the desk's answers, by their numbers
abbrev of_number : ℕ → Refusal
of_number n = cond (eqb n 1) WrongLength (cond (eqb n 2) BufferTooShort (cond (eqb n 3) UnequalLists (cond (eqb n 4) TooManyPairs Differs)))

refusal_back : (r : Refusal) → of_number (refusal_number r) ≡ r
refusal_back WrongLength = refl
refusal_back BufferTooShort = refl
refusal_back UnequalLists = refl
refusal_back TooManyPairs = refl
refusal_back Differs = refl

-- where nothing is refused, what is answered has to be determined besides
pub desk_answer : {A : Type 0} (x y : Result A Refusal) → number_of x ≡ number_of y → ((u v : A) → x ≡ Ok u → y ≡ Ok v → u ≡ v) → x ≡ y
desk_answer (Ok u) (Ok v) e one = ap Ok (one u v refl refl)
desk_answer (Ok u) (Err r) e one = absurd (refused_number r (sym e))
desk_answer (Err r) (Ok v) e one = absurd (refused_number r e)
desk_answer (Err r) (Err s) e one = ap Err (determined refusal_number of_number refusal_back r s e)

-- by value it is, by the words that an accumulator in the state q then has
pub desk_words : (q : State) (x y : Result (List ℕ) Refusal) → number_of x ≡ number_of y → after 512 q x ≡ after 512 q y → x ≡ y
desk_words q x y e k = desk_answer x y e (λ u v h i. sym (ap (after 512 q) h) ∙ k ∙ ap (after 512 q) i)
