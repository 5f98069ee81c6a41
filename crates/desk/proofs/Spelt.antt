-- Digits one by one: which digit stands at a place, a digit to a finer base as a part of one to a coarser, and a list of all the digits of a number
-- (`all_digits`). Words and image are the digits of one number (`image_digits`).
use mathlib.Core.Path.{◌≡◌, refl, sym, ap, subst, ◌∙◌}
use mathlib.Core.List.{List}
use Prim.Native.Nat.{ℕ, zero, suc, ◌+◌, ◌-◌, ◌*◌, ◌/◌, ◌%◌, ◌^◌, ◌<◌}
use native.Mathlib.Nat.{not-suc-le-zero, div-one, div-div-eq-div-mul, mod-lt, mul-pos}
use native.Mathlib.Omega.{arith}
use borrow.Kind.Array.{r_arr, e_int, e_int_laws}
use mir.Syntax.{w64}
use lib.Arith.{digits_div, digits_mod, mod-mul}
use lib.Dec.{lit<}
use lib.ListN.{length, get_or}
use lib.Pow.{pow_pos, pow-add}
use lib.Seq.{ext_get_or}
use Rattle.std.specs.Int.{byte_at, bytes_high_first, to_be_bytes}
use Rattle.posit.specs.Digits.{digits, InBase}
use Rattle.posit.specs.Accumulator.{State, bits_of, image, words, from_words}
use Rattle.posit.proofs.Arith.{pow_sum, pow_mul}
use Rattle.posit.proofs.Digits.{length_digits, digits_number}
use Rattle.posit.proofs.State.{bits_state, read_words}
use Rattle.quire_words.specs.Words.{wide}
use Rattle.quire_words.proofs.Places.{words_typed}

-- ---- the digit at a place

pub digit_at : (B c n i : ℕ) → i < c → get_or (digits B c n) i 0 ≡ n / B ^ (c - suc i) % B
unfolding digits
digit_at B zero n i h = absurd (not-suc-le-zero h)
digit_at B (suc c) n zero h =
    let e : suc c - 1 ≡ c = omega arith in
    rw e
digit_at B (suc c) n (suc i) h =
    let e : suc c - suc (suc i) ≡ c - suc i = omega arith in
    rw e (digit_at B c n i (omega arith))

-- of a number below u * (b * v), what stands above u, and of that a digit to the base b
part_of_digit : (x u b v : ℕ) → 0 < u → 0 < b → 0 < v → x % (v * b * u) / u % b ≡ x / u % b
part_of_digit x u b v pu pb pv =
    ap (λ (n : ℕ). n / u % b) (mod-mul x {m = v * b} {c = u} (mul-pos pv pb) pu)
    ∙ ap (λ (n : ℕ). n % b) (digits_div (x / u % (v * b)) (mod-lt x pu))
    ∙ ap (λ (n : ℕ). n % b) (mod-mul (x / u) {m = v} {c = b} pv pb)
    ∙ digits_mod (x / u / b % v) (mod-lt (x / u) pb)

-- byte k of word j of a number in eight words
byte_of_word : (n j k : ℕ) → j < 8 → k < 8 → n / (2 ^ 64) ^ (7 - j) % 2 ^ 64 / 2 ^ (56 - 8 * k) % 256 ≡ n / 256 ^ (63 - (8 * j + k)) % 256
byte_of_word n j k hj hk =
    let whole : 2 ^ (8 * k) * 2 ^ 8 * 2 ^ (56 - 8 * k) ≡ 2 ^ 64 =
    ap (λ (m : ℕ). m * 2 ^ (56 - 8 * k)) (sym (pow-add 2 (8 * k) 8)) ∙ pow_sum (8 * k + 8) (56 - 8 * k) 64 (omega arith) in
    let place : (2 ^ 64) ^ (7 - j) * 2 ^ (56 - 8 * k) ≡ 256 ^ (63 - (8 * j + k)) =
    ap (λ (m : ℕ). m * 2 ^ (56 - 8 * k)) (sym (pow_mul 64 (7 - j))) ∙ pow_sum (64 * (7 - j)) (56 - 8 * k) (8 * (63 - (8 * j + k))) (omega arith) ∙ pow_mul 8 (63 - (8 * j + k)) in
    ap (λ (m : ℕ). n / (2 ^ 64) ^ (7 - j) % m / 2 ^ (56 - 8 * k) % 256) (sym whole)
    ∙ part_of_digit (n / (2 ^ 64) ^ (7 - j)) (2 ^ (56 - 8 * k)) (2 ^ 8) (2 ^ (8 * k)) (pow_pos (56 - 8 * k)) (pow_pos 8) (pow_pos (8 * k))
    ∙ ap (λ (m : ℕ). m % 256) (div-div-eq-div-mul n ((2 ^ 64) ^ (7 - j)) (2 ^ (56 - 8 * k)) ∙ ap (λ (m : ℕ). n / m) place)

-- the same of eight words, at place i of the image
pub byte_is : (ws : List ℕ) (i : ℕ) → length ws ≡ 8 → InBase (2 ^ 64) ws → i < 64 → get_or ws (i / 8) 0 / 2 ^ (56 - 8 * (i % 8)) % 256 ≡ wide ws / 256 ^ (63 - i) % 256
byte_is ws i e b h =
    let all : ws ≡ digits (2 ^ 64) 8 (wide ws) = sym (digits_number (2 ^ 64) (pow_pos 64) ws b) ∙ ap (λ (c : ℕ). digits (2 ^ 64) c (wide ws)) e in
    let places : 8 - suc (i / 8) ≡ 7 - i / 8 = omega arith in
    let whole : 8 * (i / 8) + i % 8 ≡ i = omega arith in
    ap (λ (l : List ℕ). get_or l (i / 8) 0 / 2 ^ (56 - 8 * (i % 8)) % 256) all
    ∙ ap (λ (n : ℕ). n / 2 ^ (56 - 8 * (i % 8)) % 256) (digit_at (2 ^ 64) 8 (wide ws) (i / 8) (omega arith) ∙ ap (λ (m : ℕ). wide ws / (2 ^ 64) ^ m % 2 ^ 64) places)
    ∙ byte_of_word (wide ws) (i / 8) (i % 8) (omega arith) (omega arith)
    ∙ ap (λ (m : ℕ). wide ws / 256 ^ (63 - m) % 256) whole

-- byte k of a word by itself
byte_of : (n k : ℕ) → byte_at k n ≡ n / 256 ^ k % 256
byte_of n zero = ap (λ (m : ℕ). m % 256) (sym (div-one n))
byte_of n (suc k) = refl

high_first : (c n k : ℕ) → k < c → get_or (bytes_high_first c n) k 0 ≡ n / 256 ^ (c - suc k) % 256
high_first zero n k h = absurd (not-suc-le-zero h)
high_first (suc c) n zero h =
    let e : suc c - 1 ≡ c = omega arith in
    rw e (byte_of n c)
high_first (suc c) n (suc k) h =
    let e : suc c - suc (suc k) ≡ c - suc k = omega arith in
    rw e (high_first c n k (omega arith))

-- byte i of the image, read off the bytes of its word
pub byte_read : (ws : List ℕ) (i : ℕ) → length ws ≡ 8 → InBase (2 ^ 64) ws → i < 64 → get_or (to_be_bytes w64 (get_or ws (i / 8) 0)) (i % 8) 0 ≡ wide ws / 256 ^ (63 - i) % 256
byte_read ws i e b h =
    let bits : 8 * (8 - suc (i % 8)) ≡ 56 - 8 * (i % 8) = omega arith in
    high_first 8 (get_or ws (i / 8) 0) (i % 8) (omega arith)
    ∙ ap (λ (m : ℕ). get_or ws (i / 8) 0 / m % 256) (sym (pow_mul 8 (8 - suc (i % 8))) ∙ ap (λ (m : ℕ). 2 ^ m) bits)
    ∙ byte_is ws i e b h

-- digit by digit, all of them
pub all_digits : (B n x : ℕ) (r : List ℕ) → length r ≡ n → ((k : ℕ) → k < n → get_or r k 0 ≡ x / B ^ (n - suc k) % B) → r ≡ digits B n x
all_digits B n x r e h = ext_get_or 0 r (digits B n x) (e ∙ sym (length_digits B n x)) (λ i l. let s : i < n = rw e at l in h i s ∙ sym (digit_at B n x i s))

-- ---- the image

pub image_digits : (ws : List ℕ) → wide ws < 2 ^ 512 → digits 256 64 (wide ws) ≡ image 512 (from_words 512 ws)
unfolding image from_words
image_digits ws h = ap (digits 256 64) (sym (bits_state 512 (lit< tt) (wide ws) h))

pub image_long : (q : State) → length (image 512 q) ≡ 64
unfolding image
image_long q = length_digits 256 64 (bits_of 512 q)

-- words that an array holds are those of the state that they are
pub words_back : (ws : List ℕ) → (r_arr {k = 0} (e_int w64) (e_int_laws w64) 8).is.Ok tt ws → ws ≡ words 512 (from_words 512 ws)
words_back ws o = let w = words_typed 8 ws o in sym (read_words 512 (lit< tt) refl ws w.0 w.1)

-- what a refusal leaves: words that were taken out of an accumulator, and are those of what its state then is, were its own
pub left_standing : (then : State → State) (own ws : List ℕ) → (r_arr {k = 0} (e_int w64) (e_int_laws w64) 8).is.Ok tt ws → ws ≡ own
    → words 512 (from_words 512 ws) ≡ words 512 (then (from_words 512 ws)) → own ≡ words 512 (then (from_words 512 own))
left_standing then own ws o e stays = subst (λ (l : List ℕ). l ≡ words 512 (then (from_words 512 l))) e (words_back ws o ∙ stays)
