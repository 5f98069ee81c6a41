-- Words and images have the types of the code: eight words of 64 bits, and 64 bytes. Of values that have them, the state is kept and they are had back from it.
use mathlib.Core.Path.{◌≡◌, refl, sym, subst}
use mathlib.Core.List.{List, [], ◌∷◌, ◌++◌}
use Prim.Native.Nat.{ℕ, ◌^◌, ◌<◌}
use native.Mathlib.Decide.{dec_lt}
use native.Mathlib.Omega.{arith}
use lib.Dec.{lit<}
use lib.ListN.{length, drop}
use lib.Pow.{pow_pos}
use Rattle.posit.specs.Digits.{number, InBase}
use Rattle.posit.specs.Accumulator.{State, bits_of, words, from_words, image, from_image}
use Rattle.posit.proofs.Digits.{length_digits, below_digits, number_lt}
use Rattle.posit.proofs.State.{Held, state_held, read_words, read_image}
use Rattle.quire_words.proofs.Places.{below_drop}
use Rattle.desk.specs.Desk.{written_to}
use Rattle.desk.proofs.Refused.{buffer_short, buffer_wide}
use Rattle.promises.specs.Ways.{EightWords, ImageBytes}

pub words_typed : (q : State) → EightWords (words 512 q)
unfolding words
words_typed q = (length_digits (2 ^ 64) 8 (bits_of 512 q), below_digits (2 ^ 64) (pow_pos 64) 8 (bits_of 512 q))

pub image_typed : (q : State) → ImageBytes (image 512 q)
unfolding image
image_typed q = (length_digits (2 ^ 8) 64 (bits_of 512 q), below_digits (2 ^ 8) (pow_pos 8) 64 (bits_of 512 q))

pub words_held : (q : List ℕ) → EightWords q → Held 512 (from_words 512 q)
unfolding from_words
words_held q t = state_held 512 (lit< tt) (number (2 ^ 64) q) (rw t.0 at (number_lt (2 ^ 64) q t.1))

pub image_held : (bs : List ℕ) → ImageBytes bs → Held 512 (from_image 512 bs)
unfolding from_image
image_held bs t = state_held 512 (lit< tt) (number (2 ^ 8) bs) (rw t.0 at (number_lt (2 ^ 8) bs t.1))

pub words_back : (q : List ℕ) → EightWords q → words 512 (from_words 512 q) ≡ q
words_back q t = read_words 512 (lit< tt) refl q t.0 t.1

pub bytes_back : (bs : List ℕ) → ImageBytes bs → image 512 (from_image 512 bs) ≡ bs
bytes_back bs t = read_image 512 (lit< tt) refl bs t.0 t.1

-- ---- a buffer of bytes stays one

below_append : (B : ℕ) (xs ys : List ℕ) → InBase B xs → InBase B ys → InBase B (xs ++ ys)
below_append B [] ys h k = k
below_append B (x ∷ xs) ys h k = (h.0, below_append B xs ys h.1 k)

pub written_typed : (q : State) (b : List ℕ) → InBase 256 b → InBase 256 (written_to 512 q b)
written_typed q b t = go (dec_lt (length b) 64)
  where
    go : Dec (length b < 64) → InBase 256 (written_to 512 q b)
    go (yes l) = subst (InBase 256) (sym (buffer_short q b l).1) t
    go (no l) = subst (InBase 256) (sym (buffer_wide q b (omega arith)).1) (below_append 256 (image 512 q) (drop 64 b) (image_typed q).1 (below_drop 256 b 64 t))
