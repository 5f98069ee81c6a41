-- `sign_of` meets its contract: the number reaches 2 ^ 511 exactly where its first word reaches 2 ^ 63.
use Rattle.std.proofs.Common.{◌≡◌, ℕ, ◌/◌, ◌^◌, ◌<◌, leb, get_or, ap, ◌∙◌, arith, lit<, le-leb}
use native.Mathlib.Decide.{dec_lt}
use borrow.Author.Tests.{lt-leb}
use mir.Val.{bool_byte}
use Rattle.quire_words.proofs.Places.{below_at, words_typed}
use Rattle.quire_words.proofs.First.{sign_seen}
use Rattle.quire_words.proofs.sign_of.Goals as goal

top_bit : (x : ℕ) → x < 2 ^ 64 → x / 2 ^ 63 ≡ bool_byte (leb (2 ^ 63) x)
top_bit x h = go (dec_lt x (2 ^ 63))
  where
    go : Dec (x < 2 ^ 63) → x / 2 ^ 63 ≡ bool_byte (leb (2 ^ 63) x)
    go (yes l) = rw (lt-leb (2 ^ 63) x l) (omega arith)
    go (no l) = rw (le-leb (2 ^ 63) x (omega arith)) (omega arith)

pub returns : goal.returns
returns c =
    let a = c.args.a in
    let w = words_typed 8 a c.well_formed.0 in
    top_bit (get_or a 0 0) (below_at (2 ^ 64) a 0 w.1 (rw w.0 (lit< tt))) ∙ ap bool_byte (sign_seen a w.0 w.1)
