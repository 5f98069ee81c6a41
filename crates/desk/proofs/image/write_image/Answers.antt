-- `write_image` meets its contract: a short buffer stays, and into a longer one the image is copied.
use mathlib.Core.Path.{sym, ap, ◌∙◌}
use mathlib.Core.List.{List, ◌++◌}
use Prim.Native.Nat.{ℕ}
use native.Mathlib.Omega.{arith}
use lib.ListN.{length, drop}
use Rattle.std.proofs.lemmas.List.{length-take-le}
use Rattle.posit.specs.Accumulator.{from_words}
use Rattle.desk.proofs.Spelt.{image_long}
use Rattle.desk.proofs.Refused.{buffer_short, buffer_wide}
use Rattle.desk.proofs.image.write_image.Goals as goal

pub returns-then-buffer-lt-IMAGE_LENGTH : goal.returns-then-buffer-lt-IMAGE_LENGTH
returns-then-buffer-lt-IMAGE_LENGTH c =
    let a = c.args in
    let no = buffer_short (from_words 512 a.q) a.buffer.now c.if-buffer-lt-IMAGE_LENGTH.true in
    (sym no.0, sym no.1)

-- the first 64 bytes of the buffer are as many as the image has
pub copy_from_slice-requires : goal.copy_from_slice-requires
copy_from_slice-requires c = length-take-le 64 c.args.buffer.now c.if-buffer-lt-IMAGE_LENGTH.false ∙ sym (ap length c.image_of-image.ensures ∙ image_long (from_words 512 c.args.q))

pub returns : goal.returns
returns c =
    let a = c.args in
    let yes = buffer_wide (from_words 512 a.q) a.buffer.now (omega arith) in
    (sym yes.0, ap (λ (bytes : List ℕ). bytes ++ drop 64 a.buffer.now) (c.copy_from_slice.ensures.after ∙ c.image_of-image.ensures) ∙ sym yes.1)
