-- `read_image` meets its contract: bytes of another length leave the state, and 64 bytes are the number of the words that are read.
use mathlib.Core.Path.{sym, ap, ◌∙◌}
use native.Mathlib.Omega.{arith}
use Rattle.posit.specs.Accumulator.{words, from_words}
use Rattle.desk.proofs.Refused.{other_length, right_length, one_number}
use Rattle.desk.proofs.Spelt.{words_back}
use Rattle.desk.proofs.image.read_image.Goals as goal

pub returns-then-bytes-ne-IMAGE_LENGTH : goal.returns-then-bytes-ne-IMAGE_LENGTH
returns-then-bytes-ne-IMAGE_LENGTH c =
    let no = other_length (from_words 512 c.args.q) c.args.bytes.now c.if-bytes-ne-IMAGE_LENGTH.true in
    (sym no.0, ap (words 512) (sym no.1))

pub returns : goal.returns
returns c =
    let bs = c.args.bytes.now in
    let yes = right_length (from_words 512 c.args.q) bs (omega arith) in
    let read = one_number c.words_of.result bs c.words_of.ensures in
    (sym yes.0, words_back c.words_of.result c.words_of.type_inv ∙ ap (words 512) (read ∙ sym yes.1))
