-- `byte_at` meets its contract: a byte of a word is a byte of the number (`byte_read`).
use mathlib.Core.Path.{ap, ◌∙◌}
use mathlib.Core.List.{List}
use Prim.Native.Nat.{ℕ, ◌%◌}
use lib.ListN.{get_or}
use Rattle.quire_words.proofs.Places.{words_typed}
use Rattle.desk.proofs.Spelt.{byte_read}
use Rattle.desk.proofs.image.byte_at.Goals as goal

pub returns : goal.returns
returns c =
    let q = c.args.q in
    let w = words_typed 8 q c.well_formed.0 in
    ap (λ (bytes : List ℕ). get_or bytes (c.args.i % 8) 0) c.to_be_bytes.ensures ∙ byte_read q c.args.i w.0 w.1 c.requires
