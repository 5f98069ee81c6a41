-- `word_at` meets its contract: the eight bytes are those from `at` on, and their number is the word (`word_of_bytes`).
use Rattle.std.proofs.lemmas.Option.{MatchOption-at_some}
use Rattle.desk.proofs.Summed.{word_of_bytes}
use Rattle.desk.proofs.image.word_at.Goals as goal

pub returns : goal.returns
returns c =
    let bs = c.args.bytes.now in
    let chunk = MatchOption-at_some _ _ _ c.unwrap.ensures c.first_chunk.ensures.cases in
    word_of_bytes bs c.args.at c.from_be_bytes.result c.unwrap.result.now c.requires chunk.same c.from_be_bytes.ensures
