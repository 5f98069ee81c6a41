-- `words_of` meets its contract: each word is eight of the bytes, and together they are all 64 (`read_all`).
use Prim.Native.Nat.{◌*◌}
use Rattle.std.proofs.Common.{rules}
use Rattle.posit.proofs.Digits.{Prefix}
use Rattle.desk.proofs.Made.{made}
use Rattle.desk.proofs.Summed.{read_all}
use Rattle.desk.proofs.image.words_of.Goals as goal

pub returns : goal.returns
returns c =
    let bs = c.args.bytes.now in
    let made_of = c.from_fn.ensures.items in
    read_all bs c.from_fn.result c.requires made_of.long (λ j h. made _ _ (λ i w. Prefix 256 bs (8 * i) 8 w) (λ i w p k. (search rules, search rules)) c.from_fn.result 8 made_of j 0 h)
