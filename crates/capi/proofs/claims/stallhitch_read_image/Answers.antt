-- A refused reading leaves the eight words, which are those of their state.
use mathlib.Core.Path.{◌∙◌}
use Rattle.desk.specs.Desk.{read_into}
use Rattle.desk.proofs.Spelt.{left_standing}
use Rattle.capi.proofs.claims.stallhitch_read_image.Goals as goal

pub returns-in-Err : goal.returns-in-Err
returns-in-Err c =
    let k = c.args in
    let no = c.in-Err.ensures in
    (c.number.ensures ∙ no.0, left_standing (λ q. read_into 512 q k.bytes.now) k.q.now c.to_bits.result c.to_bits.type_inv c.to_bits.ensures no.1)
