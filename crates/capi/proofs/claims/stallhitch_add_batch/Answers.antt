-- A refused batch leaves the eight words, which are those of their state.
use mathlib.Core.Path.{◌∙◌}
use Rattle.desk.specs.Desk.{after_batch}
use Rattle.desk.proofs.Spelt.{left_standing}
use Rattle.capi.proofs.claims.stallhitch_add_batch.Goals as goal

pub returns-in-Err : goal.returns-in-Err
returns-in-Err c =
    let k = c.args in
    let no = c.in-Err.ensures in
    (c.number.ensures ∙ no.0, left_standing (λ q. after_batch 2 31 512 q k.a.now k.b.now) k.q.now c.to_bits.result c.to_bits.type_inv c.to_bits.ensures no.1)
