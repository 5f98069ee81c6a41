-- `neg` meets its contract: the wrapped negative is the number of the negative (`negated_bits`).
use mathlib.Core.Path.{◌∙◌}
use Rattle.quire_words.proofs.Places.{words_typed, wide_typed}
use Rattle.quire_steps.proofs.Words.{spelt}
use Rattle.quire_steps.proofs.Stepped.{negated_bits}
use Rattle.quire_steps.proofs.neg.Goals as goal

pub returns : goal.returns
returns c =
    let q = c.args.q in
    let r = words_typed 8 c.negative_of.result c.negative_of.type_inv in
    spelt _ c.negative_of.result r.0 r.1 (c.negative_of.ensures ∙ negated_bits q (wide_typed q c.well_formed.0))
