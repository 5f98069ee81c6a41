-- `sum_of` meets its contract: the fold over the pairs of patterns is the batch (`batch_folded`).
use mathlib.Core.Path.{sym, ap, ◌∙◌}
use Rattle.std.proofs.Common.{rules}
use Rattle.std.proofs.lemmas.Iterator.{YieldsList-from_slice, YieldsList-from_zip}
use Rattle.std.proofs.lemmas.Iterator.Consumers.{fold_from_yields_List}
use Rattle.std.specs.List.{fold, zip}
use Rattle.posit.specs.Accumulator.{from_words}
use Rattle.desk.proofs.Spelt.{words_back}
use Rattle.desk.proofs.Summed.{with_pair, batch_folded}
use Rattle.desk.proofs.batch.sum_of.Goals as goal

pub returns : goal.returns
returns c =
    let a = c.args in
    fold_from_yields_List _ with_pair a.q c.fold.result c.fold.ensures.ran (YieldsList-from_zip (YieldsList-from_slice a.a.now (cc)) (YieldsList-from_slice a.b.now (cc))) (λ t p u q k. (search rules, k.met))
    ∙ ap (λ r. fold with_pair r (zip a.a.now a.b.now)) (words_back a.q c.well_formed.0) ∙ batch_folded a.a.now a.b.now (from_words 512 a.q) (ap (from_words 512) (sym (words_back a.q c.well_formed.0)))
