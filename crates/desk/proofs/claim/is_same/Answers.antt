-- `is_same` meets its contract: the fold over the pairs of bytes is the comparison of the two lists (`same_folded`).
use mathlib.Core.Path.{◌∙◌}
use mathlib.Core.Bool.{true}
use borrow.Author.Tests.{tests}
use Rattle.std.proofs.Common.{rules}
use Rattle.std.proofs.lemmas.Iterator.{YieldsList-from_slice, YieldsList-from_zip}
use Rattle.std.proofs.lemmas.Iterator.Consumers.{fold_from_yields_List}
use Rattle.desk.proofs.Summed.{still_same, same_folded}
use Rattle.desk.proofs.claim.is_same.Goals as goal

pub returns : goal.returns
returns c =
    let a = c.args in
    fold_from_yields_List _ still_same true c.fold.result c.fold.ensures.ran (YieldsList-from_zip (YieldsList-from_slice a.image (cc)) (YieldsList-from_slice a.claim.now (cc))) (λ t p u q k. search (rules, tests))
    ∙ same_folded a.image a.claim.now true (search rules)
