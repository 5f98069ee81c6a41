-- `Term::rounded` meets its contract: half of the significand is the fraction that `pack` is handed, and nothing is left.
use mathlib.Core.Path.{sym, ◌∙◌}
use Rattle.exact_terms.proofs.Exactly.{term_rounded}
use Rattle.exact_terms.proofs.terms.Term.rounded.Goals as goal

pub returns : goal.returns
returns c =
    let t = c.args.self in
    c.pack.ensures ∙ sym (term_rounded t.negative t.scale t.significand t.normal)
