-- `P32E2::sub` meets its contract: a difference is the sum with the opposite.
use Rattle.std.proofs.Common.{sym, ap, ◌∙◌, arith}
use Rattle.posit.specs.Operation.{sum}
use Rattle.posit.proofs.Operation.{difference_is}
use Rattle.p32e2.proofs.P32E2.sub.Goals as goal

pub returns : goal.returns
returns c =
    let p = c.args.self.0 in
    let q = c.args.other.0 in
    c.add.ensures ∙ ap (sum 2 31 p) c.neg.ensures ∙ sym (difference_is 2 31 p q (omega arith))
