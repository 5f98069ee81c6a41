-- `P32E2::mul_sub` meets its contract: what is taken is added as its opposite.
use Rattle.std.proofs.Common.{sym, ap, ◌∙◌, arith}
use Rattle.posit.specs.Operation.{fused_sum}
use Rattle.posit.proofs.Operation.{fused_difference_is}
use Rattle.p32e2.proofs.P32E2.mul_sub.Goals as goal

pub returns : goal.returns
returns c =
    let p = c.args.self.0 in
    let q = c.args.a.0 in
    let r = c.args.b.0 in
    c.mul_add.ensures ∙ ap (fused_sum 2 31 p q) c.neg.ensures ∙ sym (fused_difference_is 2 31 p q r (omega arith))
