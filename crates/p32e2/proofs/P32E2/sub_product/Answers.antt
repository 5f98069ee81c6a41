-- `P32E2::sub_product` meets its contract: a product is taken by adding that of the opposite of a factor.
use Rattle.std.proofs.Common.{ℕ, sym, ap, ◌∙◌, arith}
use Rattle.posit.specs.Operation.{fused_sum}
use Rattle.posit.proofs.Operation.{product_taken_is}
use Rattle.p32e2.proofs.P32E2.sub_product.Goals as goal

pub returns : goal.returns
returns c =
    let p = c.args.self.0 in
    let q = c.args.a.0 in
    let r = c.args.b.0 in
    c.mul_add.ensures ∙ ap (λ (n : ℕ). fused_sum 2 31 n r p) c.neg.ensures ∙ sym (product_taken_is 2 31 p q r (omega arith))
