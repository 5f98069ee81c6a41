-- `mul` meets its contract: NaR and zero operands by the laws of the product, and else the exact product, rounded.
use mathlib.Core.Path.{◌≡◌, sym, ap, ◌∙◌}
use mathlib.Core.Logic.{inl, inr}
use lib.IntN.{ℤ, pos}
use Rattle.posit.specs.Rounding.{rounded}
use Rattle.posit.specs.Operation.{exact_product, rounded_here}
use Rattle.posit.proofs.Operation.{product_nar, product_real}
use Rattle.unpacking.proofs.Either.{neither}
use Rattle.exact_terms.proofs.Exactly.{product_none, term_alone}
use Rattle.exact_terms.proofs.mul.Goals as goal
use Rattle.exact_terms.proofs.mul.Goals.{then-p-eq0-via-then-p-eq0, then-p-eq0-via-else-p-eq0+then-q-eq0}

zero_rounded : {z : ℤ} → z ≡ pos 0 → rounded_here 2 31 z ≡ 0
unfolding rounded
zero_rounded e = ap (rounded_here 2 31) e

pub returns-then-either_nar : goal.returns-then-either_nar
returns-then-either_nar c =
    let a = c.args in
    sym (product_nar 2 31 a.p a.q (sym c.either_nar.ensures ∙ c.if-either_nar.true))

pub returns-then-p-eq0 : goal.returns-then-p-eq0
returns-then-p-eq0 c =
    let k = neither c.either_nar.ensures c.if-either_nar.false in
    let p = c.args.p in
    let q = c.args.q in
    let none = product_none p q (elim c.then-p-eq0.branch [ then-p-eq0-via-then-p-eq0 w ↦ inl w.if-p-eq0.true | then-p-eq0-via-else-p-eq0+then-q-eq0 w ↦ inr w.if-q-eq0.true ]) in
    sym (product_real 2 31 p q k.0 k.1 ∙ zero_rounded none)

pub returns : goal.returns
returns c =
    let k = neither c.either_nar.ensures c.if-either_nar.false in
    let p = c.args.p in
    let q = c.args.q in
    let t = c.times.result in
    c.rounded.ensures
    ∙ sym (product_real 2 31 p q k.0 k.1 ∙ term_alone (exact_product 2 31 p q) t.negative t.scale t.significand (rw (c.of.ensures, c.of-2.ensures) at c.times.ensures))
