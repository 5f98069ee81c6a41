-- `mul_add` meets its contract: NaR and zero operands by the laws of the fused sum, and else the sum of the exact product and the posit, rounded once.
use mathlib.Core.Path.{sym, ap, ◌∙◌}
use mathlib.Core.Logic.{inl, inr}
use Prim.Native.Nat.{ℕ}
use native.Mathlib.Omega.{arith}
use lib.Dec.{lit<}
use lib.IntN.{◌+ℤ◌}
use Rattle.posit.specs.Operation.{exact, exact_product, rounded_here}
use Rattle.posit.proofs.Operation.{fused_nar, fused_third, fused_real, zero_plus, plus_zero}
use Rattle.unpacking.proofs.Either.{neither}
use Rattle.exact_terms.proofs.Exactly.{product_none, term_alone, terms_sum}
use Rattle.exact_terms.proofs.mul_add.Goals as goal
use Rattle.exact_terms.proofs.mul_add.Goals.{then-either_nar-via-then-either_nar, then-either_nar-via-else-either_nar+then-s-eq-NAR, then-p-eq0-via-then-p-eq0, then-p-eq0-via-else-p-eq0+then-q-eq0}

pub returns-then-either_nar : goal.returns-then-either_nar
returns-then-either_nar c =
    let a = c.args in
    elim c.then-either_nar.branch [
      | then-either_nar-via-then-either_nar w ↦ sym (fused_nar 2 31 a.p a.q a.s (sym c.either_nar.ensures ∙ w.if-either_nar.true))
      | then-either_nar-via-else-either_nar+then-s-eq-NAR w ↦ sym (fused_third 2 31 a.p a.q a.s w.if-s-eq-NAR.true)
    ]

pub returns-then-p-eq0 : goal.returns-then-p-eq0
returns-then-p-eq0 c =
    let k = neither c.either_nar.ensures c.if-either_nar.false in
    let p = c.args.p in
    let q = c.args.q in
    let r = c.args.s in
    let n = c.if-s-eq-NAR.false in
    let none = product_none p q (elim c.then-p-eq0.branch [ then-p-eq0-via-then-p-eq0 w ↦ inl w.if-p-eq0.true | then-p-eq0-via-else-p-eq0+then-q-eq0 w ↦ inr w.if-q-eq0.true ]) in
    sym (fused_real 2 31 p q r k.0 k.1 n ∙ zero_plus 2 31 (lit< tt) none r (omega arith) n)

pub returns-then-s-eq0 : goal.returns-then-s-eq0
returns-then-s-eq0 c =
    let t = c.times-t.result in
    let k = neither c.either_nar.ensures c.if-either_nar.false in
    let a = c.args in
    c.rounded.ensures
    ∙ sym
    (fused_real 2 31 a.p a.q a.s k.0 k.1 c.if-s-eq-NAR.false
    ∙ ap (λ (z : ℕ). rounded_here 2 31 (exact_product 2 31 a.p a.q +ℤ exact 2 31 z)) c.if-s-eq0.true
    ∙ plus_zero 2 31 (exact_product 2 31 a.p a.q)
    ∙ term_alone (exact_product 2 31 a.p a.q) t.negative t.scale t.significand (rw (c.of.ensures, c.of-2.ensures) at c.times-t.ensures))

pub returns : goal.returns
returns c =
    let x = c.times-t.result in
    let y = c.term.result in
    let k = neither c.either_nar.ensures c.if-either_nar.false in
    let a = c.args in
    c.rounded_sum.ensures
    ∙ sym
    (fused_real 2 31 a.p a.q a.s k.0 k.1 c.if-s-eq-NAR.false
    ∙ terms_sum (exact_product 2 31 a.p a.q) x.negative x.scale x.significand (rw (c.of.ensures, c.of-2.ensures) at c.times-t.ensures)
    (exact 2 31 a.s) y.negative y.scale y.significand (rw c.of-3.ensures at c.term.ensures))
