-- `add` meets its contract: NaR and zero operands by the laws of the sum, and else the sum of the two terms.
use mathlib.Core.Path.{sym, ap, ◌∙◌}
use Prim.Native.Nat.{ℕ}
use native.Mathlib.Omega.{arith}
use lib.Dec.{lit<}
use lib.IntN.{◌+ℤ◌}
use Rattle.posit.specs.Operation.{exact, rounded_here}
use Rattle.posit.proofs.Operation.{sum_nar, sum_real, exact_zero, zero_plus, plus_zero, own}
use Rattle.unpacking.proofs.Either.{neither}
use Rattle.exact_terms.proofs.Exactly.{terms_sum}
use Rattle.exact_terms.proofs.add.Goals as goal

pub returns-then-either_nar : goal.returns-then-either_nar
returns-then-either_nar c =
    let a = c.args in
    sym (sum_nar 2 31 a.p a.q (sym c.either_nar.ensures ∙ c.if-either_nar.true))

pub returns-then-p-eq0 : goal.returns-then-p-eq0
returns-then-p-eq0 c =
    let k = neither c.either_nar.ensures c.if-either_nar.false in
    let p = c.args.p in
    let q = c.args.q in
    sym (sum_real 2 31 p q k.0 k.1 ∙ zero_plus 2 31 (lit< tt) (ap (exact 2 31) c.if-p-eq0.true ∙ exact_zero 2 31) q (omega arith) k.1)

pub returns-then-q-eq0 : goal.returns-then-q-eq0
returns-then-q-eq0 c =
    let k = neither c.either_nar.ensures c.if-either_nar.false in
    let p = c.args.p in
    let q = c.args.q in
    sym
    (sum_real 2 31 p q k.0 k.1
    ∙ ap (λ (z : ℕ). rounded_here 2 31 (exact 2 31 p +ℤ exact 2 31 z)) c.if-q-eq0.true
    ∙ plus_zero 2 31 (exact 2 31 p)
    ∙ own 2 31 (lit< tt) p (omega arith) k.0)

pub returns : goal.returns
returns c =
    let k = neither c.either_nar.ensures c.if-either_nar.false in
    let x = c.term.result in
    let y = c.term-2.result in
    c.rounded_sum.ensures
    ∙ sym
    (sum_real 2 31 c.args.p c.args.q k.0 k.1
    ∙ terms_sum (exact 2 31 c.args.p) x.negative x.scale x.significand (rw c.of.ensures at c.term.ensures)
    (exact 2 31 c.args.q) y.negative y.scale y.significand (rw c.of-2.ensures at c.term-2.ensures))
