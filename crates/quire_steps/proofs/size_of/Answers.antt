-- `size_of` meets its contract: from 2 ^ 511 on the number is the negative of what it lacks to 2 ^ 512.
use mathlib.Core.Path.{sym, ◌∙◌}
use Prim.Native.Nat.{◌^◌}
use borrow.Author.Tests.{eq-eqb, ne_eqb, leb-true, leb-false}
use lib.Dec.{leb, lit<}
use Rattle.quire_words.specs.Words.{wide}
use Rattle.quire_words.proofs.Places.{wide_typed}
use Rattle.quire_steps.proofs.Range.{size_low, size_high}
use Rattle.quire_steps.proofs.Joined.{sign_told}
use Rattle.quire_steps.proofs.size_of.Goals as goal

pub returns-then-sign_of-eq1 : goal.returns-then-sign_of-eq1
returns-then-sign_of-eq1 c =
    let q = c.args.q in
    let below = sym (sign_told (leb (2 ^ 511) (wide q)) _ c.sign_of.ensures) ∙ eq-eqb _ 1 c.if-sign_of-eq1.true in
    let high = size_high (2 ^ 511) (wide q) (lit< tt) (leb-true (2 ^ 511) (wide q) below) (wide_typed q c.well_formed.0) in
    cc

pub returns-else-sign_of-eq1 : goal.returns-else-sign_of-eq1
returns-else-sign_of-eq1 c =
    let q = c.args.q in
    let above = sym (sign_told (leb (2 ^ 511) (wide q)) _ c.sign_of.ensures) ∙ ne_eqb _ 1 c.if-sign_of-eq1.false in
    sym (size_low (2 ^ 511) (wide q) (leb-false (2 ^ 511) (wide q) above))
