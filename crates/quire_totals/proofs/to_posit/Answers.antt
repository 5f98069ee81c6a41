-- `to_posit` meets its contract: zero, NaR, or the rounding of a total by its sign and size.
use mathlib.Core.Path.{◌≡◌, sym, ap, ap₂, ◌∙◌}
use mathlib.Core.Logic.{◌≢◌}
use Prim.Native.Nat.{ℕ, ◌^◌, ◌<◌}
use native.Mathlib.Omega.{arith}
use borrow.Author.Tests.{eqb-true, eqb-false}
use lib.IntN.{ℤ, pos}
use Rattle.posit.specs.Rounding.{rounded}
use Rattle.posit.specs.Accumulator.{State, not_real, total, to_posit}
use Rattle.posit.proofs.Signs.{with_sign}
use Rattle.posit.specs.Pattern.{unit}
use Rattle.quire_words.specs.Words.{wide}
use Rattle.quire_words.proofs.Places.{words_typed, wide_typed}
use Rattle.quire_words.proofs.First.{sign_seen}
use Rattle.quire_steps.proofs.Range.{size_positive, sign_and_size}
use Rattle.quire_steps.proofs.Words.{nar_found, read_clear, read_real}
use Rattle.quire_totals.proofs.to_posit.Goals as goal

module _ {q : State} where
  rounds_clear : q ≡ total (pos 0) → to_posit 2 31 q ≡ 0
  unfolding to_posit rounded
  rounds_clear e = rw e

  rounds_nar : q ≡ not_real → to_posit 2 31 q ≡ 2 ^ 31
  unfolding to_posit
  rounds_nar e = rw e

  rounds_real : {t : ℤ} → q ≡ total t → to_posit 2 31 q ≡ rounded 2 31 (unit 2 31) t
  unfolding to_posit
  rounds_real e = rw e

positive : (n : ℕ) → n ≢ 0 → 0 < n
positive n h = omega arith

pub returns-then-is_alone : goal.returns-then-is_alone
returns-then-is_alone c =
    let q = c.args.q in
    sym (rounds_clear (read_clear q (eqb-true (wide q) 0 (sym c.is_alone.ensures ∙ c.if-is_alone.true))))

pub returns-then-is_alone-2 : goal.returns-then-is_alone-2
returns-then-is_alone-2 c =
    let q = c.args.q in
    sym (rounds_nar (nar_found q _ c.is_alone-2.ensures c.if-is_alone-2.true))

pub round_size-requires : goal.round_size-requires
round_size-requires c =
    let q = c.args.q in
    let some = positive (wide q) (eqb-false (wide q) 0 (sym c.is_alone.ensures ∙ c.if-is_alone.false)) in
    rw c.size_of.ensures (size_positive (2 ^ 511) (wide q) some (wide_typed q c.well_formed.0))

pub returns : goal.returns
returns c =
    let q = c.args.q in
    let w = words_typed 8 q c.well_formed.0 in
    let real = read_real q (eqb-false (wide q) (2 ^ 511) (sym c.is_alone-2.ensures ∙ c.if-is_alone-2.false)) in
    c.round_size.ensures
    ∙ ap (rounded 2 31 (unit 2 31))
    (ap₂ with_sign (sign_seen q w.0 w.1) c.size_of.ensures ∙ sign_and_size (2 ^ 511) (wide q) (wide_typed q c.well_formed.0))
    ∙ sym (rounds_real real)
