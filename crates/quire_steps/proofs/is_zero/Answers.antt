-- `is_zero` meets its contract: 0 is the one number of a clear state, and no digit of any of its words is set.
use mathlib.Core.Path.{◌≡◌, ap, ◌∙◌}
use mathlib.Core.Bool.{not}
use Prim.Native.Nat.{ℕ, ◌<◌}
use native.Mathlib.Decide.{dec_lt}
use native.Mathlib.Omega.{arith}
use borrow.Author.Tests.{lt-ltb, le-ltb, eq-eqb, ne_eqb}
use lib.Dec.{eqb, ltb}
use Rattle.quire_words.specs.Words.{wide}
use Rattle.quire_words.proofs.Places.{wide_typed}
use Rattle.quire_steps.proofs.Words.{clear_seen}
use Rattle.quire_steps.proofs.is_zero.Goals as goal

not_above : (n : ℕ) → not (ltb 0 n) ≡ eqb n 0
not_above n = go (dec_lt 0 n)
  where
    go : Dec (0 < n) → not (ltb 0 n) ≡ eqb n 0
    go (yes l) = rw (lt-ltb 0 n l, ne_eqb n 0 (λ e. omega arith))
    go (no l) = rw (le-ltb 0 n (omega arith), eq-eqb n 0 (omega arith))

pub returns : goal.returns
returns c =
    let q = c.args.q in
    ap not c.any_from.ensures ∙ not_above (wide q) ∙ clear_seen q (wide_typed q c.well_formed.0)
