-- `Term::rounded_sum_ordered` meets its contract: `found` says between which numbers of digits the sum or difference lies, and the greater term has the sign.
use mathlib.Core.Path.{◌≡◌, sym, ap, ap₂, subst₂, ◌∙◌}
use mathlib.Core.Bool.{Bool, beq}
use lib.Dec.{ltb}
use Prim.Native.Nat.{ℕ, ◌+◌, ◌-◌, ◌/◌, ◌%◌, ◌^◌, ◌≤◌, ◌<◌}
use lib.IntN.{◌+ℤ◌}
use native.Mathlib.Nat.{mul-pos, lt_of_lt_of_le}
use native.Mathlib.Omega.{arith}
use lib.Pow.{pow_pos}
use Rattle.posit.specs.Exact.{whole}
use Rattle.posit.specs.Rounding.{rounded}
use Rattle.posit.proofs.Signs.{with_sign}
use Rattle.posit.proofs.Value.{rounded_signed}
use Rattle.rounding.specs.Packed.{packed_unit}
use mir.Val.{bool_byte}
use Rattle.rounding.proofs.Terms.{magnitude, combine}
use Rattle.exact_terms.specs.declared.sums.Aligned.{Aligned}
use Rattle.exact_terms.specs.declared.terms.Term.{Term}
use Rattle.exact_terms.proofs.Added.{greater_scale, less, room, total, Found, found, nothing, sum_total, none_rounded}
use Rattle.exact_terms.proofs.terms.Term.rounded_sum_ordered.Goals as goal

module _ (h l : Term) (le : magnitude l.scale l.significand ≤ magnitude h.scale h.significand) where
  abbrev same : Bool
  same = beq h.negative l.negative

  -- where the digits are combined: the sum lies from n up to the next number, and above n where something is lost
  abbrev FoundHere : ℕ → Bool → Type 0
  FoundHere n lost = Found h.scale h.significand l.scale l.significand h.normal l.normal le same n lost

  found_here : (a : Aligned) (n : ℕ)
      → (a.kept ≡ l.significand / 2 ^ (h.scale - l.scale)) × (a.lost ≡ ltb 0 (l.significand % 2 ^ (h.scale - l.scale)))
      → n ≡ combine same h.significand a.kept a.lost
      → FoundHere n a.lost
  found_here a n e f =
      subst₂ FoundHere (sym (f ∙ ap₂ (combine same h.significand) e.0 e.1)) (sym e.1) (found h.scale h.significand l.scale l.significand h.normal l.normal le same)

  -- the sum of the two has the sign of the greater
  sum_here : rounded 2 31 packed_unit (with_sign h.negative (total same (magnitude h.scale h.significand) (magnitude l.scale l.significand))) ≡ rounded 2 31 packed_unit (with_sign h.negative (magnitude h.scale h.significand) +ℤ with_sign l.negative (magnitude l.scale l.significand))
  sum_here = ap (rounded 2 31 packed_unit) (sym (sum_total h.negative l.negative (magnitude h.scale h.significand) (magnitude l.scale l.significand) le))

pub overflow_sub-self : goal.overflow_sub-self
overflow_sub-self c =
    let h = c.args.self in
    let l = c.args.low in
    greater_scale h.scale h.significand l.scale l.significand h.normal l.normal c.requires

pub combined-n-requires : goal.combined-n-requires
combined-n-requires c =
    let h = c.args.self in
    let l = c.args.low in
    let e = c.aligned-a.ensures in
    let d = h.scale - l.scale in
    subst₂ (λ q b. q + bool_byte b ≤ h.significand) (sym e.0) (sym e.1)
    (room h.significand l.significand (2 ^ d) (pow_pos d) (less h.scale h.significand l.scale l.significand h.normal l.normal c.requires))

pub returns-then-n-eq0 : goal.returns-then-n-eq0
returns-then-n-eq0 c =
    let h = c.args.self in
    let l = c.args.low in
    let found = found_here h l c.requires c.aligned-a.result c.combined-n.result c.aligned-a.ensures c.combined-n.ensures in
    let none = nothing h.scale h.significand l.scale l.significand h.normal l.normal c.requires (same h l c.requires) _ _ found c.if-n-eq0.true in
    sym (sym (sum_here h l c.requires) ∙ ap (λ (n : ℕ). rounded 2 31 packed_unit (with_sign h.negative n)) none ∙ none_rounded h.negative)

pub pack_wide-requires : goal.pack_wide-requires
pack_wide-requires c =
    let f = found_here c.args.self c.args.low c.requires c.aligned-a.result c.combined-n.result c.aligned-a.ensures c.combined-n.ensures in
    let n = c.args.self.normal in
    (omega arith, f.1, omega arith, omega arith)

pub returns : goal.returns
returns c =
    let h = c.args.self in
    let l = c.args.low in
    let f = found_here h l c.requires c.aligned-a.result c.combined-n.result c.aligned-a.ensures c.combined-n.ensures in
    let N = total (same h l c.requires) (magnitude h.scale h.significand) (magnitude l.scale l.significand) in
    let positive : 0 < N = lt_of_lt_of_le (mul-pos (omega arith) (pow_pos h.scale)) f.0.low in
    c.pack_wide.ensures (whole N) positive f.0 ∙ sym (rounded_signed 2 31 packed_unit h.negative N positive) ∙ sum_here h l c.requires
