-- `pack_wide` meets its contract: its leading zeros tell how far the number is moved up (`normalised`), and `wide_rounds` what is then rounded.
use mathlib.Core.Path.{◌≡◌, sym, ap, ap₂, ◌∙◌}
use Prim.Native.Nat.{ℕ, ◌+◌, ◌-◌, ◌*◌, ◌/◌, ◌%◌, ◌^◌}
use native.Mathlib.Nat.{mod-eq_of_lt}
use native.Mathlib.Omega.{arith}
use lib.Count.{count_leading_zeros}
use lib.Dec.{ltb}
use mir.Val.{bool_byte}
use Rattle.posit.specs.Exact.{whole}
use Rattle.posit.specs.Rounding.{round, signed}
use Rattle.rounding.specs.Packed.{packed_size, packed_unit}
use Rattle.exact_terms.proofs.Wide.{normalised, wide_rounds}
use Rattle.exact_terms.proofs.sums.pack_wide.Goals as goal

pub returns : goal.returns
returns c = λ x sound counts.
    let a = c.args in
    let z = count_leading_zeros 64 a.n in
    let k = normalised a.n c.requires.0 c.ranges.n.fits in
    let word : a.n * 2 ^ z % 2 ^ 64 ≡ a.n * 2 ^ z = mod-eq_of_lt k.2 in
    let more = ap (λ (m : ℕ). ltb 0 (m % 4 + bool_byte a.sticky)) word in
    c.pack.ensures
    ∙ ap₂ (λ g s. signed 31 a.negative (round 2 31 packed_unit (whole (packed_size (a.scale + 1 - z) (g / 4) s)))) word more
    ∙ ap (signed 31 a.negative)
    (sym (wide_rounds a.n z a.scale k.1 k.2 (omega (arith, k.0, c.requires.2)) x sound a.sticky counts c.requires.1))
