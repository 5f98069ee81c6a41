-- `round_size` meets its contract: the number in the units of `pack` counts its first digits (`wide_rounds`).
use mathlib.Core.Path.{◌≡◌, sym, ap, ◌∙◌}
use mathlib.Core.Bool.{Bool}
use Prim.Native.Nat.{ℕ, ◌+◌, ◌*◌, ◌/◌, ◌%◌, ◌^◌, ◌<◌}
use native.Mathlib.Nat.{mul-one, mul-pos, sub-zero, le_trans}
use native.Mathlib.Omega.{arith}
use lib.Dec.{ltb, lit≤}
use lib.Pow.{pow_pos}
use mir.Val.{bool_byte}
use Rattle.posit.specs.Exact.{whole}
use Rattle.posit.specs.Rounding.{round, rounded, signed}
use Rattle.posit.proofs.Signs.{with_sign, scaled_sign}
use Rattle.posit.proofs.Finer.{rounded_finer}
use Rattle.posit.proofs.Value.{rounded_signed}
use Rattle.posit.specs.Pattern.{unit}
use Rattle.rounding.proofs.Terms.{finer_by}
use Rattle.rounding.specs.Packed.{packed_size, packed_unit}
use Rattle.quire_words.specs.Words.{wide}
use Rattle.exact_terms.proofs.Wide.{wide_rounds, FirstDigits}
use Rattle.quire_totals.proofs.round_size.Goals as goal

digits_rounded : (s : Bool) (x u d : ℕ) (more : Bool) → 0 < x → FirstDigits x u d more
    → rounded 2 31 (unit 2 31) (with_sign s x) ≡ signed 31 s (round 2 31 packed_unit (whole (packed_size (u + 1) (d / 4) (ltb 0 (d % 4 + bool_byte more)))))
digits_rounded s x u d more p l =
    let sound = mul-pos p (pow_pos finer_by) in
    rounded_finer 2 31 (unit 2 31) finer_by (lit≤ tt) (with_sign s x)
    ∙ ap (rounded 2 31 packed_unit) (scaled_sign s x (2 ^ finer_by))
    ∙ rounded_signed 2 31 packed_unit s (x * 2 ^ finer_by) sound
    ∙ ap (signed 31 s) (rw (mul-one, sub-zero) at
    (wide_rounds d 0 u (rw mul-one l.top) (rw mul-one l.word) (omega arith) (whole (x * 2 ^ finer_by)) sound more l.counts (λ _. le_trans (lit≤ tt) l.top)))

pub returns : goal.returns
returns c =
    let a = c.args in
    let x = c.first_digits-x.result in
    c.pack.ensures ∙ sym (digits_rounded a.negative (wide a.w) x.unit x.digits x.more c.requires c.first_digits-x.ensures)
