-- `sqrt` meets its contract: with the scale halved, the whole root r of the significand's number n counts the exact root (`root_packs`), and n times
-- the square of a power of two is the number whose root is asked for (`root_in_units`).
use Rattle.std.proofs.Common.{◌≡◌, ℕ, suc, ◌+◌, ◌-◌, ◌*◌, ◌/◌, ◌%◌, ◌^◌, ◌<◌, ◌≤◌, false, ltb, sym, refl, ap, ◌∙◌, subst, lt_of_lt_of_le, mul-le-mul, arith, lit≤, pow_mono, shl_lt, shl_exact}
use Rattle.posit.specs.Pattern.{Positive, unit}
use Rattle.posit.specs.Exact.{whole, root}
use Rattle.posit.specs.Rounding.{round, signed}
use Rattle.posit.specs.Operation.{square_root}
use Rattle.posit.proofs.Compare.{told_lt_back, Counts, finer, finer_sound, finer_at_least, finer_under, finer_above}
use Rattle.posit.proofs.Unsigned.{unsigned_below}
use Rattle.posit.proofs.Root.{same_powers, root_of_zero, root_of_none, root_in_units}
use Rattle.rounding.specs.Packed.{packed_unit, packed_size}
use Rattle.unpacking.specs.Scaled.{scaled_unit, Scales}
use Rattle.rounding.proofs.Packed.{significand_stands_for}
use Rattle.square_root.proofs.sqrt.Goals as goal

-- r is the whole root of n, which has 63 or 64 bits
module _ (n r : ℕ) (least : 2 ^ 62 ≤ n) (fits : n < 2 ^ 64) (low : r * r ≤ n) (high : n < suc r * suc r) where
  root_range : (2 ^ 31 ≤ r) × (r < 2 ^ 32)
  root_range =
      let over : 2 ^ 31 < suc r = told_lt_back (root n) (omega arith) {v = 2 ^ 31} {z = suc r} (omega arith) in
      let under : r < 2 ^ 32 = told_lt_back (root n) (omega arith) {v = r} {z = 2 ^ 32} (omega arith) in
      (omega arith, under)

  root_packs : (c : ℕ) → round 2 31 packed_unit (finer (c + 31) (root n)) ≡ round 2 31 packed_unit (whole (packed_size c (r * 2 ^ 30 % 2 ^ 64) (ltb (r * r) n)))
  root_packs c =
      let counts : Counts (finer (c + 31) (root n)) r (2 ^ (c + 31)) (ltb (r * r) n) =
      record { low = finer_at_least (c + 31) (root n) r low; high = finer_under (c + 31) (root n) (suc r) high; seen = finer_above (c + 31) (root n) r } in
      significand_stands_for (finer (c + 31) (root n)) (finer_sound (c + 31) (root n) (omega arith)) 31 (lit≤ tt) (lit≤ tt) c r (c + 31) (omega arith) root_range.0 root_range.1 (ltb (r * r) n) counts
      ∙ ap (λ (F : ℕ). round 2 31 packed_unit (whole (packed_size c F (ltb (r * r) n)))) (sym (shl_exact 32 30 64 root_range.1 (omega arith)))

-- b is g * 2 ^ c units of 2 ^ - scaled_unit: g is shifted by 32, or 33 where c is odd
module _ (b c g : ℕ) (k : Positive 31 b) (s : Scales b c g) where
  abbrev number : ℕ
  number = g * 2 ^ (32 + c % 2)

  shifted : number % 2 ^ 64 ≡ number
  shifted = shl_exact 31 (32 + c % 2) 64 s.in_scale.below (omega arith)

  number_least : 2 ^ 62 ≤ number
  number_least = mul-le-mul s.in_scale.leading (pow_mono {i = 32} {j = 32 + c % 2} (omega arith))

  number_fits : number < 2 ^ 64
  number_fits = lt_of_lt_of_le (shl_lt 31 (32 + c % 2) s.in_scale.below) (pow_mono {i = 31 + (32 + c % 2)} {j = 64} (omega arith))

  -- the root that is asked for, in the unit of `pack`
  root_is : square_root 2 31 b ≡ round 2 31 packed_unit (finer (c / 2 + 964 + 31) (root number))
  root_is =
      root_in_units 2 31 b k (lit≤ tt) (packed_unit - unit 2 31) scaled_unit (2 * packed_unit - scaled_unit) (lit≤ tt) refl
      ∙ ap (λ (z : ℕ). round 2 31 packed_unit (root (z * 2 ^ (2 * packed_unit - scaled_unit)))) s.size_is
      ∙ ap (λ (x : ℕ). round 2 31 packed_unit (root x)) (sym (same_powers g (32 + c % 2) (c / 2 + 964 + 31) c (2 * packed_unit - scaled_unit) (omega arith)))

  root_rounded : (r q : ℕ) → r * r ≤ number % 2 ^ 64 → number % 2 ^ 64 < suc r * suc r
      → q ≡ signed 31 false (round 2 31 packed_unit (whole (packed_size (c / 2 + 964) (r * 2 ^ 30 % 2 ^ 64) (ltb (r * r) (number % 2 ^ 64)))))
      → q ≡ square_root 2 31 b
  unfolding signed
  root_rounded r q low high packed =
      (rw shifted at packed) ∙ sym (root_packs number r number_least number_fits (rw shifted at low) (rw shifted at high) (c / 2 + 964)) ∙ sym root_is

pub returns-then-p-eq0 : goal.returns-then-p-eq0
returns-then-p-eq0 c = sym (root_of_zero 2 31 c.args.p (omega arith))

pub returns-then-p-ge-NAR : goal.returns-then-p-ge-NAR
returns-then-p-ge-NAR c = sym (root_of_none 2 31 c.args.p (omega arith))

pub returns : goal.returns
returns c =
    let p = c.args.p in
    let a = c.scaled_of-a.result in
    let r = c.root_of-r in
    let scales : Scales p a.scale a.significand =
    subst (λ (b : ℕ). Scales b a.scale a.significand) (unsigned_below 31 p (omega arith)) (c.scaled_of-a.ensures.of_real (omega arith, omega arith)) in
    root_rounded p a.scale a.significand (omega arith, omega arith) scales r.result c.pack.result r.ensures.0 r.ensures.1 c.pack.ensures
