-- `Term::aligned` meets its contract: a shift by 63 leaves as much of a number below 2 ^ 63, nothing, as any longer one.
use Rattle.std.proofs.Common.{◌≡◌, ℕ, ◌/◌, ◌%◌, ◌^◌, ◌<◌, min, ltb, refl, sym, ap, ◌∙◌, mod-eq_of_lt, lt_of_lt_of_le, arith, pow_mono}
use native.Mathlib.Decide.{dec_lt}
use native.Mathlib.Nat.{div-eq_of_lt}
use Rattle.std.proofs.lemmas.Nat.{one_shl}
use Rattle.exact_terms.proofs.terms.Term.aligned.Goals as goal

same : (g d s : ℕ) → g < 2 ^ 63 → s ≡ min d 63 → (g / 2 ^ s ≡ g / 2 ^ d) × (g % 2 ^ s ≡ g % 2 ^ d)
same g d s h e = go (dec_lt d 63)
  where
    go : Dec (d < 63) → (g / 2 ^ s ≡ g / 2 ^ d) × (g % 2 ^ s ≡ g % 2 ^ d)
    go (yes l) =
        let k : s ≡ d = omega arith in
        rw k (refl, refl)
    go (no l) =
        let far : g < 2 ^ d = lt_of_lt_of_le h (pow_mono {i = 63} {j = d} (omega arith)) in
        let k : s ≡ 63 = omega arith in
        rw k (div-eq_of_lt h ∙ sym (div-eq_of_lt far), mod-eq_of_lt h ∙ sym (mod-eq_of_lt far))

pub returns : goal.returns
returns c =
    let x = c.args.self in
    let s = c.min-s.result in
    let k = same x.significand c.args.d s x.normal.below c.min-s.ensures in
    (k.0, ap (λ (n : ℕ). ltb 0 (x.significand % n)) (one_shl s 64 (omega arith)) ∙ ap (ltb 0) k.1)
