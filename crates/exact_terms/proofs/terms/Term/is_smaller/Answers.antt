-- `Term::is_smaller` meets its contract: with the leading ones at one place the scales decide, and where they are the same the significands.
use Rattle.std.proofs.Common.{◌≡◌, ℕ, ◌*◌, ◌^◌, ◌<◌, Bool, true, false, cond, Some, ltb, ◌==◌, sym, refl, ap, ◌∙◌, le_of_lt, arith, pow_pos, lt-ltb, le-ltb, eq-eqb, ne_eqb}
use native.Mathlib.Decide.{dec_lt, ℕ_discrete}
use Rattle.std.specs.Ordering.{partial_ordering_then, is_some_and, is_lt}
use Rattle.std.specs.declared.cmp.Ordering.TheVariants.{Less, Equal, Greater}
use Rattle.posit.proofs.Compare.{ltb_factor}
use Rattle.rounding.proofs.Terms.{Normal}
use Rattle.exact_terms.proofs.Added.{by_scale}
use Rattle.exact_terms.proofs.terms.Term.is_smaller.Goals as goal

-- the order of two pairs of numbers, by the tests of the first two and of the second two
by_tests : (p q r s : Bool) → is_some_and is_lt (partial_ordering_then (Some (cond p Less (cond q Equal Greater))) (Some (cond r Less (cond s Equal Greater)))) ≡ cond p true (cond q r false)
by_tests true q r s = refl
by_tests false true true s = refl
by_tests false true false true = refl
by_tests false true false false = refl
by_tests false false r s = refl

module _ (c g d h : ℕ) (x : Normal c g) (y : Normal d h) where
  same_scale : c ≡ d → ltb g h ≡ ltb (g * 2 ^ c) (h * 2 ^ d)
  same_scale e = sym (ap (λ (n : ℕ). ltb (g * 2 ^ n) (h * 2 ^ d)) e ∙ ltb_factor g h (2 ^ d) (pow_pos d))

  by_magnitudes : cond (ltb c d) true (cond (c == d) (ltb g h) false) ≡ ltb (g * 2 ^ c) (h * 2 ^ d)
  by_magnitudes = go (dec_lt c d) (ℕ_discrete c d)
    where
      go : Dec (c < d) → Dec (c ≡ d) → cond (ltb c d) true (cond (c == d) (ltb g h) false) ≡ ltb (g * 2 ^ c) (h * 2 ^ d)
      go (yes l) k = rw (lt-ltb c d l) (sym (lt-ltb (g * 2 ^ c) (h * 2 ^ d) (by_scale c g d h x y l)))
      go (no l) (yes e) = rw (le-ltb c d (omega arith), eq-eqb c d e) (same_scale e)
      go (no l) (no n) = rw (le-ltb c d (omega arith), ne_eqb c d n) (sym (le-ltb (g * 2 ^ c) (h * 2 ^ d) (le_of_lt (by_scale d h c g y x (omega arith)))))

pub returns : goal.returns
returns c =
    let x = c.args.self in
    let y = c.args.other in
    c.lt.ensures
    ∙ by_tests (ltb x.scale y.scale) (x.scale == y.scale) (ltb x.significand y.significand) (x.significand == y.significand)
    ∙ by_magnitudes x.scale x.significand y.scale y.significand x.normal y.normal
