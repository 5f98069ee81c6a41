-- `first_digits` meets its contract, by `digits_of`: the first word that is not 0 is moved up by its leading zeros, and so is the one behind it.
use mathlib.Core.Path.{◌≡◌, refl, ◌∙◌}
use mathlib.Core.Bool.{cond, not}
use mathlib.Core.List.{List, [], ◌∷◌}
use Prim.Native.Nat.{ℕ, suc, ◌+◌, ◌*◌, ◌^◌, ◌≤◌, ◌<◌}
use native.Mathlib.Nat.{zero-mul, zero-add}
use native.Mathlib.Decide.{ℕ_discrete}
use native.Mathlib.Omega.{arith}
use borrow.Author.Rules.{rules}
use borrow.Author.Tests.{tests, lt-ltb, eq-eqb, ne_eqb}
use lib.Count.{count_leading_zeros}
use lib.Dec.{eqb, ltb}
use lib.ListN.{length, get_or, drop}
use borrow.Kind.Array.{r_arr, e_int, e_int_laws}
use mir.Syntax.{w64}
use Rattle.std.specs.List.{position_or_len}
use Rattle.std.specs.Prelude.{Option, IsSome}
use Rattle.std.specs.declared.option.Option.TheVariants.{Some, None}
use Rattle.std.proofs.lemmas.Iterator.{YieldsList-from_slice}
use Rattle.std.proofs.lemmas.Iterator.Search.{position_from_yields_List}
use Rattle.posit.specs.Digits.{number}
use Rattle.exact_terms.proofs.Wide.{normalised}
use Rattle.quire_words.specs.Words.{wide}
use Rattle.quire_words.proofs.Places.{below_at, words_typed}
use Rattle.quire_totals.proofs.FirstDigits.{digits_fit, digits_of}
use Rattle.quire_totals.proofs.first_digits.Goals as goal
use Rattle.quire_totals.proofs.first_digits.Goals.{After-position}

-- the place of the first word that is not 0
abbrev first_of : List ℕ → ℕ
first_of ws = position_or_len (λ (w : ℕ). not (eqb w 0)) ws

-- it is there, and the words in front of it count nothing
abbrev Leads : List ℕ → Type 0
Leads ws = (first_of ws < length ws) × (wide ws ≡ wide (drop (first_of ws) ws)) × (0 < get_or ws (first_of ws) 0)

first_seen : (ws : List ℕ) → 0 < wide ws → Leads ws
unfolding number
first_seen [] some = absurd (omega arith)
first_seen (w ∷ ws) some = go (ℕ_discrete w 0) (first_seen ws)
  where
    go : Dec (w ≡ 0) → (0 < wide ws → Leads ws) → Leads (w ∷ ws)
    go (yes e) h =
        let behind : wide (w ∷ ws) ≡ wide ws = rw (e, zero-mul, zero-add) in
        let k = h (rw behind at some) in
        let one : 1 + first_of ws ≡ suc (first_of ws) = omega arith in
        rw (eq-eqb w 0 e, one) (omega (arith, k.0), behind ∙ k.1, k.2)
    go (no n) h = rw (ne_eqb w 0 n) (omega arith, refl, omega arith)

lead : (w : List ℕ) (i : ℕ) → (r_arr {k = 0} (e_int w64) (e_int_laws w64) 8).is.Ok tt w → i < 8 → 0 < get_or w i 0
    → (count_leading_zeros 64 (get_or w i 0) < 64) × (2 ^ 63 ≤ get_or w i 0 * 2 ^ count_leading_zeros 64 (get_or w i 0)) × (get_or w i 0 * 2 ^ count_leading_zeros 64 (get_or w i 0) < 2 ^ 64)
lead w i o l p = let t = words_typed 8 w o in normalised (get_or w i 0) p (below_at (2 ^ 64) w i t.1 (rw t.0 l))

-- what a search for it answers
found : (w : List ℕ) (r : Option ℕ) → 0 < wide w → r ≡ cond (ltb (first_of w) (length w)) (Some (first_of w)) None → r ≡ Some (first_of w)
found w r some e = e ∙ (rw (lt-ltb (first_of w) (length w) (first_seen w some).0))

some_first : (r : Option ℕ) (i : ℕ) → r ≡ Some i → IsSome r
some_first r i e = rw e refl

same_first : (r : Option ℕ) (i j : ℕ) → r ≡ Some i → r ≡ Some j → i ≡ j
same_first r i j e f = cc

searched : (c : After-position) → c.position.result ≡ cond (ltb (first_of c.args.w) (length c.args.w)) (Some (first_of c.args.w)) None
searched c = position_from_yields_List (λ (w : ℕ). not (eqb w 0)) _ _ c.position.result c.position.ensures.ran (YieldsList-from_slice c.args.w cc) (λ x b q k. search (rules, tests))

pub unwrap-i-requires : goal.unwrap-i-requires
unwrap-i-requires c = some_first _ (first_of c.args.w) (found c.args.w _ c.requires (searched c))

-- what is known of the place i that it gave
place : (w : List ℕ) (r : Option ℕ) (i : ℕ) → 0 < wide w → r ≡ cond (ltb (first_of w) (length w)) (Some (first_of w)) None → r ≡ Some i → (i < length w) × (wide w ≡ wide (drop i w)) × (0 < get_or w i 0)
place w r i some e f = rw (same_first r i (first_of w) f (found w r some e)) (first_seen w some)

pub overflow_add-result : goal.overflow_add-result
overflow_add-result c =
    let w = c.args.w in
    let i = c.unwrap-i.result in
    let at = place w c.position.result i c.requires (searched (goal.at.overflow_add-result c).After-position) c.unwrap-i.ensures in
    let e = words_typed 8 w c.well_formed.0 in
    let t = lead w i c.well_formed.0 (omega (arith, at.0, e.0)) at.2 in
    record { fits = digits_fit _ c.unwrap_or-next.result _ (omega arith) t.0 t.1 t.2 }

pub returns : goal.returns
returns c =
    let w = c.args.w in
    let i = c.unwrap-i.result in
    let next : c.unwrap_or-next.result ≡ get_or w (i + 1) 0 = search rules in
    let at = place w c.position.result i c.requires (searched (goal.at.returns c).After-position) c.unwrap-i.ensures in
    let e = words_typed 8 w c.well_formed.0 in
    let here : i < 8 = omega (arith, at.0, e.0) in
    let t = lead w i c.well_formed.0 here at.2 in
    rw (next, c.any_from.ensures) (digits_of w e.0 e.1 i _ here t.0 at.1 t.1 t.2)
