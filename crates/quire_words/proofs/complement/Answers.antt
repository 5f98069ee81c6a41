-- `complement` meets its contract: digit by digit, what is left to the largest number of as many (`complemented`).
use Rattle.std.proofs.Common.{◌≡◌, ℕ, ◌-◌, ◌^◌, ◌<◌, map, get_or, sym, ap, ◌∙◌, arith, rules}
use Rattle.std.proofs.lemmas.Grind.{same_number_lists}
use Rattle.std.proofs.lemmas.List.{length-map, get_or-map}
use Rattle.quire_words.specs.Words.{wide}
use Rattle.quire_words.proofs.Places.{words_typed}
use Rattle.quire_words.proofs.Carry.{complemented}
use Rattle.quire_words.proofs.complement.Goals as goal

pub returns : goal.returns
returns c =
    let a = c.args.a in
    let w = words_typed 8 a c.well_formed.0 in
    let turned = λ (d : ℕ). 2 ^ 64 - 1 - d in
    let called = c.map.ensures.items in
    let each : (i : ℕ) → i < 8 → get_or c.map.result i 0 ≡ turned (get_or a i 0) = λ i h. let k = called.at i 0 0 h in search rules in
    let all : c.map.result ≡ map turned a =
    same_number_lists _ _ (called.long ∙ sym (length-map a turned ∙ w.0)) (λ i h. let h' : i < 8 = omega (arith, called.long) in each i h' ∙ sym (get_or-map turned a i 0 0 (omega (arith, w.0)))) in
    ap wide all ∙ complemented (2 ^ 64) a w.1 ∙ ap (λ (n : ℕ). (2 ^ 64) ^ n - 1 - wide a) w.0
