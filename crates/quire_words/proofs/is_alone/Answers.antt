-- `is_alone` meets its contract: another first word makes another number, and with this one the number is told by what stands behind it.
use Rattle.std.proofs.Common.{ℕ, ◌*◌, ◌^◌, not, eqb, get_or, drop, sym, ap, ◌∙◌, ne_eqb}
use Rattle.quire_words.specs.Words.{wide}
use Rattle.quire_words.proofs.Places.{words_typed}
use Rattle.quire_words.proofs.First.{first_digit, other_first, alone}
use Rattle.quire_words.proofs.is_alone.Goals as goal

pub returns-then-a-first : goal.returns-then-a-first
returns-then-a-first c =
    let a = c.args.a in
    let w = words_typed 8 a c.well_formed.0 in
    let f = first_digit (2 ^ 64) 7 a w.0 w.1 in
    ap not c.any_from.ensures
    ∙ alone ((2 ^ 64) ^ 7) (get_or a 0 0) (wide (drop 1 a)) f.1 c.args.first c.if-a-first.true
    ∙ ap (λ (n : ℕ). eqb n (c.args.first * 2 ^ 448)) (sym f.0)

pub returns-else-a-first : goal.returns-else-a-first
returns-else-a-first c =
    let a = c.args.a in
    let w = words_typed 8 a c.well_formed.0 in
    let f = first_digit (2 ^ 64) 7 a w.0 w.1 in
    ne_eqb (get_or a 0 0) c.args.first c.if-a-first.false
    ∙ other_first ((2 ^ 64) ^ 7) (get_or a 0 0) (wide (drop 1 a)) f.1 c.args.first c.if-a-first.false
    ∙ ap (λ (n : ℕ). eqb n (c.args.first * 2 ^ 448)) (sym f.0)
