-- `add` meets its contract: each turn adds one column (`sum_grows`), and what is carried out of word 0 is dropped.
use Rattle.std.proofs.Common.{◌≡◌, ℕ, ◌+◌, ◌^◌, length, get_or, drop, refl, le_of_eq, zero-add, arith, rules}
use mir.Val.{bool_byte}
use Rattle.quire_words.specs.Words.{wide}
use Rattle.quire_words.proofs.Places.{number_none}
use Rattle.quire_words.proofs.Carry.{start, turn, sum_grows, wrapped}
use Rattle.quire_words.proofs.add.Goals as goal

pub loop-i-init : goal.loop-i-init
loop-i-init c =
    let ha : length c.args.a ≡ 8 = search rules in
    let hb : length c.args.b ≡ 8 = search rules in
    rw (number_none (2 ^ 64) 8 c.args.a (le_of_eq ha), number_none (2 ^ 64) 8 c.args.b (le_of_eq hb), zero-add (bool_byte c.args.carry))
    (start (2 ^ 64) 8 (bool_byte c.args.carry) _ refl)

pub loop-i-preserved : goal.loop-i-preserved
loop-i-preserved c =
    let a = c.args in
    let ha : length a.a ≡ 8 = search rules in
    let hb : length a.b ≡ 8 = search rules in
    let h = c.loop-i.invariant in
    turn
    (λ (i : ℕ). wide (drop i a.a) + wide (drop i a.b) + bool_byte a.carry)
    (λ (i : ℕ). get_or a.a i 0 + get_or a.b i 0)
    c.add_word-s.result.low
    (bool_byte c.add_word-s.result.carry)
    (sum_grows (2 ^ 64) 8 _ (bool_byte a.carry) a.a a.b ha hb h.within)
    c.loop-i-test.true
    h
    (search rules)
    c.add_word-s.ensures

pub returns : goal.returns
returns c =
    let z : c.loop-i.i ≡ 0 = omega arith in
    wrapped (rw z at c.loop-i.invariant)
