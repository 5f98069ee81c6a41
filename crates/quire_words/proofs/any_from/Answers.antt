-- The loop of `any_from`: from place 8 on there are no words, and each turn sees one more (`seen_more`).
use Rattle.std.proofs.Common.{◌≡◌, ◌^◌, length, refl, le_of_eq, arith, lit<, rules}
use Rattle.quire_words.proofs.Places.{number_none}
use Rattle.quire_words.proofs.Seen.{seen_more}
use Rattle.quire_words.proofs.any_from.Goals as goal

pub loop-i-init : goal.loop-i-init
loop-i-init c =
    let ha : length c.args.a ≡ 8 = search rules in
    (search rules, (λ l. absurd (omega arith)), ((λ e. number_none (2 ^ 64) 8 c.args.a (le_of_eq ha)), (λ e. refl)))

pub loop-i-preserved : goal.loop-i-preserved
loop-i-preserved c =
    let a = c.args.a in
    let ha : length a ≡ 8 = search rules in
    let h = c.loop-i.invariant in
    (omega arith, (λ _. omega arith), seen_more (2 ^ 64) 8 c.loop-i.i c.loop-i.any a (lit< tt) ha h.0 (omega arith) h.2)
