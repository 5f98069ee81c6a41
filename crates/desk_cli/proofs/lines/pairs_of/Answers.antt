-- A turn of the loop of `pairs_of`: what follows one more line of 18 bytes is what follows as many and one of the whole text.
use Rattle.std.proofs.Common.{◌≡◌, ◌+◌, ◌*◌, drop, vec_len, ap, ◌∙◌, rules}
use lib.Seq.{drop-drop}
use Rattle.desk_cli.proofs.lines.pairs_of.Goals as goal

pub loop-x-preserved : goal.loop-x-preserved
loop-x-preserved c =
    let h = c.loop-x.invariant in
    let pair = c.in-Some-first_pair.ensures in
    let text = c.args.text.now in
    let n = vec_len c.loop-x.a in
    let more : 18 * n + 18 ≡ 18 * vec_len c.push.new.self = search rules in
    (search rules, search rules, pair.rest ∙ ap (drop 18) h.2 ∙ drop-drop 18 (18 * n) text ∙ ap (λ k. drop k text) more)
