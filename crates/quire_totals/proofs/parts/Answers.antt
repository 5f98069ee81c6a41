-- `parts` meets its contract: the first part is the rounding of the total, each turn of the loop writes one more (`parted_more`), and all of them are the parts (`parted_all`).
use mathlib.Core.Path.{◌∙◌}
use mathlib.Core.List.{map}
use Prim.Native.Nat.{◌-◌}
use native.Mathlib.Omega.{arith}
use lib.ListN.{replicate, length-replicate, get_or-map}
use Rattle.std.proofs.lemmas.List.{length-map, map-set, get_or-replicate}
use Rattle.p32e2.specs.declared.P32E2.{P32E2}
use Rattle.quire_totals.proofs.InParts.{parted_first, parted_more, parted_all}
use Rattle.quire_totals.proofs.parts.Goals as goal

pub loop-i-init : goal.loop-i-init
loop-i-init g c =
    let n = g.row.N in
    let first = c.to_posit-parts.result in
    let bits = λ (p : P32E2). p.0 in
    let none : P32E2 = record { 0 = 0 } in
    parted_first n first.0 c.args.q (map bits (replicate n first)) (length-map (replicate n first) bits ∙ length-replicate n first)
    (λ h. rw (get_or-map bits (replicate n first) 0 none, get_or-replicate n 0 first none h))
    c.to_posit-parts.ensures

pub loop-i-preserved : goal.loop-i-preserved
loop-i-preserved g c =
    let at = c.loop-i in
    let none : P32E2 = record { 0 = 0 } in
    rw (map-set (λ (p : P32E2). p.0) at.parts at.i c.to_posit.result)
    (parted_more c.sub_posit-left.result c.to_posit.result.0 at.invariant (omega arith) c.loop-i-test.true
    (rw (get_or-map (λ (p : P32E2). p.0) at.parts (at.i - 1) none) c.sub_posit-left.ensures)
    c.to_posit.ensures)

pub returns : goal.returns
returns g c = parted_all c.loop-i.invariant (omega arith)
