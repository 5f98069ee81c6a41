-- A writer that meets the contract of `write_image` tells the totals of histories apart, as demand 3 has it. One that writes nothing does not: a history of no step and one of a
-- single unit would leave the same bytes.
use mathlib.Core.Path.{◌≡◌, refl, sym, ap, ◌∙◌}
use mathlib.Core.List.{List, []}
use Prim.Native.Nat.{ℕ, zero, suc}
use contract.Lifetimes.{Lfts}
use lib.Dec.{lit<, lit≤}
use lib.IntN.{pos, nat_abs}
use lib.ListN.{take, replicate}
use Rattle.posit.specs.Digits.{InBase}
use Rattle.posit.specs.Accumulator.{clear}
use Rattle.posit.proofs.Computing.{everything}
use Rattle.std.specs.Prelude.{Ok}
use Rattle.desk.specs.contracts.image.write_image as of_write
use Rattle.desk.proofs.image.write_image as write
use Rattle.desk.proofs.Refused.{buffer_wide}
use Rattle.promises.specs.History.{History, begun, ◌then◌, move, added, a_product, total_of, Keeps, Counting}
use Rattle.promises.specs.Ways.{by_value, by_cleared, Place, at_mut}
use Rattle.promises.specs.Run.{Wide, Routes, Runs, Image, made, written_into}
use Rattle.promises.proofs.Reach.{unit_numbers}
use Rattle.promises.proofs.Demand3.{images_equal_exactly, every_history_runs, short_history_stays}
use Rattle.one_answer.specs.Engines.{Meets, Excluded}
use Rattle.one_answer.proofs.Engines.{differ}
use Rattle.one_answer.specs.Writers.{WriteEngine, leaves, TellsTotals, WritesNothing}
use Rattle.one_answer.proofs.Desk.{desk_write_image_fixes}

-- ---- one that meets the contract

image_left : (e : WriteEngine) → Meets of_write.ended write.Reads.Pre write.Reads.Post e → (h : History) (by : Routes h) (z b : List ℕ) (κs : Lfts 1) (m : Place)
    → Runs h by z → Wide b → Image h (take 64 (leaves e κs m z b))
image_left e meets h by z b κs m runs wide = record {
  routes = by;
  end = z;
  runs = runs;
  writer = written_into by_value b wide;
  shows = (leaves e κs m z b, (κs, m, (e κs (z, (at_mut m b, tt))).0, meets κs (z, (at_mut m b, tt)) tt, (meets κs (z, (at_mut m b, tt)) tt).0 ∙ (buffer_wide clear b wide.0).0), refl);
}

writer_tells_totals : (e : WriteEngine) → Meets of_write.ended write.Reads.Pre write.Reads.Post e → TellsTotals e
writer_tells_totals e meets h i k l y z b κs m keeps_h keeps_i runs_h runs_i wide =
    images_equal_exactly h i _ _ keeps_h keeps_i (image_left e meets h k y b κs m runs_h wide) (image_left e meets i l z b κs m runs_i wide)

-- ---- one that writes nothing

-- one unit added
abbrev one_unit : History
one_unit = begun then move added (a_product 1 1)

nothing_keeps : Keeps begun
nothing_keeps = (tt, tt)

-- with negations, signs dropped, turns and joins counted, say
abbrev counted : Counting
counted = record { of_join = 1; of_negation = 1; of_sign_dropped = 1; of_turn = 1 }

unit_keeps : Keeps one_unit
unit_keeps = ((tt, unit_numbers, tt), short_history_stays counted one_unit (tt, unit_numbers, tt) (lit≤ tt))

unit_total : total_of one_unit ≡ pos 1
unfolding total_of everything
unit_total = refl

nothing_total : total_of begun ≡ pos 0
unfolding total_of
nothing_total = refl

zeros_are_bytes : (n : ℕ) → InBase 256 (replicate n 0)
zeros_are_bytes zero = tt
zeros_are_bytes (suc n) = (lit< tt, zeros_are_bytes n)

zero_is_not_one : pos 0 ≡ pos 1 → ⊥
zero_is_not_one e = differ {m = 0} {n = 1} tt (ap nat_abs e)

idle_writer_fails : (e : WriteEngine) → TellsTotals e → WritesNothing e → ⊥
idle_writer_fails e tells idle =
    let none = every_history_runs begun by_cleared made in
    let one = every_history_runs one_unit (by_cleared, (by_value, tt)) made in
    let κs : Lfts 1 = ([], tt) in
    let m : Place = record { ptr = (0, 0); name = 0 } in
    let b : List ℕ = replicate 64 0 in
    let alike : leaves e κs m none.0 b ≡ leaves e κs m one.0 b = idle κs m none.0 b ∙ sym (idle κs m one.0 b) in
    let same = tells begun one_unit by_cleared (by_cleared, (by_value, tt)) none.0 one.0 b κs m nothing_keeps unit_keeps none.2 one.2 (lit≤ tt, zeros_are_bytes 64) in
    zero_is_not_one (sym nothing_total ∙ same.0 (ap (take 64) alike) ∙ unit_total)

pub desk_write_image_not_idle_by_totals : Excluded desk_write_image_fixes (λ e. TellsTotals e) (λ e. WritesNothing e)
desk_write_image_not_idle_by_totals = record { met = writer_tells_totals; some = (idle, λ κs m q b. refl); refuted = idle_writer_fails }
  where
    idle : WriteEngine
    idle κs a = (Ok tt, (tt, (a.1.0.now, tt)))
