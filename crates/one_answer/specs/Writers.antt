-- Demand 3 asked of any engine in the place of `desk::image::write_image`.
use Rattle.std.specs.Prelude.{◌≡◌, ◌↔◌, List, ℕ, take}
use contract.Lifetimes.{Lfts}
use Rattle.desk.specs.contracts.image.write_image as write
use Rattle.promises.specs.History.{History, total_of, Keeps}
use Rattle.promises.specs.Ways.{Place, at_mut}
use Rattle.promises.specs.Run.{Wide, Routes, Runs}
use Rattle.one_answer.specs.Engines.{Engine}

abbrev pub WriteEngine : Type 0
WriteEngine = Engine write.ended

-- what it leaves in the buffer b, in which it was to write the image of the words q
abbrev pub leaves : WriteEngine → Lfts 1 → Place → List ℕ → List ℕ → List ℕ
leaves e κs m q b = (e κs (q, (at_mut m b, tt))).1.1.0

-- of the words of two histories that keep the premises, each to be written to a buffer that is the same at entry, the first 64 bytes left are equal exactly when the totals are
abbrev pub TellsTotals : WriteEngine → Type 0
TellsTotals e =
    (h i : History) (k : Routes h) (l : Routes i) (y z b : List ℕ) (κs : Lfts 1) (m : Place)
    → Keeps h → Keeps i → Runs h k y → Runs i l z → Wide b → (take 64 (leaves e κs m y b) ≡ take 64 (leaves e κs m z b)) ↔ (total_of h ≡ total_of i)

abbrev pub WritesNothing : WriteEngine → Type 0
WritesNothing e = (κs : Lfts 1) (m : Place) (q b : List ℕ) → leaves e κs m q b ≡ b
