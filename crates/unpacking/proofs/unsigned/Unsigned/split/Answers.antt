-- `Unsigned::split` meets its contract: the shifts leave what follows the run at the top of the word (`shifted_behind`).
use Rattle.std.proofs.Common.{◌≡◌, ℕ, ◌*◌, ◌%◌, ◌^◌, ◌∙◌, arith, lit<}
use Rattle.posit.specs.Pattern.{first, run}
use Rattle.posit.proofs.Word.{run_le, shifts, behind, shifted_behind}
use Rattle.unpacking.proofs.unsigned.Unsigned.split.Goals as goal

top : (b m : ℕ) → m ≡ run (first 31 b) 31 b → b * 2 ^ m % 2 ^ 32 * 4 % 2 ^ 32 ≡ behind 2 31 b
top b m e = rw e (shifts b (run (first 31 b) 31 b) 2 32 ∙ shifted_behind 2 31 b (lit< tt))

pub overflow_shl-result : goal.overflow_shl-result
overflow_shl-result c = let b = c.args.self.bits in omega (arith, run_le (first 31 b) 31 b)

pub returns : goal.returns
returns c = (c.run-m.ensures, top c.args.self.bits _ c.run-m.ensures)
