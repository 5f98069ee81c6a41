-- The unit is free: the rounding of a size is the same when it is told in units that are i binary digits finer. The pattern just below it stays, and so
-- does its order with the cut.
use mathlib.Core.Path.{◌≡◌}
use Prim.Native.Nat.{ℕ, suc, ◌+◌, ◌*◌, ◌^◌, ◌≤◌, ◌<◌}
use native.Mathlib.Nat.{pow-suc, le_trans}
use native.Mathlib.Omega.{arith}
use Rattle.posit.specs.Pattern.{size, least}
use Rattle.posit.specs.Exact.{Exact, Sound}
use Rattle.posit.specs.Rounding.{cut, below, nearer, round}
use Rattle.posit.proofs.Compare.{finer, finer_sound, finer_at_least, finer_under, finer_least, finer_above}
use Rattle.posit.proofs.Size.{size_unit}
use Rattle.posit.proofs.Below.{Brackets, below_brackets, bracket_one}
use Rattle.posit.proofs.Rounding.{fine_here}

module _ (es w u i : ℕ) (fine : least es (suc w) ≤ u) (x : Exact) (sound : Sound x) where
  wide : least es w ≤ u
  wide = fine_here es w u fine

  brackets_finer : {p : ℕ} → Brackets es w u x p → Brackets es w (u + i) (finer i x) p
  brackets_finer {p} b =
      record {
        short = b.short;
        low = λ z. rw (size_unit es u i w p z b.short wide) (finer_at_least i x (size es w u p) (b.low z));
        high = λ k. rw (size_unit es u i w (suc p) (omega arith) k wide) (finer_under i x (size es w u (suc p)) (b.high k));
      }

  below_finer : below es w (u + i) (finer i x) ≡ below es w u x
  below_finer =
      bracket_one es w (u + i) (finer i x) (finer_sound i x sound) (le_trans wide (omega arith))
      (below_brackets es w (u + i) (finer i x))
      (brackets_finer (below_brackets es w u x))

  nearer_finer : (p : ℕ) → p < 2 ^ w → nearer es w (u + i) (finer i x) p ≡ nearer es w u x p
  unfolding nearer cut
  nearer_finer p k =
      rw (size_unit es u i (suc w) (2 * p + 1) (omega arith) (omega (arith, pow-suc 2 w)) fine, finer_above i x (cut es w u p), finer_least i x (cut es w u p))

  pub round_finer : round es w (u + i) (finer i x) ≡ round es w u x
  unfolding round
  round_finer = rw (below_finer, nearer_finer (below es w u x) (below_brackets es w u x).short)
