-- `scaled_of` meets its contract: but for zero and NaR, the pattern with its sign off is a positive one.
use Rattle.std.proofs.Common.{sym, subst₂, ⊎_elim, arith}
use Rattle.posit.specs.Pattern.{unsigned}
use Rattle.posit.proofs.Unsigned.{unsigned_below}
use Rattle.unpacking.specs.Scaled.{Scales}
use Rattle.unpacking.proofs.Scale.{scales}
use Rattle.unpacking.proofs.scaled.scaled_of.Goals as goal

pub returns-in_default : goal.returns-in_default
returns-in_default c =
    let r = c.scaled.ensures in
    let p = c.args.p in
    let above = rw c.of.ensures at c.of.result.positive in
    record {
      of_real = λ _. subst₂ (Scales (unsigned 31 p)) (sym r.0) (sym r.1) (rw c.of.ensures (scales (unsigned 31 p) above));
      of_other = λ h. absurd (⊎_elim (λ z. omega (arith, above, unsigned_below 31 p (omega arith))) (λ n. omega (arith, above, unsigned_below 31 p (omega arith))) h);
    }
