-- `Run::at_top` meets its contract: a run of ones with its end is what is left of the word above the rest, and one of zeros a single one.
use Rattle.std.proofs.Common.{◌≡◌, ℕ, suc, ◌+◌, ◌-◌, ◌*◌, ◌^◌, ◌≤◌, true, sym, ap, one-mul, pow-suc, arith, pow_pos}
use Rattle.posit.proofs.Built.{built}
use Rattle.posit.proofs.Size.{ones_double, one_built}
use Rattle.posit.proofs.Arith.{pow_sum}
use Rattle.std.proofs.lemmas.Nat.{one_shl}
use Rattle.rounding.proofs.Run.at_top.Goals as goal

ones_above : (m : ℕ) → m ≤ 29 → 2 ^ 32 - 1 - (2 ^ (31 - m) - 1) ≡ built true (suc m) 0 0 * 2 ^ (30 - m)
ones_above m h =
    let e : 31 - m ≡ suc (30 - m) = omega arith in
    let all : 2 ^ suc m * 2 ^ (30 - m) ≡ 2 ^ 31 = pow_sum (suc m) (30 - m) 31 (omega arith) in
    let two : built true (suc m) 0 0 + 2 ≡ 2 * 2 ^ suc m = omega (arith, ones_double (suc m), pow_pos (suc m)) in
    rw (e, pow-suc) (omega (arith, ap (λ (b : ℕ). b * 2 ^ (30 - m)) two, pow_pos (30 - m)))

pub returns-then-self : goal.returns-then-self
returns-then-self c = let m = c.args.self.less in rw (c.if-self.true, one_shl (31 - m) 32 (omega arith)) (ones_above m (omega arith))

pub returns-else-self : goal.returns-else-self
returns-else-self c =
    let m = c.args.self.less in
    rw (c.if-self.false, one_shl (30 - m) 32 (omega arith), one_built (suc m)) (sym (one-mul (2 ^ (30 - m))))
