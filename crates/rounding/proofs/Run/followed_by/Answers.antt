-- `Run::followed_by` meets its contract: the digits that stay fit below the run, and what is cut off is not 0 just where its rest and the sticky bit are not both 0.
use Rattle.std.proofs.Common.{ℕ, ◌+◌, ◌-◌, ◌/◌, ◌%◌, ◌^◌, ltb, ap, ◌∙◌, ap₂, arith, pow_mono}
use mir.Val.{bool_byte}
use Rattle.posit.proofs.LongPattern.{half_even}
use Rattle.posit.proofs.Packing.{from_digits}
use Rattle.std.proofs.lemmas.Nat.{one_shl}
use Rattle.rounding.proofs.Packed.{behind_lt, within}
use Rattle.rounding.proofs.Run.followed_by.Goals as goal

pub overflow_cast-h-2 : goal.overflow_cast-h-2
overflow_cast-h-2 c =
    let a = c.args in
    record { fits = omega (arith, behind_lt a.self.ones a.self.less a.t (omega arith) (omega arith), pow_mono {i = 30 - a.self.less} {j = 30} (omega arith)) }

pub overflow_add-h : goal.overflow_add-h
overflow_add-h c =
    let a = c.args in
    record { fits = rw c.at_top.ensures (omega (arith, (within a.self.ones a.self.less a.t (omega arith) (omega arith)).1)) }

pub returns : goal.returns
unfolding from_digits
returns c =
    let a = c.args in
    let rest : ℕ → ℕ = λ n. a.t % n in
    c.half_even.ensures
    ∙ ap₂ (λ (r n : ℕ). half_even (r + a.t / 2 ^ (33 + a.self.less)) (ltb 0 (n + bool_byte a.sticky))) c.at_top.ensures
    (ap rest (one_shl (33 + a.self.less) 64 (omega arith)))
