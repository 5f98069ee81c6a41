-- `sub` meets its contract: the complement and the one carried in are together what b lacks to 2 ^ 512.
use Rattle.std.proofs.Common.{◌≡◌, ℕ, ◌+◌, ◌-◌, ◌%◌, ◌^◌, ◌<◌, ap, ◌∙◌, arith}
use Rattle.quire_words.specs.Words.{wide}
use Rattle.quire_words.proofs.Places.{wide_typed}
use Rattle.quire_words.proofs.sub.Goals as goal

completed : (N a b : ℕ) → b < N → a + (N - 1 - b) + 1 ≡ a + (N - b)
completed N a b h = omega arith

pub returns : goal.returns
returns c =
    let a = c.args in
    c.add.ensures
    ∙ ap (λ (n : ℕ). (wide a.a + n + 1) % 2 ^ 512) c.complement.ensures
    ∙ ap (λ (n : ℕ). n % 2 ^ 512) (completed (2 ^ 512) (wide a.a) (wide a.b) (wide_typed a.b c.well_formed.1.0))
