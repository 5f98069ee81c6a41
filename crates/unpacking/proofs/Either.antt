-- What `either_nar` tells of its two patterns where it answers no.
use Rattle.std.proofs.Common.{◌≡◌, ℕ, Bool, false, ◌||◌, ◌==◌, ◌≢◌, sym, ◌∙◌}
use Rattle.posit.specs.Pattern.{nar}
use Rattle.posit.proofs.Operation.{neither_nar}

pub neither : {p q : ℕ} {b : Bool} → b ≡ (p == nar 31 || q == nar 31) → b ≡ false → (p ≢ nar 31) × (q ≢ nar 31)
neither {p} {q} answer none = neither_nar 2 31 p q (sym answer ∙ none)
