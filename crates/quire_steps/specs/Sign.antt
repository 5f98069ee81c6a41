-- The size of a total.
use Rattle.std.specs.Prelude.{pos, nat_abs}
use Rattle.posit.specs.Accumulator.{State, not_real, total}

-- (4.14) the total without its sign; NaR stays NaR
unfoldable pub sign_off : State → State
sign_off not_real = not_real
sign_off (total t) = total (pos (nat_abs t))
