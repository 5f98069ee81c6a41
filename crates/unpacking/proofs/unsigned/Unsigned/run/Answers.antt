-- `Unsigned::run` meets its contract: the zeros above the shifted pattern, or above its complement, are the run (`counted`).
use Rattle.std.proofs.Common.{◌≡◌, ◌*◌, ◌%◌, ◌^◌, true, false, mod-eq_of_lt, arith}
use Rattle.posit.proofs.Word.{counted, first_is}
use Rattle.unpacking.proofs.unsigned.Unsigned.run.Goals as goal
use Rattle.unpacking.proofs.unsigned.Unsigned.run.Goals.{then-self-lt1073741824, else-self-lt1073741824}

pub returns : goal.returns
returns c =
    let b = c.args.self.bits in
    let y = c.if-self-lt1073741824.y in
    let shifted : b * 2 % 2 ^ 32 ≡ b * 2 = mod-eq_of_lt (omega arith) in
    elim c.if-self-lt1073741824.branch [
      | then-self-lt1073741824 zeros ↦ counted false 31 b y (first_is false 30 b (omega arith) (omega arith)) (omega arith) (omega arith) (omega arith)
      | else-self-lt1073741824 ones ↦ counted true 31 b y (first_is true 30 b (omega arith) (omega arith)) (omega arith) (omega arith) (omega arith)
    ]
