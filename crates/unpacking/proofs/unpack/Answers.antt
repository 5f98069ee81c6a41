-- `unpack` meets its contract: each arm is one answer of `parts`, and what is handed to `Unsigned::with_sign` is the pattern with its sign off.
use Rattle.std.proofs.Common.{sym, ◌∙◌, arith}
use Rattle.unpacking.proofs.Parts.{parts_zero, parts_nar, parts_real}
use Rattle.unpacking.proofs.unpack.Goals as goal

pub returns-in-0 : goal.returns-in-0
returns-in-0 c = sym (parts_zero 2 31 c.args.p (omega arith))

pub returns-in-2147483648 : goal.returns-in-2147483648
returns-in-2147483648 c = sym (parts_nar 2 31 c.args.p (omega arith))

pub returns-in_default : goal.returns-in_default
returns-in_default c =
    let p = c.args.p in
    c.with_sign.ensures ∙ (rw c.of.ensures (sym (parts_real 2 31 p (omega arith) (omega arith))))
