-- `pack_size` meets its contract: each branch is one of the cases of `packing`, which is the rounding of what the arguments stand for.
use Rattle.std.proofs.Common.{◌≡◌, ℕ, ◌+◌, ◌-◌, ◌*◌, ◌/◌, ◌%◌, ◌^◌, ◌<◌, ◌≤◌, Bool, leb, sym, ◌∙◌, arith, le-leb}
use native.Mathlib.Decide.{dec_lt}
use Rattle.rounding.proofs.Packed.{pack_size_is, packing, packing_tiny, packing_huge, packing_zeros, packing_ones}
use borrow.Author.Tests.{lt-leb}
use Rattle.posit.proofs.Packing.{from_digits}
use Rattle.rounding.proofs.pack_size.Goals as goal

-- the run is of ones from 1024 on
between : (c F m : ℕ) (o s : Bool) → o ≡ leb 1024 c → 904 ≤ c → c < 1144 → (c < 1024 → m ≡ 255 - c / 4) → (1024 ≤ c → m ≡ c / 4 - 256)
    → from_digits o m (c % 4 * 2 ^ 61 + F) s ≡ packing c F s
between c F m o s e h k f g = go (dec_lt c 1024)
  where
    go : Dec (c < 1024) → from_digits o m (c % 4 * 2 ^ 61 + F) s ≡ packing c F s
    go (yes i) = rw (e, lt-leb 1024 c i, f i) (sym (packing_zeros c F s h i))
    go (no i) = rw (e, le-leb 1024 c (omega arith), g (omega arith)) (sym (packing_ones c F s (omega arith) k))

pub returns-then-scale-lt904 : goal.returns-then-scale-lt904
returns-then-scale-lt904 c = let a = c.args in sym (pack_size_is a.scale a.fraction a.sticky ∙ packing_tiny a.scale _ a.sticky (omega arith))

pub returns-then-scale-ge1144 : goal.returns-then-scale-ge1144
returns-then-scale-ge1144 c =
    let a = c.args in
    sym (pack_size_is a.scale a.fraction a.sticky ∙ packing_huge a.scale _ a.sticky (omega arith))

pub returns : goal.returns
returns c =
    let a = c.args in
    let r = c.of.ensures in
    c.followed_by.ensures ∙ between a.scale _ _ _ a.sticky r.0 (omega arith) (omega arith) r.1 r.2 ∙ sym (pack_size_is a.scale a.fraction a.sticky)
