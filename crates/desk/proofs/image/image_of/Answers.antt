-- `image_of` meets its contract: the bytes are the digits of the number (`all_digits`), which are its image.
use mathlib.Core.Path.{◌≡◌, ◌∙◌}
use Prim.Native.Nat.{suc, ◌-◌, ◌/◌, ◌%◌, ◌^◌}
use native.Mathlib.Omega.{arith}
use Rattle.std.proofs.Common.{rules}
use Rattle.quire_words.specs.Words.{wide}
use Rattle.quire_words.proofs.Places.{wide_typed}
use Rattle.desk.proofs.Made.{made}
use Rattle.desk.proofs.Spelt.{all_digits, image_digits}
use Rattle.desk.proofs.image.image_of.Goals as goal

pub returns : goal.returns
returns c =
    let q = c.args.q in
    let made_of = c.from_fn.ensures.items in
    let at_place = made _ _ (λ i y. y ≡ wide q / 256 ^ (63 - i) % 256) (λ i y p k. (search rules, search rules)) c.from_fn.result 64 made_of in
    all_digits 256 64 (wide q) c.from_fn.result made_of.long (λ k h. let place : 64 - suc k ≡ 63 - k = omega arith in rw place (at_place k 0 h))
    ∙ image_digits q (wide_typed q c.well_formed.0)
