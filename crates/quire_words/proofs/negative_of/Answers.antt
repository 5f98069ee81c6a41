-- `negative_of` meets its contract: it takes a from 0.
use Rattle.std.proofs.Common.{ℕ, ◌-◌, ◌%◌, ◌^◌, ap, ◌∙◌, zero-add}
use Rattle.posit.specs.Digits.{number}
use Rattle.quire_words.specs.Words.{wide}
use Rattle.quire_words.proofs.negative_of.Goals as goal

pub returns : goal.returns
unfolding number
returns c = c.sub.ensures ∙ ap (λ (n : ℕ). n % 2 ^ 512) (zero-add (2 ^ 512 - wide c.args.a))
