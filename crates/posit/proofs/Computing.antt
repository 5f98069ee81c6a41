-- A declaration that says `unfolding everything` computes with every definition: how the tables of cases are checked. It means nothing itself.
use Rattle.posit.specs.Pattern.{opposite, unsigned, run, regime, left, exponent, fraction, size, value}
use Rattle.posit.specs.Rounding.{cut, search_down, below, nearer, round, signed, rounded}
use Rattle.posit.specs.Operation.{exact, exact_product, sum, difference, product, quotient, square_root, fused_sum, fused_difference, product_taken}
use Rattle.posit.specs.Digits.{digits, number, same, reading, complement}
use Rattle.posit.specs.Accumulator.{is_not_real, is_clear, of_posit, of_product, plus, negated, minus, to_posit, parts_of, bits_of, state_of, words, from_words, image, from_image}

unfoldable pub everything : Unit {0}
unfolding opposite unsigned run regime left exponent fraction size value cut search_down below nearer round signed rounded exact exact_product sum difference product quotient square_root fused_sum fused_difference product_taken digits number same reading complement is_not_real is_clear of_posit of_product plus negated minus to_posit parts_of bits_of state_of words from_words image from_image mathlib.Core.Bool.xor
everything = tt
