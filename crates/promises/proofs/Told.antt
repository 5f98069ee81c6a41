-- Each operation's contracts are told by one definition (`done_told`), by every way in, and can be met by it (`done_met`); so are those by which an accumulator is made of a posit
-- and rounded to one.
use mathlib.Core.Path.{◌≡◌, refl}
use mathlib.Core.Logic.{◌≢◌}
use mathlib.Core.List.{List}
use Prim.Native.Nat.{ℕ, ◌^◌}
use Rattle.posit.specs.Pattern.{opposite}
use Rattle.posit.specs.Operation.{sum, difference, product, quotient, square_root, fused_sum, fused_difference, product_taken}
use Rattle.posit.specs.Accumulator.{of_posit, to_posit, words, from_words}
use Rattle.promises.specs.Operations.{Operation, neg, add, sub, mul, div, recip, sqrt, mul_add, mul_sub, sub_product, By, on_patterns, on_posits, from_c, Offered, Done, OfPosit, ToPosit}
use Rattle.promises.specs.Ways.{Way, by_value, lent, for_c}
use Rattle.promises.proofs.Said.{somewhere, one_lifetime}

-- the definition of each operation, by which its contracts are told
unfoldable pub answer_of : Operation → ℕ
answer_of (neg a) = opposite 31 a
answer_of (add a b) = sum 2 31 a b
answer_of (sub a b) = difference 2 31 a b
answer_of (mul a b) = product 2 31 a b
answer_of (div a b) = quotient 2 31 a b
answer_of (recip a) = quotient 2 31 (2 ^ 30) a
answer_of (sqrt a) = square_root 2 31 a
answer_of (mul_add a b c) = fused_sum 2 31 a b c
answer_of (mul_sub a b c) = fused_difference 2 31 a b c
answer_of (sub_product c a b) = product_taken 2 31 c a b

pub done_told : (by : By) (f : Operation) (r : ℕ) → Done by f r → r ≡ answer_of f
unfolding answer_of
done_told on_patterns (neg a) r d = absurd d
done_told on_patterns (add a b) r d = d
done_told on_patterns (sub a b) r d = absurd d
done_told on_patterns (mul a b) r d = d
done_told on_patterns (div a b) r d = d
done_told on_patterns (recip a) r d = absurd d
done_told on_patterns (sqrt a) r d = d
done_told on_patterns (mul_add a b c) r d = d
done_told on_patterns (mul_sub a b c) r d = absurd d
done_told on_patterns (sub_product c a b) r d = absurd d
done_told on_posits (neg a) r d = d
done_told on_posits (add a b) r d = d
done_told on_posits (sub a b) r d = d
done_told on_posits (mul a b) r d = d
done_told on_posits (div a b) r d = d
done_told on_posits (recip a) r d = d
done_told on_posits (sqrt a) r d = d
done_told on_posits (mul_add a b c) r d = d
done_told on_posits (mul_sub a b c) r d = d
done_told on_posits (sub_product c a b) r d = d
done_told from_c (neg a) r d = d
done_told from_c (add a b) r d = d
done_told from_c (sub a b) r d = d
done_told from_c (mul a b) r d = d
done_told from_c (div a b) r d = d
done_told from_c (recip a) r d = d
done_told from_c (sqrt a) r d = d
done_told from_c (mul_add a b c) r d = d
done_told from_c (mul_sub a b c) r d = d
done_told from_c (sub_product c a b) r d = d

pub done_met : (by : By) (f : Operation) → Offered by f → Done by f (answer_of f)
unfolding answer_of
done_met on_patterns (neg a) o = absurd o
done_met on_patterns (add a b) o = refl
done_met on_patterns (sub a b) o = absurd o
done_met on_patterns (mul a b) o = refl
done_met on_patterns (div a b) o = refl
done_met on_patterns (recip a) o = absurd o
done_met on_patterns (sqrt a) o = refl
done_met on_patterns (mul_add a b c) o = refl
done_met on_patterns (mul_sub a b c) o = absurd o
done_met on_patterns (sub_product c a b) o = absurd o
done_met on_posits (neg a) o = refl
done_met on_posits (add a b) o = refl
done_met on_posits (sub a b) o = refl
done_met on_posits (mul a b) o = refl
done_met on_posits (div a b) o = refl
done_met on_posits (recip a) o = refl
done_met on_posits (sqrt a) o = refl
done_met on_posits (mul_add a b c) o = refl
done_met on_posits (mul_sub a b c) o = refl
done_met on_posits (sub_product c a b) o = refl
done_met from_c (neg a) o = refl
done_met from_c (add a b) o = refl
done_met from_c (sub a b) o = refl
done_met from_c (mul a b) o = refl
done_met from_c (div a b) o = refl
done_met from_c (recip a) o = refl
done_met from_c (sqrt a) o = refl
done_met from_c (mul_add a b c) o = refl
done_met from_c (mul_sub a b c) o = refl
done_met from_c (sub_product c a b) o = refl

-- and only what is offered can be met
pub done_offered : (by : By) (f : Operation) (r : ℕ) → Done by f r → Offered by f
done_offered on_patterns (neg a) r d = d
done_offered on_patterns (add a b) r d = tt
done_offered on_patterns (sub a b) r d = d
done_offered on_patterns (mul a b) r d = tt
done_offered on_patterns (div a b) r d = tt
done_offered on_patterns (recip a) r d = d
done_offered on_patterns (sqrt a) r d = tt
done_offered on_patterns (mul_add a b c) r d = tt
done_offered on_patterns (mul_sub a b c) r d = d
done_offered on_patterns (sub_product c a b) r d = d
done_offered on_posits f r d = tt
done_offered from_c f r d = tt

-- ---- an accumulator of a posit, and a posit of an accumulator

pub made_met : (way : Way) → way ≢ for_c → (p : ℕ) → OfPosit way p (words 512 (of_posit 2 31 p))
made_met by_value o p = refl
made_met lent o p = refl
made_met for_c o p = absurd (o refl)

pub made_told : (way : Way) (p : ℕ) (q : List ℕ) → OfPosit way p q → q ≡ words 512 (of_posit 2 31 p)
made_told by_value p q d = d
made_told lent p q d = d
made_told for_c p q d = absurd d

pub total_told : (way : Way) (q : List ℕ) (r : ℕ) → ToPosit way q r → r ≡ to_posit 2 31 (from_words 512 q)
total_told by_value q r d = d
total_told lent q r d = d.2
total_told for_c q r d = d.2

pub total_met : (way : Way) (q : List ℕ) → ToPosit way q (to_posit 2 31 (from_words 512 q))
total_met by_value q = refl
total_met lent q = (one_lifetime, somewhere, refl)
total_met for_c q = (one_lifetime, somewhere, refl)
