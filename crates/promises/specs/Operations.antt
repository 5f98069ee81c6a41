-- The operations on posits and the rounding of an accumulator: their exact results, told by the operands' values alone; where there is none; and what it means
-- that one was done, told by the contract that is generated of each public function that does it (`Reads`).
use Rattle.std.specs.Prelude.{◌≡◌, refl, ◌⊎◌, List, [], ◌∷◌, ℕ, ◌^◌, ◌<◌, ℤ, pos, negsuc, neg_ℤ, ◌+ℤ◌, ◌-ℤ◌}
use contract.Lifetimes.{Lfts}
use Rattle.posit.specs.Pattern.{nar, unit}
use Rattle.posit.specs.Operation.{exact, exact_product}
use Rattle.exact_terms.proofs.add.Reads as patterns_add
use Rattle.exact_terms.proofs.mul.Reads as patterns_mul
use Rattle.exact_terms.proofs.mul_add.Reads as patterns_mul_add
use Rattle.division.proofs.div.Reads as patterns_div
use Rattle.square_root.proofs.sqrt.Reads as patterns_sqrt
use Rattle.p32e2.proofs.P32E2.neg.Reads as posits_neg
use Rattle.p32e2.proofs.P32E2.add.Reads as posits_add
use Rattle.p32e2.proofs.P32E2.sub.Reads as posits_sub
use Rattle.p32e2.proofs.P32E2.mul.Reads as posits_mul
use Rattle.p32e2.proofs.P32E2.div.Reads as posits_div
use Rattle.p32e2.proofs.P32E2.recip.Reads as posits_recip
use Rattle.p32e2.proofs.P32E2.sqrt.Reads as posits_sqrt
use Rattle.p32e2.proofs.P32E2.mul_add.Reads as posits_mul_add
use Rattle.p32e2.proofs.P32E2.mul_sub.Reads as posits_mul_sub
use Rattle.p32e2.proofs.P32E2.sub_product.Reads as posits_sub_product
use Rattle.capi.proofs.posits.stallhitch_p32e2_neg.Reads as c_neg
use Rattle.capi.proofs.posits.stallhitch_p32e2_add.Reads as c_add
use Rattle.capi.proofs.posits.stallhitch_p32e2_sub.Reads as c_sub
use Rattle.capi.proofs.posits.stallhitch_p32e2_mul.Reads as c_mul
use Rattle.capi.proofs.posits.stallhitch_p32e2_div.Reads as c_div
use Rattle.capi.proofs.posits.stallhitch_p32e2_recip.Reads as c_recip
use Rattle.capi.proofs.posits.stallhitch_p32e2_sqrt.Reads as c_sqrt
use Rattle.capi.proofs.posits.stallhitch_p32e2_mul_add.Reads as c_mul_add
use Rattle.capi.proofs.posits.stallhitch_p32e2_mul_sub.Reads as c_mul_sub
use Rattle.capi.proofs.posits.stallhitch_p32e2_sub_product.Reads as c_sub_product
use Rattle.quire_steps.proofs.from_posit.Reads as from_posit
use Rattle.quire32.proofs.Q32E2.from_posit.Reads as of_from_posit
use Rattle.quire_totals.proofs.to_posit.Reads as to_posit
use Rattle.quire32.specs.contracts.Q32E2.to_posit as of_to_posit
use Rattle.capi.proofs.accumulators.stallhitch_q32e2_to_posit.Reads as c_to_posit
use Rattle.promises.specs.Contract.{Plain}
use Rattle.promises.specs.Standard.{Result, result, divided, root_of}
use Rattle.promises.specs.Ways.{Way, by_value, lent, for_c, Place, at, posit, accumulator}

-- each with the patterns of its operands
pub data Operation : Type 0 where
  neg : ℕ → Operation
  add : ℕ → ℕ → Operation
  sub : ℕ → ℕ → Operation
  mul : ℕ → ℕ → Operation
  div : ℕ → ℕ → Operation
  recip : ℕ → Operation
  sqrt : ℕ → Operation
  mul_add : ℕ → ℕ → ℕ → Operation
  mul_sub : ℕ → ℕ → ℕ → Operation
  sub_product : ℕ → ℕ → ℕ → Operation

abbrev pub operands : Operation → List ℕ
operands (neg a) = a ∷ []
operands (add a b) = a ∷ b ∷ []
operands (sub a b) = a ∷ b ∷ []
operands (mul a b) = a ∷ b ∷ []
operands (div a b) = a ∷ b ∷ []
operands (recip a) = a ∷ []
operands (sqrt a) = a ∷ []
operands (mul_add a b c) = a ∷ b ∷ c ∷ []
operands (mul_sub a b c) = a ∷ b ∷ c ∷ []
operands (sub_product c a b) = c ∷ a ∷ b ∷ []

-- each is a pattern of 32 bits
abbrev pub Patterns : List ℕ → Type 0
Patterns [] = Unit {0}
Patterns (p ∷ ps) = (p < 2 ^ 32) × Patterns ps

-- one of them is NaR
abbrev pub NarAmong : List ℕ → Type 0
NarAmong [] = ⊥
NarAmong (p ∷ ps) = (p ≡ nar 31) ⊎ NarAmong ps

-- the exact result, by the values: 1 is 2 ^ 240 units
abbrev pub exactly : Operation → Result
exactly (neg a) = result (neg_ℤ (exact 2 31 a))
exactly (add a b) = result (exact 2 31 a +ℤ exact 2 31 b)
exactly (sub a b) = result (exact 2 31 a -ℤ exact 2 31 b)
exactly (mul a b) = result (exact_product 2 31 a b)
exactly (div a b) = divided (exact 2 31 a) (exact 2 31 b)
exactly (recip a) = divided (pos (2 ^ unit 2 31)) (exact 2 31 a)
exactly (sqrt a) = root_of (exact 2 31 a)
exactly (mul_add a b c) = result (exact_product 2 31 a b +ℤ exact 2 31 c)
exactly (mul_sub a b c) = result (exact_product 2 31 a b -ℤ exact 2 31 c)
exactly (sub_product c a b) = result (exact 2 31 c -ℤ exact_product 2 31 a b)

abbrev pub BelowZero : ℤ → Type 0
BelowZero (pos n) = ⊥
BelowZero (negsuc n) = Unit {0}

-- the divisor is zero, or the radicand negative
abbrev pub Undefined : Operation → Type 0
Undefined (neg a) = ⊥
Undefined (add a b) = ⊥
Undefined (sub a b) = ⊥
Undefined (mul a b) = ⊥
Undefined (div a b) = exact 2 31 b ≡ pos 0
Undefined (recip a) = exact 2 31 a ≡ pos 0
Undefined (sqrt a) = BelowZero (exact 2 31 a)
Undefined (mul_add a b c) = ⊥
Undefined (mul_sub a b c) = ⊥
Undefined (sub_product c a b) = ⊥

abbrev pub Impossible : Operation → Type 0
Impossible f = NarAmong (operands f) ⊎ Undefined f

-- the functions of the crates below on patterns, of which there are five; the methods of `P32E2`; and the functions for C
pub data By : Type 0 where
  on_patterns : By
  on_posits : By
  from_c : By

-- there is such a function
abbrev pub Offered : By → Operation → Type 0
Offered on_patterns (neg a) = ⊥
Offered on_patterns (add a b) = Unit {0}
Offered on_patterns (sub a b) = ⊥
Offered on_patterns (mul a b) = Unit {0}
Offered on_patterns (div a b) = Unit {0}
Offered on_patterns (recip a) = ⊥
Offered on_patterns (sqrt a) = Unit {0}
Offered on_patterns (mul_add a b c) = Unit {0}
Offered on_patterns (mul_sub a b c) = ⊥
Offered on_patterns (sub_product c a b) = ⊥
Offered on_posits f = Unit {0}
Offered from_c f = Unit {0}

-- r meets the contract of the function that does the operation
abbrev pub Done : By → Operation → ℕ → Type 0
Done on_patterns (neg a) r = ⊥
Done on_patterns (add a b) r = patterns_add.Post tt (a, (b, tt)) r (a, (b, tt))
Done on_patterns (sub a b) r = ⊥
Done on_patterns (mul a b) r = patterns_mul.Post tt (a, (b, tt)) r (a, (b, tt))
Done on_patterns (div a b) r = patterns_div.Post tt (a, (b, tt)) r (a, (b, tt))
Done on_patterns (recip a) r = ⊥
Done on_patterns (sqrt a) r = patterns_sqrt.Post tt (a, tt) r (a, tt)
Done on_patterns (mul_add a b c) r = patterns_mul_add.Post tt (a, (b, (c, tt))) r (a, (b, (c, tt)))
Done on_patterns (mul_sub a b c) r = ⊥
Done on_patterns (sub_product c a b) r = ⊥
Done on_posits (neg a) r = posits_neg.Post tt (posit a, tt) (posit r) (posit a, tt)
Done on_posits (add a b) r = posits_add.Post tt (posit a, (posit b, tt)) (posit r) (posit a, (posit b, tt))
Done on_posits (sub a b) r = posits_sub.Post tt (posit a, (posit b, tt)) (posit r) (posit a, (posit b, tt))
Done on_posits (mul a b) r = posits_mul.Post tt (posit a, (posit b, tt)) (posit r) (posit a, (posit b, tt))
Done on_posits (div a b) r = posits_div.Post tt (posit a, (posit b, tt)) (posit r) (posit a, (posit b, tt))
Done on_posits (recip a) r = posits_recip.Post tt (posit a, tt) (posit r) (posit a, tt)
Done on_posits (sqrt a) r = posits_sqrt.Post tt (posit a, tt) (posit r) (posit a, tt)
Done on_posits (mul_add a b c) r = posits_mul_add.Post tt (posit a, (posit b, (posit c, tt))) (posit r) (posit a, (posit b, (posit c, tt)))
Done on_posits (mul_sub a b c) r = posits_mul_sub.Post tt (posit a, (posit b, (posit c, tt))) (posit r) (posit a, (posit b, (posit c, tt)))
Done on_posits (sub_product c a b) r = posits_sub_product.Post tt (posit c, (posit a, (posit b, tt))) (posit r) (posit c, (posit a, (posit b, tt)))
Done from_c (neg a) r = c_neg.Post tt (a, tt) r (a, tt)
Done from_c (add a b) r = c_add.Post tt (a, (b, tt)) r (a, (b, tt))
Done from_c (sub a b) r = c_sub.Post tt (a, (b, tt)) r (a, (b, tt))
Done from_c (mul a b) r = c_mul.Post tt (a, (b, tt)) r (a, (b, tt))
Done from_c (div a b) r = c_div.Post tt (a, (b, tt)) r (a, (b, tt))
Done from_c (recip a) r = c_recip.Post tt (a, tt) r (a, tt)
Done from_c (sqrt a) r = c_sqrt.Post tt (a, tt) r (a, tt)
Done from_c (mul_add a b c) r = c_mul_add.Post tt (a, (b, (c, tt))) r (a, (b, (c, tt)))
Done from_c (mul_sub a b c) r = c_mul_sub.Post tt (a, (b, (c, tt))) r (a, (b, (c, tt)))
Done from_c (sub_product c a b) r = c_sub_product.Post tt (c, (a, (b, tt))) r (c, (a, (b, tt)))

-- what the clauses of the method `to_posit` say, which is lent the accumulator
abbrev pub to_posit_lent : Plain of_to_posit.ended (λ M 𝓤 𝓛. of_to_posit.clauses 𝓛)
to_posit_lent = record { Post = _; says = λ M 𝓤 𝓛 mem run κs a g x s. refl }

-- the words q meet the contract of the function that makes an accumulator of the posit p; for C there is none
abbrev pub OfPosit : Way → ℕ → List ℕ → Type 0
OfPosit by_value p q = from_posit.Post tt (posit p, tt) q (posit p, tt)
OfPosit lent p q = of_from_posit.Post tt (posit p, tt) (accumulator q) (posit p, tt)
OfPosit for_c p q = ⊥

-- r meets the contract of `to_posit` for the words q
abbrev pub ToPosit : Way → List ℕ → ℕ → Type 0
ToPosit by_value q r = to_posit.Post tt (q, tt) (posit r) (q, tt)
ToPosit lent q r = (κs : Lfts 1) × (m : Place) × to_posit_lent.Post κs (at m (accumulator q), tt) (posit r) (at m (accumulator q), tt)
ToPosit for_c q r = (κs : Lfts 1) × (m : Place) × c_to_posit.Post κs (at m q, tt) r (at m q, tt)
