-- The ways in. The accumulator is begun clear, moved, negated, freed of its sign and asked by value, by a method of `Q32E2` that is lent it, or by the function for C: in each row stands the contract
-- that the check makes of the function, met by the words before and after. What is lent stands at some place, for some lifetime.
use Rattle.std.specs.Prelude.{◌≡◌, refl, Bool, List, ℕ, ◌^◌, length}
use Rattle.std.specs.Borrow.{GName, Bor, MutBor}
use contract.Lifetimes.{Lfts}
use Rattle.posit.specs.Digits.{InBase}
use Rattle.p32e2.specs.declared.P32E2.{P32E2}
use Rattle.quire32.specs.declared.Q32E2.{Q32E2}
use Rattle.quire_steps.proofs.cleared.Reads as cleared
use Rattle.quire_steps.proofs.add_posit.Reads as add_posit
use Rattle.quire_steps.proofs.sub_posit.Reads as sub_posit
use Rattle.quire_steps.proofs.add_product.Reads as add_product
use Rattle.quire_steps.proofs.sub_product.Reads as sub_product
use Rattle.quire_steps.proofs.qAddQ.Reads as add_other
use Rattle.quire_steps.proofs.qSubQ.Reads as sub_other
use Rattle.quire_steps.proofs.neg.Reads as neg
use Rattle.quire_steps.proofs.qAbs.Reads as size
use Rattle.quire_steps.proofs.is_zero.Reads as is_zero
use Rattle.quire_steps.proofs.is_nar.Reads as is_nar
use Rattle.quire32.proofs.Q32E2.init.Reads as init
use Rattle.quire32.specs.contracts.Q32E2.to_bits as of_to_bits
use Rattle.quire32.specs.contracts.Q32E2.clear as of_clear
use Rattle.quire32.specs.contracts.Q32E2.add_posit as of_add_posit
use Rattle.quire32.specs.contracts.Q32E2.sub_posit as of_sub_posit
use Rattle.quire32.specs.contracts.Q32E2.add_product as of_add_product
use Rattle.quire32.specs.contracts.Q32E2.sub_product as of_sub_product
use Rattle.quire32.specs.contracts.Q32E2.qAddQ as of_add_other
use Rattle.quire32.specs.contracts.Q32E2.qSubQ as of_sub_other
use Rattle.quire32.specs.contracts.Q32E2.neg as of_neg
use Rattle.quire32.specs.contracts.Q32E2.qAbs as of_size
use Rattle.quire32.specs.contracts.Q32E2.is_zero as of_is_zero
use Rattle.quire32.specs.contracts.Q32E2.is_nar as of_is_nar
use Rattle.capi.proofs.accumulators.stallhitch_q32e2_clear.Reads as c_clear
use Rattle.capi.proofs.accumulators.stallhitch_q32e2_add_posit.Reads as c_add_posit
use Rattle.capi.proofs.accumulators.stallhitch_q32e2_sub_posit.Reads as c_sub_posit
use Rattle.capi.proofs.accumulators.stallhitch_q32e2_add_product.Reads as c_add_product
use Rattle.capi.proofs.accumulators.stallhitch_q32e2_sub_product.Reads as c_sub_product
use Rattle.capi.proofs.accumulators.stallhitch_q32e2_qAddQ.Reads as c_add_other
use Rattle.capi.proofs.accumulators.stallhitch_q32e2_qSubQ.Reads as c_sub_other
use Rattle.capi.proofs.accumulators.stallhitch_q32e2_neg.Reads as c_neg
use Rattle.capi.proofs.accumulators.stallhitch_q32e2_qAbs.Reads as c_size
use Rattle.capi.proofs.accumulators.stallhitch_q32e2_is_zero.Reads as c_is_zero
use Rattle.capi.proofs.accumulators.stallhitch_q32e2_is_nar.Reads as c_is_nar
use Rattle.promises.specs.Contract.{Plain}
use Rattle.promises.specs.History.{Direction, added, taken}

pub data Way : Type 0 where
  by_value : Way
  lent : Way
  for_c : Way

-- ---- what is handed in

-- eight words of 64 bits, and 64 bytes
abbrev pub EightWords : List ℕ → Type 0
EightWords q = (length q ≡ 8) × InBase (2 ^ 64) q

abbrev pub ImageBytes : List ℕ → Type 0
ImageBytes bs = (length bs ≡ 64) × InBase 256 bs

-- the posit of a pattern
abbrev pub posit : ℕ → P32E2
posit p = record { 0 = p }

-- the accumulator with the words q
abbrev pub accumulator : List ℕ → Q32E2
accumulator q = record { 0 = q }

-- where something stands that is lent: its address, and the name under which the logic follows it where it may be changed
pub record Place : Type 0 where
  pub ptr : ℕ × ℕ
  pub name : GName

-- x, lent where it stands: to be read
abbrev pub at : {A : Type 0} → Place → A → Bor A
at m x = record { ref_ptr = m.ptr; now = x }

-- and to be changed
abbrev pub at_mut : {A : Type 0} → Place → A → MutBor A
at_mut m x = record { ref_ptr = m.ptr; ghost_name = m.name; now = x }

-- ---- the methods that are lent the accumulator: what their clauses say, as plain facts

abbrev pub to_bits_lent : Plain of_to_bits.ended (λ M 𝓤 𝓛. of_to_bits.clauses 𝓛)
to_bits_lent = record { Post = _; says = λ M 𝓤 𝓛 mem run κs a g x s. refl }

abbrev pub clear_lent : Plain of_clear.ended (λ M 𝓤 𝓛. of_clear.clauses 𝓛)
clear_lent = record { Post = _; says = λ M 𝓤 𝓛 mem run κs a g x s. refl }

abbrev pub add_posit_lent : Plain of_add_posit.ended (λ M 𝓤 𝓛. of_add_posit.clauses 𝓛)
add_posit_lent = record { Post = _; says = λ M 𝓤 𝓛 mem run κs a g x s. refl }

abbrev pub sub_posit_lent : Plain of_sub_posit.ended (λ M 𝓤 𝓛. of_sub_posit.clauses 𝓛)
sub_posit_lent = record { Post = _; says = λ M 𝓤 𝓛 mem run κs a g x s. refl }

abbrev pub add_product_lent : Plain of_add_product.ended (λ M 𝓤 𝓛. of_add_product.clauses 𝓛)
add_product_lent = record { Post = _; says = λ M 𝓤 𝓛 mem run κs a g x s. refl }

abbrev pub sub_product_lent : Plain of_sub_product.ended (λ M 𝓤 𝓛. of_sub_product.clauses 𝓛)
sub_product_lent = record { Post = _; says = λ M 𝓤 𝓛 mem run κs a g x s. refl }

abbrev pub qAddQ_lent : Plain of_add_other.ended (λ M 𝓤 𝓛. of_add_other.clauses 𝓛)
qAddQ_lent = record { Post = _; says = λ M 𝓤 𝓛 mem run κs a g x s. refl }

abbrev pub qSubQ_lent : Plain of_sub_other.ended (λ M 𝓤 𝓛. of_sub_other.clauses 𝓛)
qSubQ_lent = record { Post = _; says = λ M 𝓤 𝓛 mem run κs a g x s. refl }

abbrev pub neg_lent : Plain of_neg.ended (λ M 𝓤 𝓛. of_neg.clauses 𝓛)
neg_lent = record { Post = _; says = λ M 𝓤 𝓛 mem run κs a g x s. refl }

abbrev pub qAbs_lent : Plain of_size.ended (λ M 𝓤 𝓛. of_size.clauses 𝓛)
qAbs_lent = record { Post = _; says = λ M 𝓤 𝓛 mem run κs a g x s. refl }

abbrev pub is_zero_lent : Plain of_is_zero.ended (λ M 𝓤 𝓛. of_is_zero.clauses 𝓛)
is_zero_lent = record { Post = _; says = λ M 𝓤 𝓛 mem run κs a g x s. refl }

abbrev pub is_nar_lent : Plain of_is_nar.ended (λ M 𝓤 𝓛. of_is_nar.clauses 𝓛)
is_nar_lent = record { Post = _; says = λ M 𝓤 𝓛 mem run κs a g x s. refl }

-- ---- the accumulator is begun

-- made by value, or in the place of whatever words before
pub data Beginning : Type 0 where
  by_cleared : Beginning
  by_init : Beginning
  by_clear : List ℕ → Beginning
  by_clear_for_c : List ℕ → Beginning

-- the words q are those of a clear accumulator
abbrev pub Begun : Beginning → List ℕ → Type 0
Begun by_cleared q = cleared.Post tt tt q tt
Begun by_init q = init.Post tt tt (accumulator q) tt
Begun (by_clear before) q = (κs : Lfts 1) × (m : Place) × clear_lent.Post κs (at_mut m (accumulator before), tt) tt (at_mut m (accumulator q), tt)
Begun (by_clear_for_c before) q = (κs : Lfts 1) × (m : Place) × c_clear.Post κs (at_mut m before, tt) tt (at_mut m q, tt)

-- ---- an operand is added or taken: from the words q to the words r

-- what a step is handed: one pattern, two, or the words of another accumulator
pub data Handed : Type 0 where
  a_pattern : ℕ → Handed
  a_pair : ℕ → ℕ → Handed
  an_accumulator : List ℕ → Handed

abbrev pub Moved : Way → Direction → Handed → List ℕ → List ℕ → Type 0
Moved by_value added (a_pattern p) q r = add_posit.Post tt (q, (posit p, tt)) r (q, (posit p, tt))
Moved by_value taken (a_pattern p) q r = sub_posit.Post tt (q, (posit p, tt)) r (q, (posit p, tt))
Moved by_value added (a_pair a b) q r = add_product.Post tt (q, (posit a, (posit b, tt))) r (q, (posit a, (posit b, tt)))
Moved by_value taken (a_pair a b) q r = sub_product.Post tt (q, (posit a, (posit b, tt))) r (q, (posit a, (posit b, tt)))
Moved by_value added (an_accumulator p) q r = add_other.Post tt (q, (p, tt)) r (q, (p, tt))
Moved by_value taken (an_accumulator p) q r = sub_other.Post tt (q, (p, tt)) r (q, (p, tt))
Moved lent added (a_pattern p) q r = (κs : Lfts 1) × (m : Place) × add_posit_lent.Post κs (at_mut m (accumulator q), (posit p, tt)) tt (at_mut m (accumulator r), (posit p, tt))
Moved lent taken (a_pattern p) q r = (κs : Lfts 1) × (m : Place) × sub_posit_lent.Post κs (at_mut m (accumulator q), (posit p, tt)) tt (at_mut m (accumulator r), (posit p, tt))
Moved lent added (a_pair a b) q r =
    (κs : Lfts 1) × (m : Place) × add_product_lent.Post κs (at_mut m (accumulator q), (posit a, (posit b, tt))) tt (at_mut m (accumulator r), (posit a, (posit b, tt)))
Moved lent taken (a_pair a b) q r =
    (κs : Lfts 1) × (m : Place) × sub_product_lent.Post κs (at_mut m (accumulator q), (posit a, (posit b, tt))) tt (at_mut m (accumulator r), (posit a, (posit b, tt)))
Moved lent added (an_accumulator p) q r =
    (κs : Lfts 1) × (m : Place) × qAddQ_lent.Post κs (at_mut m (accumulator q), (accumulator p, tt)) tt (at_mut m (accumulator r), (accumulator p, tt))
Moved lent taken (an_accumulator p) q r =
    (κs : Lfts 1) × (m : Place) × qSubQ_lent.Post κs (at_mut m (accumulator q), (accumulator p, tt)) tt (at_mut m (accumulator r), (accumulator p, tt))
Moved for_c added (a_pattern p) q r = (κs : Lfts 1) × (m : Place) × c_add_posit.Post κs (at_mut m q, (p, tt)) tt (at_mut m r, (p, tt))
Moved for_c taken (a_pattern p) q r = (κs : Lfts 1) × (m : Place) × c_sub_posit.Post κs (at_mut m q, (p, tt)) tt (at_mut m r, (p, tt))
Moved for_c added (a_pair a b) q r = (κs : Lfts 1) × (m : Place) × c_add_product.Post κs (at_mut m q, (a, (b, tt))) tt (at_mut m r, (a, (b, tt)))
Moved for_c taken (a_pair a b) q r = (κs : Lfts 1) × (m : Place) × c_sub_product.Post κs (at_mut m q, (a, (b, tt))) tt (at_mut m r, (a, (b, tt)))
Moved for_c added (an_accumulator p) q r = (κs : Lfts 2) × (l m : Place) × c_add_other.Post κs (at_mut l q, (at m p, tt)) tt (at_mut l r, (at m p, tt))
Moved for_c taken (an_accumulator p) q r = (κs : Lfts 2) × (l m : Place) × c_sub_other.Post κs (at_mut l q, (at m p, tt)) tt (at_mut l r, (at m p, tt))

-- ---- the negative

abbrev pub Negated : Way → List ℕ → List ℕ → Type 0
Negated by_value q r = neg.Post tt (q, tt) r (q, tt)
Negated lent q r = (κs : Lfts 1) × (m : Place) × neg_lent.Post κs (at_mut m (accumulator q), tt) tt (at_mut m (accumulator r), tt)
Negated for_c q r = (κs : Lfts 1) × (m : Place) × c_neg.Post κs (at_mut m q, tt) tt (at_mut m r, tt)

-- ---- the size without its sign

abbrev pub SignDropped : Way → List ℕ → List ℕ → Type 0
SignDropped by_value q r = size.Post tt (q, tt) r (q, tt)
SignDropped lent q r = (κs : Lfts 1) × (m : Place) × qAbs_lent.Post κs (at_mut m (accumulator q), tt) tt (at_mut m (accumulator r), tt)
SignDropped for_c q r = (κs : Lfts 1) × (m : Place) × c_size.Post κs (at_mut m q, tt) tt (at_mut m r, tt)

-- ---- the questions whether the words q are those of zero, and of NaR: the answer is b

abbrev pub SaysZero : Way → List ℕ → Bool → Type 0
SaysZero by_value q b = is_zero.Post tt (q, tt) b (q, tt)
SaysZero lent q b = (κs : Lfts 1) × (m : Place) × is_zero_lent.Post κs (at m (accumulator q), tt) b (at m (accumulator q), tt)
SaysZero for_c q b = (κs : Lfts 1) × (m : Place) × c_is_zero.Post κs (at m q, tt) b (at m q, tt)

abbrev pub SaysNar : Way → List ℕ → Bool → Type 0
SaysNar by_value q b = is_nar.Post tt (q, tt) b (q, tt)
SaysNar lent q b = (κs : Lfts 1) × (m : Place) × is_nar_lent.Post κs (at m (accumulator q), tt) b (at m (accumulator q), tt)
SaysNar for_c q b = (κs : Lfts 1) × (m : Place) × c_is_nar.Post κs (at m q, tt) b (at m q, tt)
