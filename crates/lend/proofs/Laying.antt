-- Where the locals of an entry that stores lie, behind its arguments: the one that the core returns to, and those that the field and the arguments are copied to. There are two ways, and the entry's body tells which.
--     result_first     self.0 = core(self.0, ..);        field_first      let w = self.0; self.0 = core(w, ..);        laid     the one that a body begins with
use Prim.Native.Nat.{ℕ, zero, suc}
use mathlib.Core.Bool.{cond}
use mathlib.Core.List.{[], ◌∷◌, List}
use lib.Dec.{eqb}
use seplogic.Ra.Ura.{Ura}
use mir.Syntax.{Ty, Place, place, Body, skip, seq, assign, block, loop, cond as if, switch, exit, return, call, unreachable, call_v, lend_static}
use base.Logic.{SProp, ent, id⊢, via, comm∗, assoc∗, assoc', mono_l}
use base.Fml.{Fml, fsep, froom}
use types.Logic.{Logic, sem}
use Rattle.lend.proofs.Solid.{Solid}
use Rattle.lend.proofs.Arg.{Arg}
use Rattle.lend.proofs.Locals.{Blocks, rooms, past, Lie, lie_next}
use Rattle.lend.proofs.Args.{tys}
use Rattle.lend.proofs.Again.{copies}
use Rattle.lend.proofs.Field.{Holds}
use Rattle.lend.proofs.Core.{Hands, with_field, without, Copied, Placed, behind, in_order}

-- of three things, the second before the first
pub swaps : {M : Type 1} {𝓤 : Ura M} (𝓛 : Logic 𝓤) (P Q R : Fml) → ent 𝓤 (sem 𝓛 (fsep P (fsep Q R))) (sem 𝓛 (fsep Q (fsep P R)))
swaps {𝓤 = 𝓤} 𝓛 P Q R =
    let p : SProp 𝓤 = sem 𝓛 P in
    let q : SProp 𝓤 = sem 𝓛 Q in
    let r : SProp 𝓤 = sem 𝓛 R in
    via 𝓤 _ (assoc' 𝓤 p q r) (via 𝓤 _ (mono_l 𝓤 r (comm∗ 𝓤 p q)) (assoc∗ 𝓤 q p r))

-- the types of these locals, the number of the one that the core returns to, which is of type τ, of the field's, and of the arguments' first; their blocks; that they lie there; and that room for all is room for the result and room for the copies
pub record Laying {n : ℕ} {S F : Solid} (O : Holds S F) (Xs : List (Arg n)) (u : Hands) (τ : Ty) : Type 2 where
  pub own : List Ty
  pub at_result : ℕ
  pub at_field : ℕ
  pub at_args : ℕ
  pub back : Blocks own → ℕ
  pub copied : Blocks own → Blocks (Copied O Xs u)
  pub lie : (E : List (Ty × ℕ)) (bs : Blocks own) → Lie E (past 2 (tys Xs)) own bs → Lie E at_result (τ ∷ []) (back bs, tt) × Placed O Xs u E at_field at_args (copied bs)
  pub apart : {M : Type 1} {𝓤 : Ura M} (𝓛 : Logic 𝓤) (bs : Blocks own) → ent 𝓤 (sem 𝓛 (rooms own bs)) (sem 𝓛 (fsep (froom τ (back bs) zero) (rooms (Copied O Xs u) (copied bs))))
  pub joined : {M : Type 1} {𝓤 : Ura M} (𝓛 : Logic 𝓤) (bs : Blocks own) → ent 𝓤 (sem 𝓛 (fsep (froom τ (back bs) zero) (rooms (Copied O Xs u) (copied bs)))) (sem 𝓛 (rooms own bs))

-- the number of the local that a body begins by writing to, and 0 where it begins otherwise
abbrev pub number : Place → ℕ
number (place k steps) = k

abbrev pub first_local : Body → ℕ
first_local skip = 0
first_local (seq b c) = first_local b
first_local (assign p v) = number p
first_local (block b) = 0
first_local (loop b) = 0
first_local (if x b c) = 0
first_local (switch x arms) = 0
first_local (exit k) = 0
first_local return = 0
first_local (call f xs p) = 0
first_local unreachable = 0
first_local (call_v x sig xs p) = 0
first_local (lend_static p τ c) = 0

module _ {n : ℕ} {S F : Solid} (O : Holds S F) (Xs : List (Arg n)) where
  -- the result's comes first: self.0 = core(self.0, ..);
  abbrev pub result_first : (u : Hands) (τ : Ty) → Laying O Xs u τ
  result_first u τ = record {
    own = τ ∷ Copied O Xs u;
    at_result = past 2 (tys Xs);
    at_field = suc (past 2 (tys Xs));
    at_args = behind O Xs u (suc (past 2 (tys Xs)));
    back = λ bs. bs.0;
    copied = λ bs. bs.1;
    lie = λ E bs is. ((_, is.1), in_order O Xs u E (suc (past 2 (tys Xs))) bs.1 (lie_next E (past 2 (tys Xs)) τ (Copied O Xs u) bs is));
    apart = λ {𝓤 = 𝓤} 𝓛 bs. id⊢ 𝓤 _;
    joined = λ {𝓤 = 𝓤} 𝓛 bs. id⊢ 𝓤 _;
  }

  -- the field's comes first: let w = self.0; self.0 = core(w, ..);
  abbrev pub field_first : (τ : Ty) → Laying O Xs with_field τ
  field_first τ = record {
    own = F.ty ∷ τ ∷ copies Xs;
    at_result = suc (past 2 (tys Xs));
    at_field = past 2 (tys Xs);
    at_args = suc (suc (past 2 (tys Xs)));
    back = λ bs. bs.1.0;
    copied = λ bs. (bs.0, bs.1.1);
    lie = λ E bs is.
        let next : Lie E (suc (past 2 (tys Xs))) (τ ∷ copies Xs) bs.1 = lie_next E (past 2 (tys Xs)) F.ty (τ ∷ copies Xs) bs is in
        ((_, next.1), ((_, is.1), lie_next E (suc (past 2 (tys Xs))) τ (copies Xs) bs.1 next));
    apart = λ 𝓛 bs. swaps 𝓛 (froom F.ty bs.0 zero) (froom τ bs.1.0 zero) (rooms (copies Xs) bs.1.1);
    joined = λ 𝓛 bs. swaps 𝓛 (froom τ bs.1.0 zero) (froom F.ty bs.0 zero) (rooms (copies Xs) bs.1.1);
  }

  -- the one of the two that the body begins with
  abbrev pub laid : (u : Hands) (τ : Ty) → Body → Laying O Xs u τ
  laid with_field τ code = cond (eqb (first_local code) (past 2 (tys Xs))) (field_first τ) (result_first with_field τ)
  laid without τ code = result_first without τ
