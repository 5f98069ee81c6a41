-- What an entry hands on to a core that has n lifetimes: a value, or a reference at one of those lifetimes. It has one machine value, and what it owns goes to the core.
--     Arg n, row_at     such a type, and its row in a signature that has some lifetimes before the core's.        value, slice, slice_mut      a type by value, and `&[T]` and `&mut [T]` at the core's lifetime j
--     Handing      how the entry's code hands it on: as it is, or, as a `&mut [T]`, lent again
use Prim.Native.Nat.{ℕ, ◌+◌}
use mathlib.Core.Path.{◌≡◌, refl}
use mathlib.Core.Bool.{Bool, true}
use mathlib.Core.List.{List, [], ◌∷◌}
use lib.ListN.{length}
use seplogic.Ra.Ura.{Ura}
use mir.Syntax.{Lifetime, named, erased, imm, mut, Ty, ty_ref, Written, wrote}
use mir.Val.{Val}
use base.Stored.{Coded, coded_list}
use base.Fml.{Fml, Lft}
use types.Logic.{Logic}
use contract.Lifetimes.{Lfts, Within, lft_at}
use denote.RattleType.{RattleType}
use denote.Shadow.{shadow}
use denote.Laws.{Typed}
use denote.Memory.{pointee}
use denote.Ref.{Bor, MutBor, shr_coded, mut_coded}
use denote.Slice.{slice_ty, slice_val, ShrSlice, MutSlice, shr_slice_Tells, shr_slice_Lawful, mut_slice_Tells, mut_slice_Lawful}
use denote.Exit.{Exit, Seen, unchanged}
use Rattle.lend.proofs.Solid.{Solid, row_of}

-- ρ is the element's type as it is written, and σ spelled out
pub data Handing {D : Type 0} (ty : Lifetime → Ty) (val : D → Val) : Type 0 where
  as_it_is : Handing ty val
  lent_again : (ρ σ : Ty) (at : D → ℕ × ℕ) (count : D → ℕ) → ((ℓ : Lifetime) → ty ℓ ≡ slice_ty (ty_ref ℓ mut ρ)) → ((d : D) → val d ≡ slice_val (at d) (count d)) → Handing ty val

-- `lifetime s` is MIR's name for its lifetime where s lifetimes stand before the core's, and `exit` is asked whether that lifetime is kept. Where it is, `seen` is how the argument is seen at exit, whatever the lifetimes are: what is said of it there may name them
pub record Arg (n : ℕ) : Type 2 where
  pub D : Type 0
  pub lifetime : ℕ → Lifetime
  pub ty : Lifetime → Ty
  pub written : Lifetime → Written
  pub reaches : List (Written × List Ty)
  pub lives : Lfts n → Lft
  pub own : Lfts n → D → List Val → Fml
  pub exit : Lfts n → Bool → Exit D
  pub seen : Type 0
  pub see : (κs : Lfts n) → Seen (exit κs true) → seen
  pub coded : Coded D
  pub shr_at : Lfts n → D → ℕ → ℕ → Lft → Fml
  pub val : D → Val
  pub tells : (κs : Lfts n) (d : D) (vs : List Val) → shadow (own κs d vs) → vs ≡ val d ∷ []
  pub typed : {M : Type 1} {𝓤 : Ura M} (𝓛 : Logic 𝓤) → (ℓ : Lifetime) (κs : Lfts n) (d : D) (vs : List Val) → shadow (own κs d vs) → Typed (ty ℓ ∷ []) vs
  pub handing : Handing ty val

module _ {n : ℕ} where
  abbrev pub row_at : Arg n → ℕ → Lfts n → RattleType
  row_at X s κs = record { Denot = X.D; mir = X.ty (X.lifetime s) ∷ []; written = X.written (X.lifetime s); reaches = X.reaches; lives = X.lives κs; own_val = X.own κs; exit = λ k. X.exit κs (k (X.lifetime s)); coded = X.coded; shr_at = X.shr_at κs }

  abbrev pub value : Solid → Arg n
  value S = record {
    D = S.D;
    lifetime = λ _. erased;
    ty = λ _. S.ty;
    written = λ _. S.written;
    reaches = S.reaches;
    lives = λ _. S.lives;
    own = λ _. S.own;
    exit = λ _ _. unchanged;
    seen = S.D;
    see = λ _ x. x;
    coded = S.coded;
    shr_at = λ _. S.shr_at;
    val = S.val;
    tells = λ _. S.tells;
    typed = λ 𝓛 _ _. S.typed 𝓛;
    handing = as_it_is;
  }

  abbrev pub slice : (j : ℕ) → Within n j → Solid → Arg n
  slice j ok S = record {
    D = Bor (List S.D);
    lifetime = λ s. named (s + j);
    ty = λ ℓ. slice_ty (ty_ref ℓ imm (pointee S.written));
    written = λ ℓ. wrote (slice_ty (ty_ref ℓ imm (pointee S.written)));
    reaches = (S.written, S.ty ∷ []) ∷ S.reaches;
    lives = λ κs. (ShrSlice erased (lft_at n j ok κs) (row_of S)).lives;
    own = λ κs. (ShrSlice erased (lft_at n j ok κs) (row_of S)).own_val;
    exit = λ _ _. unchanged;
    seen = Bor (List S.D);
    see = λ _ x. x;
    coded = shr_coded (coded_list S.coded);
    shr_at = λ κs. (ShrSlice erased (lft_at n j ok κs) (row_of S)).shr_at;
    val = λ x. slice_val x.ref_ptr (length x.now);
    tells = λ κs. shr_slice_Tells erased (lft_at n j ok κs) (row_of S);
    typed = λ 𝓛 ℓ κs. (shr_slice_Lawful 𝓛 ℓ (lft_at n j ok κs) (row_of S)).typed;
    handing = as_it_is;
  }

  abbrev pub slice_mut : (j : ℕ) → Within n j → Solid → Arg n
  slice_mut j ok S = record {
    D = MutBor (List S.D);
    lifetime = λ s. named (s + j);
    ty = λ ℓ. slice_ty (ty_ref ℓ mut (pointee S.written));
    written = λ ℓ. wrote (slice_ty (ty_ref ℓ mut (pointee S.written)));
    reaches = (S.written, S.ty ∷ []) ∷ S.reaches;
    lives = λ κs. (MutSlice erased (lft_at n j ok κs) (row_of S)).lives;
    own = λ κs. (MutSlice erased (lft_at n j ok κs) (row_of S)).own_val;
    exit = λ κs kept. (MutSlice erased (lft_at n j ok κs) (row_of S)).exit (λ _. kept);
    seen = MutBor (List S.D);
    see = λ _ x. x;
    coded = mut_coded (coded_list S.coded);
    shr_at = λ κs. (MutSlice erased (lft_at n j ok κs) (row_of S)).shr_at;
    val = λ x. slice_val x.ref_ptr (length x.now);
    tells = λ κs. mut_slice_Tells erased (lft_at n j ok κs) (row_of S);
    typed = λ 𝓛 ℓ κs. (mut_slice_Lawful 𝓛 ℓ (lft_at n j ok κs) (row_of S)).typed;
    handing = lent_again (pointee S.written) S.ty (λ x. x.ref_ptr) (λ x. length x.now) (λ ℓ. refl) (λ x. refl);
  }
