-- How the entry's code hands its arguments on: an argument as it is, and a `&mut [T]` lent again, its pointer in a local of its own and the slice made anew in another. The value is the same, so what the argument owns goes to the core all the same.
--     copies       the types of those locals.        lending, operands     the code that fills them, and the arguments as the call's operands
--     again        what lies in those locals then.        lends, load_all, dropped     the rules: they are filled, read, and given back
use mathlib.Core.Path.{◌≡◌, refl, sym, ap, subst}
use Prim.Native.Nat.{ℕ, zero, suc}
use mathlib.Core.List.{List, [], ◌∷◌}
use lib.Dec.{T}
use seplogic.Ra.Ura.{Ura}
use base.Fraction.{full_share}
use mir.Syntax.{Lifetime, erased, mut, Ty, ty_ref, place, deref, field, Opd as Operand, copy, Rv as RValue, addr_of, aggregate, Body, seq, assign}
use mir.Val.{Val, vptr, WT, has_ty}
use base.Logic.{SProp, ent, sep, id⊢, via, assoc∗, mono∗, mono_l, mono_r, snd∗}
use base.Fml.{Fml, ftrue, fsep, fat}
use prog.Memory.{field_of}
use prog.Wp.{Env, Calls, Loops}
use types.Logic.{Logic, sem}
use types.Kit.{Item, ‵, Post, runs, Step, step, ◌$◌, move, fsplit, fsplit3, fjoin}
use types.Run.{Rv, Opd, Opds, look, init, stop, hop, fld, load, and_then, no_more, addr, assigns}
use types.Part.{agg}
use contract.Lifetimes.{Lfts}
use denote.RattleType.{Denots, flat}
use denote.Steps.{nothing}
use Rattle.lend.proofs.Arg.{Arg, Handing, as_it_is, lent_again}
use Rattle.lend.proofs.Locals.{Blocks, rooms, Lie, lie_next, Held, first_held, swap_held, reads, local_in, local_at}
use Rattle.lend.proofs.Args.{own_seat, entry_seat, Values, rows, machines, Fit, values, put, tys, cells}
use Rattle.lend.proofs.Reading.{look_field}

-- ---- of one argument: its copies' locals stand before those of type τs. It is local k, and its first copy local t
module _ {D : Type 0} {ty : Lifetime → Ty} {val : D → Val} where
  abbrev pub copied : Handing ty val → List Ty → List Ty
  copied as_it_is τs = τs
  copied (lent_again ρ σ at count ty_is val_is) τs = ty_ref erased mut ρ ∷ ty erased ∷ τs

  abbrev pub others : (h : Handing ty val) (τs : List Ty) → Blocks (copied h τs) → Blocks τs
  others as_it_is τs ts = ts
  others (lent_again ρ σ at count ty_is val_is) τs ts = ts.1.1

  abbrev pub next : Handing ty val → ℕ → ℕ
  next as_it_is t = t
  next (lent_again ρ σ at count ty_is val_is) t = suc (suc t)

  abbrev pub copying : Handing ty val → ℕ → ℕ → (ℕ → Body) → Body
  copying as_it_is k t rest = rest t
  copying (lent_again ρ σ at count ty_is val_is) k t rest =
      seq (assign (place t []) (addr_of (place k (field 0 ∷ deref σ ∷ [])))) (seq (assign (place (suc t) []) (aggregate (copy (place t []) ∷ copy (place k (field 1 ∷ [])) ∷ []))) (rest (suc (suc t))))

  abbrev pub operand : Handing ty val → ℕ → ℕ → Operand
  operand as_it_is k t = copy (place k [])
  operand (lent_again ρ σ at count ty_is val_is) k t = copy (place (suc t) [])

  abbrev pub made : (h : Handing ty val) (τs : List Ty) → Blocks (copied h τs) → D → Fml
  made as_it_is τs ts d = ftrue
  made (lent_again ρ σ at count ty_is val_is) τs ts d = fsep (fat full_share (ty_ref erased mut ρ) ts.0 zero (vptr (at d).0 (at d).1)) (fat full_share (ty erased) ts.1.0 zero (val d))

  next_at : (E : List (Ty × ℕ)) (h : Handing ty val) (t : ℕ) (τs : List Ty) (ts : Blocks (copied h τs)) → Lie E t (copied h τs) ts → Lie E (next h t) τs (others h τs ts)
  next_at E as_it_is t τs ts l = l
  next_at E (lent_again ρ σ at count ty_is val_is) t τs ts l = lie_next E (suc t) (ty erased) τs ts.1 (lie_next E t (ty_ref erased mut ρ) (ty erased ∷ τs) ts l)

-- ---- of all
module _ {n : ℕ} where
  abbrev pub copies : List (Arg n) → List Ty
  copies [] = []
  copies (X ∷ Xs) = copied X.handing (copies Xs)

  abbrev pub lending : ℕ → ℕ → List (Arg n) → Body → Body
  lending k t [] rest = rest
  lending k t (X ∷ Xs) rest = copying X.handing k t (λ t'. lending (suc k) t' Xs rest)

  abbrev pub operands : ℕ → ℕ → List (Arg n) → List Operand
  operands k t [] = []
  operands k t (X ∷ Xs) = operand X.handing k t ∷ operands (suc k) (next X.handing t) Xs

  abbrev pub again : (Xs : List (Arg n)) → Blocks (copies Xs) → Values Xs → Fml
  again [] ts m = ftrue
  again (X ∷ Xs) ts m = fsep (made X.handing (copies Xs) ts m.0) (again Xs (others X.handing (copies Xs) ts) m.1)

module _ {M : Type 1} {𝓤 : Ura M} (𝓛 : Logic 𝓤) where
  open 𝓛 use {H}

  abbrev ⟦◌⟧ : Fml → SProp 𝓤
  ⟦ P ⟧ = sem 𝓛 P

  room_of : {D : Type 0} {ty : Lifetime → Ty} {val : D → Val} (h : Handing ty val) (τs : List Ty) (ts : Blocks (copied h τs)) (d : D) → ent 𝓤 (sep 𝓤 ⟦ made h τs ts d ⟧ ⟦ rooms τs (others h τs ts) ⟧) ⟦ rooms (copied h τs) ts ⟧
  room_of as_it_is τs ts d = snd∗ 𝓤 ⟦ ftrue ⟧ ⟦ rooms τs ts ⟧
  room_of {ty = ty} {val = val} (lent_again ρ σ at count ty_is val_is) τs ts d =
      let rest : SProp 𝓤 = ⟦ rooms τs ts.1.1 ⟧ in
      via 𝓤 _ (assoc∗ 𝓤 (H.at full_share (ty_ref erased mut ρ) ts.0 zero (vptr (at d).0 (at d).1)) (H.at full_share (ty erased) ts.1.0 zero (val d)) rest)
      (mono∗ 𝓤 (𝓛.laws.at_room (ty_ref erased mut ρ) ts.0 zero (vptr (at d).0 (at d).1)) (mono_l 𝓤 rest (𝓛.laws.at_room (ty erased) ts.1.0 zero (val d))))

  pub dropped : {n : ℕ} (Xs : List (Arg n)) (ts : Blocks (copies Xs)) (m : Values Xs) → ent 𝓤 ⟦ again Xs ts m ⟧ ⟦ rooms (copies Xs) ts ⟧
  dropped [] ts m = id⊢ 𝓤 ⟦ ftrue ⟧
  dropped (X ∷ Xs) ts m = via 𝓤 _ (mono_r 𝓤 ⟦ made X.handing (copies Xs) ts m.0 ⟧ (dropped Xs (others X.handing (copies Xs) ts) m.1)) (room_of X.handing (copies Xs) ts m.0)

module _ {M : Type 1} {𝓤 : Ura M} {𝓛 : Logic 𝓤} {K : Type 0} {Γ : List (Item 𝓤)} {E : Env 𝓤 𝓛.H} where
  open 𝓛 use {H}

  valued : K → {rv : RValue} {v u : Val} → u ≡ v → Rv K 𝓛 Γ E rv v → Rv K 𝓛 Γ E rv u
  valued t {rv} e r = subst (Rv K 𝓛 Γ E rv) (sym e) r

  loads : K → {D : Type 0} {ty : Lifetime → Ty} {val : D → Val} (h : Handing ty val) (ℓ : Lifetime) (b : ℕ) (d : D) (k t : ℕ) (τs : List Ty) (ts : Blocks (copied h τs)) → Lie E k (ty ℓ ∷ []) (b, tt) → Lie E t (copied h τs) ts
      → Held 𝓛 Γ (H.at full_share (ty ℓ) b zero (val d)) → Held 𝓛 Γ (sem 𝓛 (made h τs ts d)) → Opd K 𝓛 Γ E (operand h k t) (val d)
  loads t as_it_is ℓ b d k l τs ts k_at l_at c m = load t (local_at t k_at.1) (reads 𝓛 K c)
  loads t {ty = ty} {val = val} (lent_again ρ σ at count ty_is val_is) ℓ b d k l τs ts k_at l_at c m =
      let pointer : SProp 𝓤 = H.at full_share (ty_ref erased mut ρ) ts.0 zero (vptr (at d).0 (at d).1) in
      let slice : SProp 𝓤 = H.at full_share (ty erased) ts.1.0 zero (val d) in
      load t (local_at t (lie_next E l (ty_ref erased mut ρ) (ty erased ∷ τs) ts l_at).1) (reads 𝓛 K (first_held 𝓛 slice pointer (swap_held 𝓛 pointer slice m)))

  pub load_all : K → {n : ℕ} (κs : Lfts n) (Xs : List (Arg n)) (bs : Blocks (tys Xs)) (ts : Blocks (copies Xs)) (m : Values Xs) (k t : ℕ) → Lie E k (tys Xs) bs → Lie E t (copies Xs) ts
      → Held 𝓛 Γ (sem 𝓛 (cells Xs bs m)) → Held 𝓛 Γ (sem 𝓛 (again Xs ts m)) → Opds K 𝓛 Γ E (operands k t Xs) (flat (rows own_seat κs Xs) (machines own_seat κs Xs (put own_seat κs Xs m)))
  load_all t κs [] bs ts m k l k_at l_at c a = no_more t
  load_all t κs (X ∷ Xs) bs ts m k l k_at l_at c a =
      let h : Handing X.ty X.val = X.handing in
      let τ : Ty = X.ty (X.lifetime 1) in
      let c₁ : SProp 𝓤 = H.at full_share τ bs.0 zero (X.val m.0) in
      let cs : SProp 𝓤 = sem 𝓛 (cells Xs bs.1 m.1) in
      let m₁ : SProp 𝓤 = sem 𝓛 (made h (copies Xs) ts m.0) in
      let ms : SProp 𝓤 = sem 𝓛 (again Xs (others h (copies Xs) ts) m.1) in
      and_then t (loads t h (X.lifetime 1) bs.0 m.0 k l (copies Xs) ts (_, k_at.1) l_at (first_held 𝓛 c₁ cs c) (first_held 𝓛 m₁ ms a))
      (load_all t κs Xs bs.1 (others h (copies Xs) ts) m.1 (suc k) (next h l) (lie_next E k τ (tys Xs) bs k_at) (next_at E h l (copies Xs) ts l_at)
      (first_held 𝓛 cs c₁ (swap_held 𝓛 c₁ cs c)) (first_held 𝓛 ms m₁ (swap_held 𝓛 m₁ ms a)))

module _ {M : Type 1} {𝓤 : Ura M} {𝓛 : Logic 𝓤} {K : Type 0} {E : Env 𝓤 𝓛.H} {C : Calls 𝓤 𝓛.H} {Λ : Loops 𝓤 𝓛.H} {q : Post 𝓤 𝓛.H} where
  makes : K → {D : Type 0} {ty : Lifetime → Ty} {val : D → Val} (h : Handing ty val) (ℓ : Lifetime) (b : ℕ) (d : D) → T (has_ty (ty erased) (val d)) × WT (val d) → (k t : ℕ) (τs : List Ty) (ts : Blocks (copied h τs)) → Lie E k (ty ℓ ∷ []) (b, tt) → Lie E t (copied h τs) ts
      → (rest : ℕ → Body) {Γ : List (Item 𝓤)}
      → Step K 𝓛 (‵ (fat full_share (ty ℓ) b zero (val d)) ∷ ‵ (rooms τs (others h τs ts)) ∷ ‵ (made h τs ts d) ∷ Γ) (runs C Λ E (rest (next h t)) q)
      (‵ (fat full_share (ty ℓ) b zero (val d)) ∷ ‵ (rooms (copied h τs) ts) ∷ Γ) (runs C Λ E (copying h k t rest) q)
  makes t as_it_is ℓ b d wt k l τs ts k_at l_at rest = step (λ s. nothing t $ move t (1 ∷ 2 ∷ []) $ s)
  makes t {ty = ty} (lent_again ρ σ at count ty_is val_is) ℓ b d wt k l τs ts k_at l_at rest = step (λ s. move t (1 ∷ []) $ fsplit3 t $ move t (3 ∷ []) $
      -- [the argument; room for the pointer; room for the slice; room for the others]
      assigns t (addr t (local_in t k_at.1 (fld t (ap (λ (τ : Ty). field_of τ 0) (ty_is ℓ)) (hop t (look_field t 0 refl (ty_is ℓ) (val_is d) 0 refl) (stop t))))) (local_at t l_at.1) (init t 1 refl (tt, tt)) $
      assigns t (valued t (val_is d) (agg t (and_then t (load t (local_at t l_at.1) (look t 1 refl)) (and_then t (load t (local_in t k_at.1 (fld t (ap (λ (τ : Ty). field_of τ 1) (ty_is ℓ)) (stop t))) (look_field t 0 refl (ty_is ℓ) (val_is d) 1 refl)) (no_more t)))))
      (local_at t (lie_next E l (ty_ref erased mut ρ) (ty erased ∷ τs) ts l_at).1) (init t 2 refl wt) $
      move t (1 ∷ 2 ∷ []) $ fjoin t $ move t (1 ∷ 2 ∷ []) $ s)

  pub lends : K → {n : ℕ} (κs : Lfts (suc n)) (Xs : List (Arg n)) (bs : Blocks (tys Xs)) (ts : Blocks (copies Xs)) (a : Denots (rows entry_seat κs Xs)) → Fit entry_seat κs Xs a → (k t : ℕ) → Lie E k (tys Xs) bs → Lie E t (copies Xs) ts → (rest : Body) {Γ : List (Item 𝓤)}
      → Step K 𝓛 (‵ (cells Xs bs (values entry_seat κs Xs a)) ∷ ‵ (again Xs ts (values entry_seat κs Xs a)) ∷ Γ) (runs C Λ E rest q) (‵ (cells Xs bs (values entry_seat κs Xs a)) ∷ ‵ (rooms (copies Xs) ts) ∷ Γ) (runs C Λ E (lending k t Xs rest) q)
  lends t κs [] bs ts a is k l k_at l_at rest = step (λ s. s)
  lends t κs (X ∷ Xs) bs ts a is k l k_at l_at rest = step (λ s. fsplit t $ move t (0 ∷ 2 ∷ []) $
      makes t X.handing (X.lifetime 1) bs.0 a.0 (X.typed 𝓛 erased κs.1 a.0 _ is.0).0 k l (copies Xs) ts (_, k_at.1) l_at (λ l'. lending (suc k) l' Xs rest) $ move t (3 ∷ 1 ∷ []) $
      lends t κs Xs bs.1 (others X.handing (copies Xs) ts) a.1 is.1 (suc k) (next X.handing l) (lie_next E k (X.ty (X.lifetime 1)) (tys Xs) bs k_at) (next_at E X.handing l (copies Xs) ts l_at) rest $
      -- [the other arguments; the other copies; the argument; its copies]
      move t (2 ∷ 0 ∷ []) $ fjoin t $ move t (2 ∷ 1 ∷ []) $ fjoin t $ move t (1 ∷ []) $ s)
