-- The covered function that a thin entry calls, the core: its contract is one fact about what it is handed, what it returns, and what it was handed as that is at exit.
--     calls_core       the call.        Hands, hands     the call as an entry over a struct of one field makes it, with the field's value as the first argument or without
use mathlib.Core.Path.{refl, sym, ap, subst}
use Prim.Native.Nat.{ℕ, zero, suc}
use mathlib.Core.List.{List, [], ◌∷◌}
use seplogic.Ra.Ura.{Ura}
use base.Fraction.{full_share}
use mir.Syntax.{Callee, Ty, Place, place, deref, field, copy, rv_opd, Opd as Operand, Body, seq, assign, call}
use mir.Val.{Val, vptr}
use base.Logic.{ent, emp, id⊢, via, emp∗, snd∗, mono∗}
use base.Fml.{Share, fat}
use prog.Wp.{Env, Calls, Loops}
use types.Logic.{Logic, sem}
use sound.WpLaws.{FmC}
use contract.Monad.{fact}
use contract.Lifetimes.{Lfts, Shares, toks}
use types.Kit.{Item, ‵, raw, some, later, ◌⊛◌, ◌$◌, Post, runs, lands, Seq, move, use1, split, join, pick, fsplit, fjoin, await}
use types.Run.{Opds, look, init, forget, stop, hop, fld, from, load, and_then, of_opd, assigns}
use denote.RattleType.{Denots, flat, owns}
use denote.Laws.{Is, shows}
use denote.Signature.{plain}
use denote.Steps.{only, facts, heard, nothing}
use denote.Triple.Spec.{triple_of}
use denote.Triple.Statement.{Contract, Triple}
use denote.Triple.Call.{calls_at}
use denote.Triple.Clauses.{Ended, Clauses, closing}
use Rattle.lend.proofs.Solid.{Solid, row_of, vals, Fits, fitted}
use Rattle.lend.proofs.Arg.{Arg, value}
use Rattle.lend.proofs.Locals.{Blocks, rooms, Lie, lie_next, held_at, local_at}
use Rattle.lend.proofs.Args.{own_seat, entry_seat, Values, Ends, slots, kepts, rows, machines, Fit, Lasts, said, values, put, ends, endings, passed, over, had, passed_back, tys, cells, handed_over, given_up}
use Rattle.lend.proofs.Again.{copies, lending, operands, again, load_all, dropped, lends}
use Rattle.lend.proofs.Frame.{Frame, Laid, at as frame_at, args_at}
use Rattle.lend.proofs.Field.{Holds, cell, place_is}

module _ {n : ℕ} (Ys : List (Arg n)) (Z : Solid) where
  abbrev pub core : Ended
  core = record { signature = record { lifetimes = n; outlives = []; params = slots own_seat Ys; result = plain (λ _. row_of Z) }; kept = kepts own_seat Ys }

  abbrev pub Said : Type 1
  Said = Values Ys → Z.D → Ends Ys → Type 0

  module _ {M : Type 1} (𝓤 : Ura M) (Ens : Said) where
    abbrev pub core_says : Clauses 𝓤 core
    core_says = λ κs a. record { ghost = Unit {0}; requires = λ _. emp 𝓤; ensures = λ _ r e. fact 𝓤 (Ens (values own_seat κs Ys a) r (ends own_seat κs Ys e)) }

    module _ (𝓛 : Logic 𝓤) where
      abbrev pub Core : Contract 𝓤
      Core = triple_of 𝓛 core.signature (closing 𝓛 core core_says)

      abbrev pub at : (κs : Lfts n) → Shares n → Values Ys → Core.Ghost
      at κs qs m = ((κs, qs, tt, put own_seat κs Ys m, machines own_seat κs Ys (put own_seat κs Ys m)), tt)

module _ {M : Type 1} {𝓤 : Ura M} {𝓛 : Logic 𝓤} {K : Type 0} {Γ : List (Item 𝓤)} {C : Calls 𝓤 𝓛.H} {Λ : Loops 𝓤 𝓛.H} {f : Callee} {q : Post 𝓤 𝓛.H} {d : Place} {rest : Body} {n : ℕ} where
  -- [the lifetimes' tokens; what the arguments own] before, and [the tokens; what is said of the arguments] after
  open 𝓛 use {H}

  pub calls_core : K → FmC 𝓤 H 𝓛.laws C → (Ys : List (Arg n)) (Z : Solid) (Ens : Said Ys Z) → Triple 𝓤 (C f) (Core Ys Z 𝓤 Ens 𝓛) → (κs : Lfts n) (qs : Shares n) (m : Values Ys) → {E : Env 𝓤 H} {xs : List Operand}
      → Opds K 𝓛 (raw ((Core Ys Z 𝓤 Ens 𝓛).pre (at Ys Z 𝓤 Ens 𝓛 κs qs m)) ∷ Γ) E xs (flat (rows own_seat κs Ys) (machines own_seat κs Ys (put own_seat κs Ys m)))
      → ((r : Z.D) (ws : Lasts own_seat κs Ys (put own_seat κs Ys m)) → Ens (values own_seat κs Ys (put own_seat κs Ys m)) r (endings own_seat κs Ys (put own_seat κs Ys m) ws) → Fits Z r
      → Seq K 𝓛 (raw (toks 𝓛 n κs qs) ∷ ‵ (said own_seat κs Ys (put own_seat κs Ys m) ws) ∷ Γ) (lands C Λ E d (Z.val r) rest q))
      → Seq K 𝓛 (raw (toks 𝓛 n κs qs) ∷ ‵ (owns (rows own_seat κs Ys) (put own_seat κs Ys m) (machines own_seat κs Ys (put own_seat κs Ys m))) ∷ Γ) (runs C Λ E (seq (call f xs d) rest) q)
  calls_core t fm Ys Z Ens known κs qs m {E} os k =
      let a : Denots (rows own_seat κs Ys) = put own_seat κs Ys m in
      let Ensured : Z.D → Lasts own_seat κs Ys a → Type 0 = λ r ws. Ens (values own_seat κs Ys a) r (endings own_seat κs Ys a ws) in
      join t $ nothing t $ move t (1 ∷ 0 ∷ []) $ join t $ use1 𝓛 (raw ((Core Ys Z 𝓤 Ens 𝓛).pre (at Ys Z 𝓤 Ens 𝓛 κs qs m))) (id⊢ 𝓤 _) $
      calls_at t fm (Core Ys Z 𝓤 Ens 𝓛) known (at Ys Z 𝓤 Ens 𝓛 κs qs m) os (λ v.
      use1 𝓛 (later (some (λ (r : Z.D). (raw (toks 𝓛 n κs qs) ⊛ ‵ (Z.own r (v ∷ []))) ⊛ some (λ (ws : Lasts own_seat κs Ys a). ‵ (said own_seat κs Ys a ws) ⊛ raw (fact 𝓤 (Ensured r ws)))))) (id⊢ 𝓤 _) $
      await t tt $ pick t (λ r. split t $ split t $ move t (1 ∷ []) $ facts t (row_of Z) (Is (row_of Z)) (shows 𝓛 (row_of Z)) r (v ∷ []) (λ rel.
      move t (1 ∷ []) $ pick t (λ ws. split t $ move t (1 ∷ []) $ heard t (Ensured r ws) (λ e. move t (1 ∷ 0 ∷ []) $
      subst (λ (u : Val). Seq K 𝓛 (raw (toks 𝓛 n κs qs) ∷ ‵ (said own_seat κs Ys a ws) ∷ Γ) (lands C Λ E d u rest q)) (sym (ap only (Z.tells r (v ∷ []) rel)))
      (k r ws e (fitted Z r (v ∷ []) rel)))))))

-- what a thin entry hands its core: the field of the struct that it is lent and its own arguments, or those alone
pub data Hands : Type 0 where
  with_field without : Hands

-- the place `self.0`
abbrev pub self_0 : Solid → Place
self_0 S = place 1 (deref S.ty ∷ field 0 ∷ [])

module _ {n : ℕ} {S F : Solid} (O : Holds S F) (Xs : List (Arg n)) where
  abbrev pub Handed : Hands → List (Arg n)
  Handed with_field = value F ∷ Xs
  Handed without = Xs

  abbrev pub handed : (u : Hands) → F.D → Values Xs → Values (Handed u)
  handed with_field w m = (w, m)
  handed without w m = m

  abbrev pub handed_ends : (u : Hands) → F.D → Ends Xs → Ends (Handed u)
  handed_ends with_field w e = (w, e)
  handed_ends without w e = e

  -- the types of the locals that the field and the arguments are copied to. In the code that calls, k is the field's, and those of the arguments begin at l
  abbrev pub Copied : Hands → List Ty
  Copied with_field = F.ty ∷ copies Xs
  Copied without = copies Xs

  abbrev pub calling : Hands → ℕ → ℕ → Callee → Place → Body → Body
  calling with_field k l f d rest = seq (assign (place k []) (rv_opd (copy (self_0 S)))) (lending 2 l Xs (seq (call f (copy (place k []) ∷ operands 2 l Xs) d) rest))
  calling without k l f d rest = lending 2 l Xs (seq (call f (operands 2 l Xs) d) rest)

  -- they lie there
  abbrev pub Placed : (u : Hands) → List (Ty × ℕ) → ℕ → ℕ → Blocks (Copied u) → Type 0
  Placed with_field E k l cs = Lie E k (F.ty ∷ []) (cs.0, tt) × Lie E l (copies Xs) cs.1
  Placed without E k l cs = Lie E l (copies Xs) cs

  -- one after the other from k on, the arguments' begin at
  abbrev pub behind : Hands → ℕ → ℕ
  behind with_field k = suc k
  behind without k = k

  pub in_order : (u : Hands) (E : List (Ty × ℕ)) (k : ℕ) (cs : Blocks (Copied u)) → Lie E k (Copied u) cs → Placed u E k (behind u k) cs
  in_order with_field E k cs is = ((_, is.1), lie_next E k F.ty (copies Xs) cs is)
  in_order without E k cs is = is

  -- what the core has of its parameters, by what the entry has of its arguments
  module _ (κs : Lfts (suc n)) (a : Denots (rows entry_seat κs Xs)) where
    abbrev m : Values Xs
    m = values entry_seat κs Xs a

    module _ (u : Hands) (w : F.D) where
      abbrev params : Denots (rows own_seat κs.1 (Handed u))
      params = put own_seat κs.1 (Handed u) (handed u w m)

      abbrev operand_values : List Val
      operand_values = flat (rows own_seat κs.1 (Handed u)) (machines own_seat κs.1 (Handed u) params)

    abbrev among : (u : Hands) (w : F.D) → Lasts own_seat κs.1 (Handed u) (params u w) → Lasts own_seat κs.1 Xs (passed κs Xs a)
    among with_field w ws = ws.1
    among without w ws = ws

    learned : (u : Hands) (w : F.D) (φ : Values (Handed u) → Ends (Handed u) → Type 0) (ws : Lasts own_seat κs.1 (Handed u) (params u w)) → φ (values own_seat κs.1 (Handed u) (params u w)) (endings own_seat κs.1 (Handed u) (params u w) ws)
        → φ (handed u w m) (handed_ends u w (endings entry_seat κs Xs a (over κs Xs a (among u w ws))))
    learned with_field w φ ws e = passed_back κs Xs a ws.1 (λ m' e'. φ (w, m') (w, e')) e
    learned without w φ ws e = passed_back κs Xs a ws φ e

    module _ {M : Type 1} {𝓤 : Ura M} (𝓛 : Logic 𝓤) where
      asked : (u : Hands) (w : F.D) → Fits F w → ent 𝓤 (sem 𝓛 (owns (rows entry_seat κs Xs) a (machines entry_seat κs Xs a))) (sem 𝓛 (owns (rows own_seat κs.1 (Handed u)) (params u w) (machines own_seat κs.1 (Handed u) (params u w))))
      asked with_field w fits = via 𝓤 _ (emp∗ 𝓤 _) (mono∗ 𝓤 (F.makes 𝓛 w (vals F w) fits) (handed_over 𝓛 κs Xs a))
      asked without w fits = handed_over 𝓛 κs Xs a

      left_over : (u : Hands) (w : F.D) (ws : Lasts own_seat κs.1 (Handed u) (params u w)) → ent 𝓤 (sem 𝓛 (said own_seat κs.1 (Handed u) (params u w) ws)) (sem 𝓛 (had κs Xs a (over κs Xs a (among u w ws))))
      left_over with_field w ws = via 𝓤 _ (snd∗ 𝓤 (emp 𝓤) _) (given_up 𝓛 κs Xs a ws.1)
      left_over without w ws = given_up 𝓛 κs Xs a ws

  module _ {M : Type 1} {𝓤 : Ura M} {𝓛 : Logic 𝓤} {K : Type 0} {Γ : List (Item 𝓤)} {C : Calls 𝓤 𝓛.H} {Λ : Loops 𝓤 𝓛.H} {f : Callee} {p : Post 𝓤 𝓛.H} {d : Place} {rest : Body} {E : Env 𝓤 𝓛.H} {xs : List Operand} where
    -- the arguments are copied where they are lent again, and the core is called. Its operands xs are the arguments' or, by `front`, also the field's
    open 𝓛 use {H}

    passes_on : K → FmC 𝓤 H 𝓛.laws C → (u : Hands) (Z : Solid) (Ens : Said (Handed u) Z) → Triple 𝓤 (C f) (Core (Handed u) Z 𝓤 Ens 𝓛) → (w : F.D) → Fits F w → (κs : Lfts (suc n)) (qs : Shares n) (a : Denots (rows entry_seat κs Xs)) → Fit entry_seat κs Xs a
        → (bs : Blocks (tys Xs)) (ts : Blocks (copies Xs)) (l : ℕ) → Lie E 2 (tys Xs) bs → Lie E l (copies Xs) ts
        → (front : let Δ = raw ((Core (Handed u) Z 𝓤 Ens 𝓛).pre (at (Handed u) Z 𝓤 Ens 𝓛 κs.1 qs (handed u w (m κs a)))) ∷ ‵ (cells Xs bs (m κs a)) ∷ ‵ (again Xs ts (m κs a)) ∷ Γ in
        Opds K 𝓛 Δ E (operands 2 l Xs) (operand_values κs a without w) → Opds K 𝓛 Δ E xs (operand_values κs a u w))
        → ((z : Z.D) (ws : Lasts entry_seat κs Xs a) → Ens (handed u w (m κs a)) z (handed_ends u w (endings entry_seat κs Xs a ws)) → Fits Z z
        → Seq K 𝓛 (‵ (cells Xs bs (m κs a)) ∷ ‵ (rooms (copies Xs) ts) ∷ raw (toks 𝓛 n κs.1 qs) ∷ ‵ (had κs Xs a ws) ∷ Γ) (lands C Λ E d (Z.val z) rest p))
        → Seq K 𝓛 (‵ (cells Xs bs (m κs a)) ∷ ‵ (rooms (copies Xs) ts) ∷ raw (toks 𝓛 n κs.1 qs) ∷ ‵ (owns (rows entry_seat κs Xs) a (machines entry_seat κs Xs a)) ∷ Γ) (runs C Λ E (lending 2 l Xs (seq (call f xs d) rest)) p)
    passes_on t fm u Z Ens known w w_fits κs qs a a_fit bs ts l args_at l_at front next =
        lends t κs Xs bs ts a a_fit 2 l args_at l_at (seq (call f xs d) rest) $
        -- [the arguments; their copies; the tokens; what the arguments own]
        move t (3 ∷ []) $ use1 𝓛 (‵ (owns (rows own_seat κs.1 (Handed u)) (params κs a u w) (machines own_seat κs.1 (Handed u) (params κs a u w)))) (asked κs a 𝓛 u w w_fits) $ move t (3 ∷ 0 ∷ []) $
        calls_core t fm (Handed u) Z Ens known κs.1 qs (handed u w (m κs a)) (front (load_all t κs.1 Xs bs ts (m κs a) 2 l args_at l_at (held_at 𝓛 1 refl) (held_at 𝓛 2 refl))) (λ z ws e z_fits.
        -- [the tokens; what is said of the arguments; the arguments; their copies]
        move t (1 ∷ []) $ use1 𝓛 (‵ (had κs Xs a (over κs Xs a (among κs a u w ws)))) (left_over κs a 𝓛 u w ws) $ move t (3 ∷ []) $ use1 𝓛 (‵ (rooms (copies Xs) ts)) (dropped 𝓛 Xs ts (m κs a)) $ move t (3 ∷ 0 ∷ 2 ∷ 1 ∷ []) $
        next z (over κs Xs a (among κs a u w ws)) (learned κs a u w (λ m' e'. Ens m' z e') ws e) z_fits)

module _ {n : ℕ} {S F : Solid} (O : Holds S F) (Φ : Frame n) (ls : Laid Φ) {M : Type 1} {𝓤 : Ura M} {𝓛 : Logic 𝓤} {K : Type 0} {Γ : List (Item 𝓤)} {C : Calls 𝓤 𝓛.H} {Λ : Loops 𝓤 𝓛.H} {f : Callee} {p : Post 𝓤 𝓛.H} {d : Place} {rest : Body} {b o : ℕ} {q : Share} where
  -- [the reference; the arguments; the field; room for the copies; the tokens; what the arguments own] before, and what is had of the arguments in the place of the last after
  open 𝓛 use {H}

  pub hands : K → FmC 𝓤 H 𝓛.laws C → (u : Hands) (Z : Solid) (Ens : Said (Handed O Φ.args u) Z) → Triple 𝓤 (C f) (Core (Handed O Φ.args u) Z 𝓤 Ens 𝓛) → (w : F.D) → Fits F w
      → (κs : Lfts (suc n)) (qs : Shares n) (a : Denots (rows entry_seat κs Φ.args)) → Fit entry_seat κs Φ.args a → (k l : ℕ) (cs : Blocks (Copied O Φ.args u)) → Placed O Φ.args u (frame_at Φ ls) k l cs
      → ((z : Z.D) (ws : Lasts entry_seat κs Φ.args a) → Ens (handed O Φ.args u w (values entry_seat κs Φ.args a)) z (handed_ends O Φ.args u w (endings entry_seat κs Φ.args a ws)) → Fits Z z
      → Seq K 𝓛 (‵ (fat full_share Φ.lent ls.1 zero (vptr b o)) ∷ ‵ (cells Φ.args ls.2 (values entry_seat κs Φ.args a)) ∷ ‵ (cell F q b o w) ∷ ‵ (rooms (Copied O Φ.args u) cs)
      ∷ raw (toks 𝓛 n κs.1 qs) ∷ ‵ (had κs Φ.args a ws) ∷ Γ) (lands C Λ (frame_at Φ ls) d (Z.val z) rest p))
      → Seq K 𝓛 (‵ (fat full_share Φ.lent ls.1 zero (vptr b o)) ∷ ‵ (cells Φ.args ls.2 (values entry_seat κs Φ.args a)) ∷ ‵ (cell F q b o w) ∷ ‵ (rooms (Copied O Φ.args u) cs)
      ∷ raw (toks 𝓛 n κs.1 qs) ∷ ‵ (owns (rows entry_seat κs Φ.args) a (machines entry_seat κs Φ.args a)) ∷ Γ) (runs C Λ (frame_at Φ ls) (calling O Φ.args u k l f d rest) p)
  hands t fm with_field Z Ens known w w_fits κs qs a a_fit k l cs lie next =
      move t (3 ∷ []) $ fsplit t $
      -- [room for the field's copy; room for the others; the reference; the arguments; the field; the tokens; what the arguments own]
      assigns t (of_opd t (load t (from t (hop t (look t 2 refl) (fld t (place_is O) (stop t)))) (look t 4 refl))) (local_at t lie.0.1) (init t 0 refl (F.typed 𝓛 w _ w_fits).0) $ move t (3 ∷ 1 ∷ 5 ∷ 6 ∷ []) $
      passes_on O Φ.args t fm with_field Z Ens known w w_fits κs qs a a_fit ls.2 cs.1 l (args_at Φ ls) lie.1 (λ os. and_then t (load t (local_at t lie.0.1) (look t 3 refl)) os) (λ z ws e z_fits.
      -- [the arguments; room for their copies; the tokens; what is had of them; the field's copy; the reference; the field]
      forget t 4 refl $ move t (4 ∷ 1 ∷ []) $ fjoin t $ move t (4 ∷ 1 ∷ 5 ∷ 0 ∷ 2 ∷ 3 ∷ []) $ next z ws e z_fits)
  hands t fm without Z Ens known w w_fits κs qs a a_fit k l cs lie next =
      move t (1 ∷ 3 ∷ 4 ∷ 5 ∷ []) $ passes_on O Φ.args t fm without Z Ens known w w_fits κs qs a a_fit ls.2 cs l (args_at Φ ls) lie (λ os. os) (λ z ws e z_fits. move t (4 ∷ 0 ∷ 5 ∷ 1 ∷ 2 ∷ 3 ∷ []) $ next z ws e z_fits)
