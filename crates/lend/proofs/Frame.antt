-- The frame of a thin entry: its locals are the result, what it is lent, the arguments and then some of its own. `enters` goes from the call to the body, with the arguments in their locals, and `leaves` from the `return` to the caller, with every local given back.
use mathlib.Core.Path.{refl}
use Prim.Native.Nat.{ℕ, zero, suc}
use mathlib.Core.List.{List, [], ◌∷◌, ◌++◌}
use lib.Dec.{T}
use seplogic.Ra.Ura.{Ura}
use base.Fraction.{full_share}
use mir.Syntax.{Ty, Fn, Body, return, local, value_local}
use mir.Val.{Val, WT, has_ty}
use base.Logic.{SProp}
use base.Fml.{Fml, fsep, fat, froom, fdies}
use prog.Wp.{Calls, Loops, WpFn}
use types.Logic.{Logic}
use types.Kit.{Item, ‵, prop, runs, at_ret, Seq, Step, step, ◌$◌, move, use1, fsplit, fsplit3, fjoin}
use types.Run.{look, init, forget, returns, enter, alloc1, alloc0, params1, pass1, free1, free0}
use contract.Lifetimes.{Lfts}
use denote.RattleType.{Denots, flat}
use Rattle.lend.proofs.Arg.{Arg}
use Rattle.lend.proofs.Locals.{Blocks, env, locals, rooms, deaths, past, Lie, drop_past, make, free}
use Rattle.lend.proofs.Args.{entry_seat, rows, machines, Fit, Values, values, tys, cells, emptied, fill}

pub record Frame (n : ℕ) : Type 2 where
  pub result : Ty
  pub lent : Ty
  pub args : List (Arg n)
  pub own : List Ty

module _ {n : ℕ} (Φ : Frame n) where
  abbrev pub fn_of : Body → Fn
  fn_of body = record { lifetimes = suc n; outlives = []; ty_params = []; givens = 0; params = past 1 (tys Φ.args); locals = local Φ.result value_local ∷ local Φ.lent value_local ∷ (locals (tys Φ.args) ++ (locals Φ.own ++ [])); body = body }

  -- the block of each local
  abbrev pub Laid : Type 0
  Laid = ℕ × ℕ × Blocks (tys Φ.args) × Blocks Φ.own

  module _ (ls : Laid) where
    abbrev pub at : List (Ty × ℕ)
    at = (Φ.result, ls.0) ∷ (Φ.lent, ls.1) ∷ (env (tys Φ.args) ls.2 ++ (env Φ.own ls.3 ++ []))

    abbrev pub dying : Fml
    dying = fsep (fdies Φ.result ls.0) (fsep (fdies Φ.lent ls.1) (fsep (deaths (tys Φ.args) ls.2) (deaths Φ.own ls.3)))

    abbrev pub args_at : Lie at 2 (tys Φ.args) ls.2
    args_at = (env Φ.own ls.3 ++ [], refl)

    pub own_at : Lie at (past 2 (tys Φ.args)) Φ.own ls.3
    own_at = ([], drop_past (tys Φ.args) ls.2 2 at (env Φ.own ls.3 ++ []) refl)

    -- what a walk owns of the frame: [what is lent; the arguments; the result's local, as i; its own locals; the ends]
    abbrev pub holding : {M : Type 1} {𝓤 : Ura M} → Val → Values Φ.args → Fml → List (Item 𝓤) → List (Item 𝓤)
    holding v m i Γ = ‵ (fat full_share Φ.lent ls.1 zero v) ∷ ‵ (cells Φ.args ls.2 m) ∷ ‵ i ∷ ‵ (rooms Φ.own ls.3) ∷ ‵ dying ∷ Γ

  module _ {M : Type 1} {𝓤 : Ura M} {𝓛 : Logic 𝓤} {K : Type 0} {Γ : List (Item 𝓤)} {C : Calls 𝓤 𝓛.H} {Λ : Loops 𝓤 𝓛.H} {Kf : Val → SProp 𝓤} where
    open 𝓛 use {H}

    pub enters : K → {body : Body} (v : Val) → T (has_ty Φ.lent v) × WT v → (κs : Lfts (suc n)) (a : Denots (rows entry_seat κs Φ.args)) → Fit entry_seat κs Φ.args a
        → ((ls : Laid) → Seq K 𝓛 (holding ls v (values entry_seat κs Φ.args a) (froom Φ.result ls.0 zero) Γ) (runs C Λ (at ls) body (at_ret (at ls) Kf)))
        → Seq K 𝓛 Γ (prop (WpFn 𝓤 H C Λ (fn_of body) (v ∷ flat (rows entry_seat κs Φ.args) (machines entry_seat κs Φ.args a)) Kf))
    enters t {body} v wt κs a is k =
        enter t C Λ (fn_of body) (v ∷ flat (rows entry_seat κs Φ.args) (machines entry_seat κs Φ.args a)) Kf $ alloc1 t (λ l. alloc1 t (λ p. make t (tys Φ.args) (λ bs. make t Φ.own (λ es. alloc0 t $ params1 t $
        -- [room for its own; their end; room for the arguments; their end; room for what is lent; its end; room for the result; its end]
        pass1 t (init t 4 refl wt) $ move t (2 ∷ []) $ fill t κs Φ.args bs a is (env Φ.own es ++ []) $
        move t (3 ∷ 2 ∷ []) $ fjoin t $ move t (4 ∷ 0 ∷ []) $ fjoin t $ move t (5 ∷ 0 ∷ []) $ fjoin t $ move t (3 ∷ 1 ∷ 4 ∷ 2 ∷ []) $ k (l, p, bs, es)))))

    pub leaves : K → (ls : Laid) (m : Values Φ.args) {v u : Val} → Step K 𝓛 Γ (prop (Kf u)) (holding ls v m (fat full_share Φ.result ls.0 zero u) Γ) (runs C Λ (at ls) return (at_ret (at ls) Kf))
    leaves t ls m = step (λ s. returns t (look t 2 refl) $ forget t 0 refl $ forget t 2 refl $ move t (1 ∷ []) $ use1 𝓛 (‵ (rooms (tys Φ.args) ls.2)) (emptied 𝓛 Φ.args ls.2 m) $
        move t (4 ∷ []) $ fsplit3 t $ move t (2 ∷ []) $ fsplit t $
        -- [the ends: of the arguments, its own, the result, what is lent; room: for the arguments, what is lent, the result, its own]
        move t (6 ∷ 2 ∷ 5 ∷ 3 ∷ 4 ∷ 0 ∷ 7 ∷ 1 ∷ []) $ free1 t $ free1 t $ free t (tys Φ.args) ls.2 $ free t Φ.own ls.3 $ free0 t $ s)
