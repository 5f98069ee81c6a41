-- A thin entry: a function that is lent something, takes arguments, and hands them on to a core. Its contract is one fact about what it is lent, the arguments, the result, and what was lent and the arguments as they are at exit.
--     Starts, ends     what a walk has to show of the entry's body in its frame, and how it ends at the `return`
--     Proved, proved       so the entry's own routine meets its contract.        Thin, thin       the same where it calls a core that meets its own
use mathlib.Core.Path.{◌≡◌}
use Prim.Native.Nat.{ℕ, zero, suc}
use mathlib.Core.List.{[], ◌∷◌, List}
use lib.Dec.{T as IsTrue}
use seplogic.Ra.Ura.{Ura}
use base.Fraction.{full_share}
use mir.Syntax.{Callee, Body, return}
use mir.Val.{Val, WT, has_ty}
use base.Logic.{SProp, ent, sep, emp}
use base.Fml.{ftrue, fat, froom, flft}
use prog.Wp.{Calls, Loops, WpFn, Closed}
use prog.Model.{Model}
use prog.Routine.{Routine, Env}
use types.Logic.{Logic}
use sound.WpLaws.{FmC, fm_of, WpFn-mono}
use contract.Monad.{Fun, fact}
use contract.Lifetimes.{Lfts, Shares, toks}
use contract.Running.{Running, tables, tables_of}
use types.Kit.{‵, raw, ◌⊛◌, prop, runs, at_ret, Sq, ◌$◌, ◌∵◌, !, qed, move, keep, split, join, fsplit, fjoin, suffices, frame, done}
use denote.RattleType.{RattleType, Denots, Valss, flat, owns}
use denote.Laws.{Is, Tells}
use denote.Signature.{Slot, plain}
use denote.Triple.Entry.{on_entry}
use denote.Triple.Spec.{Meets, triple_of}
use denote.Triple.Statement.{Triple}
use denote.Triple.Table.{entered, cited}
use denote.Triple.Clauses.{Ended, Clauses, closing}
use denote.Triple.Walked.{says, Stay, Stays, Goes, walk_of, Walks, ends_at, walked, walk_Meets}
use denote.Exit.{yes, Last, Seen, see}
use Rattle.lend.proofs.Solid.{Solid}
use Rattle.lend.proofs.Arg.{Arg}
use Rattle.lend.proofs.Args.{entry_seat, Values, Ends, slots, kepts, giving, rows, spells, telling, machines, Fit, Lasts, fitting, values, ends as ends_of, endings, had, going}
use Rattle.lend.proofs.Frame.{Frame, fn_of, Laid, at, holding, enters, leaves}
use Rattle.lend.proofs.Core.{core, core_says, Core, Said}

-- the frame, what is lent, which is one machine value, what is had of it at exit (`Denote/Triple/Walked.antt`), and the result's type
pub record Entry (n : ℕ) : Type 2 where
  pub frame : Frame n
  pub lent : Slot (suc n)
  pub val : (κs : Lfts (suc n)) → (lent.row κs).Denot → Val
  pub tells : (κs : Lfts (suc n)) → Tells (lent.row κs) (Is (lent.row κs)) (λ x. val κs x ∷ [])
  pub typed : (κs : Lfts (suc n)) (x : (lent.row κs).Denot) → IsTrue (has_ty frame.lent (val κs x)) × WT (val κs x)
  pub stay : Stay lent yes
  pub goes : {M : Type 1} {𝓤 : Ura M} (𝓛 : Logic 𝓤) → Goes 𝓛 (suc n) lent yes stay
  pub result : RattleType

module _ {n : ℕ} (T : Entry n) where
  abbrev Xs : List (Arg n)
  Xs = T.frame.args

  abbrev pub entry : Ended
  entry = record { signature = record { lifetimes = suc n; outlives = []; params = T.lent ∷ slots entry_seat Xs; result = plain (λ _. T.result) }; kept = (yes, kepts entry_seat Xs) }

  abbrev stayed : Stays entry.signature.params entry.kept
  stayed = (T.stay, giving entry_seat Xs)

  -- the contract's fact
  abbrev pub Fact : Type 1
  Fact = (κs : Lfts (suc n)) → (T.lent.row κs).Denot → Values Xs → T.result.Denot → Seen ((T.lent.row κs).exit yes) → Ends Xs → Type 0

  module _ {M : Type 1} (𝓤 : Ura M) (φ : Fact) where
    abbrev pub entry_says : Clauses 𝓤 entry
    entry_says = λ κs a. record { ghost = Unit {0}; requires = λ _. emp 𝓤; ensures = λ _ r e. fact 𝓤 (φ κs a.0 (values entry_seat κs Xs a.1) r e.0 (ends_of entry_seat κs Xs e.1)) }

    module _ (𝓛 : Logic 𝓤) (C : Calls 𝓤 𝓛.H) (Λ : Loops 𝓤 𝓛.H) (κs : Lfts (suc n)) (qs : Shares (suc n)) (x : (T.lent.row κs).Denot) (a : Denots (rows entry_seat κs Xs)) where
      open 𝓛 use {H}

      abbrev v : Val
      v = T.val κs x

      abbrev m : Values Xs
      m = values entry_seat κs Xs a

      abbrev vss : Valss (rows entry_seat κs Xs)
      vss = machines entry_seat κs Xs a

      abbrev pub Post : Val → SProp 𝓤
      Post = (walk_of 𝓛 entry stayed entry_says).post ((κs, qs, tt, (x, a), (v ∷ [], vss)), tt)

      abbrev pub Starts : Body → Type 1
      Starts code = (ls : Laid T.frame) → Sq 𝓛 (holding T.frame ls v m (froom T.frame.result ls.0 zero)
          (‵ (flft κs.0 qs.0) ∷ ‵ ((T.lent.row κs).own_val x (v ∷ [])) ∷ raw (toks 𝓛 n κs.1 qs.1) ∷ ‵ (owns (rows entry_seat κs Xs) a vss) ∷ [])) (runs C Λ (at T.frame ls) code (at_ret (at T.frame ls) Post))

      starts : (code : Body) → Fit entry_seat κs Xs a → Starts code
          → ent 𝓤 (sep 𝓤 (on_entry 𝓛 entry.signature κs qs (x, a) (v ∷ [], vss)) (emp 𝓤)) (WpFn 𝓤 H C Λ (fn_of T.frame code) (v ∷ flat (rows entry_seat κs Xs) vss) Post)
      starts code a_fit walk =
          qed 𝓛 (((‵ (flft κs.0 qs.0) ⊛ raw (toks 𝓛 n κs.1 qs.1)) ⊛ ‵ (owns (T.lent.row κs ∷ rows entry_seat κs Xs) (x, a) (v ∷ [], vss))) ∷ ‵ ftrue ∷ []) ∵
          split ! $ split ! $ move ! (2 ∷ []) $ fsplit ! $ keep ! (2 ∷ 0 ∷ 3 ∷ 1 ∷ []) $ enters T.frame ! v (T.typed κs x) κs a a_fit walk

      -- w is the last value of what is lent, ws those of the arguments, r the result, and u its machine value
      module _ (w : Last ((T.lent.row κs).exit yes) x) (fits : T.stay.fit κs x w) (ws : Lasts entry_seat κs Xs a) (r : T.result.Denot) (e : φ κs x m r (see ((T.lent.row κs).exit yes) x w) (endings entry_seat κs Xs a ws)) (u : Val) where
        exits : Sq 𝓛 (‵ (flft κs.0 qs.0) ∷ ‵ (T.stay.has κs x w (v ∷ [])) ∷ raw (toks 𝓛 n κs.1 qs.1) ∷ ‵ (had κs Xs a ws) ∷ ‵ (T.result.own_val r (u ∷ [])) ∷ []) (prop (Post u))
        exits =
            suffices ! _ (ends_at 𝓛 entry stayed entry_says ((κs, qs, tt, (x, a), (v ∷ [], vss)), tt) u r (w, ws) (fits, fitting entry_seat κs Xs a ws)) $
            says ! e $ move ! (0 ∷ 2 ∷ []) $ join ! $ frame ! $ move ! (0 ∷ 1 ∷ []) $ fjoin ! $ done !

        pub ends : (ls : Laid T.frame) → Sq 𝓛 (holding T.frame ls v m (fat full_share T.frame.result ls.0 zero u)
            (‵ (flft κs.0 qs.0) ∷ ‵ (T.stay.has κs x w (v ∷ [])) ∷ raw (toks 𝓛 n κs.1 qs.1) ∷ ‵ (had κs Xs a ws) ∷ ‵ (T.result.own_val r (u ∷ [])) ∷ [])) (runs C Λ (at T.frame ls) return (at_ret (at T.frame ls) Post))
        ends ls = leaves T.frame ! ls m $ exits

    -- the entry's routine, at the key k of the environment γ, meets the contract if its body is the code
    abbrev pub Proved : Body → (γ : Env) (k : Callee) (𝓛 : Logic 𝓤) (𝓜 : Model 𝓤 𝓛.H) → Running 𝓤 𝓛.H 𝓜 → Type 2
    Proved code γ k 𝓛 𝓜 𝓡 = Closed 𝓤 𝓛.H (tables 𝓤 𝓛.H 𝓜 𝓡 γ).C (tables 𝓤 𝓛.H 𝓜 𝓡 γ).Λ k (fn_of T.frame code) → Meets 𝓛 entry.signature (𝓡.run (γ k)) (closing 𝓛 entry entry_says)

    module _ (code : Body) (γ : Env) (k : Callee) (𝓛 : Logic 𝓤) (𝓜 : Model 𝓤 𝓛.H) (𝓡 : Running 𝓤 𝓛.H 𝓜) where
      open 𝓛 use {H}

      abbrev C : Calls 𝓤 H
      C = (tables 𝓤 H 𝓜 𝓡 γ).C

      abbrev Λ : Loops 𝓤 H
      Λ = (tables 𝓤 H 𝓜 𝓡 γ).Λ

      abbrev run : Fun 𝓤
      run = WpFn 𝓤 H C Λ (fn_of T.frame code)

      module _ (walk : (κs : Lfts (suc n)) (qs : Shares (suc n)) (x : (T.lent.row κs).Denot) (a : Denots (rows entry_seat κs Xs)) → Fit entry_seat κs Xs a → Starts 𝓛 C Λ κs qs x a code) where
        walks : Walks 𝓛 entry stayed run entry_says
        walks = walked 𝓛 entry stayed entry_says run (λ κs. ((λ x. T.val κs x ∷ []), spells entry_seat κs Xs)) (λ κs. (T.tells κs, telling entry_seat κs Xs))
            (λ κs qs bounds a _ are. starts 𝓛 C Λ κs qs a.0 a.1 code are.1 (walk κs qs a.0 a.1 are.1))

        pub proved : Proved code γ k 𝓛 𝓜 𝓡
        unfolding tables_of
        proved closed =
            entered 𝓤 H (triple_of 𝓛 entry.signature (closing 𝓛 entry entry_says)) C Λ k (fn_of T.frame code) closed
            (walk_Meets 𝓛 entry stayed (T.goes 𝓛, going 𝓛 Xs) entry_says run (WpFn-mono 𝓤 H 𝓛.laws (tables_of 𝓤 H 𝓜 (tables 𝓤 H 𝓜 𝓡 γ)) (fn_of T.frame code)) walks)

    module _ (Ys : List (Arg n)) (Z : Solid) (Ens : Said Ys Z) (code : Callee → Body) where
      -- the same where the core, whose key is f and whose routine is r, meets its contract
      abbrev pub Thin : Type 2
      Thin = (γ : Env) (k f : Callee) (r : Routine) → γ f ≡ r → (𝓛 : Logic 𝓤) (𝓜 : Model 𝓤 𝓛.H) (𝓡 : Running 𝓤 𝓛.H 𝓜)
          → Meets 𝓛 (core Ys Z).signature (𝓡.run r) (closing 𝓛 (core Ys Z) (core_says Ys Z 𝓤 Ens)) → Proved (code f) γ k 𝓛 𝓜 𝓡

      pub thin : ((𝓛 : Logic 𝓤) (C : Calls 𝓤 𝓛.H) (Λ : Loops 𝓤 𝓛.H) (κs : Lfts (suc n)) (qs : Shares (suc n)) (x : (T.lent.row κs).Denot) (a : Denots (rows entry_seat κs Xs))
          → FmC 𝓤 𝓛.H 𝓛.laws C → (f : Callee) → Triple 𝓤 (C f) (Core Ys Z 𝓤 Ens 𝓛) → Fit entry_seat κs Xs a → Starts 𝓛 C Λ κs qs x a (code f))
          → Thin
      unfolding tables_of
      thin walk γ k f r is 𝓛 𝓜 𝓡 core_meets =
          proved (code f) γ k 𝓛 𝓜 𝓡 (λ κs qs x a. walk 𝓛 (tables 𝓤 𝓛.H 𝓜 𝓡 γ).C (tables 𝓤 𝓛.H 𝓜 𝓡 γ).Λ κs qs x a
          (fm_of 𝓤 𝓛.H 𝓛.laws (tables_of 𝓤 𝓛.H 𝓜 (tables 𝓤 𝓛.H 𝓜 𝓡 γ))) f (cited 𝓤 𝓛.H (Core Ys Z 𝓤 Ens 𝓛) 𝓜 𝓡 γ f r is core_meets))
