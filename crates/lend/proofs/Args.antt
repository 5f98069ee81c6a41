-- What an entry hands on, as one list, each lemma by induction on it: the slots in the entry's signature and in the core's, the way of the arguments from the one to the other and back, and their locals.
--     Seat     where the core's lifetimes stand in a signature: `own_seat` in the core's own, `entry_seat` in the entry's, after that of what is lent
--     slots, kepts, giving, spells, telling, fitting, going        what a signature and a walk (`Denote/Triple/Walked.antt`) ask of each parameter
--     Values, Ends, values, put, ends      the arguments on entry and at exit with no seat in sight, and from and to the parameters at a seat
--     handed_over, over, given_up, passed_back        what the entry owns of its arguments is what the core asks, and what the core says of them at exit is what the entry has to say
--     tys, cells, fill, emptied        the arguments' locals, which are filled from what is passed, and given back
use mathlib.Core.Path.{◌≡◌, refl, subst}
use mathlib.Core.Bool.{true}
use Prim.Native.Nat.{ℕ, zero, suc}
use mathlib.Core.List.{List, [], ◌∷◌, ◌++◌}
use seplogic.Ra.Ura.{Ura}
use base.Fraction.{full_share}
use mir.Syntax.{Ty}
use base.Logic.{SProp, ent, emp, id⊢, mono∗, mono_r}
use base.Fml.{Fml, ftrue, fsep, fat}
use prog.Wp.{Env}
use types.Logic.{Logic, sem}
use types.Kit.{Item, ‵, Goal, passes, Step, step, ◌$◌, move, fsplit, fjoin}
use types.Run.{init, pass1, pass0}
use contract.Lifetimes.{Lfts}
use denote.RattleType.{RattleType, Denots, Valss, flat, owns}
use denote.Laws.{Are, Ises, Spells, valss, Tellss}
use denote.Signature.{Slot, plain, types_at}
use denote.Triple.End.{Kepts, Fins, Outs, outs, lasts_of, all}
use denote.Triple.Walked.{Stays, fits_of, has_of, AllGo}
use denote.Exit.{yes, left}
use Rattle.lend.proofs.Arg.{Arg, row_at}
use Rattle.lend.proofs.Locals.{Blocks, env, rooms}

pub record Seat (n : ℕ) : Type 0 where
  pub count : ℕ
  pub before : ℕ
  pub to : Lfts count → Lfts n

module _ {n : ℕ} where
  abbrev pub own_seat : Seat n
  own_seat = record { count = n; before = 0; to = λ κs. κs }

  abbrev pub entry_seat : Seat n
  entry_seat = record { count = suc n; before = 1; to = λ κs. κs.1 }

  -- ---- with no seat in sight
  abbrev pub Values : List (Arg n) → Type 0
  Values [] = Unit {0}
  Values (X ∷ Xs) = X.D × Values Xs

  abbrev pub Ends : List (Arg n) → Type 0
  Ends [] = Unit {0}
  Ends (X ∷ Xs) = X.seen × Ends Xs

  -- ---- in a signature
  module _ (P : Seat n) where
    abbrev pub slots : List (Arg n) → List (Slot P.count)
    slots [] = []
    slots (X ∷ Xs) = plain (λ κs. row_at X P.before (P.to κs)) ∷ slots Xs

    abbrev pub kepts : (Xs : List (Arg n)) → Kepts (slots Xs)
    kepts Xs = all yes (slots Xs)

    -- all that is had of an argument at exit is what the core says of it
    abbrev pub giving : (Xs : List (Arg n)) → Stays (slots Xs) (kepts Xs)
    giving [] = tt
    giving (X ∷ Xs) = (record { fit = λ κs x w. Unit {0}; has = λ κs x w vs. left (X.exit (P.to κs) true) x w }, giving Xs)

    module _ (κs : Lfts P.count) where
      abbrev pub rows : List (Arg n) → List RattleType
      rows Xs = types_at {n = P.count} (slots Xs) κs

      abbrev pub spells : (Xs : List (Arg n)) → Spells (rows Xs)
      spells [] = tt
      spells (X ∷ Xs) = ((λ d. X.val d ∷ []), spells Xs)

      pub telling : (Xs : List (Arg n)) → Tellss (rows Xs) (Ises (rows Xs)) (spells Xs)
      telling [] = tt
      telling (X ∷ Xs) = (X.tells (P.to κs), telling Xs)

      abbrev pub machines : (Xs : List (Arg n)) → Denots (rows Xs) → Valss (rows Xs)
      machines Xs = valss (rows Xs) (spells Xs)

      -- each argument's machine value is one of its type
      abbrev pub Fit : (Xs : List (Arg n)) → Denots (rows Xs) → Type 0
      Fit Xs a = Are (rows Xs) (Ises (rows Xs)) a (machines Xs a)

      abbrev pub Lasts : (Xs : List (Arg n)) → Denots (rows Xs) → Type 0
      Lasts Xs = Fins {n = P.count} κs (slots Xs) (kepts Xs)

      pub fitting : (Xs : List (Arg n)) (a : Denots (rows Xs)) (ws : Lasts Xs a) → fits_of {n = P.count} κs (slots Xs) (kepts Xs) (giving Xs) a ws
      fitting [] a ws = tt
      fitting (X ∷ Xs) a ws = (tt, fitting Xs a.1 ws.1)

      abbrev pub said : (Xs : List (Arg n)) (a : Denots (rows Xs)) → Lasts Xs a → Fml
      said Xs = lasts_of {n = P.count} κs (slots Xs) (kepts Xs)

      abbrev pub values : (Xs : List (Arg n)) → Denots (rows Xs) → Values Xs
      values [] a = tt
      values (X ∷ Xs) a = (a.0, values Xs a.1)

      abbrev pub put : (Xs : List (Arg n)) → Values Xs → Denots (rows Xs)
      put [] m = tt
      put (X ∷ Xs) m = (m.0, put Xs m.1)

      values_put : (Xs : List (Arg n)) (m : Values Xs) → values Xs (put Xs m) ≡ m
      values_put [] m = refl
      values_put (X ∷ Xs) m = λ i. (m.0, values_put Xs m.1 i)

      abbrev pub ends : (Xs : List (Arg n)) → Outs {n = P.count} κs (slots Xs) (kepts Xs) → Ends Xs
      ends [] e = tt
      ends (X ∷ Xs) e = (X.see (P.to κs) e.0, ends Xs e.1)

      abbrev pub endings : (Xs : List (Arg n)) (a : Denots (rows Xs)) → Lasts Xs a → Ends Xs
      endings Xs a ws = ends Xs (outs {n = P.count} κs (slots Xs) (kepts Xs) a ws)

  -- ---- from the entry to the core
  module _ (κs : Lfts (suc n)) where
    -- the entry's arguments as the core has them
    abbrev pub passed : (Xs : List (Arg n)) → Denots (rows entry_seat κs Xs) → Denots (rows own_seat κs.1 Xs)
    passed Xs a = put own_seat κs.1 Xs (values entry_seat κs Xs a)

    abbrev pub over : (Xs : List (Arg n)) (a : Denots (rows entry_seat κs Xs)) → Lasts own_seat κs.1 Xs (passed Xs a) → Lasts entry_seat κs Xs a
    over [] a ws = tt
    over (X ∷ Xs) a ws = (ws.0, over Xs a.1 ws.1)

    -- what is had of the arguments at exit
    abbrev pub had : (Xs : List (Arg n)) (a : Denots (rows entry_seat κs Xs)) → Lasts entry_seat κs Xs a → Fml
    had Xs a ws = has_of {n = suc n} κs (slots entry_seat Xs) (kepts entry_seat Xs) (giving entry_seat Xs) a ws (machines entry_seat κs Xs a)

    same_ends : (Xs : List (Arg n)) (a : Denots (rows entry_seat κs Xs)) (ws : Lasts own_seat κs.1 Xs (passed Xs a)) → endings own_seat κs.1 Xs (passed Xs a) ws ≡ endings entry_seat κs Xs a (over Xs a ws)
    same_ends [] a ws = refl
    same_ends (X ∷ Xs) a ws = λ i. ((endings entry_seat κs (X ∷ Xs) a (over (X ∷ Xs) a ws)).0, same_ends Xs a.1 ws.1 i)

    -- a fact that the core says is one about the entry's arguments
    pub passed_back : (Xs : List (Arg n)) (a : Denots (rows entry_seat κs Xs)) (ws : Lasts own_seat κs.1 Xs (passed Xs a)) (φ : Values Xs → Ends Xs → Type 0)
        → φ (values own_seat κs.1 Xs (passed Xs a)) (endings own_seat κs.1 Xs (passed Xs a) ws) → φ (values entry_seat κs Xs a) (endings entry_seat κs Xs a (over Xs a ws))
    passed_back Xs a ws φ e = subst (φ (values entry_seat κs Xs a)) (same_ends Xs a ws) (subst (λ (m : Values Xs). φ m (endings own_seat κs.1 Xs (passed Xs a) ws)) (values_put own_seat κs.1 Xs (values entry_seat κs Xs a)) e)

  -- ---- the entry's locals
  abbrev pub tys : List (Arg n) → List Ty
  tys [] = []
  tys (X ∷ Xs) = X.ty (X.lifetime 1) ∷ tys Xs

  abbrev pub cells : (Xs : List (Arg n)) → Blocks (tys Xs) → Values Xs → Fml
  cells [] bs m = ftrue
  cells (X ∷ Xs) bs m = fsep (fat full_share (X.ty (X.lifetime 1)) bs.0 zero (X.val m.0)) (cells Xs bs.1 m.1)

module _ {M : Type 1} {𝓤 : Ura M} (𝓛 : Logic 𝓤) where
  abbrev ◌⊢◌ : SProp 𝓤 → SProp 𝓤 → Type 1
  P ⊢ Q = ent 𝓤 P Q

  abbrev ⟦◌⟧ : Fml → SProp 𝓤
  ⟦ P ⟧ = sem 𝓛 P

  infix 26 ◌⊢◌
  module _ {n : ℕ} where
    pub handed_over : (κs : Lfts (suc n)) (Xs : List (Arg n)) (a : Denots (rows entry_seat κs Xs))
        → ⟦ owns (rows entry_seat κs Xs) a (machines entry_seat κs Xs a) ⟧ ⊢ ⟦ owns (rows own_seat κs.1 Xs) (passed κs Xs a) (machines own_seat κs.1 Xs (passed κs Xs a)) ⟧
    handed_over κs [] a = id⊢ 𝓤 (emp 𝓤)
    handed_over κs (X ∷ Xs) a = mono_r 𝓤 ⟦ X.own κs.1 a.0 (X.val a.0 ∷ []) ⟧ (handed_over κs Xs a.1)

    pub given_up : (κs : Lfts (suc n)) (Xs : List (Arg n)) (a : Denots (rows entry_seat κs Xs)) (ws : Lasts own_seat κs.1 Xs (passed κs Xs a)) → ⟦ said own_seat κs.1 Xs (passed κs Xs a) ws ⟧ ⊢ ⟦ had κs Xs a (over κs Xs a ws) ⟧
    given_up κs [] a ws = id⊢ 𝓤 (emp 𝓤)
    given_up κs (X ∷ Xs) a ws = mono_r 𝓤 ⟦ left (X.exit κs.1 true) a.0 ws.0 ⟧ (given_up κs Xs a.1 ws.1)

    pub going : (Xs : List (Arg n)) → AllGo 𝓛 (suc n) (slots entry_seat Xs) (kepts entry_seat Xs) (giving entry_seat Xs)
    going [] = tt
    going (X ∷ Xs) = ((λ κs x w vs _. 𝓛.laws.⇛_intro ⟦ left (X.exit κs.1 true) x w ⟧), going Xs)

    -- a cell is room, whatever it holds
    pub emptied : (Xs : List (Arg n)) (bs : Blocks (tys Xs)) (m : Values Xs) → ⟦ cells Xs bs m ⟧ ⊢ ⟦ rooms (tys Xs) bs ⟧
    emptied [] bs m = id⊢ 𝓤 (emp 𝓤)
    emptied (X ∷ Xs) bs m = mono∗ 𝓤 (𝓛.laws.at_room (X.ty (X.lifetime 1)) bs.0 zero (X.val m.0)) (emptied Xs bs.1 m.1)

module _ {M : Type 1} {𝓤 : Ura M} {𝓛 : Logic 𝓤} {K : Type 0} {n : ℕ} where
  open 𝓛 use {H}

  pub fill : K → (κs : Lfts (suc n)) (Xs : List (Arg n)) (bs : Blocks (tys Xs)) (a : Denots (rows entry_seat κs Xs)) → Fit entry_seat κs Xs a → (E : Env 𝓤 H) {Γ : List (Item 𝓤)} {g : Goal 𝓤 H}
      → Step K 𝓛 (‵ (cells Xs bs (values entry_seat κs Xs a)) ∷ Γ) g (‵ (rooms (tys Xs) bs) ∷ Γ) (passes (env (tys Xs) bs ++ E) (flat (rows entry_seat κs Xs) (machines entry_seat κs Xs a)) g)
  fill t κs [] bs a is E = pass0 t
  fill t κs (X ∷ Xs) bs a is E = step (λ s. fsplit t $ pass1 t (init t 0 refl (X.typed 𝓛 (X.lifetime 1) κs.1 a.0 _ is.0).0) $ move t (1 ∷ []) $
      fill t κs Xs bs.1 a.1 is.1 E $ move t (1 ∷ []) $ fjoin t $ s)
