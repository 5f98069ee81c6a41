-- Thin entries over a struct of one field, proved once for every struct, every list of arguments, each a value or a lent slice, and every core that has n lifetimes. Lib.antt has an example, explained word by word.
--     writes       fn f(&mut self, ..) { self.0 = core(self.0, ..); }, or `without` the field { self.0 = core(..); }
--     stores       fn f(&mut self, ..) -> R { let r = core(self.0, ..); self.0 = r.new; r.answer }, where r is a struct of any fields
--     answers      fn f(&self, ..) -> Z { core(self.0, ..) }
--     shows        fn f(&self) -> F { self.0 }
-- `let w = self.0;` may come before the call, and w stand in it. A core's `ensures` is a fact about what it is handed, what it returns, and what it was handed as it is at exit. The entry's is that fact at the field on entry and the arguments, at the
-- field on exit or the result, and at the arguments at exit. Each walk opens the borrow at the field, runs the body, and closes the borrow. `Entry.antt` has what comes before and after.
use mathlib.Core.Path.{◌≡◌, refl, sym, subst}
use Prim.Native.Nat.{ℕ, zero, suc}
use mathlib.Core.List.{[], ◌∷◌, List}
use seplogic.Ra.Ura.{Ura}
use base.Fraction.{full_share}
use mir.Syntax.{Callee, Ty, ty_ref, imm, mut, named, place, copy, rv_opd, Body as Code, assign, seq, return, Fn}
use mir.Val.{Val, vptr}
use base.Fml.{Share, Fml, fsep, fat, froom, fobs, fauth, fobor}
use prog.Wp.{Calls, Loops}
use prog.Model.{Model}
use prog.Routine.{Env}
use types.Logic.{Logic}
use sound.WpLaws.{FmC}
use contract.Lifetimes.{Lfts, Shares, toks}
use contract.Running.{Running, tables}
use types.Kit.{Item, ‵, raw, Goal, runs, lands, at_ret, Sq, ◌$◌, !, move, drop, use1, fsplit, fsplit3, fjoin, fjoin3, feq_i}
use types.Run.{look, init, store, forget, stop, hop, fld, from, load, of_opd, assigns, land}
use types.SemTy.{Body}
use denote.RattleType.{Denots, owns}
use denote.Laws.{Is}
use denote.Memory.{mem, part_at, pointee, hidden_shr}
use denote.Opens.{Shut}
use denote.Builtin.{RefOf, RefMutOf}
use denote.Ref.{Bor, MutBor, mut_Tells, shr_Tells}
use denote.Signature.{plain}
use denote.Steps.{owned}
use denote.Triple.Statement.{Triple}
use denote.Triple.Walked.{stay_ref, Goes-ref, stay_none_ref, Goes-none_ref}
use denote.Exit.{yes}
use Rattle.lend.proofs.Solid.{Solid, row_of, vals, Fits}
use Rattle.lend.proofs.Arg.{Arg}
use Rattle.lend.proofs.Locals.{rooms, past, Lie, local_at}
use Rattle.lend.proofs.Args.{entry_seat, Values, Ends, rows, machines, Fit, Lasts, values, endings, had, tys, cells}
use Rattle.lend.proofs.Reading.{Reading, whole, nothing_of}
use Rattle.lend.proofs.Frame.{Laid, at, dying, holding, own_at}
use Rattle.lend.proofs.Field.{Holds, cell, Back, place_is, opens_field, closes_field, looks_field, shuts_field}
use Rattle.lend.proofs.Core.{Core, Said, Hands, self_0, Handed, handed, handed_ends, Copied, calling, Placed, behind, in_order, hands}
use Rattle.lend.proofs.Laying.{Laying, laid}
use Rattle.lend.proofs.Entry.{Entry, Fact, Post, Starts, ends, Proved, proved, Thin, thin}

-- where a reference points
abbrev block : ℕ × ℕ → ℕ
block p = p.0

abbrev byte : ℕ × ℕ → ℕ
byte p = p.1

abbrev pointer : ℕ × ℕ → Val
pointer p = vptr (block p) (byte p)

-- ---- `&mut self`
module _ (n : ℕ) (u : Hands) {S F Z R : Solid} (O : Holds S F) (Xs : List (Arg n)) (L : Laying O Xs u Z.ty) (new : Reading Z F) (answer : Reading Z R) (φ : Values (Handed O Xs u) → F.D → R.D → Ends (Handed O Xs u) → Type 0) where
  -- the core's fact, of what is read off its result
  abbrev Ens : Said (Handed O Xs u) Z
  Ens m z e = φ m (new.get z) (answer.get z) e

  -- its own locals are what the core returns and what the field and the arguments are copied to
  abbrev writer : Entry n
  writer = record {
    frame = record { result = R.ty; lent = ty_ref (named 0) mut (pointee S.written); args = Xs; own = L.own };
    lent = RefMutOf (0 ∷ []) tt (plain (λ _. row_of S)) (λ _. tt);
    val = λ κs x. pointer x.ref_ptr;
    tells = λ κs. mut_Tells (named 0) κs.0 (row_of S);
    typed = λ κs x. (tt, tt);
    stay = stay_ref (0 ∷ []) tt (plain (λ _. row_of S));
    goes = λ 𝓛. Goes-ref 𝓛 (suc n) 0 tt (plain (λ _. row_of S));
    result = row_of R;
  }

  abbrev stored : Code
  stored = seq (assign (self_0 S) (rv_opd (new.operand L.at_result))) (seq (assign (place 0 []) (rv_opd (answer.operand L.at_result))) return)

  abbrev writer_code : Callee → Code
  writer_code f = calling O Xs u L.at_field L.at_args f (place L.at_result []) stored

  abbrev Written : Fact writer
  Written κs x m r x' e = φ (handed O Xs u (O.get x.now) m) (O.get x'.now) r (handed_ends O Xs u (O.get x.now) e)

  module _ {M : Type 1} (𝓤 : Ura M) where
    module _ (𝓛 : Logic 𝓤) (C : Calls 𝓤 𝓛.H) (Λ : Loops 𝓤 𝓛.H) (κs : Lfts (suc n)) (qs : Shares (suc n)) (x : MutBor S.D) (a : Denots (rows entry_seat κs Xs)) where
      open 𝓛 use {H}

      abbrev m : Values Xs
      m = values entry_seat κs Xs a

      lies : (ls : Laid writer.frame) → Lie (at writer.frame ls) L.at_result (Z.ty ∷ []) (L.back ls.3, tt) × Placed O Xs u (at writer.frame ls) L.at_field L.at_args (L.copied ls.3)
      lies ls = L.lie (at writer.frame ls) ls.3 (own_at writer.frame ls)

      -- what is read off the core's result is stored and answered, and the borrow is closed
      closes : (ls : Laid writer.frame) (z : Z.D) (ws : Lasts entry_seat κs Xs a) → Ens (handed O Xs u (O.get x.now) m) z (handed_ends O Xs u (O.get x.now) (endings entry_seat κs Xs a ws)) → Fits Z z
          → Sq 𝓛 (‵ (fat full_share writer.frame.lent ls.1 zero (pointer x.ref_ptr)) ∷ ‵ (cells Xs ls.2 m) ∷ ‵ (cell F full_share (block x.ref_ptr) (byte x.ref_ptr) (O.get x.now)) ∷ ‵ (rooms (Copied O Xs u) (L.copied ls.3)) ∷ raw (toks 𝓛 n κs.1 qs.1) ∷ ‵ (had κs Xs a ws)
          ∷ ‵ (froom Z.ty (L.back ls.3) zero) ∷ ‵ (froom R.ty ls.0 zero) ∷ ‵ (dying writer.frame ls) ∷ raw (Back O 𝓛 full_share (block x.ref_ptr) (byte x.ref_ptr)) ∷ ‵ (fobor κs.0 qs.0 (Body (mem (row_of S)) (block x.ref_ptr) (byte x.ref_ptr) x.ghost_name))
          ∷ ‵ (fobs x.ghost_name (S.coded.code x.now)) ∷ ‵ (fauth x.ghost_name (S.coded.code x.now)) ∷ []) (lands C Λ (at writer.frame ls) (place L.at_result []) (Z.val z) stored (at_ret (at writer.frame ls) (Post writer 𝓤 Written 𝓛 C Λ κs qs x a)))
      closes ls z ws e fits =
          land ! (local_at ! (lies ls).0.1) (init ! 6 refl (Z.typed 𝓛 z _ fits).0) $
          assigns ! (of_opd ! (new.loads ! z (lies ls).0.1 6 refl)) (from ! (hop ! (look ! 0 refl) (fld ! (place_is O) (stop !)))) (store ! 2 refl (F.typed 𝓛 (new.get z) _ (new.fits z fits)).0) $
          assigns ! (of_opd ! (answer.loads ! z (lies ls).0.1 6 refl)) (from ! (stop !)) (init ! 7 refl (R.typed 𝓛 (answer.get z) _ (answer.fits z fits)).0) $
          move ! (2 ∷ 9 ∷ 10 ∷ 11 ∷ 12 ∷ []) $ closes_field O ! tt (new.get z) (block x.ref_ptr) (byte x.ref_ptr) (new.fits z fits) $
          -- [obs; the borrow; the token; the reference; the arguments; the copy; the tokens; what is had of the arguments; what the core returned; the result; the ends]
          feq_i ! (List Val) (pointer x.ref_ptr ∷ []) (pointer x.ref_ptr ∷ []) refl $ fjoin3 ! $ forget ! 7 refl $ move ! (7 ∷ 4 ∷ []) $ fjoin ! $ use1 𝓛 (‵ (rooms L.own ls.3)) (L.joined 𝓛 ls.3) $
          -- [its own locals; what the reference owns; the token; the reference; the arguments; the tokens; what is had of the arguments; the result; the ends]
          owned ! (row_of R) (Is (row_of R)) (R.makes 𝓛) (answer.get z) (vals R (answer.get z)) (answer.fits z fits) $ move ! (4 ∷ 5 ∷ 8 ∷ 1 ∷ 9 ∷ 3 ∷ 2 ∷ 6 ∷ 7 ∷ []) $
          ends writer 𝓤 Written 𝓛 C Λ κs qs x a (O.make (new.get z)) tt ws (answer.get z)
          (subst (λ (y : F.D). φ (handed O Xs u (O.get x.now) m) y (answer.get z) (handed_ends O Xs u (O.get x.now) (endings entry_seat κs Xs a ws))) (sym (O.got (new.get z))) e) (R.val (answer.get z)) ls

      write : FmC 𝓤 H 𝓛.laws C → (f : Callee) → Triple 𝓤 (C f) (Core (Handed O Xs u) Z 𝓤 Ens 𝓛) → Fit entry_seat κs Xs a → Starts writer 𝓤 Written 𝓛 C Λ κs qs x a (writer_code f)
      write fm f known a_fit ls =
          move ! (6 ∷ []) $ fsplit3 ! $ drop ! $ move ! (0 ∷ 1 ∷ 7 ∷ []) $ opens_field O ! tt x.now (block x.ref_ptr) (byte x.ref_ptr) (λ s_fits.
          -- [the field; the way back; the open borrow; obs; auth; the reference; the arguments; the result; its own locals; the ends; the tokens; what the arguments own]
          move ! (8 ∷ []) $ use1 𝓛 (‵ (fsep (froom Z.ty (L.back ls.3) zero) (rooms (Copied O Xs u) (L.copied ls.3)))) (L.apart 𝓛 ls.3) $ fsplit ! $ move ! (7 ∷ 8 ∷ 2 ∷ 1 ∷ 11 ∷ 12 ∷ 0 ∷ 9 ∷ 10 ∷ []) $
          hands O writer.frame ls ! fm u Z Ens known (O.get x.now) (O.part x.now s_fits) κs qs.1 a a_fit L.at_field L.at_args (L.copied ls.3) (lies ls).1 (closes ls))

    abbrev Stores : Type 2
    Stores = Thin writer 𝓤 Written (Handed O Xs u) Z Ens writer_code

    stores_laid : Stores
    stores_laid = thin writer 𝓤 Written (Handed O Xs u) Z Ens writer_code write

-- a part of what the core returns is stored, and another is answered. `code` is the entry's own, and tells how its locals lie
module _ (n : ℕ) (u : Hands) {S F Z R : Solid} (O : Holds S F) (Xs : List (Arg n)) (new : Reading Z F) (answer : Reading Z R) (φ : Values (Handed O Xs u) → F.D → R.D → Ends (Handed O Xs u) → Type 0) (code : Fn) {M : Type 1} (𝓤 : Ura M) where
  pub stores : Stores n u O Xs (laid O Xs u Z.ty code.body) new answer φ 𝓤
  stores = stores_laid n u O Xs (laid O Xs u Z.ty code.body) new answer φ 𝓤

-- all that the core returns is stored, and `()` is answered
module _ (n : ℕ) (u : Hands) {S F : Solid} (O : Holds S F) (Xs : List (Arg n)) (Ens : Said (Handed O Xs u) F) (code : Fn) {M : Type 1} (𝓤 : Ura M) where
  pub writes : Stores n u O Xs (laid O Xs u F.ty code.body) (whole F) (nothing_of F) (λ m r _ e. Ens m r e) 𝓤
  writes = stores n u O Xs (whole F) (nothing_of F) (λ m r _ e. Ens m r e) code 𝓤

-- ---- `&self`
module _ (n : ℕ) {S F : Solid} (O : Holds S F) (Xs : List (Arg n)) (τs : List Ty) (Z : Solid) where
  abbrev reader : Entry n
  reader = record {
    frame = record { result = Z.ty; lent = ty_ref (named 0) imm (pointee S.written); args = Xs; own = τs };
    lent = RefOf (0 ∷ []) tt (plain (λ _. row_of S)) (λ _. tt);
    val = λ κs x. pointer x.ref_ptr;
    tells = λ κs. shr_Tells (named 0) κs.0 (row_of S);
    typed = λ κs x. (tt, tt);
    stay = stay_none_ref (0 ∷ []) tt (plain (λ _. row_of S)) yes;
    goes = λ 𝓛. Goes-none_ref 𝓛 (suc n) (0 ∷ []) tt (plain (λ _. row_of S)) yes;
    result = row_of Z;
  }

  module _ {M : Type 1} {𝓤 : Ura M} (φ : Fact reader) (𝓛 : Logic 𝓤) (C : Calls 𝓤 𝓛.H) (Λ : Loops 𝓤 𝓛.H) (κs : Lfts (suc n)) (qs : Shares (suc n)) (x : Bor S.D) (a : Denots (rows entry_seat κs Xs)) where
    -- the frame with i in the result's local, what is had of the arguments, and the open borrow: [the tokens; what is had; the field; the way back; what shuts it; the borrow]
    open 𝓛 use {H}

    abbrev Open : Laid reader.frame → Fml → Fml → Share → List (Item 𝓤)
    Open ls i args q' =
        holding reader.frame ls (pointer x.ref_ptr) (values entry_seat κs Xs a) i
        (raw (toks 𝓛 n κs.1 qs.1) ∷ ‵ args ∷ ‵ (cell F q' (block x.ref_ptr) (byte x.ref_ptr) (O.get x.now)) ∷ raw (Back O 𝓛 q' (block x.ref_ptr) (byte x.ref_ptr)) ∷ Shut 𝓛 κs.0 qs.0 (part_at (row_of S) q' x.now (block x.ref_ptr) (byte x.ref_ptr))
        ∷ ‵ (hidden_shr (row_of S) κs.0 x.now (block x.ref_ptr) (byte x.ref_ptr)) ∷ [])

    abbrev Runs : Laid reader.frame → Code → Goal 𝓤 H
    Runs ls code = runs C Λ (at reader.frame ls) code (at_ret (at reader.frame ls) (Post reader 𝓤 φ 𝓛 C Λ κs qs x a))

    opening : {code : Code} → ((ls : Laid reader.frame) (q' : Share) → Fits S x.now → Sq 𝓛 (Open ls (froom Z.ty ls.0 zero) (owns (rows entry_seat κs Xs) a (machines entry_seat κs Xs a)) q') (Runs ls code)) → Starts reader 𝓤 φ 𝓛 C Λ κs qs x a code
    opening walk ls = move ! (6 ∷ []) $ fsplit ! $ drop ! $ move ! (0 ∷ 6 ∷ []) $ looks_field O ! tt x.now (block x.ref_ptr) (byte x.ref_ptr) (λ q' s_fits. move ! (4 ∷ 5 ∷ 6 ∷ 7 ∷ 8 ∷ 9 ∷ 10 ∷ []) $ walk ls q' s_fits)

    shutting : (ls : Laid reader.frame) (q' : Share) → Fits S x.now → (ws : Lasts entry_seat κs Xs a) (r : Z.D) → φ κs x (values entry_seat κs Xs a) r x (endings entry_seat κs Xs a ws) → Fits Z r
        → Sq 𝓛 (Open ls (fat full_share Z.ty ls.0 zero (Z.val r)) (had κs Xs a ws) q') (Runs ls return)
    shutting ls q' s_fits ws r e fits =
        move ! (7 ∷ 8 ∷ 9 ∷ []) $ shuts_field O ! tt q' x.now (block x.ref_ptr) (byte x.ref_ptr) s_fits $
        -- [the token; the reference; the arguments; the result; its own locals; the ends; the tokens; what is had of the arguments; the borrow]
        move ! (8 ∷ []) $ feq_i ! (List Val) (pointer x.ref_ptr ∷ []) (pointer x.ref_ptr ∷ []) refl $ fjoin ! $ owned ! (row_of Z) (Is (row_of Z)) (Z.makes 𝓛) r (vals Z r) fits $
        -- [what the result owns; what the reference owns; the token; the reference; the arguments; the result; its own locals; the ends; the tokens; what is had of the arguments]
        move ! (3 ∷ 4 ∷ 5 ∷ 6 ∷ 7 ∷ 2 ∷ 1 ∷ 8 ∷ 9 ∷ []) $ ends reader 𝓤 φ 𝓛 C Λ κs qs x a tt tt ws r e (Z.val r) ls

module _ (n : ℕ) (u : Hands) {S F : Solid} (O : Holds S F) (Xs : List (Arg n)) (Z : Solid) (Ens : Said (Handed O Xs u) Z) where
  -- its own locals are what the field and the arguments are copied to
  abbrev asker : Entry n
  asker = reader n O Xs (Copied O Xs u) Z

  abbrev asker_code : Callee → Code
  asker_code f = calling O Xs u (past 2 (tys Xs)) (behind O Xs u (past 2 (tys Xs))) f (place 0 []) return

  abbrev Answered : Fact asker
  Answered κs x m r _ e = Ens (handed O Xs u (O.get x.now) m) r (handed_ends O Xs u (O.get x.now) e)

  module _ {M : Type 1} (𝓤 : Ura M) where
    answer : (𝓛 : Logic 𝓤) (C : Calls 𝓤 𝓛.H) (Λ : Loops 𝓤 𝓛.H) (κs : Lfts (suc n)) (qs : Shares (suc n)) (x : Bor S.D) (a : Denots (rows entry_seat κs Xs))
        → FmC 𝓤 𝓛.H 𝓛.laws C → (f : Callee) → Triple 𝓤 (C f) (Core (Handed O Xs u) Z 𝓤 Ens 𝓛) → Fit entry_seat κs Xs a → Starts asker 𝓤 Answered 𝓛 C Λ κs qs x a (asker_code f)
    answer 𝓛 C Λ κs qs x a fm f known a_fit = opening n O Xs (Copied O Xs u) Z Answered 𝓛 C Λ κs qs x a (λ ls q' s_fits. move ! (0 ∷ 1 ∷ 7 ∷ 3 ∷ 5 ∷ 6 ∷ []) $
        hands O asker.frame ls ! fm u Z Ens known (O.get x.now) (O.part x.now s_fits) κs qs.1 a a_fit (past 2 (tys Xs)) (behind O Xs u (past 2 (tys Xs))) ls.3 (in_order O Xs u (at asker.frame ls) (past 2 (tys Xs)) ls.3 (own_at asker.frame ls)) (λ r ws e fits.
        -- [the reference; the arguments; the field; the copy; the tokens; what is had of the arguments; the result; the ends; …]
        land ! (from ! (stop !)) (init ! 6 refl (Z.typed 𝓛 r _ fits).0) $ move ! (0 ∷ 1 ∷ 6 ∷ 3 ∷ 7 ∷ 4 ∷ 5 ∷ []) $ shutting n O Xs (Copied O Xs u) Z Answered 𝓛 C Λ κs qs x a ls q' s_fits ws r e fits))

    pub answers : Thin asker 𝓤 Answered (Handed O Xs u) Z Ens asker_code
    answers = thin asker 𝓤 Answered (Handed O Xs u) Z Ens asker_code answer

module _ {S F : Solid} (O : Holds S F) where
  abbrev shower : Entry 0
  shower = reader 0 O [] [] F

  abbrev shower_code : Code
  shower_code = seq (assign (place 0 []) (rv_opd (copy (self_0 S)))) return

  abbrev Shown : Fact shower
  Shown κs x _ r _ _ = r ≡ O.get x.now

  module _ {M : Type 1} (𝓤 : Ura M) where
    show : (𝓛 : Logic 𝓤) (C : Calls 𝓤 𝓛.H) (Λ : Loops 𝓤 𝓛.H) (κs : Lfts 1) (qs : Shares 1) (x : Bor S.D) → Starts shower 𝓤 Shown 𝓛 C Λ κs qs x tt shower_code
    show 𝓛 C Λ κs qs x = opening 0 O [] [] F Shown 𝓛 C Λ κs qs x tt (λ ls q' s_fits.
        assigns ! (of_opd ! (load ! (from ! (hop ! (look ! 0 refl) (fld ! (place_is O) (stop !)))) (look ! 7 refl))) (from ! (stop !)) (init ! 2 refl (F.typed 𝓛 (O.get x.now) _ (O.part x.now s_fits)).0) $
        shutting 0 O [] [] F Shown 𝓛 C Λ κs qs x tt ls q' s_fits tt (O.get x.now) refl (O.part x.now s_fits))

    pub shows : (γ : Env) (k : Callee) (𝓛 : Logic 𝓤) (𝓜 : Model 𝓤 𝓛.H) (𝓡 : Running 𝓤 𝓛.H 𝓜) → Proved shower 𝓤 Shown shower_code γ k 𝓛 𝓜 𝓡
    shows γ k 𝓛 𝓜 𝓡 = proved shower 𝓤 Shown shower_code γ k 𝓛 𝓜 𝓡 (λ κs qs x _ _. show 𝓛 (tables 𝓤 𝓛.H 𝓜 𝓡 γ).C (tables 𝓤 𝓛.H 𝓜 𝓡 γ).Λ κs qs x)
