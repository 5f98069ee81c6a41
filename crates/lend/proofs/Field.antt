-- A struct of one field that is lent: the borrow is opened at the field's cell, and closed once the cell holds the field of some struct.
--     Holds S F        the struct S has the one field F
--     opens_field, closes_field        of a `&mut`.        looks_field, shuts_field      of a `&`, at some share
use mathlib.Core.Path.{◌≡◌, refl, sym, ap}
use Prim.Native.Nat.{ℕ, zero, ◌+◌}
use mathlib.Core.Option.{some}
use mathlib.Core.List.{List, [], ◌∷◌}
use seplogic.Ra.Ura.{Ura}
use base.Fraction.{full_share}
use mir.Syntax.{Sym, Ty, ty_struct, tcons, tnil}
use mir.Raw.{raw as raw_ty}
use mir.Val.{Val, vstruct, vcons, vnil}
use base.Logic.{SProp, ent, sep, wand, all, all_e, apply∗}
use base.Stored.{Gv}
use base.Fml.{Lft, GName, Share, Fml, fat, flft, fobs, fauth, fbor, fobor}
use prog.Memory.{align, up, field_of}
use types.Logic.{Logic}
use types.Kit.{Item, ‵, raw, ◌⊛◌, Goal, Soaks, Seq, Step, step, ◌$◌, ◌∵◌, !, qed, move, use1, use2, split, rewrite, assume, frame, each, done}
use types.SemTy.{Body}
use denote.Laws.{Is, shows}
use denote.Memory.{mem, part_at, cell_at, hidden_shr}
use denote.Opens.{Shut}
use denote.Steps.{opens, closes, looks, shuts, owned, facts}
use denote.Struct.Steps.{spelt}
use Rattle.lend.proofs.Solid.{Solid, row_of, vals, Fits}

pub record Holds (S F : Solid) : Type 0 where
  pub name : Sym
  pub get : S.D → F.D
  pub make : F.D → S.D
  pub got : (x : F.D) → get (make x) ≡ x
  pub ty_is : S.ty ≡ ty_struct name (tcons F.ty tnil)
  pub val_is : (s : S.D) → S.val s ≡ vstruct (vcons (F.val (get s)) vnil)
  pub part : (s : S.D) → Fits S s → Fits F (get s)
  pub whole : (x : F.D) → Fits F x → Fits S (make x)

-- where the field begins
abbrev pub start : Solid → ℕ
start F = up (align F.ty) zero

-- the field's cell, in a struct at (b, o)
abbrev pub cell : (F : Solid) → Share → ℕ → ℕ → F.D → Fml
cell F q b o x = fat q F.ty b (o + start F) (F.val x)

module _ {S F : Solid} (O : Holds S F) where
  pub place_is : field_of S.ty 0 ≡ some (F.ty, start F)
  place_is = ap (λ (τ : Ty). field_of τ 0) O.ty_is

  module _ {M : Type 1} {𝓤 : Ura M} (𝓛 : Logic 𝓤) (q : Share) (b o : ℕ) where
    open 𝓛 use {H}

    abbrev Part : S.D → SProp 𝓤
    Part s = H.at q F.ty b (o + start F) (F.val (O.get s))

    abbrev Whole : S.D → SProp 𝓤
    Whole s = H.at q (raw_ty S.ty) b o (S.val s)

    -- the struct's cell is had back
    abbrev pub Back : SProp 𝓤
    Back = all 𝓤 (λ (s : S.D). wand 𝓤 (Part s) (Whole s))

    module _ (s : S.D) where
      taken : ent 𝓤 (Whole s) (sep 𝓤 (Part s) Back)
      taken =
          qed 𝓛 (‵ (fat q (raw_ty S.ty) b o (S.val s)) ∷ []) ∵ use1 𝓛 (‵ (fat q S.ty b o (S.val s))) (𝓛.laws.raw_at q S.ty b o (S.val s)) $
          rewrite ! 0 (λ (τ : Ty). ‵ (fat q τ b o (S.val s))) O.ty_is refl $ rewrite ! 0 (λ (v : Val). ‵ (fat q one b o v)) (O.val_is s) refl $
          use1 𝓛 (‵ (cell F q b o (O.get s)) ⊛ raw (all 𝓤 Way)) (𝓛.laws.at_field q O.name (tcons F.ty tnil) 0 F.ty (start F) refl b o (vcons (F.val (O.get s)) vnil)) $
          split ! $ frame ! $ each ! (λ (s' : S.D). wand 𝓤 (Part s') (Whole s')) (λ s'. assume {P = Whole s'} ! (‵ (cell F q b o (O.get s'))) $ move ! (1 ∷ []) $
          use1 𝓛 (raw (Way (F.val (O.get s')))) (all_e 𝓤 Way (F.val (O.get s'))) $ move ! (1 ∷ 0 ∷ []) $ use2 𝓛 (‵ (fat q one b o (vstruct (vcons (F.val (O.get s')) vnil)))) (apply∗ 𝓤 (Part s') _) $
          rewrite ! 0 (λ (v : Val). ‵ (fat q one b o v)) (sym (O.val_is s')) refl $ rewrite ! 0 (λ (τ : Ty). ‵ (fat q τ b o (S.val s'))) (sym O.ty_is) refl $
          use1 𝓛 (‵ (fat q (raw_ty S.ty) b o (S.val s'))) (𝓛.laws.at_raw q S.ty b o (S.val s')) $ done !)
        where
          one : Ty
          one = ty_struct O.name (tcons F.ty tnil)

          Way : Val → SProp 𝓤
          Way u = wand 𝓤 (H.at q F.ty b (o + start F) u) (H.at q (ty_struct O.name (tcons F.ty tnil)) b o (vstruct (vcons u vnil)))

      given_back : ent 𝓤 (sep 𝓤 (Part s) Back) (Whole s)
      given_back =
          qed 𝓛 (‵ (cell F q b o (O.get s)) ∷ raw Back ∷ []) ∵ move ! (1 ∷ []) $ use1 𝓛 (raw (wand 𝓤 (Part s) (Whole s))) (all_e 𝓤 (λ (s' : S.D). wand 𝓤 (Part s') (Whole s')) s) $
          move ! (1 ∷ 0 ∷ []) $ use2 𝓛 (‵ (fat q (raw_ty S.ty) b o (S.val s))) (apply∗ 𝓤 (Part s) (Whole s)) $ done !

  module _ {M : Type 1} {𝓤 : Ura M} {𝓛 : Logic 𝓤} {K : Type 0} {Γ : List (Item 𝓤)} {G : Goal 𝓤 𝓛.H} where
    -- from the struct, as an open borrow has it, to the field, and from the field to the struct
    narrows : K → (q : Share) (s : S.D) (vs : List Val) (b o : ℕ) → (Fits S s → Seq K 𝓛 (‵ (cell F q b o (O.get s)) ∷ raw (Back 𝓛 q b o) ∷ Γ) G) → Seq K 𝓛 (‵ (cell_at q (S.ty ∷ []) vs b o) ∷ ‵ (S.own s vs) ∷ Γ) G
    narrows t q s vs b o k = spelt t (row_of S) (Is (row_of S)) (shows 𝓛 (row_of S)) (vals S) S.tells q s vs b o $ move t (1 ∷ []) $
        facts t (row_of S) (Is (row_of S)) (shows 𝓛 (row_of S)) s (vals S s) (λ fits. use1 𝓛 (‵ (cell F q b o (O.get s)) ⊛ raw (Back 𝓛 q b o)) (taken 𝓛 q b o s) $ split t $ k fits)

    widens : K → (q : Share) (s : S.D) (b o : ℕ) → Fits S s → Step K 𝓛 (‵ (cell_at q (S.ty ∷ []) (vals S s) b o) ∷ ‵ (S.own s (vals S s)) ∷ Γ) G (‵ (cell F q b o (O.get s)) ∷ raw (Back 𝓛 q b o) ∷ Γ) G
    widens t q s b o fits = step (λ k. use2 𝓛 (‵ (fat q (raw_ty S.ty) b o (S.val s))) (given_back 𝓛 q b o s) $ owned t (row_of S) (Is (row_of S)) (S.makes 𝓛) s (vals S s) fits $ move t (1 ∷ 0 ∷ []) $ k)

  module _ {M : Type 1} {𝓤 : Ura M} {𝓛 : Logic 𝓤} {K : Type 0} {Γ : List (Item 𝓤)} {G : Goal 𝓤 𝓛.H} where
    pub opens_field : K → Soaks G → {κ : Lft} {q : Share} {γ : GName} (s : S.D) (b o : ℕ)
        → (Fits S s → Seq K 𝓛 (‵ (cell F full_share b o (O.get s)) ∷ raw (Back 𝓛 full_share b o) ∷ ‵ (fobor κ q (Body (mem (row_of S)) b o γ)) ∷ ‵ (fobs γ (S.coded.code s)) ∷ ‵ (fauth γ (S.coded.code s)) ∷ Γ) G)
        → Seq K 𝓛 (‵ (fobs γ (S.coded.code s)) ∷ ‵ (fbor κ (Body (mem (row_of S)) b o γ)) ∷ ‵ (flft κ q) ∷ Γ) G
    opens_field t z s b o k = opens t z (row_of S) {h = s} b o (λ vs. narrows t full_share s vs b o k)

    pub closes_field : K → Soaks G → {κ : Lft} {q : Share} {γ : GName} {u v : Gv} (x : F.D) (b o : ℕ) → Fits F x
        → Step K 𝓛 (‵ (fobs γ (S.coded.code (O.make x))) ∷ ‵ (fbor κ (Body (mem (row_of S)) b o γ)) ∷ ‵ (flft κ q) ∷ Γ) G
        (‵ (cell F full_share b o x) ∷ raw (Back 𝓛 full_share b o) ∷ ‵ (fobor κ q (Body (mem (row_of S)) b o γ)) ∷ ‵ (fobs γ u) ∷ ‵ (fauth γ v) ∷ Γ) G
    closes_field t z x b o fits = step (λ k. rewrite t 0 (λ (y : F.D). ‵ (cell F full_share b o y)) (sym (O.got x)) refl $
        widens t full_share (O.make x) b o (O.whole x fits) $ closes t z (row_of S) (O.make x) (vals S (O.make x)) b o $ k)

    pub looks_field : K → Soaks G → {κ : Lft} {q : Share} (s : S.D) (b o : ℕ)
        → ((q' : Share) → Fits S s → Seq K 𝓛 (‵ (cell F q' b o (O.get s)) ∷ raw (Back 𝓛 q' b o) ∷ Shut 𝓛 κ q (part_at (row_of S) q' s b o) ∷ ‵ (hidden_shr (row_of S) κ s b o) ∷ Γ) G)
        → Seq K 𝓛 (‵ (hidden_shr (row_of S) κ s b o) ∷ ‵ (flft κ q) ∷ Γ) G
    looks_field t z s b o k = looks t z (row_of S) (S.copied 𝓛).opens s b o (λ q' vs. narrows t q' s vs b o (k q'))

    pub shuts_field : K → Soaks G → {κ : Lft} {q : Share} (q' : Share) (s : S.D) (b o : ℕ) → Fits S s
        → Step K 𝓛 (‵ (flft κ q) ∷ Γ) G (‵ (cell F q' b o (O.get s)) ∷ raw (Back 𝓛 q' b o) ∷ Shut 𝓛 κ q (part_at (row_of S) q' s b o) ∷ Γ) G
    shuts_field t z q' s b o fits = step (λ k. widens t q' s b o fits $ shuts t z (row_of S) q' s (vals S s) b o $ k)
