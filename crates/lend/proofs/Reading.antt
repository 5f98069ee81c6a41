-- What an entry reads off the local in which its core's result lies: all of it, a field of it, or nothing.
--     Reading Z F      an operand that reads an F.        whole, part, nothing_of      the three.        Has Z j F, has     the struct Z's field j is an F
use mathlib.Core.Path.{◌≡◌, refl, sym, ◌∙◌, ap, subst}
use Prim.Native.Nat.{ℕ, zero, ◌+◌}
use mathlib.Core.Option.{some}
use mathlib.Core.List.{List, [], ◌∷◌}
use lib.ListN.{drop as dropN}
use seplogic.Ra.Ura.{Ura}
use mir.Syntax.{Sym, Ty, ty_struct, Tys, field, place, copy, opd_unit, Opd as Operand}
use mir.Val.{Val, vstruct, Vals}
use mir.Fields.{get_v, set_v}
use base.Fml.{Share, fat}
use prog.Memory.{field_of, field_at}
use prog.Wp.{Env}
use types.Logic.{Logic}
use types.Kit.{Item, ‵, nth}
use types.Run.{Reads, Opd, look, stop, fld, load, unit_lit}
use types.Part.{Part, whole as whole_cell, sub, look_in}
use Rattle.lend.proofs.Solid.{Solid, Fits, empty}
use Rattle.lend.proofs.Locals.{local_in, local_at}

-- local k holds a Z, and its cell is entry i of the context
pub record Reading (Z F : Solid) : Type 2 where
  pub operand : ℕ → Operand
  pub get : Z.D → F.D
  pub fits : (z : Z.D) → Fits Z z → Fits F (get z)
  pub loads : {M : Type 1} {𝓤 : Ura M} {𝓛 : Logic 𝓤} {K : Type 0} {Γ : List (Item 𝓤)} {E E' : Env 𝓤 𝓛.H} {q : Share} {k b : ℕ}
      → K → (z : Z.D) → dropN k E ≡ (Z.ty, b) ∷ E' → (i : ℕ) → nth 𝓛 i Γ ≡ ‵ (fat q Z.ty b zero (Z.val z)) → Opd K 𝓛 Γ E (operand k) (F.val (get z))

pub record Has (Z : Solid) (j : ℕ) (F : Solid) : Type 0 where
  pub name : Sym
  pub tys : Tys
  pub offset : ℕ
  pub get : Z.D → F.D
  pub fields : Z.D → Vals
  pub ty_is : Z.ty ≡ ty_struct name tys
  pub at_is : field_at zero tys j ≡ some (F.ty, offset)
  pub val_is : (z : Z.D) → Z.val z ≡ vstruct (fields z)
  pub got : (z : Z.D) → get_v (fields z) j ≡ F.val (get z)
  pub fits : (z : Z.D) → Fits Z z → Fits F (get z)

-- at a struct that `rattle check` makes, each equation holds by computation
abbrev pub has : {Z : Solid} {j : ℕ} {F : Solid} {ν : Sym} {τs : Tys} {d : ℕ} {vs : Z.D → Vals} (get : Z.D → F.D) → Z.ty ≡ ty_struct ν τs → field_at zero τs j ≡ some (F.ty, d) → ((z : Z.D) → Z.val z ≡ vstruct (vs z)) → ((z : Z.D) → get_v (vs z) j ≡ F.val (get z))
    → ((z : Z.D) → Fits Z z → Fits F (get z)) → Has Z j F
has {ν = ν} {τs = τs} {d = d} {vs = vs} get ty_is at_is val_is got fits = record { name = ν; tys = τs; offset = d; get = get; fields = vs; ty_is = ty_is; at_is = at_is; val_is = val_is; got = got; fits = fits }

abbrev pub whole : (Z : Solid) → Reading Z Z
whole Z = record { operand = λ k. copy (place k []); get = λ z. z; fits = λ z is. is; loads = λ t z k_at i i_is. load t (local_at t k_at) (look t i i_is) }

abbrev pub nothing_of : (Z : Solid) → Reading Z empty
nothing_of Z = record { operand = λ k. opd_unit; get = λ z. tt; fits = λ z is. refl; loads = λ t z k_at i i_is. unit_lit t }

-- a field of a struct's cell, which is entry i of the context
pub look_field : {M : Type 1} {𝓤 : Ura M} {𝓛 : Logic 𝓤} {K : Type 0} {Γ : List (Item 𝓤)} {q : Share} {b o : ℕ} {τ σ : Ty} {v : Val} {ν : Sym} {τs : Tys} {vs : Vals} {d : ℕ}
    → K → (i : ℕ) → nth 𝓛 i Γ ≡ ‵ (fat q τ b o v) → τ ≡ ty_struct ν τs → v ≡ vstruct vs → (j : ℕ) → field_at zero τs j ≡ some (σ, d) → Reads K 𝓛 Γ σ b (o + d) (get_v vs j)
look_field {𝓤 = 𝓤} {𝓛 = 𝓛} {K = K} {q = q} {b = b} {o = o} {τ = τ} {σ = σ} {v = v} {vs = vs} {d = d} t i i_is τ_is v_is j j_at =
    let cell : Item 𝓤 = ‵ (fat q τ b o v) in
    let back : Val → Item 𝓤 = λ u. ‵ (fat q τ b o u) in
    look_in t i (subst (λ (x : Item 𝓤). Part K 𝓛 x q σ b (o + d) (get_v vs j) (λ u. back (vstruct (set_v vs j u)))) (sym i_is)
    (sub t j j_at (subst (λ (τ' : Ty). Part K 𝓛 cell q τ' b o (vstruct vs) back) τ_is (subst (λ (v' : Val). Part K 𝓛 cell q τ b o v' back) v_is (whole_cell t)))))

module _ {Z F : Solid} (j : ℕ) (N : Has Z j F) where
  module _ {M : Type 1} {𝓤 : Ura M} {𝓛 : Logic 𝓤} {K : Type 0} {Γ : List (Item 𝓤)} {E E' : Env 𝓤 𝓛.H} {q : Share} {k b : ℕ} where
    pub loads_field : K → (z : Z.D) → dropN k E ≡ (Z.ty, b) ∷ E' → (i : ℕ) → nth 𝓛 i Γ ≡ ‵ (fat q Z.ty b zero (Z.val z)) → Opd K 𝓛 Γ E (copy (place k (field j ∷ []))) (F.val (N.get z))
    loads_field t z k_at i i_is = load t (local_in t k_at (fld t (ap (λ (τ : Ty). field_of τ j) N.ty_is ∙ N.at_is) (stop t)))
        (subst (λ (v : Val). Reads K 𝓛 Γ F.ty b (zero + N.offset) v) (N.got z) (look_field t i i_is N.ty_is (N.val_is z) j N.at_is))

  abbrev pub part : Reading Z F
  part = record { operand = λ k. copy (place k (field j ∷ [])); get = N.get; fits = N.fits; loads = loads_field }
