-- A function's locals as lists of types and blocks, each lemma by induction on the types: they are made and freed all at once, and a local is found though its number is no numeral.
--     Blocks, env, locals, past, Lie       where locals lie in a frame, and the local after some.        rooms, deaths        what a walk owns of them, each as one entry of its context
--     make, free, local_in, local_at       the rules, as `Types/Run.antt` has them for one local.        Held, held_at, first_held, swap_held, reads      a part of an entry of the context, which can be read
use mathlib.Core.Path.{◌≡◌, sym, subst}
use Prim.Native.Nat.{ℕ, zero, suc}
use mathlib.Core.List.{List, [], ◌∷◌, ◌++◌, nil≢cons, head-eq_of_cons-eq, tail-eq_of_cons-eq}
use lib.ListN.{get_or, drop as dropN}
use seplogic.Ra.Ura.{Ura}
use mir.Syntax.{Ty, Local, local, value_local, Step as PStep, place}
use mir.Val.{Val}
use base.Logic.{SProp, ent, sep, wand, ex, via, comm∗, assoc∗, assoc', mono_l, mono_r, wand_i, ex_i}
use base.Fml.{Share, Fml, ftrue, fsep, froom, fdies}
use prog.Wp.{Env, Spot, no_local, walk}
use types.Logic.{Logic, sem}
use types.Kit.{Item, ‵, mean, ⋆, nth, del, pull, unpull, Goal, allocs, frees, Seq, Step, step, ◌$◌, move, drop, fsplit, fjoin}
use types.Run.{Reads, Walks, Finds, stop, alloc1, free1}
use denote.Steps.{nothing}

-- each local in its block
abbrev pub Blocks : List Ty → Type 0
Blocks [] = Unit {0}
Blocks (τ ∷ τs) = ℕ × Blocks τs

abbrev pub env : (τs : List Ty) → Blocks τs → List (Ty × ℕ)
env [] bs = []
env (τ ∷ τs) bs = (τ, bs.0) ∷ env τs bs.1

abbrev pub locals : List Ty → List Local
locals [] = []
locals (τ ∷ τs) = local τ value_local ∷ locals τs

abbrev pub rooms : (τs : List Ty) → Blocks τs → Fml
rooms [] bs = ftrue
rooms (τ ∷ τs) bs = fsep (froom τ bs.0 zero) (rooms τs bs.1)

abbrev pub deaths : (τs : List Ty) → Blocks τs → Fml
deaths [] bs = ftrue
deaths (τ ∷ τs) bs = fsep (fdies τ bs.0) (deaths τs bs.1)

-- the number of the local after some
abbrev pub past : ℕ → List Ty → ℕ
past k [] = k
past k (τ ∷ τs) = past (suc k) τs

at_drop {ℓ} : {X : Type ℓ} (k : ℕ) (l : List X) {x : X} {r : List X} (d : X) → dropN k l ≡ x ∷ r → get_or l k d ≡ x
at_drop zero [] d e = absurd (nil≢cons e)
at_drop zero (y ∷ l) d e = head-eq_of_cons-eq e
at_drop (suc k) [] d e = absurd (nil≢cons e)
at_drop (suc k) (y ∷ l) d e = at_drop k l d e

drop_next {ℓ} : {X : Type ℓ} (k : ℕ) (l : List X) {x : X} {r : List X} → dropN k l ≡ x ∷ r → dropN (suc k) l ≡ r
drop_next zero [] e = absurd (nil≢cons e)
drop_next zero (y ∷ l) e = tail-eq_of_cons-eq e
drop_next (suc k) [] e = absurd (nil≢cons e)
drop_next (suc k) (y ∷ l) e = drop_next k l e

-- the locals from k on are of the types τs, in the blocks bs
abbrev pub Lie : List (Ty × ℕ) → ℕ → (τs : List Ty) → Blocks τs → Type 0
Lie E k τs bs = (E' : List (Ty × ℕ)) × (dropN k E ≡ env τs bs ++ E')

pub lie_next : (E : List (Ty × ℕ)) (k : ℕ) (τ : Ty) (τs : List Ty) (bs : Blocks (τ ∷ τs)) → Lie E k (τ ∷ τs) bs → Lie E (suc k) τs bs.1
lie_next E k τ τs bs l = (l.0, drop_next k E l.1)

pub drop_past : (τs : List Ty) (bs : Blocks τs) (k : ℕ) (E E' : List (Ty × ℕ)) → dropN k E ≡ env τs bs ++ E' → dropN (past k τs) E ≡ E'
drop_past [] bs k E E' e = e
drop_past (τ ∷ τs) bs k E E' e = drop_past τs bs.1 (suc k) E E' (drop_next k E e)

module _ {M : Type 1} {𝓤 : Ura M} (𝓛 : Logic 𝓤) where
  open 𝓛 use {H}

  abbrev ◌⊢◌ : SProp 𝓤 → SProp 𝓤 → Type 1
  P ⊢ Q = ent 𝓤 P Q

  abbrev ◌∗◌ : SProp 𝓤 → SProp 𝓤 → SProp 𝓤
  P ∗ Q = sep 𝓤 P Q

  infix 26 ◌⊢◌
  infixr 35 ◌∗◌
  -- P is had within the context, and can be given back
  pub record Held (Γ : List (Item 𝓤)) (P : SProp 𝓤) : Type 2 where
    pub rest : SProp 𝓤
    pub out : ⋆ 𝓛 Γ ⊢ P ∗ rest
    pub back : P ∗ rest ⊢ ⋆ 𝓛 Γ

  module _ {Γ : List (Item 𝓤)} where
    pub held_at : (k : ℕ) {P : Fml} → nth 𝓛 k Γ ≡ ‵ P → Held Γ (sem 𝓛 P)
    held_at k {P} e = record {
      rest = ⋆ 𝓛 (del 𝓛 k Γ);
      out = subst (λ (j : Item 𝓤). ⋆ 𝓛 Γ ⊢ mean 𝓛 j ∗ ⋆ 𝓛 (del 𝓛 k Γ)) e (pull 𝓛 k Γ);
      back = subst (λ (j : Item 𝓤). mean 𝓛 j ∗ ⋆ 𝓛 (del 𝓛 k Γ) ⊢ ⋆ 𝓛 Γ) e (unpull 𝓛 k Γ);
    }

    pub first_held : (P Q : SProp 𝓤) → Held Γ (P ∗ Q) → Held Γ P
    first_held P Q h = record {
      rest = Q ∗ h.rest;
      out = via 𝓤 ((P ∗ Q) ∗ h.rest) h.out (assoc∗ 𝓤 P Q h.rest);
      back = via 𝓤 ((P ∗ Q) ∗ h.rest) (assoc' 𝓤 P Q h.rest) h.back;
    }

    pub swap_held : (P Q : SProp 𝓤) → Held Γ (P ∗ Q) → Held Γ (Q ∗ P)
    swap_held P Q h = record {
      rest = h.rest;
      out = via 𝓤 ((P ∗ Q) ∗ h.rest) h.out (mono_l 𝓤 h.rest (comm∗ 𝓤 P Q));
      back = via 𝓤 ((P ∗ Q) ∗ h.rest) (mono_l 𝓤 h.rest (comm∗ 𝓤 Q P)) h.back;
    }

    pub reads : (K : Type 0) {q : Share} {τ : Ty} {b o : ℕ} {v : Val} → Held Γ (H.at q τ b o v) → Reads K 𝓛 Γ τ b o v
    reads K {q} {τ} {b} {o} {v} h = record {
      go = λ Kt k.
          via 𝓤 (H.at q τ b o v ∗ h.rest) h.out
          (via 𝓤 (H.at q τ b o v ∗ wand 𝓤 (H.at q τ b o v) (Kt v))
          (mono_r 𝓤 (H.at q τ b o v) (wand_i 𝓤 h.rest (H.at q τ b o v) (Kt v) (via 𝓤 (H.at q τ b o v ∗ h.rest) (comm∗ 𝓤 h.rest (H.at q τ b o v)) (via 𝓤 (⋆ 𝓛 Γ) h.back k))))
          (via 𝓤 (ex 𝓤 (λ (u : Val). H.at q τ b o u ∗ wand 𝓤 (H.at q τ b o u) (Kt u)))
          (ex_i 𝓤 (λ (u : Val). H.at q τ b o u ∗ wand 𝓤 (H.at q τ b o u) (Kt u)) v)
          (ex_i 𝓤 (λ (s : Share). ex 𝓤 (λ (u : Val). H.at s τ b o u ∗ wand 𝓤 (H.at s τ b o u) (Kt u))) q)));
    }

-- ---- the rules
module _ {M : Type 1} {𝓤 : Ura M} {𝓛 : Logic 𝓤} {K : Type 0} where
  open 𝓛 use {H}

  pub local_in : K → {Γ : List (Item 𝓤)} {E : Env 𝓤 H} {k : ℕ} {τ : Ty} {b : ℕ} {E' : Env 𝓤 H} {st : List PStep} {sp : Spot 𝓤 H} → dropN k E ≡ (τ, b) ∷ E' → Walks K 𝓛 Γ E (τ, b, zero) st sp → Finds K 𝓛 Γ E (place k st) sp
  local_in t {Γ} {E} {k} {st = st} e w = record { go = λ Kt h. subst (λ (l : Ty × ℕ). ent 𝓤 (⋆ 𝓛 Γ) (walk 𝓤 H E (l.0, l.1, zero) st Kt)) (sym (at_drop k E (no_local 𝓤 H) e)) (w.go Kt h) }

  pub local_at : K → {Γ : List (Item 𝓤)} {E : Env 𝓤 H} {k : ℕ} {τ : Ty} {b : ℕ} {E' : Env 𝓤 H} → dropN k E ≡ (τ, b) ∷ E' → Finds K 𝓛 Γ E (place k []) (τ, b, zero)
  local_at t e = local_in t e (stop t)

  pub make : K → (τs : List Ty) {Γ : List (Item 𝓤)} {ls : List Local} {Kt : Env 𝓤 H → Goal 𝓤 H}
      → ((bs : Blocks τs) → Seq K 𝓛 (‵ (rooms τs bs) ∷ ‵ (deaths τs bs) ∷ Γ) (allocs ls (λ E. Kt (env τs bs ++ E)))) → Seq K 𝓛 Γ (allocs (locals τs ++ ls) Kt)
  make t [] k = nothing t $ nothing t $ k tt
  make t (τ ∷ τs) {Kt = Kt} k = alloc1 t (λ b. make t τs {Kt = λ E. Kt ((τ, b) ∷ E)} (λ bs.
      move t (3 ∷ 1 ∷ []) $ fjoin t $ move t (2 ∷ 1 ∷ []) $ fjoin t $ k (b, bs)))

  pub free : K → (τs : List Ty) (bs : Blocks τs) {Γ : List (Item 𝓤)} {E : Env 𝓤 H} {g : Goal 𝓤 H} → Step K 𝓛 Γ (frees E g) (‵ (rooms τs bs) ∷ ‵ (deaths τs bs) ∷ Γ) (frees (env τs bs ++ E) g)
  free t [] bs = step (λ s. drop t $ drop t $ s)
  free t (τ ∷ τs) bs = step (λ s. fsplit t $ move t (2 ∷ []) $ fsplit t $ move t (2 ∷ 0 ∷ 3 ∷ []) $ free1 t $ free t τs bs.1 $ s)
