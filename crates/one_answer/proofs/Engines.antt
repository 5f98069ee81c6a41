-- How an engine is shown to be wrong: on arguments whose answers by the contract are computed.
--     constant_fails       two arguments whose answers differ: `NoConstant`
--     asking_fails         one argument that does not have what is asked: `NotAsking`.        asking_lent_fails       likewise: `NotAskingLent`
--     always_fails         one argument of a kind whose answer is another: `NotAlways`.        never       likewise, of any argument: `Never`
use mathlib.Core.Path.{◌≡◌, refl, sym, subst, ◌∙◌}
use mathlib.Core.Bool.{not}
use Prim.Native.Nat.{ℕ}
use lib.Dec.{T as IsTrue, T_not, eqb, eqb_refl}
use contract.Monad.{fact}
use denote.Triple.Entry.{Args, Res}
use denote.Triple.Clauses.{Ended, Lasts, at_exit}
use Rattle.promises.specs.Contract.{Lifetimes, Before, After, Stated}
use Rattle.promises.proofs.Asking.{nothing_lacking, nothing_lacking_lent}
use Rattle.one_answer.specs.Fixes.{Fixes, FixesLent}
use Rattle.one_answer.specs.Engines.{Look, Expected, NoConstant, NotAlways, Never, NotAsking, NotAskingLent}

pub differ : {m n : ℕ} → IsTrue (not (eqb m n)) → m ≡ n → ⊥
differ {m} {n} d e = T_not (eqb m n) d (subst (λ (k : ℕ). IsTrue (eqb m k)) e (eqb_refl m))

-- the number that a contract wants to be seen
abbrev Wants : (T : Ended) → Look T → After T → Expected T → Type 0
Wants T look Post F = (κs : Lifetimes T) (a : Args T.signature κs) (x : Res T.signature κs) (u : Lasts T κs a) → Post κs a x (at_exit T κs a u) → look κs a x u ≡ F κs a

module _ {T : Ended} {Pre : Before T} {Post : After T} {of : Fixes T Pre Post} {look : Look T} (F : Expected T) (wants : Wants T look Post F) (κs : Lifetimes T) where
  pub constant_fails : (a b : Args T.signature κs) → Pre κs a → Pre κs b → IsTrue (not (eqb (F κs a) (F κs b))) → NoConstant of look
  constant_fails a b p q d = record {
    refuted = λ e m c. differ d (sym (wants κs a (e κs a).0 (e κs a).1 (m κs a p)) ∙ c κs a b ∙ wants κs b (e κs b).0 (e κs b).1 (m κs b q));
  }

  pub always_fails : {kind : Before T} {it : Expected T} (a : Args T.signature κs) → Pre κs a → kind κs a → IsTrue (not (eqb (F κs a) (it κs a))) → NotAlways of look kind it
  always_fails a p k d = record { refuted = λ e m c. differ d (sym (wants κs a (e κs a).0 (e κs a).1 (m κs a p)) ∙ c κs a k) }

  pub never : {it : Expected T} (a : Args T.signature κs) → Pre κs a → IsTrue (not (eqb (F κs a) (it κs a))) → Never of look it
  never a p d = always_fails a p tt d

module _ {T : Ended} {Pre : Before T} {Post : After T} {of : Fixes T Pre Post} {asked : Before T} where
  pub asking_fails : (κs : Lifetimes T) (a : Args T.signature κs) → (asked κs a → ⊥) → NotAsking of asked
  asking_fails κs a lacks = record { refuted = λ f. nothing_lacking T asked f.answers κs a lacks }

module _ {T : Ended} {clauses : Stated T} {of : FixesLent T clauses} {asked : Before T} where
  pub asking_lent_fails : (κs : Lifetimes T) (a : Args T.signature κs) → (asked κs a → ⊥) → NotAskingLent of asked
  asking_lent_fails κs a lacks = record {
    some = (asking, λ M 𝓤 𝓛 mem run κs a g. refl);
    refuted = λ others asks f. nothing_lacking_lent T others asked asks f.answers κs a lacks;
  }
    where
      -- the clauses, with what is asked in the place of the `requires`
      asking : Stated T
      asking M 𝓤 𝓛 mem run κs a =
          let c = clauses M 𝓤 𝓛 mem run κs a in
          record { ghost = c.ghost; requires = λ g. fact 𝓤 (asked κs a); ensures = c.ensures }
