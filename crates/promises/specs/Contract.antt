-- A contract, as the check makes it of the clauses of a public function; no copy of one is written here.
--     ended            the signature.        Reads.Pre, Reads.Post     the clauses as plain facts
--     clauses          the clauses as assertions of the logic; of a method that is lent a struct these are taken
use Rattle.std.specs.Prelude.{◌≡◌}
use seplogic.Ra.Ura.{Ura}
use base.Logic.{SProp, emp}
use prog.Memory.{Memory}
use prog.Routine.{Routine}
use types.Logic.{Logic}
use contract.Monad.{Fun, fact}
use contract.Lifetimes.{Lfts}
use denote.Triple.Entry.{Args, Res}
use denote.Triple.Clauses.{Ended, Clauses, Lasts, AtExit, at_exit}

module _ (T : Ended) where
  abbrev pub Lifetimes : Type 0
  Lifetimes = Lfts T.signature.lifetimes

  -- what has to hold of the arguments
  abbrev pub Before : Type 1
  Before = (κs : Lifetimes) → Args T.signature κs → Type 0

  -- what has to hold of the arguments, the result, and the arguments as they are at exit
  abbrev pub After : Type 1
  After = (κs : Lifetimes) → Args T.signature κs → Res T.signature κs → AtExit T κs → Type 0

  -- clauses, at any model
  abbrev pub Stated : Type 2
  Stated = (M : Type 1) (𝓤 : Ura M) (𝓛 : Logic 𝓤) → (Memory → SProp 𝓤) → (Routine → Fun 𝓤) → Clauses 𝓤 T

  -- the `ensures` says in every model that Post holds, and nothing else
  abbrev pub Says : Stated → After → Type 2
  Says clauses Post =
      (M : Type 1) (𝓤 : Ura M) (𝓛 : Logic 𝓤) (mem : Memory → SProp 𝓤) (run : Routine → Fun 𝓤) (κs : Lifetimes) (a : Args T.signature κs)
      (g : (clauses M 𝓤 𝓛 mem run κs a).ghost) (x : Res T.signature κs) (s : AtExit T κs) → (clauses M 𝓤 𝓛 mem run κs a).ensures g x s ≡ fact 𝓤 (Post κs a x s)

  -- the plain fact that the `ensures` of a method says, which is lent a struct: there is one, and this is it
  pub record Plain (clauses : Stated) : Type 2 where
    pub Post : After
    pub says : Says clauses Post

  -- a part of what was handed in is at exit as it was, whatever the function did: `exit_part` and `entry_part` say which part
  abbrev pub Untouched : {X : Lifetimes → Type 0} → ((κs : Lifetimes) → AtExit T κs → X κs) → ((κs : Lifetimes) → Args T.signature κs → X κs) → Type 0
  Untouched exit_part entry_part = (κs : Lifetimes) (a : Args T.signature κs) (u : Lasts T κs a) → exit_part κs (at_exit T κs a u) ≡ entry_part κs a

  -- nothing is asked of the caller: the `requires` holds of any arguments
  abbrev pub Answers : Before → Type 0
  Answers Pre = (κs : Lifetimes) (a : Args T.signature κs) → Pre κs a

  -- the same of clauses: in every model they ask for nothing
  abbrev pub AnswersLent : Stated → Type 2
  AnswersLent clauses =
      (M : Type 1) (𝓤 : Ura M) (𝓛 : Logic 𝓤) (mem : Memory → SProp 𝓤) (run : Routine → Fun 𝓤) (κs : Lifetimes) (a : Args T.signature κs)
      → (g : (clauses M 𝓤 𝓛 mem run κs a).ghost) × ((clauses M 𝓤 𝓛 mem run κs a).requires g ≡ emp 𝓤)

  -- clauses that ask for something: in every model the `requires` is the assertion of it
  abbrev pub AsksFor : Stated → Before → Type 2
  AsksFor clauses asked =
      (M : Type 1) (𝓤 : Ura M) (𝓛 : Logic 𝓤) (mem : Memory → SProp 𝓤) (run : Routine → Fun 𝓤) (κs : Lifetimes) (a : Args T.signature κs)
      (g : (clauses M 𝓤 𝓛 mem run κs a).ghost) → (clauses M 𝓤 𝓛 mem run κs a).requires g ≡ fact 𝓤 (asked κs a)
