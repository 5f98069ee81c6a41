-- One promise, one answer: the contract of a function asks nothing of its caller, and determines its result and what it leaves in everything that it was lent to change.
--     Fixes            of a contract: any arguments meet its `requires`, and have one result and one set of last values that meet its `ensures`
--     FixesTyped       the same of results that are values of their type
--     FixesLent        the same of a method that is lent a struct
-- A contract is the one that the check makes of the source (`Contract.antt` of `promises`).
use Rattle.std.specs.Prelude.{◌≡◌}
use denote.Triple.Entry.{Args, Res}
use denote.Triple.Clauses.{Ended, Lasts, at_exit}
use Rattle.promises.specs.Contract.{Lifetimes, Before, After, Stated, Says, Answers, AnswersLent}

module _ (T : Ended) where
  -- u and v are the last values: one for each argument that is lent to be changed, and nothing for the others, which are at exit as they were
  pub record Fixes (Pre : Before T) (Post : After T) : Type 0 where
    pub answers : Answers T Pre
    pub one : (κs : Lifetimes T) (a : Args T.signature κs)
        → (x y : Res T.signature κs) (u v : Lasts T κs a) → Post κs a x (at_exit T κs a u) → Post κs a y (at_exit T κs a v) → (x ≡ y) × (u ≡ v)

  abbrev pub FixesTyped : ((κs : Lifetimes T) → Res T.signature κs → Type 0) → Before T → After T → Type 0
  FixesTyped Ok Pre Post = Fixes Pre (λ κs a x s. Ok κs x × Post κs a x s)

  pub record FixesLent (clauses : Stated T) : Type 2 where
    pub Post : After T
    pub says : Says T clauses Post
    pub answers : AnswersLent T clauses
    pub fixes : Fixes (λ κs a. Unit {0}) Post
