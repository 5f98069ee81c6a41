-- What the words of demand 1 come to, so that they cannot be emptied unseen. A contract that answers everything asks for nothing that some arguments lack (`nothing_lacking`). Of the
-- clauses of a method that is lent a struct the same, shown at the closed model of the logic: the empty assertion holds there, and that of a fact only where the fact does
-- (`nothing_lacking_lent`). What is untouched is at exit as it was (`as_it_was`).
use mathlib.Core.Path.{◌≡◌, sym, subst, ◌∙◌}
use mathlib.Core.Logic.{∥∥₁_elim}
use mathlib.Core.HLevel.{⊥_prop}
use base.Logic.{SProp, emp}
use contract.Monad.{Fun, fact}
use denote.Triple.Entry.{Args}
use denote.Triple.Clauses.{Ended, Lasts, AtExit, at_exit}
use ghost.Model.{Res, 𝓤}
use contract.BorrowModel.{logic₀}
use prog.Memory.{Memory}
use prog.Routine.{Routine}
use Rattle.promises.specs.Contract.{Lifetimes, Before, Stated, Untouched, AsksFor, Answers, AnswersLent}

-- an assertion of a fact that is empty holds at once
fact_of_empty : (φ : Type 0) → fact 𝓤 φ ≡ emp 𝓤 → (φ → ⊥) → ⊥
fact_of_empty φ e lacks = ∥∥₁_elim (subst (λ (P : SProp 𝓤). P.holds 𝓤.one) (sym e) tt) ⊥_prop (λ t. lacks t.0)

-- nothing of memory or of calls is used
no_memory : Memory → SProp 𝓤
no_memory m = emp 𝓤

no_calls : Routine → Fun 𝓤
no_calls r vs K = emp 𝓤

module _ (T : Ended) where
  pub nothing_lacking : (Pre : Before T) → Answers T Pre → (κs : Lifetimes T) (a : Args T.signature κs) → (Pre κs a → ⊥) → ⊥
  nothing_lacking Pre answers κs a lacks = lacks (answers κs a)

  pub nothing_lacking_lent : (clauses : Stated T) (asked : Before T) → AsksFor T clauses asked → AnswersLent T clauses → (κs : Lifetimes T) (a : Args T.signature κs) → (asked κs a → ⊥) → ⊥
  nothing_lacking_lent clauses asked asks answers κs a lacks =
      let r = answers Res 𝓤 logic₀ no_memory no_calls κs a in
      fact_of_empty (asked κs a) (sym (asks Res 𝓤 logic₀ no_memory no_calls κs a r.0) ∙ r.1) lacks

  -- what is untouched is at exit as it was
  pub as_it_was : {X : Lifetimes T → Type 0} (exit_part : (κs : Lifetimes T) → AtExit T κs → X κs) (entry_part : (κs : Lifetimes T) → Args T.signature κs → X κs)
      → Untouched T exit_part entry_part → (κs : Lifetimes T) (a : Args T.signature κs) (u : Lasts T κs a) → exit_part κs (at_exit T κs a u) ≡ entry_part κs a
  as_it_was exit_part entry_part untouched = untouched
