-- Laws of thin entries: functions that are lent a struct of one field, take arguments, and hand them on to a core, a function that the checker's own walk covers. A walk of such an entry by hand is some hundred lines; here it is made once, in
-- Lent.antt, for every struct, every list of arguments and every core. The other files prepare it. An example, `add_posit` of `Q32E2`, which holds eight words:
--
--     pub fn add_posit(&mut self, p: P32E2)
--         ensures { self.new.0 ≡ words 512 (plus 512 (from_words 512 self.old.0) (of_posit 2 31 p.0)) }
--     {
--         self.0 = quire_steps::add_posit(self.0, p);
--     }
--
-- Its core is `quire_steps::add_posit(q, p)`, which ensures result ≡ words 512 (plus 512 (from_words 512 q) (of_posit 2 31 p.0)). The entry's clause is the core's, with the field at entry for q and the field at exit for result. Its proof:
--
--     add_posit_spec 𝓤 𝓛 𝓜 𝓡 wired =
--         writes 0 with_field quire_holds (value posit ∷ []) (λ (ws, (p, _)) r _. r ≡ words 512 (plus 512 (from_words 512 ws) (of_posit 2 31 p.0))) code.function 𝓤
--         𝓡.env key.name _ _ refl 𝓛 𝓜 𝓡 (core.met 𝓤 𝓛 𝓜 𝓡 (code.calls-quire_steps::add_posit 𝓡.env wired)) (code.unfolded 𝓤 𝓛.H 𝓜 𝓡 wired)
--
--     writes               the shape: what the core returns is stored. `stores`, `answers` and `shows` are the other three
--     0                    how many lifetimes the core has: one for each slice that it is lent
--     with_field           the core is handed the field's value before the arguments; `without`, the arguments alone
--     quire_holds          that the struct holds this field and nothing else, which its crate would show (`Field.Holds`)
--     value posit ∷ []     the arguments: each a type by value, or `slice j tt (uint w8)` for a `&[u8]`, `slice_mut` for a `&mut [u8]`, at the core's lifetime j
--     λ (ws, (p, _)) r _.  the core's fact: of what it is handed, of what it returns, and of what it was handed as that is at exit
--     code.function        the entry's own code, which the checker makes of the source, as it does its key `key.name` and what its routine runs, `code.unfolded`; 𝓛 𝓜 𝓡 are the model that every theorem is over, in whose environment `𝓡.env` names are read, and `wired` says that it has this code
--     _ _ refl             the core's name and routine, which are read off that code
--     core.met             that this core meets a contract with this fact (the core's module `Met`), where the environment has the core's code, as the entry's own has it in `code.calls-..`. Where a ruleset `cores` lists what a crate's entries may call, `search (cores, code.calls-.., wired)` finds it
--
-- An entry that calls another core is refused at `core.met`, or at the search: no core of that name ensures the fact. One with another clause is refused where the contract that the law gives is held to its own. The body has to be the shape's, statement by
-- statement, with `let w = self.0;` before the call or without; where it is not, the refusal says that `code.function` is another function than the law's.
pub mod Solid
pub mod Arg
pub mod Locals
pub mod Args
pub mod Reading
pub mod Again
pub mod Frame
pub mod Field
pub mod Core
pub mod Laying
pub mod Entry
pub mod Lent
