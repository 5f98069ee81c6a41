-- What an engine is, and ways for it to be wrong: each says that no engine that is wrong in this way meets the contract that a theorem of one answer is about.
--     NoConstant       none that says the same every time: NaR, a number, or anything else
--     NotAlways        none that says `it` in every case of a kind
--     Never            none that says `it` in every case
--     Excluded         each that meets it does what is demanded; and there are engines that are wrong in a way, of which none does
--     NotAsking        none that asks its caller for `asked`: with that in the place of what the contract asks, it has no theorem of one answer
--     NotAskingLent    the same of a method that is lent a struct
use Rattle.std.specs.Prelude.{◌≡◌, ℕ}
use denote.Triple.Entry.{Args, Res}
use denote.Triple.Clauses.{Ended, Lasts, at_exit}
use Rattle.promises.specs.Contract.{Lifetimes, Before, After, Stated, AsksFor}
use Rattle.one_answer.specs.Fixes.{Fixes, FixesLent}

module _ (T : Ended) where
  -- what is answered, and what is left in what was lent to be changed
  abbrev pub Engine : Type 0
  Engine = (κs : Lifetimes T) (a : Args T.signature κs) → Res T.signature κs × Lasts T κs a

  abbrev pub Meets : Before T → After T → Engine → Type 0
  Meets Pre Post e = (κs : Lifetimes T) (a : Args T.signature κs) → Pre κs a → Post κs a (e κs a).0 (at_exit T κs a (e κs a).1)

  -- what is looked at in what an engine did: a number
  abbrev pub Look : Type 0
  Look = (κs : Lifetimes T) (a : Args T.signature κs) → Res T.signature κs → Lasts T κs a → ℕ

  -- a number for each argument
  abbrev pub Expected : Type 0
  Expected = (κs : Lifetimes T) → Args T.signature κs → ℕ

  abbrev pub seen : Look → Engine → Expected
  seen look e κs a = look κs a (e κs a).0 (e κs a).1

pub record NoConstant {T : Ended} {Pre : Before T} {Post : After T} (of : Fixes T Pre Post) (look : Look T) : Type 0 where
  pub refuted : (e : Engine T) → Meets T Pre Post e → ((κs : Lifetimes T) (a b : Args T.signature κs) → seen T look e κs a ≡ seen T look e κs b) → ⊥

pub record NotAlways {T : Ended} {Pre : Before T} {Post : After T} (of : Fixes T Pre Post) (look : Look T) (kind : Before T) (it : Expected T) : Type 0 where
  pub refuted : (e : Engine T) → Meets T Pre Post e → ((κs : Lifetimes T) (a : Args T.signature κs) → kind κs a → seen T look e κs a ≡ it κs a) → ⊥

abbrev pub Never : {T : Ended} {Pre : Before T} {Post : After T} → Fixes T Pre Post → Look T → Expected T → Type 0
Never of look it = NotAlways of look (λ κs a. Unit {0}) it

pub record NotAsking {T : Ended} {Pre : Before T} {Post : After T} (of : Fixes T Pre Post) (asked : Before T) : Type 0 where
  pub refuted : Fixes T asked Post → ⊥

pub record NotAskingLent {T : Ended} {clauses : Stated T} (of : FixesLent T clauses) (asked : Before T) : Type 2 where
  pub some : (others : Stated T) × AsksFor T others asked
  pub refuted : (others : Stated T) → AsksFor T others asked → FixesLent T others → ⊥

pub record Excluded {T : Ended} {Pre : Before T} {Post : After T} (of : Fixes T Pre Post) (demanded wrong : Engine T → Type 0) : Type 0 where
  pub met : (e : Engine T) → Meets T Pre Post e → demanded e
  pub some : (e : Engine T) × wrong e
  pub refuted : (e : Engine T) → demanded e → wrong e → ⊥
