-- Types of one machine value that own only facts, with their laws: what `Args.antt` and `Lent.antt` need of a type that is passed by value.
--     Solid, row_of     the type and its row.        empty, uint, boolean, array     `()`, an unsigned integer, a bool, and an array of such values.        struct, enum     a declared struct and a declared enum of plain data
--     copied       the last law: a value of the type is read through a `&` (`Denote/Copied.antt`)
use Prim.Native.Nat.{ℕ}
use mathlib.Core.Path.{◌≡◌, refl, subst}
use mathlib.Core.List.{List, [], ◌∷◌, map}
use seplogic.Ra.Ura.{Ura}
use mir.Syntax.{Width, Ty, ty_int, ty_bool, ty_unit, ty_array, Written}
use mir.Val.{Val, vunit, vint, vbool}
use base.Logic.{ent, sep, emp}
use base.Stored.{Coded, coded_list}
use base.Fml.{Fml, Lft}
use types.Logic.{Logic, sem}
use denote.RattleType.{RattleType}
use denote.Shadow.{shadow}
use denote.Laws.{Typed, Copy}
use denote.Copied.{Copied, uint_Copied, bool_Copied, Nothing-Copied, Array-Copied, Copied-at}
use denote.Plain.{UInt, Boolean, Nothing, uint_Tells, uint_Makes, uint_Lawful, uint_copy, bool_Tells, bool_Makes, bool_Lawful, bool-copy, Nothing-Tells, Nothing-Makes, Nothing-Lawful, Nothing-copy}
use denote.Array.{Array, array_val, Array-Tells, Array-Typed, Array-Makes, array_copy}
use denote.Struct.Struct.{Plains, layout}
use denote.Struct.Declared.{Declared, fields, shape, row}
use denote.Struct.Laws as LL
use denote.Enum.Enum.{Few, Plainss, layout as enum_layout}
use denote.Enum.Declared as E
use denote.Enum.Laws as EL
use denote.Lowered.{Lowered}
use denote.Exit.{unchanged}

-- the row of a type of one machine value that is seen at exit as it was passed
abbrev pub row_with : (D : Type 0) → Ty → Written → List (Written × List Ty) → Lft → (D → List Val → Fml) → Coded D → (D → ℕ → ℕ → Lft → Fml) → RattleType
row_with D ty written reaches lives own coded shr = record { Denot = D; mir = ty ∷ []; written = written; reaches = reaches; lives = lives; own_val = own; exit = λ k. unchanged; coded = coded; shr_at = shr }

pub record Solid : Type 2 where
  pub D : Type 0
  pub ty : Ty
  pub written : Written
  pub reaches : List (Written × List Ty)
  pub lives : Lft
  pub own : D → List Val → Fml
  pub coded : Coded D
  pub shr_at : D → ℕ → ℕ → Lft → Fml
  pub val : D → Val
  pub tells : (d : D) (vs : List Val) → shadow (own d vs) → vs ≡ val d ∷ []
  pub typed : {M : Type 1} {𝓤 : Ura M} (𝓛 : Logic 𝓤) → (d : D) (vs : List Val) → shadow (own d vs) → Typed (ty ∷ []) vs
  pub makes : {M : Type 1} {𝓤 : Ura M} (𝓛 : Logic 𝓤) → (d : D) (vs : List Val) → shadow (own d vs) → ent 𝓤 (emp 𝓤) (sem 𝓛 (own d vs))
  pub twice : {M : Type 1} {𝓤 : Ura M} (𝓛 : Logic 𝓤) → (d : D) (vs : List Val) → ent 𝓤 (sem 𝓛 (own d vs)) (sep 𝓤 (sem 𝓛 (own d vs)) (sem 𝓛 (own d vs)))
  pub copied : {M : Type 1} {𝓤 : Ura M} (𝓛 : Logic 𝓤) → Copied 𝓛 (row_with D ty written reaches lives own coded shr_at)

abbrev pub row_of : Solid → RattleType
row_of S = row_with S.D S.ty S.written S.reaches S.lives S.own S.coded S.shr_at

abbrev pub vals : (S : Solid) → S.D → List Val
vals S d = S.val d ∷ []

-- the machine value of d is one of the type
abbrev pub Fits : (S : Solid) → S.D → Type 0
Fits S d = shadow (S.own d (vals S d))

-- whatever machine values d is owned at, they are that one
pub fitted : (S : Solid) (d : S.D) (vs : List Val) → shadow (S.own d vs) → Fits S d
fitted S d vs is = subst (λ (us : List Val). shadow (S.own d us)) (S.tells d vs is) is

abbrev pub copies : (S : Solid) {M : Type 1} {𝓤 : Ura M} (𝓛 : Logic 𝓤) → Copy 𝓛 (row_of S)
copies S 𝓛 = record { twice = S.twice 𝓛 }

abbrev pub empty : Solid
empty = record {
  D = Nothing.Denot;
  ty = ty_unit;
  written = Nothing.written;
  reaches = [];
  lives = [];
  own = Nothing.own_val;
  coded = Nothing.coded;
  shr_at = Nothing.shr_at;
  val = λ _. vunit;
  tells = Nothing-Tells;
  typed = λ 𝓛. (Nothing-Lawful 𝓛).typed;
  makes = λ 𝓛. Nothing-Makes 𝓛;
  twice = λ 𝓛. (Nothing-copy 𝓛).twice;
  copied = λ 𝓛. Nothing-Copied 𝓛;
}

abbrev pub uint : Width → Solid
uint w = record {
  D = ℕ;
  ty = ty_int w;
  written = (UInt w).written;
  reaches = [];
  lives = [];
  own = (UInt w).own_val;
  coded = (UInt w).coded;
  shr_at = (UInt w).shr_at;
  val = vint w;
  tells = uint_Tells w;
  typed = λ 𝓛. (uint_Lawful 𝓛 w).typed;
  makes = λ 𝓛. uint_Makes 𝓛 w;
  twice = λ 𝓛. (uint_copy 𝓛 w).twice;
  copied = λ 𝓛. uint_Copied 𝓛 w;
}

abbrev pub boolean : Solid
boolean = record {
  D = Boolean.Denot;
  ty = ty_bool;
  written = Boolean.written;
  reaches = [];
  lives = [];
  own = Boolean.own_val;
  coded = Boolean.coded;
  shr_at = Boolean.shr_at;
  val = vbool;
  tells = bool_Tells;
  typed = λ 𝓛. (bool_Lawful 𝓛).typed;
  makes = λ 𝓛. bool_Makes 𝓛;
  twice = λ 𝓛. (bool-copy 𝓛).twice;
  copied = λ 𝓛. bool_Copied 𝓛;
}

abbrev pub array : Solid → ℕ → Solid
array S n = record {
  D = List S.D;
  ty = ty_array S.ty n;
  written = (Array (row_of S) n).written;
  reaches = S.reaches;
  lives = S.lives;
  own = (Array (row_of S) n).own_val;
  coded = coded_list S.coded;
  shr_at = (Array (row_of S) n).shr_at;
  val = λ xs. array_val (map S.val xs);
  tells = Array-Tells (row_of S) (vals S) S.tells n;
  typed = λ 𝓛. Array-Typed (row_of S) (S.typed 𝓛) n;
  makes = λ 𝓛. Array-Makes 𝓛 (row_of S) (S.makes 𝓛) n;
  twice = λ 𝓛. (array_copy 𝓛 (row_of S) (copies S 𝓛) n).twice;
  copied = λ 𝓛. Array-Copied 𝓛 (row_of S) (S.copied 𝓛) tt n;
}

-- from the laws that `rattle check` makes of a declared struct
abbrev pub struct : (T : Declared) → LL.Laws T → LL.Lowered T → Plains (fields T) → LL.Copyables T.parts → Solid
struct T L low plain copy = record {
  D = T.D;
  ty = layout (shape T);
  written = (row T).written;
  reaches = (row T).reaches;
  lives = (row T).lives;
  own = (row T).own_val;
  coded = (row T).coded;
  shr_at = (row T).shr_at;
  val = low.lowered;
  tells = low.val_is;
  typed = λ 𝓛. (LL.lawful T L 𝓛).typed;
  makes = λ 𝓛. LL.makes T plain 𝓛;
  twice = λ 𝓛. (LL.copy T copy 𝓛).twice;
  copied = λ 𝓛. Copied-at 𝓛 (row T) (row T).mir (row T).written (row T).reaches (row T).lives (λ k. unchanged) refl (LL.copied T copy 𝓛);
}

-- likewise of a declared enum
abbrev pub enum : (T : E.Declared) → EL.Laws T → Few (E.shape T) → Lowered (E.row T) → Plainss (E.variants T) → EL.Copyabless T.parts → Solid
enum T L few low plain copy = record {
  D = T.D;
  ty = enum_layout (E.shape T);
  written = (E.row T).written;
  reaches = (E.row T).reaches;
  lives = (E.row T).lives;
  own = (E.row T).own_val;
  coded = (E.row T).coded;
  shr_at = (E.row T).shr_at;
  val = low.lowered;
  tells = low.val_is;
  typed = λ 𝓛. (EL.lawful T L 𝓛 few).typed;
  makes = λ 𝓛. EL.makes T plain 𝓛;
  twice = λ 𝓛. (EL.copy T copy 𝓛).twice;
  copied = λ 𝓛. Copied-at 𝓛 (E.row T) (E.row T).mir (E.row T).written (E.row T).reaches (E.row T).lives (λ k. unchanged) refl (EL.copied T copy 𝓛);
}
