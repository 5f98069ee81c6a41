-- The lines of a text.
use Rattle.std.specs.Prelude.{ℕ, ◌≡◌, ◌≢◌, ◌⊎◌, List, [], ◌∷◌, ◌++◌, drop}
use Rattle.std.specs.List.{All}

-- a text begins with this line, which has no line end within it, and this rest follows the line's end; or the text is this line, without an end, and nothing follows
pub record IsFirstLine (text line rest : List ℕ) : Type 0 where
  pub unbroken : All (λ c. c ≢ 10) line
  pub whole : (text ≡ line ++ 10 ∷ rest) ⊎ ((text ≡ line) × (rest ≡ []))

-- a line end stands at place n of a text, and this rest follows it; or the text ends there, and nothing follows
abbrev pub IsBehind : List ℕ → ℕ → List ℕ → Type 0
IsBehind text n rest = (drop n text ≡ 10 ∷ rest) ⊎ ((drop n text ≡ []) × (rest ≡ []))
