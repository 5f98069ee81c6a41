-- What it means that a history was run: each step has met the contract that was made of the public function which takes it, and so have the clear state at
-- the start and the image at the end. Each step, each writer and each reader may be taken by a way of its own, and a history that is joined is run in an accumulator of its own.
use Rattle.std.specs.Prelude.{◌≡◌, List, ℕ, ◌≤◌, length, take}
use Rattle.posit.specs.Digits.{InBase}
use Rattle.desk.proofs.image.image_of.Reads as image_of
use Rattle.promises.specs.History.{History, begun, ◌then◌, Step, move, negate, drop_sign, turn, Operand, a_posit, a_product, a_history, Direction, Keeps}
use Rattle.promises.specs.Ways.{Way, EightWords, a_pattern, a_pair, an_accumulator, Beginning, Begun, Moved, Negated, SignDropped}
use Rattle.promises.specs.Asked.{Writing, Reading}

-- the buffer has 64 bytes or more
abbrev pub Wide : List ℕ → Type 0
Wide buffer = (64 ≤ length buffer) × InBase 256 buffer

-- the image is made by `image_of`, or written into a buffer that is wide enough
pub data Writer : Type 0 where
  made : Writer
  written_into : Way → (buffer : List ℕ) → Wide buffer → Writer

-- the words q have the image bs, which is the first 64 bytes that are left in a buffer
abbrev pub ImageOf : Writer → List ℕ → List ℕ → Type 0
ImageOf made q bs = image_of.Post tt (q, tt) bs (q, tt)
ImageOf (written_into way buffer wide) q bs = (left : List ℕ) × Writing way q buffer 0 left × (take 64 left ≡ bs)

-- of the bytes bs the words r were read, whatever the eight words before
abbrev pub ReadOf : Way → List ℕ → List ℕ → Type 0
ReadOf way bs r = (before : List ℕ) × EightWords before × Reading way before bs 0 r

-- ---- routes

-- how a history is run: how its accumulator is begun, by which way each operand is added or taken, each negative had and each sign dropped, by which writer and reader it is
-- turned through its image, and how each history that it joins is run
abbrev mutual
  pub Routes : History → Type 0
  Routes begun = Beginning
  Routes (h then s) = Routes h × Route s

  pub Route : Step → Type 0
  Route (move d x) = Way × RoutesIn x
  Route negate = Way
  Route drop_sign = Way
  Route turn = Writer × Way

  pub RoutesIn : Operand → Type 0
  RoutesIn (a_posit p) = Unit {0}
  RoutesIn (a_product a b) = Unit {0}
  RoutesIn (a_history k) = Routes k

-- ---- runs

abbrev mutual
  -- by the routes, the history leads to the words z
  pub Runs : (h : History) → Routes h → List ℕ → Type 0
  Runs begun from z = Begun from z
  Runs (h then s) (routes, by) z = (q : List ℕ) × Runs h routes q × Leads s by q z

  -- from the words q, the step leads to the words r
  pub Leads : (s : Step) → Route s → List ℕ → List ℕ → Type 0
  Leads (move d x) (way, routes) q r = MovedBy x routes way d q r
  Leads negate way q r = Negated way q r
  Leads drop_sign way q r = SignDropped way q r
  Leads turn (writer, reader) q r = (bs : List ℕ) × ImageOf writer q bs × ReadOf reader bs r

  -- a history that is joined is run, and its words are handed over
  pub MovedBy : (x : Operand) → RoutesIn x → Way → Direction → List ℕ → List ℕ → Type 0
  MovedBy (a_posit p) routes way d q r = Moved way d (a_pattern p) q r
  MovedBy (a_product a b) routes way d q r = Moved way d (a_pair a b) q r
  MovedBy (a_history k) routes way d q r = (p : List ℕ) × Runs k routes p × Moved way d (an_accumulator p) q r

-- by some routes, the history leads to an accumulator whose image is bs
pub record Image (h : History) (bs : List ℕ) : Type 0 where
  pub routes : Routes h
  pub end : List ℕ
  pub runs : Runs h routes end
  pub writer : Writer
  pub shows : ImageOf writer end bs

-- a history that keeps both premises and whose image is bs
pub record Reached (bs : List ℕ) : Type 0 where
  pub history : History
  pub keeps : Keeps history
  pub shows : Image history bs
