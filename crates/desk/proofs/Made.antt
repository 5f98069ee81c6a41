-- What `array::from_fn` makes with a function that keeps nothing between its calls: at each place stands what a call at it gave.
use mathlib.Core.Path.{◌≡◌, sym, subst}
use mathlib.Core.List.{List}
use Prim.Native.Nat.{ℕ, zero, suc, ◌+◌, ◌<◌, ◌≤◌}
use native.Mathlib.Decide.{dec_lt}
use native.Mathlib.Omega.{arith}
use denote.Param.Members.{Mut, Called}
use lib.ListN.{get_or}
use Rattle.std.specs.Array.{IsFromFnResult, IsFromFnResultFrom}

module _ {F B : Type 0} (g : Mut F (ℕ × Unit {0}) B) (f : F) (P : ℕ → B → Type 0) (gives : (k : ℕ) (y : B) (q : F) → Called g f (k, tt) y q → (q ≡ f) × P k y) (ys : List B) where
  made_from : (n i : ℕ) → IsFromFnResultFrom g f ys i n → (k : ℕ) (d : B) → i ≤ k → k < i + n → P k (get_or ys k d)
  made_from zero i each k d l h = absurd (omega arith)
  made_from (suc n) i (q, y, at, called, rest) k d l h = go (dec_lt i k) (λ s e. made_from n (i + 1) e k d (omega arith) (omega arith))
    where
      go : Dec (i < k) → (i < k → IsFromFnResultFrom g f ys (i + 1) n → P k (get_or ys k d)) → P k (get_or ys k d)
      go (yes s) later = later s (subst (λ e. IsFromFnResultFrom g e ys (i + 1) n) (gives i y q called).0 rest)
      go (no s) later =
          let here : i ≡ k = omega arith in
          subst (λ j. P j (get_or ys j d)) here (subst (P i) (sym (at.1 d)) (gives i y q called).1)

  pub made : (n : ℕ) → IsFromFnResult g f ys n → (k : ℕ) (d : B) → k < n → P k (get_or ys k d)
  made n r k d h = made_from n 0 r.each k d (omega arith) (omega arith)
