-- The rounding function meets the relation (`round_meets`), and the relation has no other answer (`round_only`): both by the pattern just below x, of
-- which there is one. From the second, a pattern's own size is rounded to the pattern (`round_own`).
use mathlib.Core.Path.{◌≡◌, refl, sym, ◌∙◌, subst}
use mathlib.Core.Logic.{inl, inr, ⊎_elim}
use Prim.Native.Nat.{ℕ, suc, ◌+◌, ◌-◌, ◌*◌, ◌%◌, ◌^◌, ◌≤◌, ◌<◌}
use native.Mathlib.Nat.{pow-suc, le_trans, mul-le-mul_left, lt_trans, le_of_lt}
use native.Mathlib.Decide.{dec_lt, ℕ_discrete}
use native.Mathlib.Omega.{arith}
use borrow.Author.Tests.{lt-ltb, le-ltb, le-leb, lt-leb, eq-eqb, ne_eqb}
use lib.Pow.{pow_pos, pow_mono}
use Rattle.posit.specs.Pattern.{Positive, size, least, unit}
use Rattle.posit.specs.Exact.{Exact, Sound, bound, told, Above, Under, Just}
use Rattle.posit.specs.Rounding.{cut, below, nearer, round, Between, Down, Rounds, itself, largest, smallest, lower, upper}
use Rattle.posit.proofs.Compare.{told_lt, told_lt_back}
use Rattle.posit.proofs.Size.{size_lt, size_lt_back, size_double}
use Rattle.posit.proofs.Below.{Brackets, below_brackets, bracket_one}

-- less, equal or more
by_order : {A : Type 0} (a b : ℕ) → (a < b → A) → (a ≡ b → A) → (b < a → A) → A
by_order {A} a b f g h = go (dec_lt a b) (dec_lt b a)
  where
    go : Dec (a < b) → Dec (b < a) → A
    go (yes p) q = f p
    go (no p) (yes q) = h q
    go (no p) (no q) = g (omega arith)

-- the unit of the definitions is fine enough for the posit one digit longer
pub unit_fine : (es w : ℕ) → 2 ≤ w → least es (suc w) ≤ unit es w
unit_fine es w v = omega (arith, mul-le-mul_left {m = suc w - 1} {n = 2 * (w - 1)} (2 ^ es) (omega arith))

module _ (es w u : ℕ) (fine : least es (suc w) ≤ u) where
  pub fine_here : least es w ≤ u
  fine_here = le_trans (mul-le-mul_left (2 ^ es) (omega arith)) fine

  -- the cut lies above its pattern
  cut_over : (p : ℕ) → 0 < p → p < 2 ^ w → size es w u p < cut es w u p
  unfolding cut
  cut_over p z k =
      subst (λ (s : ℕ). s < size es (suc w) u (2 * p + 1)) (size_double es u w p z k fine)
      (size_lt es u (suc w) fine (2 * p) (2 * p + 1) (omega arith) (omega arith) (omega (arith, pow-suc 2 w)))

  module _ (x : Exact) (p : ℕ) where
    pub nearer_up : Above x (cut es w u p) → nearer es w u x p ≡ suc p
    unfolding nearer
    nearer_up h = rw (lt-ltb (told x (cut es w u p)) (bound x) h)

    pub nearer_tie : Just x (cut es w u p) → nearer es w u x p ≡ p + p % 2
    unfolding nearer
    nearer_tie h = rw (le-ltb (told x (cut es w u p)) (bound x) (omega arith), le-leb (told x (cut es w u p)) (bound x) (omega arith))

    pub nearer_down : Under x (cut es w u p) → nearer es w u x p ≡ p
    unfolding nearer
    nearer_down h = rw (le-ltb (told x (cut es w u p)) (bound x) (omega arith), lt-leb (told x (cut es w u p)) (bound x) h)

  module _ (x : Exact) (sound : Sound x) where
    -- what `round` answers, by the pattern that brackets x
    below_is : {p : ℕ} → Brackets es w u x p → below es w u x ≡ p
    below_is b = bracket_one es w u x sound fine_here (below_brackets es w u x) b

    pub at_none : Brackets es w u x 0 → round es w u x ≡ 1
    unfolding round
    at_none b = rw (below_is b)

    pub at_last : 0 < w → Brackets es w u x (2 ^ w - 1) → round es w u x ≡ 2 ^ w - 1
    unfolding round
    at_last z b = rw (below_is b, ne_eqb (2 ^ w - 1) 0 (λ e. omega (arith, pow_mono z)), eq-eqb (2 ^ w - 1) (2 ^ w - 1) refl)

    pub at_inner : {p : ℕ} → 0 < p → suc p < 2 ^ w → Brackets es w u x p → round es w u x ≡ nearer es w u x p
    unfolding round
    at_inner {p} z k b = rw (below_is b, ne_eqb p 0 (λ e. omega arith), ne_eqb p (2 ^ w - 1) (λ e. omega arith))

    -- ---- the function meets the relation

    as_answer : {p : ℕ} → round es w u x ≡ p → Rounds es w u x p → Rounds es w u x (round es w u x)
    as_answer e r = rw e r

    module _ (p : ℕ) (z : 0 < p) (k : suc p < 2 ^ w) (b : Brackets es w u x p) where
      neighbours : Above x (size es w u p) → Between es w u x p (suc p)
      neighbours h =
          record {
            from = (z, omega arith);
            to = (omega arith, k);
            over = h;
            under = b.high k;
            next = λ r y m n. omega (arith, size_lt_back es u w fine_here p r y.0 (omega arith) m, size_lt_back es u w fine_here r (suc p) (omega arith) y.1 n);
          }

      own : Just x (size es w u p) → nearer es w u x p ≡ p
      own h = nearer_down x p (omega (arith, told_lt x sound (cut_over p z (omega arith))))

      tie_meets : Above x (size es w u p) → Just x (cut es w u p) → Dec (p % 2 ≡ 0) → Rounds es w u x (round es w u x)
      tie_meets over h (yes even) =
          as_answer (at_inner z k b ∙ nearer_tie x p h ∙ omega arith) (lower p (suc p) (neighbours over) (inr (h, even)))
      tie_meets over h (no odd) =
          as_answer (at_inner z k b ∙ nearer_tie x p h ∙ omega arith)
          (upper p (suc p) (neighbours over) (⊎_elim (λ d. omega arith) (λ d. odd d.1)))

      inner_meets : Rounds es w u x (round es w u x)
      inner_meets =
          by_order (told x (size es w u p)) (bound x)
          (λ over.
          by_order (told x (cut es w u p)) (bound x)
          (λ h. as_answer (at_inner z k b ∙ nearer_up x p h) (upper p (suc p) (neighbours over) (⊎_elim (λ d. omega arith) (λ d. omega arith))))
          (λ h. tie_meets over h (ℕ_discrete (p % 2) 0))
          (λ h. as_answer (at_inner z k b ∙ nearer_down x p h) (lower p (suc p) (neighbours over) (inl h))))
          (λ just. as_answer (at_inner z k b ∙ own just) (itself p (z, omega arith) just))
          (λ h. absurd (omega (arith, b.low z)))

    -- nothing lies below the smallest pattern or beyond the largest
    outer_meets : 0 < w → (p : ℕ) → Brackets es w u x p → Rounds es w u x (round es w u x)
    outer_meets v p b = go (dec_lt 0 p) (dec_lt (suc p) (2 ^ w))
      where
        go : Dec (0 < p) → Dec (suc p < 2 ^ w) → Rounds es w u x (round es w u x)
        go (no z) k =
            let b' : Brackets es w u x 0 = subst (Brackets es w u x) (omega arith) b in
            as_answer (at_none b') (smallest (b'.high (omega (arith, pow_mono v))))
        go (yes z) (yes k) = inner_meets p z k b
        go (yes z) (no k) =
            let b' : Brackets es w u x (2 ^ w - 1) = subst (Brackets es w u x) (omega (arith, b.short)) b in
            let low = b'.low (omega (arith, b.short)) in
            as_answer (at_last v b')
            (by_order (told x (size es w u (2 ^ w - 1))) (bound x) largest (itself (2 ^ w - 1) (omega (arith, b.short), b'.short)) (λ h. absurd (omega arith)))

    pub round_meets : 0 < w → Rounds es w u x (round es w u x)
    round_meets v = outer_meets v (below es w u x) (below_brackets es w u x)

    -- ---- the relation has no other answer

    exactly : (p : ℕ) → Positive w p → Just x (size es w u p) → Brackets es w u x p
    exactly p k h =
        record {
          short = k.1;
          low = λ _. omega arith;
          high = λ m. omega (arith, told_lt x sound (size_lt es u w fine_here p (suc p) k.0 (omega arith) m));
        }

    -- of the neighbours of x one is the pattern after the other
    next_pattern : (p q : ℕ) → Between es w u x p q → q ≡ suc p
    next_pattern p q n = go (dec_lt (suc p) q)
      where
        after : p < q
        after = size_lt_back es u w fine_here p q n.to.0 n.from.1 (told_lt_back x sound (lt_trans n.over n.under))

        go : Dec (suc p < q) → q ≡ suc p
        go (yes l) =
            absurd
            (n.next (suc p) (omega arith, omega (arith, n.to.1))
            (size_lt es u w fine_here p (suc p) n.from.0 (omega arith) (omega (arith, n.to.1)))
            (size_lt es u w fine_here (suc p) q (omega arith) l n.to.1))
        go (no l) = omega (arith, after)

    module _ (p q : ℕ) (n : Between es w u x p q) where
      between : Brackets es w u x p
      between = record { short = n.from.1; low = λ _. le_of_lt n.over; high = λ _. rw (← next_pattern p q n) n.under }

      to_nearer : round es w u x ≡ nearer es w u x p
      to_nearer = at_inner n.from.0 (rw (← next_pattern p q n) n.to.1) between

      not_down : (Down es w u x p → ⊥) → nearer es w u x p ≡ suc p
      not_down d =
          by_order (told x (cut es w u p)) (bound x)
          (nearer_up x p)
          (λ h. nearer_tie x p h ∙ odd (λ even. d (inr (h, even))))
          (λ h. absurd (d (inl h)))
        where
          odd : (p % 2 ≡ 0 → ⊥) → p + p % 2 ≡ suc p
          odd e = omega arith

    pub round_only : 0 < w → {p : ℕ} → Rounds es w u x p → round es w u x ≡ p
    round_only v (itself p k h) = go (dec_lt (suc p) (2 ^ w))
      where
        go : Dec (suc p < 2 ^ w) → round es w u x ≡ p
        go (yes l) = at_inner k.0 l (exactly p k h) ∙ own p k.0 l (exactly p k h) h
        go (no l) =
            let e : p ≡ 2 ^ w - 1 = omega (arith, k.1) in
            at_last v (subst (Brackets es w u x) e (exactly p k h)) ∙ sym e
    round_only v (largest h) =
        at_last v (record { short = omega (arith, pow_pos w); low = λ _. le_of_lt h; high = λ m. omega arith })
    round_only v (smallest h) = at_none (record { short = pow_pos w; low = λ z. omega arith; high = λ m. h })
    round_only v (lower p q n d) =
        to_nearer p q n ∙ ⊎_elim (nearer_down x p) (λ e. nearer_tie x p e.0 ∙ omega (arith, e.1)) d
    round_only v (upper p q n d) = to_nearer p q n ∙ not_down p q n d ∙ sym (next_pattern p q n)

    pub round_one : 0 < w → {p q : ℕ} → Rounds es w u x p → Rounds es w u x q → p ≡ q
    round_one v a b = sym (round_only v a) ∙ round_only v b

    -- the size of a pattern is rounded to the pattern
    pub round_own : 0 < w → (p : ℕ) → Positive w p → Just x (size es w u p) → round es w u x ≡ p
    round_own v p k h = round_only v (itself p k h)
