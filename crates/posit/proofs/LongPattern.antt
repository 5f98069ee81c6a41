-- The long_pattern law. Take a pattern of j digits too many whose size is at most x, with x below the next one's. The rounding of x is then told by its digit
-- string alone: the digits that fit, one more if the first digit cut off is 1 and anything follows it (or, at a tie, to make the last one even),
-- kept between the smallest and the largest pattern. So no operation reasons about values near a cut: it builds digits and a sticky bit.
use mathlib.Core.Path.{◌≡◌, sym, ap, ◌∙◌, subst}
use mathlib.Core.Bool.{Bool, true, false, cond, ◌||◌, or-true, or-false}
use Prim.Native.Nat.{ℕ, zero, suc, ◌+◌, ◌-◌, ◌*◌, ◌/◌, ◌%◌, ◌^◌, ◌≤◌, ◌<◌, min, max}
use native.Mathlib.Nat.{add-zero, add-suc, mul-one, pow-suc, mul_left_comm, pow-succ' as pow-suc', mul-pos, mul-lt-mul_of_pos_right, mul-le-mul_left, le_trans, lt_of_lt_of_le, div-add-mod', mod-lt}
use native.Mathlib.Numerals.{add-one}
use native.Mathlib.Decide.{dec_lt, ℕ_discrete}
use native.Mathlib.Omega.{arith}
use borrow.Author.Tests.{lt-ltb, le-ltb, eq-eqb, ne_eqb}
use lib.Dec.{eqb, ltb}
use lib.Pow.{pow_pos, pow-add, pow_mono, shr_lt}
use Rattle.posit.specs.Pattern.{size, least}
use Rattle.posit.specs.Exact.{Exact, Sound, bound, told, above}
use Rattle.posit.specs.Rounding.{cut, nearer, round}
use Rattle.posit.proofs.Compare.{told_lt, told_le}
use Rattle.posit.proofs.Size.{size_lt, size_le, size_double}
use Rattle.posit.proofs.Below.{Brackets}
use Rattle.posit.proofs.Rounding.{fine_here, at_none, at_last, at_inner, nearer_up, nearer_tie, nearer_down}

-- Round half to even: h has one digit too many, and `more` says whether anything follows it.
unfoldable pub half_even : ℕ → Bool → ℕ
half_even h more = cond (eqb (h % 2) 0) (h / 2) (cond more (suc (h / 2)) (h / 2 + h / 2 % 2))

-- never 0, and never beyond the largest pattern
abbrev pub clamped : ℕ → ℕ → ℕ
clamped w p = max 1 (min (2 ^ w - 1) p)

-- ---- digits 0 at the end

finer_width : (es w j u : ℕ) → least es (w + j) ≤ u → least es w ≤ u
finer_width es w j u h = le_trans (mul-le-mul_left (2 ^ es) (omega arith)) h

shifted_lt : (w j b : ℕ) → b < 2 ^ w → b * 2 ^ j < 2 ^ (w + j)
shifted_lt w j b h = rw (pow-add) (mul-lt-mul_of_pos_right h (pow_pos j))

pub size_shifted : (es w u b : ℕ) → 0 < b → b < 2 ^ w → (j : ℕ) → least es (w + j) ≤ u → size es (w + j) u (b * 2 ^ j) ≡ size es w u b
size_shifted es w u b z k zero h = rw (add-zero, mul-one)
size_shifted es w u b z k (suc j) h =
    let h' : least es (suc (w + j)) ≤ u = rw add-suc at h in
    let e : b * 2 ^ suc j ≡ 2 * (b * 2 ^ j) = rw (pow-suc') (mul_left_comm b 2 (2 ^ j)) in
    rw (add-suc, e)
    (size_double es u (w + j) (b * 2 ^ j) (mul-pos z (pow_pos j)) (shifted_lt w j b k) h' ∙ size_shifted es w u b z k j (fine_here es (w + j) u h'))

-- ---- digits cut off

module _ (es w j u : ℕ) (fine : least es (w + j) ≤ u) (x : Exact) (sound : Sound x) (Q : ℕ) (b : Brackets es (w + j) u x Q) where
  parted : Q / 2 ^ j * 2 ^ j + Q % 2 ^ j ≡ Q
  parted = div-add-mod' Q (2 ^ j)

  rest_lt : Q % 2 ^ j < 2 ^ j
  rest_lt = mod-lt Q (pow_pos j)

  -- the size of a short pattern, told by the long one
  longer : (p : ℕ) → 0 < p → p < 2 ^ w → size es w u p ≡ size es (w + j) u (p * 2 ^ j)
  longer p z k = sym (size_shifted es w u p z k j fine)

  kept_lt : Q / 2 ^ j < 2 ^ w
  kept_lt = shr_lt w j b.short

  pub cut_brackets : Brackets es w u x (Q / 2 ^ j)
  cut_brackets =
      record {
        short = kept_lt;
        low = λ z.
            rw (longer (Q / 2 ^ j) z kept_lt)
            (le_trans
            (told_le x sound (size_le es u (w + j) fine (Q / 2 ^ j * 2 ^ j) Q (mul-pos z (pow_pos j)) (omega (arith, parted)) b.short))
            (b.low (omega (arith, parted, mul-pos z (pow_pos j)))));
        high = λ k.
            let room = shifted_lt w j (suc (Q / 2 ^ j)) k in
            let next : suc Q ≤ suc (Q / 2 ^ j) * 2 ^ j = omega (arith, parted, rest_lt) in
            rw (longer (suc (Q / 2 ^ j)) (omega arith) k)
            (lt_of_lt_of_le (b.high (omega arith)) (told_le x sound (size_le es u (w + j) fine (suc Q) (suc (Q / 2 ^ j) * 2 ^ j) (omega arith) next room)));
      }

  pub cut_sticky : 0 < Q / 2 ^ j → above x (size es w u (Q / 2 ^ j)) ≡ (above x (size es (w + j) u Q) || ltb 0 (Q % 2 ^ j))
  cut_sticky z = go (dec_lt 0 (Q % 2 ^ j))
    where
      go : Dec (0 < Q % 2 ^ j) → above x (size es w u (Q / 2 ^ j)) ≡ (above x (size es (w + j) u Q) || ltb 0 (Q % 2 ^ j))
      go (yes r) =
          let grows = size_lt es u (w + j) fine (Q / 2 ^ j * 2 ^ j) Q (mul-pos z (pow_pos j)) (omega (arith, parted)) b.short in
          let over = lt_of_lt_of_le (told_lt x sound grows) (b.low (omega (arith, parted, mul-pos z (pow_pos j)))) in
          rw (longer (Q / 2 ^ j) z kept_lt, lt-ltb _ _ over, lt-ltb 0 (Q % 2 ^ j) r, or-true)
      go (no r) =
          let same : Q / 2 ^ j * 2 ^ j ≡ Q = omega (arith, parted) in
          rw (longer (Q / 2 ^ j) z kept_lt, same, le-ltb 0 (Q % 2 ^ j) (omega arith), or-false)

-- ---- the last digit

pub even_stays : (h : ℕ) (more : Bool) → h % 2 ≡ 0 → half_even h more ≡ h / 2
unfolding half_even
even_stays h more e = rw (eq-eqb (h % 2) 0 e)

pub more_goes_up : (h : ℕ) → h % 2 ≡ 1 → half_even h true ≡ suc (h / 2)
unfolding half_even
more_goes_up h e = rw (ne_eqb (h % 2) 0 (λ d. omega arith))

pub tie_goes_even : (h : ℕ) → h % 2 ≡ 1 → half_even h false ≡ h / 2 + h / 2 % 2
unfolding half_even
tie_goes_even h e = rw (ne_eqb (h % 2) 0 (λ d. omega arith))

-- one of two neighbours
pub near : (h : ℕ) (more : Bool) → (h / 2 ≤ half_even h more) × (half_even h more ≤ suc (h / 2))
near h more = go (ℕ_discrete (h % 2) 0) more
  where
    go : Dec (h % 2 ≡ 0) → (more : Bool) → (h / 2 ≤ half_even h more) × (half_even h more ≤ suc (h / 2))
    go (yes e) more = omega (arith, even_stays h more e)
    go (no e) true = omega (arith, more_goes_up h (omega arith))
    go (no e) false = omega (arith, tie_goes_even h (omega arith))

module _ (es w u : ℕ) (fine : least es (suc w) ≤ u) (x : Exact) (sound : Sound x) (h : ℕ) (b : Brackets es (suc w) u x h) where
  kept : Brackets es w u x (h / 2)
  kept = cut_brackets es w 1 u (rw add-one fine) x sound h (rw add-one b)

  nearer_digit : 0 < h / 2 → suc (h / 2) < 2 ^ w → nearer es w u x (h / 2) ≡ half_even h (above x (size es (suc w) u h))
  unfolding cut
  nearer_digit z k = go (ℕ_discrete (h % 2) 0)
    where
      cut_at : {p : ℕ} → p ≡ 2 * (h / 2) + 1 → cut es w u (h / 2) ≡ size es (suc w) u p
      cut_at e = ap (size es (suc w) u) (sym e)

      odd : h % 2 ≡ 1 → Dec (told x (size es (suc w) u h) < bound x) → nearer es w u x (h / 2) ≡ half_even h (above x (size es (suc w) u h))
      odd e (yes a) =
          nearer_up es w u fine x (h / 2) (rw (cut_at {p = h} (omega arith)) a) ∙ sym (rw (lt-ltb _ _ a) (more_goes_up h e))
      odd e (no a) =
          nearer_tie es w u fine x (h / 2) (rw (cut_at {p = h} (omega arith)) (omega (arith, b.low (omega arith))))
          ∙ sym (rw (le-ltb (told x (size es (suc w) u h)) (bound x) (omega arith)) (tie_goes_even h e))

      go : Dec (h % 2 ≡ 0) → nearer es w u x (h / 2) ≡ half_even h (above x (size es (suc w) u h))
      go (yes e) = nearer_down es w u fine x (h / 2) (rw (cut_at {p = suc h} (omega arith)) (b.high (omega (arith, pow-suc 2 w)))) ∙ sym (even_stays h _ e)
      go (no e) = odd (omega arith) (dec_lt (told x (size es (suc w) u h)) (bound x))

  pub last_digit : 0 < w → round es w u x ≡ clamped w (half_even h (above x (size es (suc w) u h)))
  last_digit v = go (dec_lt 0 (h / 2)) (dec_lt (suc (h / 2)) (2 ^ w))
    where
      bounds : (h / 2 ≤ half_even h (above x (size es (suc w) u h))) × (half_even h (above x (size es (suc w) u h)) ≤ suc (h / 2))
      bounds = near h (above x (size es (suc w) u h))

      go : Dec (0 < h / 2) → Dec (suc (h / 2) < 2 ^ w) → round es w u x ≡ clamped w (half_even h (above x (size es (suc w) u h)))
      go (no z) k = at_none es w u fine x sound (subst (Brackets es w u x) (omega arith) kept) ∙ omega (arith, bounds.1, pow_mono v)
      go (yes z) (no k) =
          at_last es w u fine x sound v (subst (Brackets es w u x) (omega (arith, kept.short)) kept) ∙ omega (arith, bounds.0, kept.short)
      go (yes z) (yes k) =
          at_inner es w u fine x sound z k kept ∙ nearer_digit z k ∙ omega (arith, bounds.0, bounds.1)

-- ---- the law

module _ (es w j u : ℕ) (fine : least es (suc w + j) ≤ u) (v : 0 < w) (x : Exact) (sound : Sound x) (Q : ℕ) (b : Brackets es (suc w + j) u x Q) where
  pub long_pattern : round es w u x ≡ clamped w (half_even (Q / 2 ^ j) (above x (size es (suc w + j) u Q) || ltb 0 (Q % 2 ^ j)))
  long_pattern = shorter ∙ ap (clamped w) (go (dec_lt 0 (Q / 2 ^ j)))
    where
      shorter : round es w u x ≡ clamped w (half_even (Q / 2 ^ j) (above x (size es (suc w) u (Q / 2 ^ j))))
      shorter = last_digit es w u (finer_width es (suc w) j u fine) x sound (Q / 2 ^ j) (cut_brackets es (suc w) j u fine x sound Q b) v

      go : Dec (0 < Q / 2 ^ j)
          → half_even (Q / 2 ^ j) (above x (size es (suc w) u (Q / 2 ^ j))) ≡ half_even (Q / 2 ^ j) (above x (size es (suc w + j) u Q) || ltb 0 (Q % 2 ^ j))
      go (yes z) = ap (half_even (Q / 2 ^ j)) (cut_sticky es (suc w) j u fine x sound Q b z)
      go (no z) = even_stays (Q / 2 ^ j) _ (omega arith) ∙ sym (even_stays (Q / 2 ^ j) _ (omega arith))
