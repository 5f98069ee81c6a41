-- A pattern and its value (1). A posit has es digits of exponent and w digits below its sign: 2 and 31 for P32E2, 0 and 7 for P8E0.
-- A pattern is a number below 2 ^ (w + 1). A size is a value without its sign, and counts units of 2 ^ - u for a u that each use names.
use Rattle.std.specs.Prelude.{Bool, cond, ℕ, zero, suc, ◌+◌, ◌-◌, ◌*◌, ◌/◌, ◌%◌, ◌^◌, ◌<◌, ℤ, pos, negsuc, neg_ℤ, ltb, eqb}

-- (1.2) the pattern that is no number
abbrev pub nar : ℕ → ℕ
nar w = 2 ^ w

-- (1.3) the negative of a pattern: its two's complement
unfoldable pub opposite : ℕ → ℕ → ℕ
opposite w p = (2 ^ suc w - p) % 2 ^ suc w

-- (1.3) the top bit is set, and the pattern is not NaR
abbrev pub is_negative : ℕ → ℕ → Bool
is_negative w p = ltb (nar w) p

-- (1.3) the pattern with its sign off
unfoldable pub unsigned : ℕ → ℕ → ℕ
unsigned w p = cond (is_negative w p) (opposite w p) p

-- (1.3) the pattern of a posit above 0
abbrev pub Positive : ℕ → ℕ → Type 0
Positive w b = (0 < b) × (b < 2 ^ w)

-- The parts of a pattern b above 0, or with its sign off.

-- (1.4) how many of the w digits of b, from the top, are d
unfoldable pub run : ℕ → ℕ → ℕ → ℕ
run d zero b = 0
run d (suc w) b = let more = suc (run d w (b % 2 ^ w)) in cond (eqb (b / 2 ^ w) d) more 0

-- (1.4) the digit of which the run is made, the first one below the sign
abbrev pub first : ℕ → ℕ → ℕ
first w b = b / 2 ^ (w - 1)

-- (1.5) a run of m ones gives k = m - 1, a run of m zeros k = - m
abbrev pub regime_of : ℕ → ℕ → ℤ
regime_of d m = cond (eqb d 1) (pos (m - 1)) (neg_ℤ (pos m))

unfoldable pub regime : ℕ → ℕ → ℤ
regime w b = regime_of (first w b) (run (first w b) w b)

-- (1.6) how many digits follow the run and the digit that ends it
unfoldable pub left : ℕ → ℕ → ℕ
left w b = w - suc (run (first w b) w b)

-- (1.6) Of the l digits t that follow, the first es are e, and missing ones are 0: e is the whole part of t * 2 ^ es / 2 ^ l. The others
-- are the fraction f, in units of 2 ^ - l: what is left of that division.
abbrev pub exponent_of : ℕ → ℕ → ℕ → ℕ
exponent_of es l t = t * 2 ^ es / 2 ^ l

abbrev pub fraction_of : ℕ → ℕ → ℕ → ℕ
fraction_of es l t = t * 2 ^ es % 2 ^ l

unfoldable pub exponent : ℕ → ℕ → ℕ → ℕ
exponent es w b = exponent_of es (left w b) (b % 2 ^ left w b)

unfoldable pub fraction : ℕ → ℕ → ℕ → ℕ
fraction es w b = fraction_of es (left w b) (b % 2 ^ left w b)

-- 2 ^ (2 ^ es * k) is 2 ^ raised es u k units of 2 ^ - u
abbrev pub raised : ℕ → ℕ → ℤ → ℕ
raised es u (pos k) = u + 2 ^ es * k
raised es u (negsuc k) = u - 2 ^ es * suc k

-- (1.7) the size, 2 ^ (2 ^ es * k + e) * (1 + f)
unfoldable pub size : ℕ → ℕ → ℕ → ℕ → ℕ
size es w u b = (2 ^ left w b + fraction es w b) * 2 ^ (raised es u (regime w b) + exponent es w b - left w b)

-- (1.1, 1.3, 1.7) the value of a pattern that is not NaR
unfoldable pub value : ℕ → ℕ → ℕ → ℕ → ℤ
value es w u p = cond (eqb p 0) (pos 0) (cond (is_negative w p) (neg_ℤ (pos (size es w u (opposite w p)))) (pos (size es w u p)))

-- (1.8) the smallest size is 2 ^ - least, and every value a whole multiple of it
abbrev pub least : ℕ → ℕ → ℕ
least es w = 2 ^ es * (w - 1)

-- (1.8) the unit in which sums and products are told, 2 ^ - (2 * least): 2 ^ - 240 for P32E2
abbrev pub unit : ℕ → ℕ → ℕ
unit es w = 2 * least es w
