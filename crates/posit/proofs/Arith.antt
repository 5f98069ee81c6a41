-- Facts on numbers that several files need: remainders of products, powers, one less than the next, a bool as a digit.
use mathlib.Core.Path.{◌≡◌, sym, ap, ◌∙◌}
use mathlib.Core.Bool.{Bool, true, false}
use Prim.Native.Nat.{ℕ, zero, suc, ◌+◌, ◌-◌, ◌*◌, ◌%◌, ◌^◌, ◌<◌}
use native.Mathlib.Nat.{add-zero, mul_comm, mul_assoc, mul-div_cancel, mul-mod_left, mul-zero, mul-suc, pow-zero, pow-suc}
use native.Mathlib.Omega.{arith}
use lib.Arith.{mod-mul}
use lib.Dec.{lit<}
use mir.Val.{bool_byte}
use lib.Pow.{pow-add}

pub suc_sub_one : (n : ℕ) → suc n - 1 ≡ n
suc_sub_one n = omega arith

pub digit_lt : (s : Bool) → bool_byte s < 2
digit_lt true = lit< tt
digit_lt false = lit< tt

pub mul_mod_mul : (a : ℕ) {m c : ℕ} → 0 < m → 0 < c → a * c % (m * c) ≡ a % m * c
mul_mod_mul a {m} {c} h k = rw (mod-mul (a * c) h k, mul-div_cancel a k, mul-mod_left a c, add-zero)

pub mul_mod_mul_left : (a : ℕ) {m c : ℕ} → 0 < m → 0 < c → c * a % (c * m) ≡ c * (a % m)
mul_mod_mul_left a {m} {c} h k = rw (mul_comm c a, mul_comm c m, mul_comm c (a % m)) (mul_mod_mul a h k)

pub pow_sum : (a b c : ℕ) → a + b ≡ c → 2 ^ a * 2 ^ b ≡ 2 ^ c
pow_sum a b c e = sym (pow-add 2 a b) ∙ ap (λ (k : ℕ). 2 ^ k) e

pub pow_mul : (m n : ℕ) → 2 ^ (m * n) ≡ (2 ^ m) ^ n
pow_mul m zero = rw (mul-zero, pow-zero 2, pow-zero (2 ^ m))
pow_mul m (suc n) = rw (mul-suc, pow-add, pow_mul m n, pow-suc)

-- digits move from one power to the other
pub same_power : (z a b c d : ℕ) → a + b ≡ c + d → z * 2 ^ a * 2 ^ b ≡ z * 2 ^ c * 2 ^ d
same_power z a b c d e = mul_assoc z (2 ^ a) (2 ^ b) ∙ ap (λ (n : ℕ). z * n) (pow_sum a b (c + d) e ∙ pow-add 2 c d) ∙ sym (mul_assoc z (2 ^ c) (2 ^ d))
