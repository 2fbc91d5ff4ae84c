-- A quotient taken in two steps, and its rounding, halves up; for any numerator and any divisor.
-- Assumes nothing.
use mathlib.Core.Path.{◌≡◌, sym}
use Prim.Native.Nat.{ℕ, ◌+◌, ◌*◌, ◌/◌, ◌%◌, ◌≤◌, ◌<◌}
use native.Mathlib.Nat.{div-add-mod', add-mul, mul_right_comm, mul_left_comm, mul_assoc, div-mul-le_self, lt-div-mul-add, mod-lt, mul-le-mul_left, div-eq_of_lt-le, div-lt_iff_lt-mul}
use native.Mathlib.Omega.{arith}
use Rattle.factor.specs.Factor.{nearest_fraction}

-- what is left after two steps of long division
pub long_division : (x d : ℕ) → x * 1000 ≡ (x / d * 1000 + x % d * 1000 / d) * d + x % d * 1000 % d
long_division x d =
    omega (arith, div-add-mod' x d, div-add-mod' (x % d * 1000) d, add-mul (x / d * 1000) (x % d * 1000 / d) d, mul_right_comm (x / d) 1000 d)

-- only one whole number is nearest
pub nearest_only : (n d f : ℕ) → 2 * (f * d) ≤ 2 * n + d → 2 * n + d < 2 * ((f + 1) * d) → f ≡ nearest_fraction n d
unfolding nearest_fraction
nearest_only n d f a b = sym (div-eq_of_lt-le (2 * d) (omega (arith, mul_left_comm f 2 d)) (omega (arith, mul_left_comm (f + 1) 2 d)))

pub round_down : (n d q r : ℕ) → n ≡ q * d + r → 2 * r < d → q ≡ nearest_fraction n d
round_down n d q r e h = nearest_only n d q (omega arith) (omega (arith, add-mul q 1 d))

pub round_up : (n d q r : ℕ) → n ≡ q * d + r → r < d → d ≤ 2 * r → q + 1 ≡ nearest_fraction n d
round_up n d q r e b h = nearest_only n d (q + 1) (omega (arith, add-mul q 1 d)) (omega (arith, add-mul q 1 d, add-mul (q + 1) 1 d))

-- a fraction just between two whole numbers goes to the upper one
pub halves_up : (n d q : ℕ) → 0 < d → 2 * n ≡ (2 * q + 1) * d → nearest_fraction n d ≡ q + 1
halves_up n d q h e = sym (nearest_only n d (q + 1) (omega (arith, add-mul q 1 d, add-mul (2 * q) 1 d, mul_assoc 2 q d)) (omega (arith, add-mul q 1 d, add-mul (q + 1) 1 d, add-mul (2 * q) 1 d, mul_assoc 2 q d)))

-- twice the gap to the exact fraction, multiplied out, is at most the divisor
pub half_unit : (n d : ℕ) → 0 < d → (2 * (nearest_fraction n d * d) ≤ 2 * n + d) × (2 * n + d < 2 * ((nearest_fraction n d + 1) * d))
unfolding nearest_fraction
half_unit n d h =
    let f = (2 * n + d) / (2 * d) in
    let p : 0 < 2 * d = omega arith in
    let a : f * (2 * d) ≤ 2 * n + d = div-mul-le_self (2 * n + d) (2 * d) in
    let b : 2 * n + d < f * (2 * d) + 2 * d = lt-div-mul-add p in
    (omega (arith, mul_left_comm f 2 d), omega (arith, mul_left_comm f 2 d, add-mul f 1 d))

-- the parts of the long division of a 64-bit number fit 64 bits
pub record Parts (x d : ℕ) : Type 0 where
  pub left : x % d < d
  pub first : x / d * 2000 ≤ x
  pub second : x % d * 1000 / d < 1000
  pub last : x % d * 1000 % d < d

pub parts : (x d : ℕ) → 2000 ≤ d → Parts x d
parts x d h =
    let p : 0 < d = omega arith in
    let l = mod-lt x p in
    record {
      left = l;
      first = omega (arith, mul-le-mul_left (x / d) h, div-mul-le_self x d);
      second = (div-lt_iff_lt-mul p).1 (omega arith);
      last = mod-lt (x % d * 1000) p;
    }

-- so the last remainder decides the rounding
pub goes_up : (x d : ℕ) → 0 < d → d ≤ 2 * (x % d * 1000 % d) → x / d * 1000 + x % d * 1000 / d + 1 ≡ nearest_fraction (x * 1000) d
goes_up x d p h = round_up (x * 1000) d _ _ (long_division x d) (mod-lt (x % d * 1000) p) h

pub goes_down : (x d : ℕ) → 2 * (x % d * 1000 % d) < d → x / d * 1000 + x % d * 1000 / d ≡ nearest_fraction (x * 1000) d
goes_down x d h = round_down (x * 1000) d _ _ (long_division x d) h
