-- What an answer in hundredths must satisfy, and only one number can: it lies within -10,000..20,000 and within half a unit of the exact value, and at a half it is
-- the number away from zero. Stated on whole numbers, after multiplying out.
-- Assumes nothing.
use Rattle.std.proofs.Common.{◌≡◌, ℕ, zero, suc, ◌+◌, ◌-◌, ◌*◌, ◌<◌, ◌≤◌, Bool, true, false, cond, ℤ, pos, neg_ℤ, nat_abs, sym, refl, ap, ◌∙◌, subst, lt_of_le_of_lt, div-lt_iff_lt-mul, add-mul, lt_of_mul-lt-mul_right, div-mul-le_self, mul_left_comm, arith, le-ltb, leb-true, Some, None}
use native.Mathlib.Numerals.{lt-add-one}
use lib.Signed.{lt_z}
use lib.Ieee.{Float, nan, inf, fin, up, down}
use lib.Ieee.Fits.{down_pos}
use Rattle.ground.specs.Ranges.{coldest, hottest}
use Rattle.temperature.specs.Nearest.{in_range, nearest_size, signed, nearest_of}

-- z is the whole number nearest the value of size n / d and sign s, halves away from zero
pub record IsNearest (s : Bool) (n d : ℕ) (z : ℤ) : Type 0 where
  pub sign : z ≡ signed s (nat_abs z)
  -- twice the gap between z times d and n is at most d
  pub gap : 2 * ((nat_abs z * d - n) + (n - nat_abs z * d)) ≤ d
  -- r - 1 / 2 ≤ n / d < r + 1 / 2 for the size r of z
  pub not_under : nat_abs z * (2 * d) ≤ 2 * n + d
  pub under_next : 2 * n + d < (nat_abs z + 1) * (2 * d)

size_of : (s : Bool) (r : ℕ) → nat_abs (signed s r) ≡ r
size_of false r = refl
size_of true zero = refl
size_of true (suc r) = refl

-- the size that two bounds allow, in units of r * d
twice_out : (r d : ℕ) → r * (2 * d) ≡ 2 * (r * d)
twice_out r d = mul_left_comm r 2 d

next_out : (r d : ℕ) → (r + 1) * (2 * d) ≡ 2 * (r * d) + 2 * d
next_out r d = let h : 1 * (2 * d) ≡ 2 * d = omega arith in add-mul r 1 (2 * d) ∙ rw (twice_out r d, h)

gap_of : (n d r : ℕ) → r * (2 * d) ≤ 2 * n + d → 2 * n + d < (r + 1) * (2 * d) → 2 * ((r * d - n) + (n - r * d)) ≤ d
gap_of n d r h k = omega (arith, twice_out r d, next_out r d)

pub size_is_nearest : (s : Bool) (n d : ℕ) → 0 < d → IsNearest s n d (signed s (nearest_size n d))
size_is_nearest s n d D =
    let r = nearest_size n d in
    let i : nat_abs (signed s r) ≡ r = size_of s r in
    let h : 0 < 2 * d = omega arith in
    let low : r * (2 * d) ≤ 2 * n + d = div-mul-le_self (2 * n + d) (2 * d) in
    let high : 2 * n + d < (r + 1) * (2 * d) = (div-lt_iff_lt-mul h).0 (lt-add-one r) in
    record {
      sign = ap (signed s) (sym i);
      gap = rw i (gap_of n d r low high);
      not_under = rw i low;
      under_next = rw i high;
    }

-- no two different numbers are nearest
pub one_nearest : (s : Bool) (n d : ℕ) (y z : ℤ) → IsNearest s n d y → IsNearest s n d z → y ≡ z
one_nearest s n d y z a b = a.sign ∙ ap (signed s) (same (nat_abs y) (nat_abs z) a.not_under a.under_next b.not_under b.under_next) ∙ sym b.sign
  where
    below : (p q : ℕ) → p * (2 * d) ≤ 2 * n + d → 2 * n + d < (q + 1) * (2 * d) → p < q + 1
    below p q h k = lt_of_mul-lt-mul_right (2 * d) (lt_of_le_of_lt h k)

    same : (p q : ℕ) → p * (2 * d) ≤ 2 * n + d → 2 * n + d < (p + 1) * (2 * d) → q * (2 * d) ≤ 2 * n + d → 2 * n + d < (q + 1) * (2 * d) → p ≡ q
    same p q h k i j = omega (arith, below p q h j, below q p i k)

-- an answer comes from a finite float in the range
picked : (b : Bool) (y z : ℤ) → cond b (Some y) None ≡ Some z → (b ≡ true) × (y ≡ z)
picked true y z e = (refl, cc)
picked false y z e = absurd (let o : ◌≡◌ {A = ℕ} 0 1 = cc in omega arith)

-- the law: a float ± m · 2^e that is answered is answered by the nearest whole number
pub answered_nearest : (s : Bool) (m : ℕ) (e : ℤ) (z : ℤ) → nearest_of (fin s m e) ≡ Some z → IsNearest s (m * up e) (down e) z
unfolding nearest_of
answered_nearest s m e z h =
    let n = m * up e in
    subst (IsNearest s n (down e)) (picked (in_range s n (down e)) (signed s (nearest_size n (down e))) z h).1 (size_is_nearest s n (down e) (down_pos e))

-- ---- the range of an answer

pub record InRange (z : ℤ) : Type 0 where
  pub not_colder : lt_z z coldest ≡ false
  pub not_hotter : lt_z hottest z ≡ false

size_at_most : (k n d : ℕ) → 0 < d → n ≤ k * d → nearest_size n d ≤ k
size_at_most k n d D h =
    let D2 : 0 < 2 * d = omega arith in
    let u : 2 * n + d < (k + 1) * (2 * d) = omega (arith, next_out k d) in
    let v : nearest_size n d < k + 1 = (div-lt_iff_lt-mul D2).1 u in
    omega arith

below_zero_lem : (r : ℕ) → r ≤ 10000 → InRange (neg_ℤ (pos r))
below_zero_lem zero h = record { not_colder = refl; not_hotter = refl }
below_zero_lem (suc r) h = record { not_colder = le-ltb 9999 r (omega arith); not_hotter = refl }

in_range_of : (s : Bool) (n d : ℕ) → 0 < d → in_range s n d ≡ true → InRange (signed s (nearest_size n d))
in_range_of false n d D h = record { not_colder = refl; not_hotter = le-ltb 20000 (nearest_size n d) (size_at_most 20000 n d D (leb-true n (20000 * d) h)) }
in_range_of true n d D h = below_zero_lem (nearest_size n d) (size_at_most 10000 n d D (leb-true n (10000 * d) h))

pub answered_in_range : (x : Float) (z : ℤ) → nearest_of x ≡ Some z → InRange z
unfolding nearest_of
answered_in_range nan z h = absurd (let o : ◌≡◌ {A = ℕ} 0 1 = cc in omega arith)
answered_in_range (inf s) z h = absurd (let o : ◌≡◌ {A = ℕ} 0 1 = cc in omega arith)
answered_in_range (fin s m e) z h =
    let n = m * up e in
    let p = picked (in_range s n (down e)) (signed s (nearest_size n (down e))) z h in
    subst InRange p.1 (in_range_of s n (down e) (down_pos e) p.0)
