-- For a float x within -10,000..20,000: x + x is exact, its whole part fits an i64, and half of that, rounded away from zero, is the whole number nearest x.
-- The size of x is n / d, with n = m · up e and d = down e.
-- Assumes nothing.
use Rattle.std.proofs.Common.{◌≡◌, ℕ, zero, suc, ◌+◌, ◌-◌, ◌*◌, ◌/◌, ◌%◌, ◌^◌, ◌<◌, ◌≤◌, min, Bool, true, false, cond, ◌&&◌, T, eqb, ltb, leb, ℤ, pos, negsuc, neg_ℤ, sym, refl, ap, ◌∙◌, subst, le_trans, le_of_eq, le_refl, lt_of_lt_of_le, le_of_suc-le-suc, lt_of_le_of_lt, lt_irrefl, mul-le-mul_right, mul_assoc, mul_comm, add-mul, lt_of_mul-lt-mul_right, mul-lt-mul_of_pos_right, mul-pos, one-mul, pow-suc, lt_of_not-le, mul-one, mul_right_comm, le_of_mul-le-mul_right, arith, lit<, lit≤, eqb→eq, ltb→lt, lt→ltb, leb→le, pow_pos, pow_mono, pow-add, Option, Some, None}
use native.Mathlib.Nat.{add-div_right, div-div-eq-div-mul, div-le_of_le-mul}
use lib.Pow.{pow-lt}
use lib.Ieee.{Float, nan, inf, fin, binary64, up, down, round, sum, add, lt, eq, le, fits, to_signed}
use lib.Ieee.Fits.{down_pos, and_l, and_r}
use lib.Ieee.Exact.{HasValue, round_exact}
use lib.Ieee.Nearest.{div_same}
use lib.Ieee.Scale.{round_same}
use Rattle.temperature.specs.Nearest.{in_range, nearest_size, signed, nearest_of}
use Rattle.temperature.proofs.Range.{Within, first_holds, apart}
use Rattle.temperature.proofs.Half.{half_away}

-- ---- twice x is exact

-- a float that the format holds has fewer than 54 digits, and no bit below 2^-1074
unscaled : (e : ℤ) → up e * down e ≡ 1 → down e ≤ 1
unscaled (pos k) h = le_refl 1
unscaled (negsuc k) h = le_of_eq (sym (one-mul (2 ^ suc k)) ∙ h)

digits : (s : Bool) (m : ℕ) (e : ℤ) → T (fits binary64 (fin s m e)) → (m < 2 ^ 53) × (down e ≤ 2 ^ 1074)
unfolding fits
digits s zero e t = (lit< tt, le_trans (unscaled e (eqb→eq (up e * down e) 1 t)) (lit≤ tt))
digits s (suc m) e t =
    let odd : Bool = eqb (suc m % 2) 1 in
    let few : Bool = ltb (suc m) (2 ^ 53) in
    let coarse : Bool = leb (down e) (2 ^ 1074) in
    let u : T (odd && few && coarse) = and_l (odd && few && coarse) (ltb (suc m * up e) (2 ^ 1024 * down e)) t in
    (ltb→lt (suc m) (2 ^ 53) (and_r odd few (and_l (odd && few) coarse u)), leb→le (down e) (2 ^ 1074) (and_r (odd && few) coarse u))

exponent_le : (k l : ℕ) → 2 ^ suc k ≤ 2 ^ l → suc k ≤ l
exponent_le k l h = le_of_suc-le-suc (lt_of_not-le (λ (g : suc l ≤ suc k). lt_irrefl (2 ^ l) (lt_of_lt_of_le (pow-lt (le_refl (suc l))) (le_trans (pow_mono g) h))))

twice_scaled : (a p : ℕ) → (a + a) * p ≡ a * (p * 2)
twice_scaled a p = let h : a * p + a * p ≡ a * p * 2 = omega arith in add-mul a a p ∙ h ∙ mul_assoc a p 2

-- twice x is m · 2^j of the units 2^-l
in_units : (l m : ℕ) (e : ℤ) → down e ≤ 2 ^ l → (j : ℕ) × ((m * up e + m * up e) * 2 ^ l ≡ m * 2 ^ j * down e)
in_units l m (pos k) h = (k + suc l, twice_scaled (m * 2 ^ k) (2 ^ l) ∙ simp (pow-add, pow-suc, mul_assoc, mul-one))
in_units l m (negsuc k) h =
    let g : suc k ≤ l = exponent_le k l h in
    let i : suc l - suc k + suc k ≡ suc l = omega arith in
    (suc l - suc k, twice_scaled (m * 1) (2 ^ l) ∙ rw (mul-one, ← pow-suc, mul_assoc, ← pow-add, i))

-- and it is far below where the format overflows
no_overflow : (l n d w : ℕ) → 0 < d → n + n ≤ 40000 * d → (n + n) * 2 ^ l ≡ w * d → w < 2 ^ (l + 1024)
no_overflow l n d w D h v =
    lt_of_mul-lt-mul_right d
    (lt_of_le_of_lt (le_of_eq (sym v))
    (lt_of_le_of_lt (mul-le-mul_right (2 ^ l) h)
    (lt_of_le_of_lt (le_of_eq (mul_right_comm 40000 d (2 ^ l)))
    (mul-lt-mul_of_pos_right (lt_of_lt_of_le (mul-lt-mul_of_pos_right (lit< tt) (pow_pos l)) (le_of_eq (mul_comm (2 ^ 1024) (2 ^ l) ∙ sym (pow-add 2 l 1024)))) D))))

sum_of_two : (s : Bool) (m : ℕ) (e : ℤ) → add binary64 (fin s m e) (fin s m e) ≡ round binary64 s (m * up e * down e + m * up e * down e) (down e * down e)
unfolding add sum
sum_of_two true m e = refl
sum_of_two false m e = refl

doubled : (s : Bool) (m : ℕ) (e : ℤ) → T (fits binary64 (fin s m e)) → m * up e + m * up e ≤ 40000 * down e → HasValue (add binary64 (fin s m e) (fin s m e)) s (m * up e + m * up e) (down e)
doubled s m e t h =
    let n = m * up e in
    let d = down e in
    let D = down_pos e in
    let p = digits s m e t in
    let u = in_units 1074 m e p.1 in
    let same : add binary64 (fin s m e) (fin s m e) ≡ round binary64 s (n + n) d = sum_of_two s m e ∙ round_same binary64 s (n * d + n * d) (d * d) (n + n) d (mul-pos D D) D (simp (add-mul, mul_assoc)) in
    subst (λ (y : Float). HasValue y s (n + n) d) (sym same) (round_exact binary64 s (n + n) d m u.0 D p.0 (no_overflow 1074 n d (m * 2 ^ u.0) D h u.1) u.1)

-- ---- the whole part of a float whose size is a / d, at most 40,000

size_at_most : (n c a d : ℕ) → 0 < d → a ≤ 40000 * d → n * d ≡ a * c → n ≤ 40000 * c
size_at_most n c a d D h v = le_of_mul-le-mul_right (le_trans (le_of_eq v) (le_trans (mul-le-mul_right c h) (le_of_eq (mul_right_comm 40000 d c)))) D

whole_part_asks : (y : Float) (s : Bool) (a d : ℕ) → 0 < d → a ≤ 40000 * d → HasValue y s a d → T (le (fin true 1 (pos 63)) y) × T (lt y (fin false 1 (pos 63)))
unfolding le lt eq
whole_part_asks nan s a d D h v = elim v [ ]
whole_part_asks (inf _) s a d D h v = elim v [ ]
whole_part_asks (fin false m e) s a d D h v =
    let C = down_pos e in
    let u = size_at_most (m * up e) (down e) a d D h v.1 in
    (apart (2 ^ 63 * down e) (m * up e * 1) _ (omega arith), lt→ltb (m * up e * 1) (2 ^ 63 * down e) (omega arith))
whole_part_asks (fin true m e) s a d D h v =
    let C = down_pos e in
    let u = size_at_most (m * up e) (down e) a d D h v.1 in
    (first_holds (ltb (m * up e * 1) (2 ^ 63 * down e)) _ (lt→ltb (m * up e * 1) (2 ^ 63 * down e) (omega arith)), lt→ltb 0 (m * up e * 1 + 2 ^ 63 * down e) (omega arith))

not_capped : (t : Bool) (q : ℕ) → q ≤ 40000 → cond t (neg_ℤ (pos (min q (2 ^ 63)))) (pos (min q (2 ^ 63 - 1))) ≡ signed t q
not_capped true q h = let i : min q (2 ^ 63) ≡ q = omega arith in ap (λ (k : ℕ). neg_ℤ (pos k)) i
not_capped false q h = ap pos (omega arith)

whole_part_is : (y : Float) (s : Bool) (a d : ℕ) → 0 < d → a ≤ 40000 * d → HasValue y s a d → to_signed 63 y ≡ signed s (a / d)
unfolding to_signed
whole_part_is nan s a d D h v = elim v [ ]
whole_part_is (inf _) s a d D h v = elim v [ ]
whole_part_is (fin t m e) s a d D h v =
    let u = size_at_most (m * up e) (down e) a d D h v.1 in
    not_capped t (m * up e / down e) (div-le_of_le-mul (down e) (omega arith)) ∙ rw (v.0, div_same (m * up e) (down e) a d (down_pos e) D v.1)

-- ---- and the half of that

half_is_nearest : (n d : ℕ) → 0 < d → ((n + n) / d + 1) / 2 ≡ nearest_size n d
half_is_nearest n d D =
    let i : n + n + d ≡ 2 * n + d = omega arith in
    let j : d * 2 ≡ 2 * d = omega arith in
    rw (← add-div_right (n + n) D, div-div-eq-div-mul, i, j)

half_of_signed : (s : Bool) (q r : ℕ) → (q + 1) / 2 ≡ r → half_away (signed s q) ≡ signed s r
half_of_signed false q r h = ap pos h
half_of_signed true zero r h = ap (λ (k : ℕ). neg_ℤ (pos k)) h
half_of_signed true (suc q) r h = let i : (q + 2) / 2 ≡ r = omega arith in ap (λ (k : ℕ). neg_ℤ (pos k)) i

-- ---- together

twice_at_most : (s : Bool) (n d : ℕ) → T (in_range s n d) → n + n ≤ 40000 * d
twice_at_most false n d t = omega (arith, leb→le n (20000 * d) t)
twice_at_most true n d t = omega (arith, leb→le n (10000 * d) t)

chosen : (b : Bool) (z : Option ℤ) → T b → z ≡ cond b z None
chosen true z t = refl
chosen false z t = elim t [ ]

-- what the program needs of x + x: that its whole part can be taken, and that it leads to the answer
pub record Doubled (x : Float) : Type 0 where
  pub not_low : T (le (fin true 1 (pos 63)) (add binary64 x x))
  pub not_high : T (lt (add binary64 x x) (fin false 1 (pos 63)))
  pub answer : Some (half_away (to_signed 63 (add binary64 x x))) ≡ nearest_of x

pub doubled_of : (x : Float) → T (fits binary64 x) → Within x → Doubled x
unfolding nearest_of
doubled_of nan f w = elim w [ ]
doubled_of (inf _) f w = elim w [ ]
doubled_of (fin s m e) f w =
    let n = m * up e in
    let d = down e in
    let D = down_pos e in
    let y = add binary64 (fin s m e) (fin s m e) in
    let h : n + n ≤ 40000 * d = twice_at_most s n d w in
    let v : HasValue y s (n + n) d = doubled s m e f h in
    let asks = whole_part_asks y s (n + n) d D h v in
    let is : to_signed 63 y ≡ signed s ((n + n) / d) = whole_part_is y s (n + n) d D h v in
    record {
      not_low = asks.0;
      not_high = asks.1;
      answer = ap (λ (z : ℤ). Some (half_away z)) is ∙ ap Some (half_of_signed s ((n + n) / d) (nearest_size n d) (half_is_nearest n d D)) ∙ chosen (in_range s n d) (Some (signed s (nearest_size n d))) w;
    }
