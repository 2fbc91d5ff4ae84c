-- The factor beside the exact fraction p·Tb·10^9 / (pb·T·K): how near it is, when it is exactly 1, and how large it gets.
-- Assumes nothing.
use mathlib.Core.Path.{◌≡◌, refl, sym}
use mathlib.Core.Bool.{true}
use Prim.Native.Nat.{ℕ, ◌+◌, ◌*◌, ◌≤◌, ◌<◌}
use native.Mathlib.Nat.{add-mul, mul-le-mul, div-lt_iff_lt-mul}
use native.Mathlib.Omega.{arith}
use Rattle.ground.specs.Ranges.{k_scale, least_k, most_p, least_pb, most_tb, least_kelvin}
use Rattle.factor.specs.Factor.{numerator, denominator, nearest_fraction, factor_of}
use Rattle.factor.specs.Plan.{in_range, in_ranges, factor_guarded}
use Rattle.factor.proofs.Division.{half_unit, nearest_only, halves_up}
use Rattle.factor.proofs.Ranges.{products}

-- the most that the ranges let the factor be
abbrev pub most_factor : ℕ
most_factor = 38264831

module _ (p tb pb t k : ℕ) where
  -- inside the ranges what the code works out is the factor
  pub guarded : in_ranges p tb pb t k ≡ true → factor_guarded p tb pb t k ≡ factor_of p tb pb t k
  unfolding factor_guarded
  guarded e = rw e

  -- twice the gap between the factor times pb·T·K and the numerator is at most pb·T·K
  pub within_half : in_ranges p tb pb t k ≡ true → (2 * (factor_of p tb pb t k * denominator pb t k) ≤ 2 * numerator p tb + denominator pb t k) × (2 * numerator p tb ≤ 2 * (factor_of p tb pb t k * denominator pb t k) + denominator pb t k)
  unfolding factor_of
  within_half e =
      let d = denominator pb t k in
      let h = half_unit (numerator p tb) d (omega (arith, (products p tb pb t k e).bottom.least)) in
      (h.0, omega (arith, h.1, add-mul (nearest_fraction (numerator p tb) d) 1 d))

  -- a fraction just between q and q + 1 gives q + 1
  pub half_goes_up : (q : ℕ) → in_ranges p tb pb t k ≡ true → 2 * numerator p tb ≡ (2 * q + 1) * denominator pb t k → factor_of p tb pb t k ≡ q + 1
  unfolding factor_of
  half_goes_up q e h = halves_up (numerator p tb) (denominator pb t k) q (omega (arith, (products p tb pb t k e).bottom.least)) h

  -- no other number is within half a unit, the upper half excluded
  pub factor_only : (f : ℕ) → 2 * (f * denominator pb t k) ≤ 2 * numerator p tb + denominator pb t k → 2 * numerator p tb + denominator pb t k < 2 * ((f + 1) * denominator pb t k) → f ≡ factor_of p tb pb t k
  unfolding factor_of
  factor_only f a b = nearest_only (numerator p tb) (denominator pb t k) f a b

  -- how large it can get
  pub factor_most : in_ranges p tb pb t k ≡ true → factor_of p tb pb t k ≤ most_factor
  unfolding factor_of nearest_fraction
  factor_most e =
      let r = products p tb pb t k e in
      let o : 0 < 2 * denominator pb t k = omega arith in
      let h : factor_of p tb pb t k < most_factor + 1 = (div-lt_iff_lt-mul o).1 (omega arith) in
      omega arith

-- and there is a factor that large
pub most_reached : factor_guarded most_p most_tb least_pb least_kelvin least_k ≡ most_factor
unfolding factor_guarded in_ranges in_range factor_of nearest_fraction
most_reached = refl

-- H1, whatever pb and Tb: p = pb, T = Tb and K = 1 give a factor of exactly 1
pub one_exactly : (pb tb : ℕ) → 0 < pb → 0 < tb → factor_of pb tb pb tb k_scale ≡ 100000
unfolding factor_of
one_exactly pb tb h k =
    let m : 1 * 1 ≤ pb * tb = mul-le-mul h k in
    sym (nearest_only (numerator pb tb) (denominator pb tb k_scale) 100000 (omega arith) (omega arith))
