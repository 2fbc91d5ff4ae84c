-- What is taken lies in the range of the limits and of the fixed value: p and K between two bounds, T within -10,000..20,000. So T in kelvin, which is T plus
-- 27,315, lies within 17,315..47,315.
-- Assumes nothing.
use mathlib.Core.Path.{◌≡◌, refl}
use mathlib.Core.Bool.{false, ◌||◌}
use Prim.Native.Nat.{ℕ, suc, ◌≤◌}
use native.Mathlib.Nat.{le_refl, le_trans}
use native.Mathlib.Omega.{arith}
use borrow.Author.Tests.{ltb-false, le-ltb}
use lib.Dec.{ltb, eqb}
use lib.IntN.{ℤ, pos, negsuc, ◌+ℤ◌}
use lib.Signed.{lt_z}
use Rattle.std.proofs.Common.{Option, Some, None}
use Rattle.ground.proofs.Flags.{or_false_left, or_false_right, whichever}
use Rattle.temperature.specs.declared.Coefficients.{Coefficients}
use Rattle.temperature.specs.Equation.{equation_of}
use Rattle.temperature.specs.Nearest.{nearest_of}
use Rattle.temperature.proofs.Nearest.{InRange, answered_in_range}
use Rattle.readings.specs.declared.Taken.{Taken}
use Rattle.readings.specs.Taken.{taken_within}
use Rattle.readings.specs.Pressure.{pressure_taken, pressure_read}
use Rattle.ground.specs.Ranges.{least_k, most_k, zero_celsius, least_kelvin, most_kelvin}
use Rattle.readings.specs.Compressibility.{k_taken, k_read}
use Rattle.readings.specs.Temperature.{measured_taken, temperature_read, temperature_taken}
use Rattle.readings.specs.Kelvin.{kelvin_of}
use Rattle.readings.specs.Plan.{kelvin_guarded}

-- ---- p and K

pub record Between (low high v : ℕ) : Type 0 where
  pub not_below : low ≤ v
  pub not_above : v ≤ high

module _ (low high : ℕ) where
  within_bounds : (lowest highest fixed x : ℕ) → low ≤ lowest → highest ≤ high → Between low high fixed → Between low high (taken_within lowest highest fixed x).value
  unfolding taken_within
  within_bounds lowest highest fixed x h k b =
      whichever (λ (t : Taken ℕ). Between low high t.value) (ltb x lowest || ltb highest x) (λ e. b) (λ e. record { not_below = le_trans h (ltb-false x lowest (or_false_left (ltb x lowest) (ltb highest x) e)); not_above = le_trans (ltb-false highest x (or_false_right (ltb x lowest) (ltb highest x) e)) k })

  read_bounds : (lowest highest fixed : ℕ) (reading : Option ℕ) → low ≤ lowest → highest ≤ high → Between low high fixed → Between low high (pressure_read lowest highest fixed reading).value
  unfolding pressure_read
  read_bounds lowest highest fixed None h k b = b
  read_bounds lowest highest fixed (Some p) h k b = within_bounds lowest highest fixed p h k b

  -- if pMin, pMax and p.F lie from low to high, so does p
  pub pressure_bounds : (mode lowest highest fixed : ℕ) (reading : Option ℕ) → low ≤ lowest → highest ≤ high → Between low high fixed → Between low high (pressure_taken mode lowest highest fixed reading).value
  unfolding pressure_taken
  pressure_bounds mode lowest highest fixed reading h k b =
      whichever (λ (t : Taken ℕ). Between low high t.value) (eqb mode 0) (λ e. b) (λ e. read_bounds lowest highest fixed reading h k b)

k_read_bounds : (fixed : ℕ) (reading : Option ℕ) → Between least_k most_k fixed → Between least_k most_k (k_read fixed reading).value
unfolding k_read
k_read_bounds fixed None b = b
k_read_bounds fixed (Some k) b = within_bounds least_k most_k least_k most_k fixed k (le_refl least_k) (le_refl most_k) b

-- if K.F lies from the least to the most K, so does K
pub k_bounds : (mode fixed : ℕ) (reading : Option ℕ) → Between least_k most_k fixed → Between least_k most_k (k_taken mode fixed reading).value
unfolding k_taken
k_bounds mode fixed reading b = whichever (λ (t : Taken ℕ). Between least_k most_k t.value) (eqb mode 0) (λ e. b) (λ e. k_read_bounds fixed reading b)

-- ---- T

measured_in_range : (lowest highest fixed : ℤ) (m : Option ℤ) → ((z : ℤ) → m ≡ Some z → InRange z) → InRange fixed → InRange (measured_taken lowest highest fixed m).value
unfolding measured_taken
measured_in_range lowest highest fixed None f b = b
measured_in_range lowest highest fixed (Some t) f b =
    whichever (λ (u : Taken ℤ). InRange u.value) (lt_z t lowest || lt_z highest t) (λ e. b) (λ e. f t refl)

read_in_range : (lowest highest fixed : ℤ) (c : Coefficients) (reading : Option ℕ) → InRange fixed → InRange (temperature_read lowest highest fixed c reading).value
unfolding temperature_read
read_in_range lowest highest fixed c None b = b
read_in_range lowest highest fixed c (Some raw) b =
    measured_in_range lowest highest fixed (nearest_of (equation_of c raw)) (answered_in_range (equation_of c raw)) b

-- if T.F lies within -10,000..20,000, so does T
pub temperature_in_range : (mode : ℕ) (lowest highest fixed : ℤ) (c : Coefficients) (reading : Option ℕ) → InRange fixed → InRange (temperature_taken mode lowest highest fixed c reading).value
unfolding temperature_taken
temperature_in_range mode lowest highest fixed c reading b =
    whichever (λ (u : Taken ℤ). InRange u.value) (eqb mode 0) (λ e. b) (λ e. read_in_range lowest highest fixed c reading b)

-- ---- T in kelvin

pub kelvin_bounds : (t : ℤ) → InRange t → Between least_kelvin most_kelvin (kelvin_of t)
unfolding kelvin_of
kelvin_bounds (pos n) r =
    let h : n ≤ 20000 = ltb-false 20000 n r.not_hotter in
    record { not_below = omega arith; not_above = omega arith }
kelvin_bounds (negsuc n) r =
    let h : n ≤ 9999 = ltb-false 9999 n r.not_colder in
    let k : ltb zero_celsius (suc n) ≡ false = le-ltb zero_celsius (suc n) (omega arith) in
    simp k (record { not_below = omega arith; not_above = omega arith })

-- within -10,000..20,000 the sum is not below 0, so that T in kelvin is the sum itself
pub kelvin_is : (t : ℤ) → InRange t → pos (kelvin_of t) ≡ t +ℤ pos zero_celsius
unfolding kelvin_of
kelvin_is (pos n) r = refl
kelvin_is (negsuc n) r =
    let h : n ≤ 9999 = ltb-false 9999 n r.not_colder in
    let k : ltb zero_celsius (suc n) ≡ false = le-ltb zero_celsius (suc n) (omega arith) in
    simp k

-- and it is what the code works out
pub guarded : (t : ℤ) → InRange t → kelvin_guarded t ≡ kelvin_of t
unfolding kelvin_guarded
guarded t r = rw (r.not_colder, r.not_hotter)
