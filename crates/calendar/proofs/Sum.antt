-- The sum that gives a month's first day without the table. It grows by the days of each month: one test, computed over all months.
-- Assumes nothing.
use mathlib.Core.Path.{◌≡◌, refl}
use mathlib.Core.Bool.{Bool, true}
use Prim.Native.Nat.{ℕ, zero, suc, ◌+◌, ◌*◌, ◌/◌, ◌%◌, ◌≤◌}
use native.Mathlib.Omega.{arith}
use lib.Dec.{eqb}
use borrow.Author.Tests.{eqb-true}
use Rattle.ground.specs.Below.{all_below}
use Rattle.ground.proofs.Every.{all_each}
use Rattle.calendar.specs.Calendar.{leap_year, days_in, days_of, first_day}

-- the days since 1 March 1999, in whole years and months that begin in March
abbrev pub day_sum : ℕ → ℕ
day_sum m = 365 * ((m + 10) / 12) + ((m + 10) / 12 + 3) / 4 + (153 * ((m + 10) % 12) + 2) / 5

abbrev step : ℕ → Bool
step m = eqb (day_sum (suc m)) (day_sum m + days_of m)

all_steps : all_below step 1200 ≡ true
unfolding all_below leap_year days_in days_of
all_steps = refl

-- 1 January 2000 is day 306 of that count
pub day_sum_lem : (m : ℕ) → m ≤ 1200 → day_sum m ≡ first_day m + 306
unfolding first_day
day_sum_lem zero l = refl
day_sum_lem (suc m) l =
    let up : day_sum (suc m) ≡ day_sum m + days_of m = eqb-true _ _ (all_each step 1200 all_steps m (omega arith)) in
    omega (arith, up, day_sum_lem m (omega arith))
