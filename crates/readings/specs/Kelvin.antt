-- T in kelvin: 0.01 °C plus 27,315. T is never below -100.00 °C, so the sum is never below 0, and its size is the sum itself.
-- Assumes nothing.
use Rattle.std.specs.Prelude.{ℕ, ℤ, pos, ◌+ℤ◌, nat_abs}
use Rattle.ground.specs.Ranges.{zero_celsius}

unfoldable pub kelvin_of : ℤ → ℕ
kelvin_of t = nat_abs (t +ℤ pos zero_celsius)
