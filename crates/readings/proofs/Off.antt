-- A mode of 0 never alarms, even with a failed sensor: whatever the reading, the fixed value is taken, without the alarm.
-- Assumes nothing.
use Rattle.std.proofs.Common.{◌≡◌, refl, ℕ, ℤ, Option}
use Rattle.temperature.specs.declared.Coefficients.{Coefficients}
use Rattle.readings.specs.Taken.{no_alarm}
use Rattle.readings.specs.Pressure.{pressure_taken}
use Rattle.readings.specs.Compressibility.{k_taken}
use Rattle.readings.specs.Temperature.{no_temperature_alarm, temperature_taken}

pub pressure_off : (lowest highest fixed : ℕ) (reading : Option ℕ) → pressure_taken 0 lowest highest fixed reading ≡ no_alarm fixed
unfolding pressure_taken
pressure_off lowest highest fixed reading = refl

pub k_off : (fixed : ℕ) (reading : Option ℕ) → k_taken 0 fixed reading ≡ no_alarm fixed
unfolding k_taken
k_off fixed reading = refl

pub temperature_off : (lowest highest fixed : ℤ) (c : Coefficients) (reading : Option ℕ) → temperature_taken 0 lowest highest fixed c reading ≡ no_temperature_alarm fixed
unfolding temperature_taken
temperature_off lowest highest fixed c reading = refl
