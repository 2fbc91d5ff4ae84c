-- Pressure. With Md.p = 0, p = p.F. Otherwise failed or outside pMin..pMax: pressure alarm, and p = p.F.
-- A reading is in pascals; None: the sensor failed.
-- Assumes nothing.
use Rattle.std.specs.Prelude.{ℕ, cond, eqb, Option, Some, None}
use Rattle.readings.specs.declared.Taken.{Taken}
use Rattle.readings.specs.Taken.{no_alarm, alarm_with, taken_within}

-- from pMin, pMax, p.F and the reading
unfoldable pub pressure_read : ℕ → ℕ → ℕ → Option ℕ → Taken ℕ
pressure_read lowest highest fixed None = alarm_with fixed
pressure_read lowest highest fixed (Some p) = taken_within lowest highest fixed p

-- from Md.p, pMin, pMax, p.F and the reading
unfoldable pub pressure_taken : ℕ → ℕ → ℕ → ℕ → Option ℕ → Taken ℕ
pressure_taken mode lowest highest fixed reading = cond (eqb mode 0) (no_alarm fixed) (pressure_read lowest highest fixed reading)
