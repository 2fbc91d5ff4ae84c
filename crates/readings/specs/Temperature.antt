-- Temperature. With Md.T = 0, T = T.F. Otherwise T.Mes is worked out; failed, below TMin or above TMax: temperature alarm, and T = T.F.
-- A reading is a raw temperature, and T.Mes is in hundredths of a degree; None: the measurement failed.
-- Assumes nothing.
use Rattle.std.specs.Prelude.{ℕ, cond, eqb, ℤ, Option, Some, None}
use Rattle.std.specs.Int.Signed.{lt_z}
use Rattle.temperature.specs.declared.Coefficients.{Coefficients}
use Rattle.temperature.specs.Equation.{equation_of}
use Rattle.temperature.specs.Nearest.{nearest_of}
use Rattle.readings.specs.declared.Taken.{Taken}
use Rattle.readings.specs.Taken.{no_alarm, alarm_with, taken_by}

abbrev pub no_temperature_alarm : ℤ → Taken ℤ
no_temperature_alarm t = no_alarm t

abbrev pub temperature_alarm_with : ℤ → Taken ℤ
temperature_alarm_with fixed = alarm_with fixed

-- from TMin, TMax, T.F and T.Mes
unfoldable pub measured_taken : ℤ → ℤ → ℤ → Option ℤ → Taken ℤ
measured_taken lowest highest fixed None = temperature_alarm_with fixed
measured_taken lowest highest fixed (Some t) = taken_by lt_z lowest highest fixed t

-- from TMin, TMax, T.F, the three coefficients and the reading
unfoldable pub temperature_read : ℤ → ℤ → ℤ → Coefficients → Option ℕ → Taken ℤ
temperature_read lowest highest fixed c None = temperature_alarm_with fixed
temperature_read lowest highest fixed c (Some raw) = measured_taken lowest highest fixed (nearest_of (equation_of c raw))

-- from Md.T, TMin, TMax, T.F, the three coefficients and the reading
unfoldable pub temperature_taken : ℕ → ℤ → ℤ → ℤ → Coefficients → Option ℕ → Taken ℤ
temperature_taken mode lowest highest fixed c reading = cond (eqb mode 0) (no_temperature_alarm fixed) (temperature_read lowest highest fixed c reading)
