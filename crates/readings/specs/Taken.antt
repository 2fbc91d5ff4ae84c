-- What is taken for a reading: the reading itself, or a fixed value in its place; and whether the alarm is present.
-- Assumes nothing.
use Rattle.std.specs.Prelude.{ℕ, Bool, true, false, ◌||◌, cond, ltb}
use Rattle.readings.specs.declared.Taken.{Taken}

abbrev pub no_alarm : {V : Type 0} → V → Taken V
no_alarm v = record { alarm = false; value = v }

abbrev pub alarm_with : {V : Type 0} → V → Taken V
alarm_with fixed = record { alarm = true; value = fixed }

-- outside lowest..highest (the ends are inside), by which of two values is less: the alarm, and the fixed value
abbrev pub taken_by : {V : Type 0} → (V → V → Bool) → V → V → V → V → Taken V
taken_by less lowest highest fixed x = cond (less x lowest || less highest x) (alarm_with fixed) (no_alarm x)

-- the same of numbers without a sign
unfoldable pub taken_within : ℕ → ℕ → ℕ → ℕ → Taken ℕ
taken_within lowest highest fixed x = taken_by ltb lowest highest fixed x
