-- K. With Md.K = 0, K = K.F. Otherwise not computed or outside 5,000..20,000: K alarm, and K = K.F.
-- A reading is K in ten-thousandths; None: it was not computed.
-- Assumes nothing.
use Rattle.std.specs.Prelude.{ℕ, cond, eqb, Option, Some, None}
use Rattle.ground.specs.Ranges.{least_k, most_k}
use Rattle.readings.specs.declared.Taken.{Taken}
use Rattle.readings.specs.Taken.{no_alarm, alarm_with, taken_within}

-- from K.F and the reading
unfoldable pub k_read : ℕ → Option ℕ → Taken ℕ
k_read fixed None = alarm_with fixed
k_read fixed (Some k) = taken_within least_k most_k fixed k

-- from Md.K, K.F and the reading
unfoldable pub k_taken : ℕ → ℕ → Option ℕ → Taken ℕ
k_taken mode fixed reading = cond (eqb mode 0) (no_alarm fixed) (k_read fixed reading)
