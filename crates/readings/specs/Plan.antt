-- What the code works out. Its numbers have 64 bits, so it works T in kelvin out within -10,000..20,000, and gives 0 elsewhere. No setting and
-- no T.Mes lies elsewhere. The law that both are the same within is `guarded` in proofs/Bounds.antt.
-- Assumes nothing.
use Rattle.std.specs.Prelude.{ℕ, Bool, ◌&&◌, ◌||◌, cond, ℤ, Option, Some, None}
use Rattle.std.specs.Int.Signed.{lt_z}
use Rattle.ground.specs.Ranges.{coldest, hottest}
use Rattle.readings.specs.declared.Taken.{Taken}
use Rattle.readings.specs.Taken.{no_alarm, alarm_with}
use Rattle.readings.specs.Kelvin.{kelvin_of}

unfoldable pub kelvin_guarded : ℤ → ℕ
kelvin_guarded t = cond (lt_z t coldest || lt_z hottest t) 0 (kelvin_of t)

-- What is taken as the code tests it, by which of two values is at most the other. That it is `taken_by` is `kept_is` in proofs/Order.antt.
abbrev pub kept_by : {V : Type 0} → (V → V → Bool) → V → V → V → V → Taken V
kept_by at_most lowest highest fixed x = cond (at_most lowest x && at_most x highest) (no_alarm x) (alarm_with fixed)

-- from a reading; None: the sensor failed, or the value was not computed
unfoldable pub read_by : {V : Type 0} → (V → V → Bool) → V → V → V → Option V → Taken V
read_by at_most lowest highest fixed None = alarm_with fixed
read_by at_most lowest highest fixed (Some x) = kept_by at_most lowest highest fixed x
