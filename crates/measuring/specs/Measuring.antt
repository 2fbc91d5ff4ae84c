-- What one cycle measures, in the paper's order of work. Document 01, "One measuring cycle"; document 02, One and Three.
-- Assumes nothing.
use Rattle.std.specs.Prelude.{ℕ, zero, suc, ◌+◌, ◌-◌, Bool, true, false, not, ◌&&◌, ◌||◌, List, [], ◌∷◌, ◌++◌, map, get_or, Option, Some, None, ℤ, Float}
use Rattle.ground.specs.Below.{listed}
use Rattle.units.specs.declared.Amounts.{Amounts}
use Rattle.units.specs.Units.{plus_litres, plus_base, amounts_of}
use Rattle.settings.specs.declared.Setting.{Setting}
use Rattle.settings.specs.Settings.{value_at, whole_of, coefficient_of, cp, pb, tb, md_p, md_t, md_k, p_min, p_max, t_min, t_max, eq1, eq2, eq3, p_f, t_f, k_f}
pub use Rattle.settings.specs.Settings.{natural_at}
use Rattle.outputs.specs.declared.Rule.{Rule}
use Rattle.outputs.specs.declared.Output.{Output}
use Rattle.outputs.specs.declared.AllGained.{AllGained}
use Rattle.outputs.specs.Four.{output_count, rule_at, all_gained, none_gained}
use Rattle.calendar.specs.Calendar.{month_of}
use Rattle.temperature.specs.declared.Coefficients.{Coefficients}
use Rattle.readings.specs.declared.Taken.{Taken}
use Rattle.readings.specs.Pressure.{pressure_taken}
use Rattle.readings.specs.Compressibility.{k_taken}
use Rattle.readings.specs.Temperature.{temperature_taken}
use Rattle.readings.specs.Kelvin.{kelvin_of}
use Rattle.factor.specs.Factor.{factor_of}
use Rattle.books.specs.declared.ArchiveLine.{ArchiveLine}
use Rattle.state.specs.declared.Counters.{Counters}
use Rattle.state.specs.declared.Alarms.{Alarms}
use Rattle.state.specs.declared.Measured.{Measured}
use Rattle.notes.specs.Notes.{Note, note_of, noted}
use Rattle.commands.specs.declared.Brought.{Brought}

-- The value in force of a setting, with its sign or as a float. A setting is given by its name, which is its place in the table.
abbrev pub whole_at : List Setting → ℕ → ℤ
whole_at a setting = whole_of (value_at a setting)

abbrev pub coefficient_at : List Setting → ℕ → Float
coefficient_at a setting = coefficient_of (value_at a setting)

-- ---- 1. Months

-- n months from a on
unfoldable pub months_from : ℕ → ℕ → List ℕ
months_from a zero = []
months_from a (suc n) = a ∷ months_from (a + 1) n

-- every month from a up to, but not including, b
unfoldable pub months_crossed : ℕ → ℕ → List ℕ
months_crossed a b = months_from a (b - a)

-- month number and the four counters
unfoldable pub archive_line : Counters → ℕ → ArchiveLine
archive_line c month = record { month = month; vm = c.vm; vmd = c.vmd; vb = c.vb; vbd = c.vbd }

-- one line for each, oldest first
unfoldable pub month_lines : Counters → ℕ → ℕ → List ArchiveLine
month_lines c a b = map (archive_line c) (months_crossed a b)

-- ---- 2. Temperature, 3. Pressure, 4. K: what is taken, and whether it alarms

unfoldable pub coefficients_in : List Setting → Coefficients
coefficients_in a = record { eq1 = coefficient_at a eq1; eq2 = coefficient_at a eq2; eq3 = coefficient_at a eq3 }

unfoldable pub temperature_for : List Setting → Brought → Taken ℤ
temperature_for a r = temperature_taken (natural_at a md_t) (whole_at a t_min) (whole_at a t_max) (whole_at a t_f) (coefficients_in a) r.raw

unfoldable pub pressure_for : List Setting → Brought → Taken ℕ
pressure_for a r = pressure_taken (natural_at a md_p) (natural_at a p_min) (natural_at a p_max) (natural_at a p_f) r.pressure

unfoldable pub k_for : List Setting → Brought → Taken ℕ
k_for a r = k_taken (natural_at a md_k) (natural_at a k_f) r.k

-- an alarm is present as this cycle found it
unfoldable pub alarms_for : List Setting → Brought → Alarms
alarms_for a r = record { p = (pressure_for a r).alarm; t = (temperature_for a r).alarm; k = (k_for a r).alarm }

-- ---- 5. Factor: of p, Tb, pb, T in kelvin and K

abbrev pub kelvin_for : List Setting → Brought → ℕ
kelvin_for a r = kelvin_of (temperature_for a r).value

unfoldable pub factor_for : List Setting → Brought → ℕ
factor_for a r = factor_of (pressure_for a r).value (natural_at a tb) (natural_at a pb) (kelvin_for a r) (k_for a r).value

-- ---- 6. Counting

-- n times the pulse value, and that times the factor
unfoldable pub amounts_for : List Setting → Brought → Option Amounts
amounts_for a r = amounts_of r.n (natural_at a cp) (factor_for a r)

unfoldable pub is_too_large : Option Amounts → Bool
is_too_large None = true
is_too_large (Some x) = false

unfoldable pub any_alarm : Alarms → Bool
any_alarm a = a.p || a.t || a.k

-- Without an alarm both amounts go to the main counters, and with one the whole of both goes to the disturbed counters. The other two stand
-- still. To the totals both amounts go in either case (document 02, One).
unfoldable pub counted : Counters → Bool → Option Amounts → Counters
counted c disturbed None = c
counted c false (Some x) = record { vm = plus_litres c.vm x.litres; vmd = c.vmd; vmt = plus_litres c.vmt x.litres; vb = plus_base c.vb x.base; vbd = c.vbd; vbt = plus_base c.vbt x.base }
counted c true (Some x) = record { vm = c.vm; vmd = plus_litres c.vmd x.litres; vmt = plus_litres c.vmt x.litres; vb = c.vb; vbd = plus_base c.vbd x.base; vbt = plus_base c.vbt x.base }

-- ---- the pulse outputs (document 02, Three)

-- what the outputs gain: both amounts, by whether the cycle is disturbed
unfoldable pub outputs_gained : (ℕ → Rule) → Bool → Option Amounts → List Output → AllGained
outputs_gained rules disturbed None o = none_gained o
outputs_gained rules disturbed (Some x) o = all_gained rules (record { disturbed = disturbed; litres = x.litres; base = x.base }) o

-- the outputs after a cycle, and which of them lost pulses in it
unfoldable pub gained_for : List Setting → Brought → List Output → AllGained
gained_for a r o = outputs_gained (rule_at a) (any_alarm (alarms_for a r)) (amounts_for a r) o

-- ---- 7. Alarms

-- a latch is set when its alarm is present, and stays
unfoldable pub latches_after : Alarms → Alarms → Alarms
latches_after latch found = record { p = found.p || latch.p; t = found.t || latch.t; k = found.k || latch.k }

-- the lines that a change of the alarms may bring: order p, T, K, the "came" lines before the "went" lines. Each has its condition and its code
unfoldable pub change_notes : Alarms → Alarms → List Note
change_notes before found =
    note_of (found.p && not before.p) 11 ∷ note_of (found.t && not before.t) 12 ∷ note_of (found.k && not before.k) 13
    ∷ note_of (before.p && not found.p) 21 ∷ note_of (before.t && not found.t) 22 ∷ note_of (before.k && not found.k) 23 ∷ []

-- "logged as 51 to 54, one line an output in a cycle, after the alarm lines" (document 02, Three): by which outputs lost pulses
unfoldable pub loss_notes : List Bool → List Note
loss_notes over = listed (λ k. note_of (get_or over k false) (51 + k)) output_count

-- the codes of the lines whose condition holds
unfoldable pub changes : Alarms → Alarms → List Bool → List ℕ
changes before found over = noted (change_notes before found ++ loss_notes over)

-- ---- together

-- what is measured after a cycle at a time, from the alarms found and the amounts
abbrev pub measured_by : Measured → ℕ → Alarms → Option Amounts → Measured
measured_by m time found amounts = record {
  time = time;
  month = month_of time;
  counters = counted m.counters (any_alarm found) amounts;
  alarms = found;
}
