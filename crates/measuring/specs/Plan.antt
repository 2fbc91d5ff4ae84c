-- How the code works out what a cycle measures. It works with 64 bits, so its factor and its amounts are guarded: outside the bounds that fit they
-- are a stand-in. A whole state never gets there: `factor_exact` and `amounts_exact` in crates/cycle/proofs/Exact.antt.
-- Assumes nothing.
use Rattle.std.specs.Prelude.{ℕ, Option, Bool, not, ◌&&◌, List, [], ◌∷◌, ltb, leb}
use Rattle.units.specs.declared.Amounts.{Amounts}
use Rattle.units.specs.Units.{most_pulses}
use Rattle.units.specs.Plan.{amounts_guarded}
use Rattle.settings.specs.declared.Setting.{Setting}
use Rattle.settings.specs.Settings.{cp, pb, tb}
use Rattle.readings.specs.Plan.{kelvin_guarded}
use Rattle.factor.specs.Plan.{factor_guarded}
use Rattle.outputs.specs.declared.Output.{Output}
use Rattle.outputs.specs.declared.AllGained.{AllGained}
use Rattle.outputs.specs.Plan.{rule_guarded}
use Rattle.calendar.specs.Calendar.{end_of_time}
use Rattle.state.specs.declared.Alarms.{Alarms}
use Rattle.state.specs.Card.{first_of}
use Rattle.commands.specs.declared.Brought.{Brought}
use Rattle.measuring.specs.declared.Found.{Found}
use Rattle.measuring.specs.Measuring.{natural_at, temperature_for, pressure_for, k_for, alarms_for, any_alarm, outputs_gained}

-- the factor and the amounts
unfoldable pub factor_planned : List Setting → Brought → ℕ
factor_planned a r = factor_guarded (pressure_for a r).value (natural_at a tb) (natural_at a pb) (kelvin_guarded (temperature_for a r).value) (k_for a r).value

unfoldable pub amounts_planned : List Setting → Brought → Option Amounts
amounts_planned a r = amounts_guarded r.n (natural_at a cp) (factor_planned a r)

-- the alarms and the factor of a cycle
unfoldable pub found_in : List Setting → Brought → Found
found_in a r = record { alarms = alarms_for a r; factor = factor_planned a r }

-- the refusals of a cycle, by the tests that the code has made; last is the last accepted time
unfoldable pub refusal_by : Bool → ℕ → Bool → ℕ → ℕ → Bool → ℕ
refusal_by sound last lengths time n large = first_of (
    (1, not (sound && lengths)) ∷ (5, ltb time last) ∷ (6, leb end_of_time time) ∷ (7, ltb most_pulses n) ∷ (14, large) ∷ [])

-- what the outputs gain, by the rules as the code takes them
unfoldable pub gained_planned : List Setting → Alarms → Option Amounts → List Output → AllGained
gained_planned a found amounts o = outputs_gained (rule_guarded a) (any_alarm found) amounts o
