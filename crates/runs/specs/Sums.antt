-- What a run puts on the six counters, said of the history alone. Document 01, "One measuring cycle", 6: the amounts are those of the accepted cycles,
-- by the settings in force and the alarms of each. Document 02, One: two of the six are the totals.
-- Assumes nothing.
use Rattle.std.specs.Prelude.{ℕ, ◌+◌, ◌*◌, Bool, cond, List, [], ◌∷◌}
use Rattle.units.specs.Units.{litres_rollover, base_rollover, pulse_litres}
pub use Rattle.units.specs.declared.Counter.{Counter}
pub use Rattle.units.specs.declared.Counter.TheVariants.{Vm, VmD, VmT, Vb, VbD, VbT}
pub use Rattle.units.specs.Units.{put_by}
use Rattle.settings.specs.declared.Setting.{Setting}
use Rattle.settings.specs.Settings.{cp}
use Rattle.state.specs.declared.Counters.{Counters}
use Rattle.commands.specs.declared.Brought.{Brought}
use Rattle.cycle.specs.Cycle.{natural_at, alarms_for, any_alarm, factor_for}
use Rattle.runs.specs.Run.{Step, on_cycle, World, Reply}
use Rattle.runs.specs.History.{History, done}
use Rattle.runs.specs.InForce.{settings_in}

-- n times the pulse value
unfoldable pub litres_by : List Setting → Brought → ℕ
litres_by a r = r.n * pulse_litres (natural_at a cp)

-- and that times the factor
unfoldable pub base_by : List Setting → Brought → ℕ
base_by a r = litres_by a r * factor_for a r

-- any alarm is present in the cycle
abbrev pub disturbed_by : List Setting → Brought → Bool
disturbed_by a r = any_alarm (alarms_for a r)

abbrev pub amount_of : Counter → List Setting → Brought → ℕ
amount_of c a r = put_by c (disturbed_by a r) (litres_by a r) (base_by a r)

-- what a step put on a counter, by the history before it: an accepted cycle its amount, by the settings then in force, and anything else nothing
abbrev pub put_in : Counter → Step × Reply → History → ℕ
put_in c x past = on_cycle (λ r. cond (done x) (amount_of c (settings_in past) r) 0) 0 x.0

-- the sum over a history
abbrev pub sum_in : Counter → History → ℕ
sum_in c [] = 0
sum_in c (x ∷ past) = sum_in c past + put_in c x past

-- what a counter shows, and where it rolls over
abbrev pub shown_by : Counter → Counters → ℕ
shown_by Vm c = c.vm.0
shown_by VmD c = c.vmd.0
shown_by VmT c = c.vmt.0
shown_by Vb c = c.vb.0
shown_by VbD c = c.vbd.0
shown_by VbT c = c.vbt.0

abbrev pub shows : Counter → World → ℕ
shows c w = shown_by c w.state.core.measured.counters

abbrev pub rollover : Counter → ℕ
rollover Vm = litres_rollover
rollover VmD = litres_rollover
rollover VmT = litres_rollover
rollover Vb = base_rollover
rollover VbD = base_rollover
rollover VbT = base_rollover
