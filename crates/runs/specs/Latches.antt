-- Alarms and latches over a run. Document 01, "One measuring cycle", 7: "An alarm is present as this cycle found it. Its latch is set when present
-- and stays until cleared. Clear drops the latch of each alarm not present."
-- Assumes nothing.
use Rattle.std.specs.Prelude.{Bool, false, not, cond, ◌&&◌, ◌||◌, List, [], ◌∷◌, eqb}
use Rattle.state.specs.declared.Alarms.{Alarms}
use Rattle.state.specs.State.{no_alarm}
use Rattle.cycle.specs.Cycle.{alarms_for}
use Rattle.runs.specs.Run.{Step, Cycle, Turn, Clear, Tick, Ask, Call, Commit, on_cycle, World, number_of, step}
use Rattle.runs.specs.History.{History, done}
use Rattle.runs.specs.InForce.{settings_in}

pub data Alarm : Type 0 where
  p t k : Alarm

abbrev pub flag_of : Alarm → Alarms → Bool
flag_of p a = a.p
flag_of t a = a.t
flag_of k a = a.k

-- the alarm is present, and its latch shows
abbrev pub present : Alarm → World → Bool
present a w = flag_of a w.state.core.measured.alarms

abbrev pub latch : Alarm → World → Bool
latch a w = flag_of a w.state.core.latches

-- ---- present: as the last accepted cycle found it, and none before the first

abbrev pub found_in : History → Alarms
found_in [] = no_alarm
found_in (x ∷ past) = cond (done x) (on_cycle (λ r. alarms_for (settings_in past) r) (found_in past) x.0) (found_in past)

-- ---- latched: set when present, and stays until a Clear finds the alarm not present

-- the latch after an accepted step; l is the latch before it
abbrev pub latch_after : Alarm → Step → History → Bool → Bool
latch_after a (Cycle r) past l = flag_of a (alarms_for (settings_in past) r) || l
latch_after a (Turn turn) past l = l
latch_after a Clear past l = l && flag_of a (found_in past)
latch_after a (Tick named) past l = l
latch_after a (Ask question) past l = l
latch_after a (Call door act) past l = l
latch_after a (Commit door) past l = l

abbrev pub latch_in : Alarm → History → Bool
latch_in a [] = false
latch_in a (x ∷ past) = cond (done x) (latch_after a x.0 past (latch_in a past)) (latch_in a past)

-- ---- from any world, where no history is known

-- a step is accepted where its number is 0
abbrev pub accepted : Step → World → Bool
accepted x w = eqb (number_of (step x w).1) 0

-- a cycle finds the alarm present
abbrev pub finds_present : Alarm → Step → World → Bool
finds_present a x w = on_cycle (λ r. flag_of a (alarms_for w.state.core.settings r)) false x

-- a Clear finds it not present
abbrev pub clears_absent : Alarm → Step → World → Bool
clears_absent a (Cycle r) w = false
clears_absent a (Turn turn) w = false
clears_absent a Clear w = not (present a w)
clears_absent a (Tick named) w = false
clears_absent a (Ask question) w = false
clears_absent a (Call door act) w = false
clears_absent a (Commit door) w = false

-- a Clear of a run was accepted that found the alarm not present
abbrev pub cleared_in : Alarm → List Step → World → Bool
cleared_in a [] w = false
cleared_in a (x ∷ xs) w = accepted x w && clears_absent a x w || cleared_in a xs (step x w).0
