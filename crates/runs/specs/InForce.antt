-- The values staged and in force, said of the history alone. Document 01, "Doors, sessions, locks": "Read gives the session's own staged value if it
-- has one, else the value in force .. Write stages a value; a second write of the same setting replaces the first. Commit puts all staged values in
-- force together".
-- Assumes nothing.
use Rattle.std.specs.Prelude.{ℕ, ◌+◌, ◌-◌, cond, ◌&&◌, List, [], ◌∷◌, eqb}
use Rattle.settings.specs.declared.Value.{Value}
use Rattle.settings.specs.declared.Setting.{Setting}
use Rattle.settings.specs.Settings.{setting_count, value_at, factory_settings}
use Rattle.ground.specs.Below.{listed}
use Rattle.runs.specs.History.{History}
use Rattle.runs.specs.Stale.{Deed, nothing, begins, commits, reads, writes, deed, begins_at}

-- ---- staged

-- what a deed leaves staged of the setting: a write of it at the door its value, any other deed what was staged before, v
abbrev pub written_by : ℕ → ℕ → Deed → Value → Value
written_by door setting nothing v = v
written_by door setting (begins d) v = v
written_by door setting (commits d) v = v
written_by door setting (reads d k) v = v
written_by door setting (writes d k u) v = cond (eqb d door && eqb k setting) u v

-- the last accepted write of the setting since the session at the door was opened, and v if there is none
abbrev pub last_written : ℕ → ℕ → Value → History → Value
last_written door setting v [] = v
last_written door setting v (x ∷ past) = cond (begins_at door (deed x)) v (written_by door setting (deed x) (last_written door setting v past))

-- ---- in force

-- a commit puts in force what its session has staged of the setting; v was in force before it
abbrev pub forced_by : ℕ → Deed → History → Value → Value
forced_by setting nothing past v = v
forced_by setting (begins d) past v = v
forced_by setting (commits d) past v = last_written d setting v past
forced_by setting (reads d k) past v = v
forced_by setting (writes d k u) past v = v

-- the value of the last accepted commit that had the setting staged, else the factory value
abbrev pub in_force : ℕ → History → Value
in_force setting [] = value_at factory_settings (setting - 1)
in_force setting (x ∷ past) = forced_by setting (deed x) past (in_force setting past)

-- all of them, in the order of the table
abbrev pub setting_of : Value → Setting
setting_of v = record { value = v }

unfoldable pub settings_in : History → List Setting
settings_in past = listed (λ k. setting_of (in_force (k + 1) past)) setting_count

-- ---- what a session sees

-- its own staged value if it has one, else the value in force
abbrev pub seen_at : ℕ → ℕ → History → Value
seen_at door setting past = last_written door setting (in_force setting past) past

-- the settings as they would stand after a commit at the door
unfoldable pub would_stand : ℕ → History → List Setting
would_stand door past = listed (λ k. setting_of (seen_at door (k + 1) past)) setting_count
