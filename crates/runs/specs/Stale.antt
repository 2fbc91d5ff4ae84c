-- When a commit is stale, said of the history alone. Document 01, "Doors, sessions, locks": "A commit is stale if a setting counted as read was
-- put in force through the other door after the first such read."
-- Assumes nothing.
use Rattle.std.specs.Prelude.{ℕ, ◌+◌, Bool, false, cond, ◌&&◌, ◌||◌, [], ◌∷◌, eqb}
use Rattle.ground.specs.Below.{any_below}
use Rattle.settings.specs.declared.Value.{Value}
use Rattle.settings.specs.Settings.{setting_count}
use Rattle.runs.specs.Run.{Step, Cycle, Turn, Clear, Tick, Ask, Call, Commit, Begin, Read, Write, Abandon, Reply}
use Rattle.runs.specs.History.{History, done}

-- ---- what was done

-- what bears on the settings: the door, then the setting and the value written
pub data Deed : Type 0 where
  nothing : Deed
  begins commits : ℕ → Deed
  reads : ℕ → ℕ → Deed
  writes : ℕ → ℕ → Value → Deed

abbrev pub deed_of : Step → Deed
deed_of (Cycle r) = nothing
deed_of (Turn turn) = nothing
deed_of Clear = nothing
deed_of (Tick named) = nothing
deed_of (Ask question) = nothing
deed_of (Call door Begin) = begins door
deed_of (Call door Abandon) = nothing
deed_of (Commit door) = commits door
deed_of (Call door (Read setting)) = reads door setting
deed_of (Call door (Write setting v)) = writes door setting v

-- a step that was refused did nothing
abbrev pub deed : Step × Reply → Deed
deed x = cond (done x) (deed_of x.0) nothing

abbrev pub begins_at : ℕ → Deed → Bool
begins_at door nothing = false
begins_at door (begins d) = eqb d door
begins_at door (commits d) = false
begins_at door (reads d k) = false
begins_at door (writes d k v) = false

abbrev pub commits_at : ℕ → Deed → Bool
commits_at door nothing = false
commits_at door (begins d) = false
commits_at door (commits d) = eqb d door
commits_at door (reads d k) = false
commits_at door (writes d k v) = false

abbrev pub reads_at : ℕ → ℕ → Deed → Bool
reads_at door setting nothing = false
reads_at door setting (begins d) = false
reads_at door setting (commits d) = false
reads_at door setting (reads d k) = eqb d door && eqb k setting
reads_at door setting (writes d k v) = false

abbrev pub writes_at : ℕ → ℕ → Deed → Bool
writes_at door setting nothing = false
writes_at door setting (begins d) = false
writes_at door setting (commits d) = false
writes_at door setting (reads d k) = false
writes_at door setting (writes d k v) = eqb d door && eqb k setting

-- ---- the session at a door

-- something happened since the session at the door was opened: p says of a deed, and of the history before it, whether that was it
abbrev pub since : ℕ → (Deed → History → Bool) → History → Bool
since door p [] = false
since door p (x ∷ past) = cond (begins_at door (deed x)) false (p (deed x) past || since door p past)

-- the session has read the setting: it counts as read, whatever the session writes later
abbrev pub has_read : ℕ → ℕ → History → Bool
has_read door setting past = since door (λ y before. reads_at door setting y) past

-- the session has staged the setting
abbrev pub has_staged : ℕ → ℕ → History → Bool
has_staged door setting past = since door (λ y before. writes_at door setting y) past

-- a commit puts in force what its session has staged
abbrev pub puts_in_force : ℕ → ℕ → Deed → History → Bool
puts_in_force door setting y before = commits_at door y && has_staged door setting before

abbrev pub other_door : ℕ → ℕ
other_door door = cond (eqb door 1) 2 1

-- the setting was put in force through the other door after the session had read it
abbrev pub overtaken_in : ℕ → ℕ → History → Bool
overtaken_in door setting past =
    since door (λ y before. puts_in_force (other_door door) setting y before && has_read door setting before) past

-- a commit at the door would be stale
abbrev pub stale : ℕ → History → Bool
stale door past = any_below (λ k. overtaken_in door (k + 1) past) setting_count
