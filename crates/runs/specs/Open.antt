-- When a session is open at a door, said of the history alone. Document 01, "Doors, sessions, locks": "Begin opens a session at a door. .. Commit ..
-- ends the session. Abandon ends it", and of the refusals: "10, 11 and 12 at a commit also end that session".
-- Assumes nothing.
use Rattle.std.specs.Prelude.{ℕ, Bool, true, false, cond, ◌&&◌, ◌||◌, [], ◌∷◌, eqb}
use Rattle.doors.specs.Doors.{ends_refused}
use Rattle.runs.specs.Run.{Step, Cycle, Turn, Clear, Tick, Ask, Call, Commit, Begin, Read, Write, Abandon, number_of}
use Rattle.runs.specs.History.{History}

-- whether a session is open at the door after a step that had the number n, given whether one was open before
abbrev pub open_after : ℕ → Step → ℕ → Bool → Bool
open_after door (Cycle r) n before = before
open_after door (Turn turn) n before = before
open_after door Clear n before = before
open_after door (Tick named) n before = before
open_after door (Ask question) n before = before
open_after door (Call d Begin) n before = cond (eqb n 0 && eqb d door) true before
open_after door (Call d Abandon) n before = cond (eqb n 0 && eqb d door) false before
open_after door (Commit d) n before = cond ((eqb n 0 || ends_refused n) && eqb d door) false before
open_after door (Call d (Read setting)) n before = before
open_after door (Call d (Write setting v)) n before = before

-- looking back from now, an accepted begin at the door comes before anything that ended a session there
abbrev pub open_at : ℕ → History → Bool
open_at door [] = false
open_at door (x ∷ past) = open_after door x.0 (number_of x.1) (open_at door past)
