-- Where the locks stand, said of the history alone. Document 01, "Doors, sessions, locks": "They .. are shut when fresh. .. A lock that opens or
-- shuts is logged; turning it to where it already stands is accepted and not logged, but opening needs the right code even then."
-- Assumes nothing.
use Rattle.std.specs.Prelude.{ℕ, ◌+◌, Bool, false, not, cond, ◌&&◌, ◌||◌, [], ◌∷◌, leb, eqb}
use Rattle.calendar.specs.Calendar.{end_of_time}
use Rattle.ground.specs.Below.{any_below}
use Rattle.settings.specs.Settings.{setting_count, right_b}
use Rattle.state.specs.declared.Locks.{Locks}
use Rattle.runs.specs.Run.{Step, LockTurn, Open, Shut, Cycle, Turn, Clear, Tick, Ask, Call, Commit, lock_of, opens_it}
use Rattle.runs.specs.History.{History, done}
use Rattle.runs.specs.Stale.{has_staged}

-- what is said of a lock turn, and of any other command
abbrev pub on_turn : {A : Type 0} → (LockTurn → A) → A → Step → A
on_turn f d (Cycle r) = d
on_turn f d (Turn turn) = f turn
on_turn f d Clear = d
on_turn f d (Tick named) = d
on_turn f d (Ask question) = d
on_turn f d (Call door act) = d
on_turn f d (Commit door) = d

-- whether the lock is open after an accepted step, given whether it was open before: only a turn of this lock matters
abbrev pub lock_by : ℕ → Step → Bool → Bool
lock_by lock x before = on_turn (λ turn. cond (eqb (lock_of turn) lock) (opens_it turn) before) before x

-- a lock is open if the last accepted turn of it opened it; before the first it is shut
abbrev pub lock_at : ℕ → History → Bool
lock_at lock [] = false
lock_at lock (x ∷ past) = cond (done x) (lock_by lock x.0 (lock_at lock past)) (lock_at lock past)

-- ---- the codes

-- no step changes a code; a refused start hands back the state that codes 0 would give
abbrev pub start_code : ℕ → ℕ → ℕ
start_code time code = cond (leb end_of_time time) 0 code

-- lock 2 or 3, with another code than the start's
abbrev pub wrong_code : ℕ → ℕ → ℕ → ℕ → Bool
wrong_code supcode custcode lock code = (eqb lock 2 && not (eqb code supcode)) || (eqb lock 3 && not (eqb code custcode))

-- the three locks, with the codes of the start
abbrev pub locks_in : ℕ → ℕ → History → Locks
locks_in supcode custcode past = record {
  cal = lock_at 1 past;
  sup = lock_at 2 past;
  cust = lock_at 3 past;
  supcode = supcode;
  custcode = custcode;
}

-- Clear needs lock 1 or lock 2
abbrev pub may_clear : History → Bool
may_clear past = lock_at 1 past || lock_at 2 past

-- a commit at the door lacks a lock for a setting that its session has staged
abbrev pub lacks_lock : ℕ → History → Bool
lacks_lock door past = any_below (λ k. has_staged door (k + 1) past && not (right_b k (lock_at 1 past) (lock_at 2 past) (lock_at 3 past))) setting_count

-- ---- the lines

-- the turn moves its lock: an open one is shut, or a shut one opened
abbrev pub moves : LockTurn → History → Bool
moves (Open lock code) past = not (lock_at lock past)
moves (Shut lock) past = lock_at lock past
