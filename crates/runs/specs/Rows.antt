-- The rows of the fault card, command by command, in the printed order: "Where several apply, 1 comes first, then 3, then 2 or 4, then the
-- rest in rising number." Document 02, Three: 15, after 1. Five: 16, after 1.
-- Assumes nothing.
use Rattle.std.specs.Prelude.{ℕ, ◌-◌, Bool, true, not, cond, ◌&&◌, ◌||◌, List, [], ◌∷◌, ltb, leb, eqb, length, get_or}
use Rattle.outputs.specs.Four.{rule_at, most_tick, all_shown}
use Rattle.calendar.specs.Calendar.{end_of_time}
use Rattle.message.specs.Message.{size}
use Rattle.units.specs.Units.{most_pulses}
use Rattle.settings.specs.Settings.{fits_b, ordered_b}
use Rattle.ring.specs.declared.Ring.{Ring}
use Rattle.ring.specs.Ring.{archive_lines, log_lines, audit_lines}
use Rattle.ring.specs.Store.{held_lines}
use Rattle.books.specs.Books.{no_archive, no_log, no_audit}
use Rattle.asked.specs.Asked.{newest_in}
use Rattle.state.specs.declared.Locks.{Locks}
use Rattle.state.specs.declared.State.{State}
use Rattle.state.specs.State.{whole_b}
use Rattle.cycle.specs.Cycle.{amounts_for, is_too_large}
use Rattle.panel.specs.Panel.{no_lock, right_code, reported, values_of}
use Rattle.doors.specs.Doors.{no_door, no_such_setting, session_at, lock_missing, stale_b, as_stand, refused_commit}
use Rattle.commands.specs.declared.Given.TheVariants as given
use Rattle.runs.specs.Exactly.{Rows}
use Rattle.runs.specs.Run.{Step, LockTurn, Open, Shut, Question, Act, Begin, Read, Write, Abandon, Cycle, Turn, Clear, Tick, Ask, Call, Commit, Given, World, with_state, Body, body_of}
use Rattle.commands.specs.declared.Question.TheVariants as question

-- 1: the state is not whole, or a store lent to the call has not its exact length
abbrev pub unsound : World → Bool → Bool
unsound w lengths = not (whole_b w.state && lengths)

abbrev pub not_whole : World → Bool
not_whole w = not (whole_b w.state)

-- ---- the questions

-- What a question comes to; it looks at no session. Whether the stores that it is lent have their lengths, its rows after the first, and what it
-- gives.
pub record Asked : Type 0 where
  pub lent : Bool
  pub rows : Rows
  pub gives : Given

-- line i, counted from 0, of the lines held, newest first. 13: i is not below the number of lines held
abbrev pub asked_line : {A : Type 0} → (A → Given) → ℕ → A → Ring → List A → ℕ → Asked
asked_line give size none r l i =
    let lines = held_lines size none r l in
    record { lent = eqb (length l) size; rows = (13, not (ltb i (length lines))) ∷ []; gives = give (get_or lines i none) }

abbrev pub asking : Question → Body → Asked
asking question.Report b = record { lent = true; rows = []; gives = given.Report (reported b.core) }
asking question.Outputs b = record { lent = true; rows = []; gives = given.Outputs (all_shown (rule_at b.core.settings) b.core.outputs) }
-- 16: the lent buffer is shorter than the message
asking (question.Readout room) b = record { lent = true; rows = (16, ltb room size) ∷ []; gives = given.Readout (record { room = room; values = values_of b.core.measured.counters }) }
asking (question.Archive i) b = asked_line given.Archive archive_lines no_archive b.core.stores.archive b.archive i
asking (question.Log i) b = asked_line given.Log log_lines no_log b.core.stores.log.ring b.log i
asking (question.Audit i) b = asked_line given.Audit audit_lines no_audit b.core.stores.audit.ring b.audit i
-- 1 alone: a code that no line can have has its answer too
asking (question.Last code) b =
    record { lent = eqb (length b.log) log_lines; rows = []; gives = given.Last (newest_in code (held_lines log_lines no_log b.core.stores.log.ring b.log)) }

-- ---- the rest

abbrev pub turn_rows : LockTurn → Locks → Rows
turn_rows (Open lock code) l = (3, no_lock lock) ∷ (8, not (right_code l lock code)) ∷ []
turn_rows (Shut lock) l = (3, no_lock lock) ∷ []

abbrev pub call_rows : ℕ → Act → State → Rows
call_rows door Begin s = (3, no_door door) ∷ (2, (session_at s door).live) ∷ []
call_rows door (Read setting) s = (3, no_door door || no_such_setting setting) ∷ (4, not (session_at s door).live) ∷ []
call_rows door (Write setting v) s = (3, no_door door || no_such_setting setting) ∷ (4, not (session_at s door).live) ∷ (9, not (fits_b (setting - 1) v)) ∷ []
call_rows door Abandon s = (3, no_door door) ∷ (4, not (session_at s door).live) ∷ []

abbrev pub rows_of : Step → World → Rows
rows_of (Cycle r) w =
    (1, unsound w (eqb (length w.archive) archive_lines && eqb (length w.log) log_lines))
    ∷ (5, ltb r.time w.state.core.measured.time)
    ∷ (6, leb end_of_time r.time)
    ∷ (7, ltb most_pulses r.n)
    ∷ (14, is_too_large (amounts_for w.state.core.settings r))
    ∷ []
rows_of (Turn turn) w = (1, unsound w (eqb (length w.log) log_lines)) ∷ turn_rows turn w.state.core.locks
rows_of Clear w = (1, not_whole w) ∷ (10, not (w.state.core.locks.cal || w.state.core.locks.sup)) ∷ []
rows_of (Tick named) w = (1, not_whole w) ∷ (15, ltb most_tick named) ∷ []
rows_of (Ask question) w = (1, unsound w (asking question (body_of w)).lent) ∷ (asking question (body_of w)).rows
rows_of (Call door act) w = (1, not_whole w) ∷ call_rows door act w.state
rows_of (Commit door) w =
    (1, unsound w (eqb (length w.audit) audit_lines))
    ∷ (3, no_door door)
    ∷ (4, not (session_at w.state door).live)
    ∷ (10, lock_missing w.state.core.locks (session_at w.state door).cells)
    ∷ (11, stale_b (session_at w.state door).cells)
    ∷ (12, not (ordered_b (as_stand w.state.core.settings (session_at w.state door).cells)))
    ∷ []

-- the last number of the table
abbrev pub last_number : ℕ
last_number = 16

-- the printed order: 1, 3, 2, 4, 5, .. 16; a number's place in it
abbrev pub place_in_table : ℕ → ℕ
place_in_table n = cond (eqb n 2) 3 (cond (eqb n 3) 2 n)

-- the numbers are of the table, and stand in the printed order
abbrev pub printed_after : ℕ → Rows → Bool
printed_after k [] = true
printed_after k (x ∷ xs) = ltb k (place_in_table x.0) && (leb x.0 last_number && printed_after (place_in_table x.0) xs)

-- A step refused with a number leaves the world as it was; 10, 11 and 12 at a commit also end its session.
abbrev pub refused_by : Step → World → ℕ → World
refused_by (Cycle r) w number = w
refused_by (Turn turn) w number = w
refused_by Clear w number = w
refused_by (Tick named) w number = w
refused_by (Ask question) w number = w
refused_by (Call door act) w number = w
refused_by (Commit door) w number = with_state w (refused_commit w.state door number)
