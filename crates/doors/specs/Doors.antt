-- Two doors and their sessions. Document 01, "Doors, sessions, locks", and the fault card; document 02, Three.
-- Assumes nothing.
use Rattle.std.specs.Prelude.{ℕ, ◌-◌, Bool, not, cond, ◌&&◌, ◌||◌, List, [], ◌∷◌, length, ltb, eqb}
use Rattle.settings.specs.declared.Value.{Value}
use Rattle.settings.specs.Settings.{setting_count, fits_b, ordered_b}
use Rattle.outputs.specs.Four.{rule_at, all_committed}
use Rattle.ring.specs.Ring.{audit_lines, advanced_book}
use Rattle.books.specs.declared.AuditLine.{AuditLine}
use Rattle.books.specs.Books.{no_audit}
use Rattle.state.specs.declared.Cell.{Cell}
use Rattle.state.specs.declared.Session.{Session}
use Rattle.state.specs.declared.Core.{Core}
use Rattle.state.specs.declared.State.{State}
use Rattle.state.specs.State.{no_session, whole_b}
use Rattle.state.specs.Card.{first_of}
use Rattle.ring.specs.Store.{written}
use Rattle.commands.specs.declared.Given.TheVariants as given
use Rattle.commands.specs.declared.Reply.{Reply}
use Rattle.commands.specs.declared.Answer.{Answer}
use Rattle.commands.specs.Answers.{plain, giving, answered, Outcome, with_audit}
unfoldable pub use Rattle.staging.specs.Staging.{cell_at, with_cell, begun, marked_read, staged_cell, missing_at, lock_missing, overtaken_at, stale_b, stands_at, as_stand, changes_among, audited, marked_by, overtaken_by, overtaken_session}
pub use Rattle.staging.specs.Staging.{value_seen, Change, audit_line}
use Rattle.asked.specs.Asked.{line_given}

-- ---- the doors: 1 the keypad, 2 the optical port

abbrev pub no_door : ℕ → Bool
no_door door = ltb door 1 || ltb 2 door

abbrev pub no_such_setting : ℕ → Bool
no_such_setting setting = ltb setting 1 || ltb setting_count setting

unfoldable pub session_at : State → ℕ → Session
session_at s door = cond (eqb door 1) s.keypad s.port

unfoldable pub other_at : State → ℕ → Session
other_at s door = cond (eqb door 1) s.port s.keypad

-- the state with these sessions at the door and at the other door
unfoldable pub placed : Core → ℕ → Session → Session → State
placed c door mine theirs = record { core = c; keypad = cond (eqb door 1) mine theirs; port = cond (eqb door 1) theirs mine }

unfoldable pub with_session : State → ℕ → Session → State
with_session s door x = placed s.core door x (other_at s door)

-- ---- begin, abandon; here and below, `sound` says whether the state is whole

unfoldable pub begin_refusal : Bool → State → ℕ → ℕ
begin_refusal sound s door = first_of ((1, not sound) ∷ (3, no_door door) ∷ (2, (session_at s door).live) ∷ [])

unfoldable pub begin_by : Bool → State → ℕ → Answer
begin_by sound s door = answered (begin_refusal sound s door) s (with_session s door begun)

abbrev pub begin_of : State → ℕ → Answer
begin_of s door = begin_by (whole_b s) s door

unfoldable pub abandon_refusal : Bool → State → ℕ → ℕ
abandon_refusal sound s door = first_of ((1, not sound) ∷ (3, no_door door) ∷ (4, not (session_at s door).live) ∷ [])

unfoldable pub abandon_by : Bool → State → ℕ → Answer
abandon_by sound s door = answered (abandon_refusal sound s door) s (with_session s door no_session)

abbrev pub abandon_of : State → ℕ → Answer
abandon_of s door = abandon_by (whole_b s) s door

-- ---- read

unfoldable pub read_refusal : Bool → State → ℕ → ℕ → ℕ
read_refusal sound s door setting = first_of ((1, not sound) ∷ (3, no_door door || no_such_setting setting) ∷ (4, not (session_at s door).live) ∷ [])

-- the session's own staged value if it has one, else the value in force
unfoldable pub value_read : State → ℕ → ℕ → Value
value_read s door setting = value_seen (session_at s door) s.core.settings setting

unfoldable pub read_after : State → ℕ → ℕ → State
read_after s door setting =
    with_session s door (with_cell (session_at s door) setting (marked_read (cell_at (session_at s door) setting)))

unfoldable pub read_by : Bool → State → ℕ → ℕ → Answer
read_by sound s door setting =
    let number = read_refusal sound s door setting in
    record { reply = giving number (given.Value (value_read s door setting)); state = cond (eqb number 0) (read_after s door setting) s }

abbrev pub read_of : State → ℕ → ℕ → Answer
read_of s door setting = read_by (whole_b s) s door setting

-- ---- write

unfoldable pub write_refusal : Bool → State → ℕ → ℕ → Value → ℕ
write_refusal sound s door setting v = first_of (
    (1, not sound)
    ∷ (3, no_door door || no_such_setting setting)
    ∷ (4, not (session_at s door).live)
    ∷ (9, not (fits_b (setting - 1) v))
    ∷ [])

unfoldable pub write_after : State → ℕ → ℕ → Value → State
write_after s door setting v =
    with_session s door (with_cell (session_at s door) setting (staged_cell (cell_at (session_at s door) setting) v))

unfoldable pub write_by : Bool → State → ℕ → ℕ → Value → Answer
write_by sound s door setting v = answered (write_refusal sound s door setting v) s (write_after s door setting v)

abbrev pub write_of : State → ℕ → ℕ → Value → Answer
write_of s door setting v = write_by (whole_b s) s door setting v

-- ---- commit

unfoldable pub commit_refusal : Bool → State → ℕ → ℕ → ℕ
commit_refusal sound s door auditLength = first_of (
    (1, not (sound && eqb auditLength audit_lines))
    ∷ (3, no_door door)
    ∷ (4, not (session_at s door).live)
    ∷ (10, lock_missing s.core.locks (session_at s door).cells)
    ∷ (11, stale_b (session_at s door).cells)
    ∷ (12, not (ordered_b (as_stand s.core.settings (session_at s door).cells)))
    ∷ [])

-- the lines of a commit at a door; the time is that of the last accepted cycle
unfoldable pub commit_lines : State → ℕ → List AuditLine
commit_lines s door =
    audited s.core.stores.audit s.core.measured.time door (changes_among s.core.settings (session_at s door).cells setting_count)

-- an output whose choice or weight is now another drops its account (document 02, Three)
unfoldable pub committed_core : Core → List Cell → ℕ → Core
committed_core c cells lines = record {
  measured = c.measured;
  latches = c.latches;
  locks = c.locks;
  settings = as_stand c.settings cells;
  outputs = all_committed (rule_at c.settings) (rule_at (as_stand c.settings cells)) c.outputs;
  stores = record { archive = c.stores.archive; log = c.stores.log; audit = advanced_book audit_lines lines c.stores.audit };
}

-- all staged values in force together, the other door marked, and the session ended
unfoldable pub committed : State → ℕ → State
committed s door =
    placed (committed_core s.core (session_at s door).cells (length (commit_lines s door))) door no_session
    (overtaken_session (session_at s door) (other_at s door))

-- "10, 11 and 12 at a commit also end that session"
abbrev pub ends_refused : ℕ → Bool
ends_refused number = eqb number 10 || (eqb number 11 || eqb number 12)

-- such a refusal changes nothing else, and any other refusal nothing at all
unfoldable pub refused_commit : State → ℕ → ℕ → State
refused_commit s door number = cond (ends_refused number) (with_session s door no_session) s

unfoldable pub commit_of : State → ℕ → List AuditLine → Outcome
commit_of s door audit =
    let number = commit_refusal (whole_b s) s door (length audit) in
    cond (eqb number 0)
    (with_audit (record { reply = plain 0; state = committed s door }) (written audit_lines s.core.stores.audit.ring audit (commit_lines s door)))
    (with_audit (record { reply = plain number; state = refused_commit s door number }) audit)

-- ---- a line of the audit trail: line i of the lines held, newest first

abbrev pub audit_line_of : State → ℕ → List AuditLine → Reply
audit_line_of s i audit = line_given given.Audit (whole_b s) audit_lines no_audit s.core.stores.audit.ring audit i
