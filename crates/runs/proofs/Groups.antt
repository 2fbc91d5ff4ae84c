-- The groups: what the commands of a group come to, said once for the group. A clause for each command stands here and nowhere else.
-- Assumes nothing.
use mathlib.Core.Path.{◌≡◌, refl}
use mathlib.Core.Bool.{Bool, true, false, cond, and-true}
use Prim.Native.Nat.{ℕ}
use lib.Dec.{eqb}
use Rattle.state.specs.declared.Session.{Session}
use Rattle.state.specs.declared.State.{State}
use Rattle.state.specs.State.{no_session, whole_b}
use Rattle.state.specs.Card.{first_of}
use Rattle.asked.specs.Asked.{line_refusal, line_given, last_refusal, last_given}
use Rattle.panel.specs.Panel.{turned, refused_turn, open_refusal, open_of, shut_refusal, shut_of, report_refusal, report_by, outputs_of, readout_refusal, readout_by}
use Rattle.doors.specs.Doors.{session_at, with_session, cell_at, with_cell, begun, marked_read, staged_cell, value_read, begin_refusal, begin_by, abandon_refusal, abandon_by, read_refusal, read_after, read_by, write_refusal, write_after, write_by}
use Rattle.commands.specs.declared.Given.TheVariants as given
use Rattle.runs.specs.Rows.{asking, turn_rows, call_rows, rows_of, printed_after}
use Rattle.runs.specs.Run.{LockTurn, Open, Shut, Question, Act, Begin, Read, Write, Abandon, Turn, Ask, Call, Given, Reply, World, with_state, plain, giving, lock_turned, reply_to, call_of, body_of, lock_of, opens_it}
use Rattle.commands.specs.declared.Question.TheVariants as question

-- ---- lock turns

pub turn_is : (x : LockTurn) (w : World)
    → lock_turned x w ≡ cond (eqb (first_of (rows_of (Turn x) w)) 0) (turned w.state (lock_of x) (opens_it x) w.log) (refused_turn (first_of (rows_of (Turn x) w)) w.state w.log)
unfolding open_of open_refusal shut_of shut_refusal
turn_is (Open lock code) w = refl
turn_is (Shut lock) w = refl

-- ---- questions

pub reply_is : (x : Question) (w : World) → reply_to x w ≡ giving (first_of (rows_of (Ask x) w)) (asking x (body_of w)).gives
unfolding report_by report_refusal outputs_of readout_by readout_refusal line_given line_refusal last_given last_refusal
reply_is question.Report w = rw (and-true (whole_b w.state))
reply_is question.Outputs w = rw (and-true (whole_b w.state))
reply_is (question.Readout room) w = rw (and-true (whole_b w.state))
reply_is (question.Archive i) w = refl
reply_is (question.Log i) w = refl
reply_is (question.Audit i) w = refl
reply_is (question.Last code) w = refl

-- ---- calls

-- the session at the door after an accepted call, and what the call gives
abbrev pub session_by : Act → Session → Session
session_by Begin s = begun
session_by (Read setting) s = with_cell s setting (marked_read (cell_at s setting))
session_by (Write setting v) s = with_cell s setting (staged_cell (cell_at s setting) v)
session_by Abandon s = no_session

abbrev pub gives_at : ℕ → Act → State → Given
gives_at door Begin s = given.Nothing
gives_at door (Read setting) s = given.Value (value_read s door setting)
gives_at door (Write setting v) s = given.Nothing
gives_at door Abandon s = given.Nothing

pub nothing_given : (n : ℕ) → plain n ≡ giving n given.Nothing
nothing_given n = by (eqb n 0)
  where
    by : (t : Bool) → ◌≡◌ {A = Reply} (record { number = n; given = given.Nothing }) (record { number = n; given = cond t given.Nothing given.Nothing })
    by true = refl
    by false = refl

pub call_is : (door : ℕ) (x : Act) (w : World)
    → call_of door x w
    ≡ (
      with_state w (cond (eqb (first_of (rows_of (Call door x) w)) 0) (with_session w.state door (session_by x (session_at w.state door))) w.state),
      giving (first_of (rows_of (Call door x) w)) (gives_at door x w.state),
    )
unfolding begin_by begin_refusal read_by read_refusal read_after write_by write_refusal write_after abandon_by abandon_refusal
call_is door Begin w = rw (← nothing_given (first_of (rows_of (Call door Begin) w)))
call_is door (Read setting) w = refl
call_is door (Write setting v) w = rw (← nothing_given (first_of (rows_of (Call door (Write setting v)) w)))
call_is door Abandon w = rw (← nothing_given (first_of (rows_of (Call door Abandon) w)))

-- ---- the rows after the first stand in the printed order

pub printed_turn : (x : LockTurn) (w : World) → printed_after 1 (turn_rows x w.state.core.locks) ≡ true
printed_turn (Open lock code) w = refl
printed_turn (Shut lock) w = refl

pub printed_question : (x : Question) (w : World) → printed_after 1 (asking x (body_of w)).rows ≡ true
printed_question question.Report w = refl
printed_question question.Outputs w = refl
printed_question (question.Readout room) w = refl
printed_question (question.Archive i) w = refl
printed_question (question.Log i) w = refl
printed_question (question.Audit i) w = refl
printed_question (question.Last code) w = refl

pub printed_call : (door : ℕ) (x : Act) (s : State) → printed_after 1 (call_rows door x s) ≡ true
printed_call door Begin s = refl
printed_call door (Read setting) s = refl
printed_call door (Write setting v) s = refl
printed_call door Abandon s = refl
