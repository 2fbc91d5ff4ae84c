-- What each command does: the world after it, and the reply. Each is sent to the definition that the contract of its public function cites, and to nothing else.
-- Assumes nothing.
use Rattle.std.specs.Prelude.{ℕ, Bool}
use Rattle.state.specs.declared.State.{State}
use Rattle.state.specs.State.{whole_b}
use Rattle.cycle.specs.Cycle.{cycle_of}
use Rattle.panel.specs.Panel as panel
use Rattle.doors.specs.Doors as doors
use Rattle.commands.specs.declared.LockTurn.{LockTurn}
use Rattle.commands.specs.declared.LockTurn.TheVariants.{Open, Shut}
use Rattle.commands.specs.declared.Question.{Question}
use Rattle.commands.specs.declared.Question.TheVariants as question
use Rattle.commands.specs.declared.Act.{Act}
use Rattle.commands.specs.declared.Act.TheVariants.{Begin, Read, Write, Abandon}
use Rattle.commands.specs.declared.Command.{Command}
use Rattle.commands.specs.declared.Command.TheVariants.{Cycle, Turn, Clear, Tick, Ask, Call, Commit}
use Rattle.commands.specs.declared.Reply.{Reply}
use Rattle.commands.specs.declared.Answer.{Answer}
use Rattle.commands.specs.Answers.{World, Outcome}

-- the world with another state
abbrev pub with_state : World → State → World
with_state w s = record { state = s; archive = w.archive; log = w.log; audit = w.audit }

-- the world after an answer; the stores that a command is not lent stay
abbrev pub answers : World → Answer → World × Reply
answers w a = (with_state w a.state, a.reply)

abbrev pub cycles : World → Outcome → World × Reply
cycles w o = (record { state = o.answer.state; archive = o.archive; log = o.log; audit = w.audit }, o.answer.reply)

abbrev pub logs : World → Outcome → World × Reply
logs w o = (record { state = o.answer.state; archive = w.archive; log = o.log; audit = w.audit }, o.answer.reply)

abbrev pub audits : World → Outcome → World × Reply
audits w o = (record { state = o.answer.state; archive = w.archive; log = w.log; audit = o.audit }, o.answer.reply)

-- ---- the groups

abbrev pub lock_turned : LockTurn → World → Outcome
lock_turned (Open lock code) w = panel.open_of w.state lock code w.log
lock_turned (Shut lock) w = panel.shut_of w.state lock w.log

abbrev pub reply_to : Question → World → Reply
reply_to question.Report w = panel.report_of w.state
reply_to question.Outputs w = panel.outputs_of w.state
reply_to (question.Readout room) w = panel.readout_of w.state room
reply_to (question.Archive i) w = panel.archive_line_of w.state i w.archive
reply_to (question.Log i) w = panel.log_line_of w.state i w.log
reply_to (question.Audit i) w = doors.audit_line_of w.state i w.audit
reply_to (question.Last code) w = panel.last_of w.state code w.log

-- `sound` says whether the state is whole
abbrev pub called_by : Bool → State → ℕ → Act → Answer
called_by sound s door Begin = doors.begin_by sound s door
called_by sound s door (Read setting) = doors.read_by sound s door setting
called_by sound s door (Write setting v) = doors.write_by sound s door setting v
called_by sound s door Abandon = doors.abandon_by sound s door

abbrev pub call_of : ℕ → Act → World → World × Reply
call_of door act w = answers w (called_by (whole_b w.state) w.state door act)

-- ---- any command

abbrev pub step : Command → World → World × Reply
step (Cycle r) w = cycles w (cycle_of w.state r w.archive w.log)
step (Turn t) w = logs w (lock_turned t w)
step Clear w = answers w (panel.clear_of w.state)
step (Tick n) w = answers w (panel.tick_of w.state n)
step (Ask q) w = (w, reply_to q w)
step (Call door act) w = call_of door act w
step (Commit door) w = audits w (doors.commit_of w.state door w.audit)
