-- What the code does for each command, given whether the state is said to be whole. That this is `step` of the crate `steps` is proved in proofs/Ways.antt.
-- Assumes nothing.
use Rattle.std.specs.Prelude.{Bool, List}
use Rattle.books.specs.declared.ArchiveLine.{ArchiveLine}
use Rattle.books.specs.declared.LogLine.{LogLine}
use Rattle.books.specs.declared.AuditLine.{AuditLine}
use Rattle.state.specs.declared.State.{State}
use Rattle.cycle.specs.Plan.{cycle_planned}
use Rattle.panel.specs.Panel as panel
use Rattle.panel.specs.Plan.{turn_planned, log_line_by, archive_line_by, last_by, outputs_by}
use Rattle.doors.specs.Plan.{commit_planned, audit_line_by}
use Rattle.commands.specs.declared.Question.{Question}
use Rattle.commands.specs.declared.Question.TheVariants as question
use Rattle.commands.specs.declared.Command.{Command}
use Rattle.commands.specs.declared.Command.TheVariants.{Cycle, Turn, Clear, Tick, Ask, Call, Commit}
use Rattle.commands.specs.declared.Reply.{Reply}
use Rattle.commands.specs.declared.Answer.{Answer}
use Rattle.commands.specs.Answers.{World, plain}
use Rattle.steps.specs.Step.{answers, cycles, logs, audits, called_by}

abbrev pub world_of : State → List ArchiveLine → List LogLine → List AuditLine → World
world_of s archive log audit = record { state = s; archive = archive; log = log; audit = audit }

-- the reply to a question, by whether the state is said to be whole
abbrev pub reply_by : Bool → Question → World → Reply
reply_by sound question.Report w = panel.report_by sound w.state
reply_by sound question.Outputs w = outputs_by sound w.state
reply_by sound (question.Readout room) w = panel.readout_by sound w.state room
reply_by sound (question.Archive i) w = archive_line_by sound w.state i w.archive
reply_by sound (question.Log i) w = log_line_by sound w.state i w.log
reply_by sound (question.Audit i) w = audit_line_by sound w.state i w.audit
reply_by sound (question.Last code) w = last_by sound w.state code w.log

-- the reply to a command; for one that is no question it says nothing
unfoldable pub seen_by : Bool → Command → World → Reply
seen_by sound (Cycle r) w = plain 0
seen_by sound (Turn t) w = plain 0
seen_by sound Clear w = plain 0
seen_by sound (Tick n) w = plain 0
seen_by sound (Ask q) w = reply_by sound q w
seen_by sound (Call door act) w = plain 0
seen_by sound (Commit door) w = plain 0

unfoldable pub seen_of : Bool → State → Command → List ArchiveLine → List LogLine → List AuditLine → Reply
seen_of sound s c archive log audit = seen_by sound c (world_of s archive log audit)

-- `seen` is the reply to a question
unfoldable pub turn_by : Bool → Reply → Command → World → World × Reply
turn_by sound seen (Cycle r) w = cycles w (cycle_planned sound w.state r w.archive w.log)
turn_by sound seen (Turn t) w = logs w (turn_planned sound w.state t w.log)
turn_by sound seen Clear w = answers w (panel.clear_by sound w.state)
turn_by sound seen (Tick n) w = answers w (panel.tick_by sound w.state n)
turn_by sound seen (Ask q) w = (w, seen)
turn_by sound seen (Call door act) w = answers w (called_by sound w.state door act)
turn_by sound seen (Commit door) w = audits w (commit_planned sound w.state door w.audit)

unfoldable pub turn_of : Bool → State → Command → Reply → List ArchiveLine → List LogLine → List AuditLine → World × Reply
turn_of sound s c seen archive log audit = turn_by sound seen c (world_of s archive log audit)

unfoldable pub answer_in : World × Reply → Answer
answer_in o = record { reply = o.1; state = o.0.state }
