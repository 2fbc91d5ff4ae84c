-- If `sound` says rightly whether the state is whole, what the code does for a command is the command's step.
-- Assumes nothing.
use mathlib.Core.Path.{◌≡◌, refl, ap}
use Rattle.state.specs.State.{whole_b}
use Rattle.cycle.proofs.Join.{cycle_planned_lem}
use Rattle.panel.proofs.Planned.{opened_so, shut_so, log_line_so, archive_line_so, last_so, outputs_so}
use Rattle.doors.proofs.Kept.{commit_planned_lem, audit_line_so}
use Rattle.commands.specs.declared.LockTurn.TheVariants.{Open, Shut}
use Rattle.commands.specs.declared.Question.{Question}
use Rattle.commands.specs.declared.Question.TheVariants as question
use Rattle.commands.specs.declared.Command.{Command}
use Rattle.commands.specs.declared.Command.TheVariants.{Cycle, Turn, Clear, Tick, Ask, Call, Commit}
use Rattle.commands.specs.declared.Reply.{Reply}
use Rattle.commands.specs.Answers.{World}
use Rattle.steps.specs.Step.{reply_to, step}
use Rattle.device.specs.Plan.{reply_by, seen_by, turn_by}

reply_is : (q : Question) (w : World) → reply_by (whole_b w.state) q w ≡ reply_to q w
reply_is question.Report w = refl
reply_is question.Outputs w = outputs_so w.state
reply_is (question.Readout room) w = refl
reply_is (question.Archive i) w = archive_line_so w.state i w.archive
reply_is (question.Log i) w = log_line_so w.state i w.log
reply_is (question.Audit i) w = audit_line_so w.state i w.audit
reply_is (question.Last code) w = last_so w.state code w.log

pub turn_is_step : (c : Command) (w : World) → turn_by (whole_b w.state) (seen_by (whole_b w.state) c w) c w ≡ step c w
unfolding turn_by seen_by
turn_is_step (Cycle r) w = rw (cycle_planned_lem w.state r w.archive w.log)
turn_is_step (Turn (Open lock code)) w = rw ((opened_so w.state lock code w.log).0, (opened_so w.state lock code w.log).1)
turn_is_step (Turn (Shut lock)) w = rw ((shut_so w.state lock w.log).0, (shut_so w.state lock w.log).1)
turn_is_step Clear w = refl
turn_is_step (Tick n) w = refl
turn_is_step (Ask q) w = ap (λ (r : Reply). (w, r)) (reply_is q w)
turn_is_step (Call door act) w = refl
turn_is_step (Commit door) w = rw (commit_planned_lem w.state door w.audit)
