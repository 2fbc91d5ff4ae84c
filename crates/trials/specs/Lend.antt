-- One command over stores of which only the first lines are lent: it does what it does over stores that have just these lines, and the other lines come back as they
-- were.
-- Assumes nothing.
use Rattle.std.specs.Prelude.{ℕ, List, ◌++◌, take, drop}
use Rattle.books.specs.declared.ArchiveLine.{ArchiveLine}
use Rattle.books.specs.declared.LogLine.{LogLine}
use Rattle.books.specs.declared.AuditLine.{AuditLine}
use Rattle.state.specs.declared.State.{State}
use Rattle.commands.specs.declared.Command.{Command}
use Rattle.commands.specs.declared.Reply.{Reply}
use Rattle.commands.specs.declared.Answer.{Answer}
use Rattle.commands.specs.Answers.{World}
use Rattle.steps.specs.Step.{step}
use Rattle.device.specs.Plan.{world_of, answer_in}
use Rattle.trials.specs.declared.lend.Lent.{Lent}

unfoldable pub the_lent : Answer → List ArchiveLine → List LogLine → List AuditLine → Lent
the_lent answer archive log audit = record { answer = answer; archive = archive; log = log; audit = audit }

-- each store, with what was not lent of it
abbrev pub with_rest : World × Reply → List ArchiveLine → List LogLine → List AuditLine → Lent
with_rest t archive log audit = the_lent (answer_in t) (t.0.archive ++ archive) (t.0.log ++ log) (t.0.audit ++ audit)

-- the step over the lent lines; `take` of more lines than there are takes all of them
unfoldable pub lent_of : State → Command → List ArchiveLine → List LogLine → List AuditLine → ℕ → ℕ → ℕ → Lent
lent_of s c archive log audit months events changes =
    with_rest (step c (world_of s (take months archive) (take events log) (take changes audit))) (drop months archive) (drop events log) (drop changes audit)
