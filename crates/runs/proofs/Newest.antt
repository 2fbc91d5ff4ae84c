-- Line 0 is the newest: after any run from a start, over stores of their exact lengths, a line that is given is the line i, counted from 0, of
-- the last 15, 250, 200 that the run wrote, newest first.
-- Assumes nothing.
use mathlib.Core.Path.{◌≡◌, ap}
use mathlib.Core.List.{List, reverse}
use Prim.Native.Nat.{ℕ}
use lib.ListN.{length, get_or, take}
use Rattle.order.specs.Order.{run}
use Rattle.ring.specs.Ring.{archive_lines, log_lines, audit_lines}
use Rattle.books.specs.declared.ArchiveLine.{ArchiveLine}
use Rattle.books.specs.declared.LogLine.{LogLine}
use Rattle.books.specs.declared.AuditLine.{AuditLine}
use Rattle.books.specs.Books.{no_archive, no_log, no_audit}
use Rattle.panel.proofs.Laws.{archive_line_held, log_line_held}
use Rattle.doors.proofs.Laws.{audit_line_held}
use Rattle.runs.specs.Run.{Step, Ask, World, giving, number_of, step, corrector, started}
use Rattle.commands.specs.declared.Question.TheVariants as question
use Rattle.commands.specs.declared.Given.TheVariants as given
use Rattle.runs.specs.Lines.{archive_shelf, log_shelf, audit_shelf, wrote_in}
use Rattle.runs.specs.History.{history, start_time}
use Rattle.runs.proofs.Lines.{archive_holds, log_holds, audit_holds}

module _ (time supcode custcode : ℕ) (archive : List ArchiveLine) (log : List LogLine) (audit : List AuditLine) (xs : List Step) (i : ℕ) where
  abbrev start : World
  start = started time supcode custcode archive log audit

  abbrev end : World
  end = (run corrector xs start).1

  pub archive_newest : length archive ≡ archive_lines → number_of (step (Ask (question.Archive i)) end).1 ≡ 0
      → (step (Ask (question.Archive i)) end).1 ≡ giving 0 (given.Archive (get_or (take archive_lines (reverse (wrote_in archive_shelf (start_time time) (history xs start)))) i no_archive))
  archive_newest l e =
      rw (e, archive_line_held end.state i end.archive e) (ap (λ (a : List ArchiveLine). giving 0 (given.Archive (get_or a i no_archive))) (archive_holds time supcode custcode archive log audit xs l))

  pub log_newest : length log ≡ log_lines → number_of (step (Ask (question.Log i)) end).1 ≡ 0
      → (step (Ask (question.Log i)) end).1 ≡ giving 0 (given.Log (get_or (take log_lines (reverse (wrote_in log_shelf (start_time time) (history xs start)))) i no_log))
  log_newest l e =
      rw (e, log_line_held end.state i end.log e) (ap (λ (a : List LogLine). giving 0 (given.Log (get_or a i no_log))) (log_holds time supcode custcode archive log audit xs l))

  pub audit_newest : length audit ≡ audit_lines → number_of (step (Ask (question.Audit i)) end).1 ≡ 0
      → (step (Ask (question.Audit i)) end).1 ≡ giving 0 (given.Audit (get_or (take audit_lines (reverse (wrote_in audit_shelf (start_time time) (history xs start)))) i no_audit))
  audit_newest l e =
      rw (e, audit_line_held end.state i end.audit e) (ap (λ (a : List AuditLine). giving 0 (given.Audit (get_or a i no_audit))) (audit_holds time supcode custcode archive log audit xs l))
