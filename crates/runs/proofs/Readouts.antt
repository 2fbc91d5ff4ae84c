-- A readout after any run from a start: what it answers, what it writes, that its message can say the values, and that it reads back to them.
-- Assumes nothing.
use mathlib.Core.Path.{◌≡◌, ap, ◌∙◌}
use mathlib.Core.List.{List, ◌++◌, append-nil}
use Prim.Native.Nat.{ℕ, ◌≤◌}
use native.Mathlib.Omega.{arith}
use borrow.Author.Tests.{le-ltb}
use lib.ListN.{length, drop, drop_of_length-le}
use Rattle.order.specs.Order.{run}
use Rattle.units.specs.Units.{litres_shown, base_shown}
use Rattle.message.specs.Message.{message, size, Fits}
use Rattle.std.specs.Prelude.{Ok}
use Rattle.reader.specs.Reader.{parsed}
use Rattle.reader.proofs.Laws.{reads_back}
use Rattle.books.specs.declared.ArchiveLine.{ArchiveLine}
use Rattle.books.specs.declared.LogLine.{LogLine}
use Rattle.books.specs.declared.AuditLine.{AuditLine}
use Rattle.panel.specs.Panel.{values_of, readout_refusal, readout_by, readout_leaves}
use Rattle.commands.specs.declared.Question.TheVariants as question
use Rattle.commands.specs.declared.Given.TheVariants as given
use Rattle.runs.specs.Run.{Step, Ask, World, giving, step, corrector, started}
use Rattle.runs.specs.History.{History, history, start_time}
use Rattle.runs.specs.Lines.{counters_in}
use Rattle.runs.specs.Locks.{start_code}
use Rattle.runs.specs.Readouts.{values_in}
use Rattle.runs.proofs.Keeps.{always_whole}
use Rattle.runs.proofs.Told.{told, counters_told}

-- THE VALUES FIT: each is below 10^12, so nine digits and three decimals say it whole
pub values_fit : (past : History) → Fits (values_in past)
unfolding values_of counters_in litres_shown base_shown
values_fit past = record { vb = omega arith; vbd = omega arith; vbt = omega arith; vm = omega arith; vmd = omega arith; vmt = omega arith }

module _ (xs : List Step) (time supcode custcode : ℕ) (archive : List ArchiveLine) (log : List LogLine) (audit : List AuditLine) where
  abbrev start : World
  start = started time supcode custcode archive log audit

  abbrev end : World
  end = (run corrector xs start).1

  abbrev past : History
  past = history xs start

  counted : end.state.core.measured.counters ≡ counters_in past
  counted = counters_told (start_time time) (start_code time supcode) (start_code time custcode) end past (told time supcode custcode archive log audit xs)

  -- A READOUT AFTER A RUN IS GIVEN, into a buffer that is long enough. Its values are the sums of the history, cut off
  pub readout_given : (room : ℕ) → size ≤ room
      → (step (Ask (question.Readout room)) end).1 ≡ giving 0 (given.Readout (record { room = room; values = values_in past }))
  unfolding readout_by readout_refusal
  readout_given room h = rw (always_whole xs time supcode custcode archive log audit, le-ltb room size h, counted)

  -- AND THE MESSAGE OF THESE VALUES STANDS IN THE BUFFER; what is past it stays
  pub readout_writes : (old : List ℕ) → size ≤ length old → readout_leaves end.state old ≡ message (values_in past) ++ drop size old
  unfolding readout_leaves readout_refusal
  readout_writes old h = rw (always_whole xs time supcode custcode archive log audit, le-ltb (length old) size h, counted)

  -- WHAT A READOUT WROTE READS BACK to these values
  pub readout_reads_back : (old : List ℕ) → length old ≡ size → parsed (readout_leaves end.state old) ≡ Ok (values_in past)
  readout_reads_back old h =
      let only : readout_leaves end.state old ≡ message (values_in past) =
      readout_writes old (omega arith) ∙ rw (drop_of_length-le old {i = size} (omega arith), append-nil (message (values_in past))) in
      ap parsed only ∙ reads_back (values_in past) (values_fit past)
