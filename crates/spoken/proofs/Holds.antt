-- What is proved of every run holds of the desk that an input leaves. A desk is handed out fresh, and an input is put to it in whatever pieces it is read, with
-- starts, empty and unknown lines in it. `back` is the device with its stores at the end of the input. `last` is the run under way: it began with the last start, and
-- its steps are the commands since.
-- Assumes nothing.
use Prim.Native.Nat.{ℕ, suc, ◌%◌, ◌<◌}
use mathlib.Core.Path.{◌≡◌, refl, ap}
use mathlib.Core.List.{List, [], ◌∷◌, map, reverse}
use lib.Dec.{leb}
use lib.ListN.{take, replicate, length-replicate}
use Rattle.order.specs.Order.{run, serial, steps, answers}
use Rattle.calendar.specs.Calendar.{end_of_time}
use Rattle.outputs.specs.Four.{output_count}
use Rattle.ring.specs.Ring.{archive_lines, log_lines, audit_lines}
use Rattle.commands.specs.declared.Command.{Command}
use Rattle.commands.specs.declared.Entry.{Entry}
use Rattle.commands.specs.Answers.{World}
use Rattle.desk.specs.declared.Desk.{Desk}
use Rattle.desk.specs.Desk.{no_input, world_in}
use Rattle.desk.specs.Desk as desk
use Rattle.lines.specs.Lines.{whole_lines}
use Rattle.runs.specs.Run.{corrector, closed}
use Rattle.runs.specs.Sums.{Counter, sum_in, shows, rollover}
use Rattle.runs.specs.Outputs.{Balances}
use Rattle.runs.specs.History.{history, started_at}
use Rattle.runs.specs.Lines.{archive_shelf, log_shelf, audit_shelf, wrote_in, holds}
use Rattle.runs.proofs.Sums.{sums}
use Rattle.runs.proofs.Outputs.{balance}
use Rattle.runs.proofs.Times.{start_time_lem}
use Rattle.runs.proofs.Lines.{archive_holds, log_holds, audit_holds}
use Rattle.runs.proofs.Sessions.{sessions_in_order}
use Rattle.served.specs.Served.{Run, last_run, Block, lines_in, lines_of}
use Rattle.served.proofs.Served.{block_by_block}
use Rattle.served.proofs.Holds.{OfEveryRun, holds_of_the_desk}
use Rattle.spoken.specs.Spoken.{entries_of, spoken, Read, in_reads, all_read, EnoughAfter}
use Rattle.spoken.proofs.ByReads.{read_by_read}

-- ---- how lines fall into blocks makes no difference to a desk: here each line is a block

abbrev alone : Entry → Block
alone e = record { inputs = e ∷ replicate 255 no_input; count = 1; full = ap suc (length-replicate 255 no_input) }

each_alone : (es : List Entry) → lines_of (map alone es) ≡ es
unfolding lines_of lines_in
each_alone [] = refl
each_alone (e ∷ es) = ap (λ (l : List Entry). e ∷ l) (each_alone es)

holds_of_lines : (lines : List (List ℕ)) (time supcode custcode : ℕ) (P : World → List Command → World → Type 0) → OfEveryRun P
    → let fresh = (desk.started time supcode custcode).desk in let last = last_run (entries_of lines) (world_in fresh) in
    P last.from last.steps (world_in (spoken lines fresh).desk)
unfolding spoken
holds_of_lines lines time supcode custcode P h =
    let fresh : Desk = (desk.started time supcode custcode).desk in
    let bs : List Block = map alone (entries_of lines) in
    rw (block_by_block bs fresh, each_alone (entries_of lines)) at (holds_of_the_desk bs time supcode custcode P h)

-- ---- an input, read in pieces

module _ (rs : List Read) (enough : EnoughAfter rs) (time supcode custcode : ℕ) where
  abbrev fresh : Desk
  fresh = (desk.started time supcode custcode).desk

  abbrev back : World
  back = world_in (in_reads rs [] fresh).desk

  abbrev last : Run
  last = last_run (entries_of (whole_lines (all_read rs))) (world_in fresh)

  -- WHAT HOLDS OF EVERY RUN FROM A START HOLDS OF THE DESK that the input leaves
  pub spoken_holds : (P : World → List Command → World → Type 0) → OfEveryRun P → P last.from last.steps back
  spoken_holds P h = rw (read_by_read rs fresh enough) (holds_of_lines (whole_lines (all_read rs)) time supcode custcode P h)

  -- THE SUMS: each counter shows, under its rollover, the sum of what the accepted cycles since the last start put on it
  pub spoken_sums : (c : Counter) → shows c back ≡ sum_in c (history last.steps last.from) % rollover c
  spoken_sums c = spoken_holds (λ w xs v. shows c v ≡ sum_in c (history xs w) % rollover c) (λ t a b archive log audit s xs. sums c xs t a b archive log audit)

  -- THE PULSES OF EACH OUTPUT: those due since the last start are those emitted, waiting and lost, modulo 2^32
  pub spoken_pulses : (k : ℕ) → k < output_count → Balances k back (history last.steps last.from)
  spoken_pulses k l = spoken_holds (λ w xs v. Balances k v (history xs w)) (λ t a b archive log audit s xs. balance t a b archive log audit k l xs)

  -- THE ORDER OF THE SESSIONS: the steps since the last start, rearranged session by session, have the answers that they had and lead to this device, its
  -- unfinished sessions apart
  pub spoken_in_order : run corrector (steps corrector (serial corrector last.steps last.from)) last.from
      ≡ (answers corrector (serial corrector last.steps last.from), closed back)
  spoken_in_order =
      spoken_holds (λ w xs v. run corrector (steps corrector (serial corrector xs w)) w ≡ (answers corrector (serial corrector xs w), closed v))
      (λ t a b archive log audit s xs. sessions_in_order xs t a b archive log audit)

  -- THE BOOKS: each store holds the last 15, 250, 200 of the lines written since the last start, newest first
  pub spoken_archive : holds archive_shelf back ≡ take archive_lines (reverse (wrote_in archive_shelf (started_at last.from) (history last.steps last.from)))
  spoken_archive =
      spoken_holds (λ w xs v. holds archive_shelf v ≡ take archive_lines (reverse (wrote_in archive_shelf (started_at w) (history xs w))))
      (λ t a b archive log audit s xs. rw (start_time_lem t a b (leb end_of_time t) refl) (archive_holds t a b archive log audit xs s.archive))

  pub spoken_log : holds log_shelf back ≡ take log_lines (reverse (wrote_in log_shelf (started_at last.from) (history last.steps last.from)))
  spoken_log =
      spoken_holds (λ w xs v. holds log_shelf v ≡ take log_lines (reverse (wrote_in log_shelf (started_at w) (history xs w))))
      (λ t a b archive log audit s xs. rw (start_time_lem t a b (leb end_of_time t) refl) (log_holds t a b archive log audit xs s.log))

  pub spoken_audit : holds audit_shelf back ≡ take audit_lines (reverse (wrote_in audit_shelf (started_at last.from) (history last.steps last.from)))
  spoken_audit =
      spoken_holds (λ w xs v. holds audit_shelf v ≡ take audit_lines (reverse (wrote_in audit_shelf (started_at w) (history xs w))))
      (λ t a b archive log audit s xs. rw (start_time_lem t a b (leb end_of_time t) refl) (audit_holds t a b archive log audit xs s.audit))
