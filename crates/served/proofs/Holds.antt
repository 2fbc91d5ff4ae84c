-- What is proved of every run is so of the desk. Lines are put to a fresh desk in blocks; starts, empty and unknown lines may be among them, and it does not
-- matter where one block ends and the next begins. `back` is the device with its stores as the last block handed it back. `last` is the run that is under
-- way: it began with the last start, and its steps are the commands since.
-- Assumes nothing.
use Prim.Native.Nat.{ℕ, ◌%◌, ◌<◌}
use mathlib.Core.Path.{◌≡◌, refl, sym, subst}
use mathlib.Core.Logic.{◌↔◌}
use mathlib.Core.Bool.{true, false}
use mathlib.Core.List.{List, ◌∷◌, ◌++◌, reverse}
use native.Mathlib.Omega.{arith}
use lib.Dec.{leb}
use lib.ListN.{length, take, get_or}
use Rattle.order.specs.Order.{run, serial, steps, answers}
use Rattle.calendar.specs.Calendar.{end_of_time}
use Rattle.outputs.specs.Four.{output_count}
use Rattle.ring.specs.Ring.{archive_lines, log_lines, audit_lines}
use Rattle.books.specs.declared.ArchiveLine.{ArchiveLine}
use Rattle.books.specs.declared.LogLine.{LogLine}
use Rattle.books.specs.declared.AuditLine.{AuditLine}
use Rattle.state.specs.State.{whole_b}
use Rattle.commands.specs.declared.Command.{Command}
use Rattle.commands.specs.declared.Question.TheVariants as question
use Rattle.commands.specs.declared.Given.TheVariants as given
use Rattle.commands.specs.declared.Reply.{Reply}
use Rattle.commands.specs.declared.Entry.{Entry}
use Rattle.commands.specs.declared.Entry.TheVariants as entry
use Rattle.commands.specs.declared.Echo.TheVariants as echo
use Rattle.commands.specs.Answers.{World}
use Rattle.steps.specs.Step.{step}
use Rattle.desk.specs.declared.Desk.{Desk}
use Rattle.desk.specs.Desk.{no_response, world_in}
use Rattle.desk.specs.Desk as desk
use Rattle.runs.specs.Run.{Ask, Commit, giving, number_of, corrector, closed, started}
use Rattle.runs.specs.Exactly.{earlier}
use Rattle.runs.specs.Rows.{rows_of}
use Rattle.runs.specs.Sums.{Counter, sum_in, shows, rollover}
use Rattle.runs.specs.Outputs.{Balances}
use Rattle.runs.specs.Lines.{archive_shelf, log_shelf, audit_shelf, wrote_in, holds}
use Rattle.runs.specs.History.{history, started_at}
use Rattle.runs.specs.Stale.{stale}
use Rattle.runs.specs.Last.{last_in}
use Rattle.runs.specs.Never.{later_rows, met_in}
use Rattle.runs.proofs.Effects.{refused_exactly}
use Rattle.runs.proofs.Keeps.{always_whole}
use Rattle.runs.proofs.Sums.{sums}
use Rattle.runs.proofs.Outputs.{balance}
use Rattle.runs.proofs.Times.{start_time_lem}
use Rattle.runs.proofs.Lines.{archive_holds, log_holds, audit_holds}
use Rattle.runs.proofs.Stale.{stale_exactly}
use Rattle.runs.proofs.Last.{last_exactly}
use Rattle.runs.proofs.Sessions.{sessions_in_order}
use Rattle.runs.proofs.Never.{never_met, never_one, earlier_without_one}
use Rattle.served.specs.Served.{Run, end_of, last_run, Block, lines_of, served_all, Sized, Begun}
use Rattle.served.proofs.Served.{block_by_block}
use Rattle.served.proofs.Begun.{always_begun, fresh_begun}
use Rattle.served.proofs.Refused.{served_refused}

-- P speaks of the world in which a run began, of its steps and of the world at its end; it holds of every run from a start, over stores of their exact lengths
abbrev pub OfEveryRun : (World → List Command → World → Type 0) → Type 0
OfEveryRun P =
    (time supcode custcode : ℕ) (archive : List ArchiveLine) (log : List LogLine) (audit : List AuditLine) → Sized (started time supcode custcode archive log audit)
    → (xs : List Command) → P (started time supcode custcode archive log audit) xs (run corrector xs (started time supcode custcode archive log audit)).1

begun_is : (w : World) (b : Begun w) → w ≡ started b.time b.supcode b.custcode w.archive w.log w.audit
begun_is w b = λ i. record { state = b.state i; archive = w.archive; log = w.log; audit = w.audit }

of_a_run : (P : World → List Command → World → Type 0) → OfEveryRun P → (r : Run) → Begun r.from → P r.from r.steps (end_of r)
unfolding end_of
of_a_run P h r b =
    let w : World = r.from in
    subst (λ (v : World). P v r.steps (run corrector r.steps v).1) (sym (begun_is w b))
    (h b.time b.supcode b.custcode w.archive w.log w.audit (record { archive = b.sized.archive; log = b.sized.log; audit = b.sized.audit }) r.steps)

module _ (bs : List Block) (time supcode custcode : ℕ) where
  abbrev fresh : Desk
  fresh = (desk.started time supcode custcode).desk

  abbrev back : World
  back = world_in (served_all bs fresh).1

  abbrev last : Run
  last = last_run (lines_of bs) (world_in fresh)

  -- WHAT HOLDS OF EVERY RUN FROM A START HOLDS OF THE DESK that is handed back
  pub holds_of_the_desk : (P : World → List Command → World → Type 0) → OfEveryRun P → P last.from last.steps back
  holds_of_the_desk P h =
      rw (block_by_block bs fresh) (of_a_run P h last (always_begun (lines_of bs) (world_in fresh) (fresh_begun time supcode custcode)))

  -- THE SUMS: each counter of the desk shows, under its rollover, the sum of what the accepted cycles since the last start put on it
  pub served_sums : (c : Counter) → shows c back ≡ sum_in c (history last.steps last.from) % rollover c
  served_sums c = holds_of_the_desk (λ w xs v. shows c v ≡ sum_in c (history xs w) % rollover c) (λ t a b archive log audit s xs. sums c xs t a b archive log audit)

  -- THE PULSES OF EACH OUTPUT: those due since the last start are those emitted, waiting and lost, modulo 2^32
  pub served_pulses : (k : ℕ) → k < output_count → Balances k back (history last.steps last.from)
  served_pulses k l = holds_of_the_desk (λ w xs v. Balances k v (history xs w)) (λ t a b archive log audit s xs. balance t a b archive log audit k l xs)

  -- THE ORDER OF THE SESSIONS: the steps since the last start, rearranged session by session, have the answers that they had and lead to the desk's
  -- device, its unfinished sessions apart
  pub served_in_order : run corrector (steps corrector (serial corrector last.steps last.from)) last.from
      ≡ (answers corrector (serial corrector last.steps last.from), closed back)
  served_in_order =
      holds_of_the_desk (λ w xs v. run corrector (steps corrector (serial corrector xs w)) w ≡ (answers corrector (serial corrector xs w), closed v))
      (λ t a b archive log audit s xs. sessions_in_order xs t a b archive log audit)

  -- THE BOOKS: each store of the desk holds the last 15, 250, 200 of the lines written since the last start, newest first
  pub served_archive : holds archive_shelf back ≡ take archive_lines (reverse (wrote_in archive_shelf (started_at last.from) (history last.steps last.from)))
  served_archive =
      holds_of_the_desk (λ w xs v. holds archive_shelf v ≡ take archive_lines (reverse (wrote_in archive_shelf (started_at w) (history xs w))))
      (λ t a b archive log audit s xs. rw (start_time_lem t a b (leb end_of_time t) refl) (archive_holds t a b archive log audit xs s.archive))

  pub served_log : holds log_shelf back ≡ take log_lines (reverse (wrote_in log_shelf (started_at last.from) (history last.steps last.from)))
  served_log =
      holds_of_the_desk (λ w xs v. holds log_shelf v ≡ take log_lines (reverse (wrote_in log_shelf (started_at w) (history xs w))))
      (λ t a b archive log audit s xs. rw (start_time_lem t a b (leb end_of_time t) refl) (log_holds t a b archive log audit xs s.log))

  pub served_audit : holds audit_shelf back ≡ take audit_lines (reverse (wrote_in audit_shelf (started_at last.from) (history last.steps last.from)))
  served_audit =
      holds_of_the_desk (λ w xs v. holds audit_shelf v ≡ take audit_lines (reverse (wrote_in audit_shelf (started_at w) (history xs w))))
      (λ t a b archive log audit s xs. rw (start_time_lem t a b (leb end_of_time t) refl) (audit_holds t a b archive log audit xs s.audit))

  -- THE NEWEST LINE WITH A CODE: asked of the desk, it is the last with that code among the last 250 lines written since the last start
  pub served_last : (code : ℕ) → (step (Ask (question.Last code)) back).1 ≡ giving 0 (given.Last (last_in code (started_at last.from) (history last.steps last.from)))
  served_last code =
      holds_of_the_desk (λ w xs v. (step (Ask (question.Last code)) v).1 ≡ giving 0 (given.Last (last_in code (started_at w) (history xs w))))
      (λ t a b archive log audit s xs. rw (start_time_lem t a b (leb end_of_time t) refl) (last_exactly t a b archive log audit s xs code))

  -- THE DESK'S STATE IS WHOLE
  pub served_whole : whole_b back.state ≡ true
  served_whole = holds_of_the_desk (λ w xs v. whole_b v.state ≡ true) (λ t a b archive log audit s xs. always_whole xs t a b archive log audit)

  -- A COMMIT PUT TO IT IS REFUSED BY 11 EXACTLY WHEN THE HISTORY SINCE THE LAST START CALLS IT STALE, where 1, 3, 4 and 10 do not come first
  pub served_stale : (door : ℕ)
      → (number_of (step (Commit door) back).1 ≡ 11) ↔ ((earlier 11 (rows_of (Commit door) back) ≡ false) × (stale door (history last.steps last.from) ≡ true))
  served_stale door =
      holds_of_the_desk
      (λ w xs v. (number_of (step (Commit door) v).1 ≡ 11) ↔ ((earlier 11 (rows_of (Commit door) v) ≡ false) × (stale door (history xs w) ≡ true)))
      (λ t a b archive log audit s xs. stale_exactly xs t a b archive log audit door)

  -- REFUSAL 1 IS NEVER MET: no command since the last start was answered with it, and none that is put to the desk now would be
  pub served_never_one : (met_in 1 (history last.steps last.from) ≡ false) × ((c : Command) → number_of (step c back).1 ≡ 1 → ⊥)
  served_never_one =
      holds_of_the_desk (λ w xs v. (met_in 1 (history xs w) ≡ false) × ((c : Command) → number_of (step c v).1 ≡ 1 → ⊥))
      (λ t a b archive log audit s xs. (never_met t a b archive log audit s xs, never_one t a b archive log audit s xs))

  -- so that row 1 can be left out of "where no row before it applies"
  pub served_without_one : (c : Command) (n : ℕ) → (1 ≡ n → ⊥) → earlier n (rows_of c back) ≡ earlier n (later_rows c back)
  served_without_one =
      holds_of_the_desk (λ w xs v. (c : Command) (n : ℕ) → (1 ≡ n → ⊥) → earlier n (rows_of c v) ≡ earlier n (later_rows c v))
      (λ t a b archive log audit s xs. earlier_without_one t a b archive log audit s xs)

  -- NO COMMAND AMONG THE LINES IS ANSWERED WITH 1, whatever runs and starts came before it
  pub shown_never_one : (before after : List Entry) (c : Command) → lines_of bs ≡ before ++ (entry.Put c ∷ after) → (r : Reply)
      → get_or (served_all bs fresh).0 (length before) no_response ≡ echo.Said r → number_of r ≡ 1 → ⊥
  shown_never_one before after c here r e q =
      let g = (served_refused fresh bs before after c here r e 1 (omega arith)).0 q in
      of_a_run (λ w xs v. (x : Command) → number_of (step x v).1 ≡ 1 → ⊥) (λ t a b archive log audit s xs. never_one t a b archive log audit s xs)
      (last_run before (world_in fresh)) (always_begun before (world_in fresh) (fresh_begun time supcode custcode))
      c ((refused_exactly c (end_of (last_run before (world_in fresh))) 1 (omega arith)).1 g)
