-- All that the state keeps of a run from a start is what the history tells: the time, the month, the counters, the alarms, the locks and the outputs. The settings and
-- the sessions stand in InForce.antt. By the length of the run.
-- Assumes nothing.
use mathlib.Core.Path.{◌≡◌, refl, ap, ◌∙◌}
use mathlib.Core.Bool.{true, cond}
use mathlib.Core.List.{List, [], ◌∷◌}
use Prim.Native.Nat.{ℕ, ◌%◌}
use lib.Dec.{leb, eqb}
use borrow.Author.Tests.{eqb-true}
use Rattle.order.specs.Order.{run}
use Rattle.calendar.specs.Calendar.{end_of_time, month_of}
use Rattle.books.specs.declared.ArchiveLine.{ArchiveLine}
use Rattle.books.specs.declared.LogLine.{LogLine}
use Rattle.books.specs.declared.AuditLine.{AuditLine}
use Rattle.state.specs.declared.Counters.{Counters}
use Rattle.state.specs.State.{whole_b}
use Rattle.state.proofs.Sound.{measured_sound, whole_sound}
use Rattle.panel.proofs.Laws.{start_whole}
use Rattle.steps.proofs.Keeps.{step_whole}
use Rattle.runs.specs.Run.{Step, World, number_of, step, corrector, started}
use Rattle.runs.specs.History.{History, history, time_by, last_time, start_time}
use Rattle.runs.specs.Locks.{locks_in, start_code}
use Rattle.runs.specs.Sums.{Counter, Vm, VmD, VmT, Vb, VbD, VbT, sum_in, shows, rollover}
use Rattle.runs.specs.Latches.{found_in}
use Rattle.runs.specs.Outputs.{outputs_in}
use Rattle.runs.specs.Lines.{counters_in}
use Rattle.runs.proofs.InForce.{Agreed, KeptByStep, from_start}
use Rattle.runs.proofs.Times.{step_time, start_time_lem}
use Rattle.runs.proofs.Sums.{sums_kept, start_shows}
use Rattle.runs.proofs.Totals.{litres_shown_lem, base_shown_lem}
use Rattle.runs.proofs.Latches.{found_kept, no_alarms}
use Rattle.runs.proofs.Locks.{locks_kept, start_locks}
use Rattle.runs.proofs.Outputs.{outputs_kept, start_outputs}

-- t: the time of the start, a and b: its codes
pub record Told (t a b : ℕ) (w : World) (past : History) : Type 0 where
  pub sound : whole_b w.state ≡ true
  pub time : w.state.core.measured.time ≡ last_time t past
  pub found : w.state.core.measured.alarms ≡ found_in past
  pub sums : (c : Counter) → shows c w ≡ sum_in c past % rollover c
  pub locks : w.state.core.locks ≡ locks_in a b past
  pub outputs : w.state.core.outputs ≡ outputs_in past

told_kept : (t a b : ℕ) → KeptByStep (Told t a b)
told_kept t a b x w past h s = record {
  sound = step_whole x w s.sound;
  time = step_time x w ∙ ap (λ (k : ℕ). cond (eqb (number_of (step x w).1) 0) (time_by x k) k) s.time;
  found = found_kept x w past h s.found;
  sums = λ c. sums_kept c x w past h (s.sums c);
  locks = locks_kept a b x w past s.locks;
  outputs = outputs_kept x w past h s.outputs;
}

module _ (t a b : ℕ) (w : World) (past : History) (s : Told t a b w past) where
  -- the month is that of the time
  pub month_told : w.state.core.measured.month ≡ month_of (last_time t past)
  month_told =
      eqb-true w.state.core.measured.month (month_of w.state.core.measured.time)
      (measured_sound w.state.core.measured (whole_sound w.state s.sound).core.measured).in_month
      ∙ ap month_of s.time

  -- and the six counters show their sums
  pub counters_told : w.state.core.measured.counters ≡ counters_in past
  unfolding counters_in
  counters_told =
      let c : Counters = w.state.core.measured.counters in
      let vm = litres_shown_lem c.vm (sum_in Vm past) (s.sums Vm) in
      let vmd = litres_shown_lem c.vmd (sum_in VmD past) (s.sums VmD) in
      let vmt = litres_shown_lem c.vmt (sum_in VmT past) (s.sums VmT) in
      let vb = base_shown_lem c.vb (sum_in Vb past) (s.sums Vb) in
      let vbd = base_shown_lem c.vbd (sum_in VbD past) (s.sums VbD) in
      let vbt = base_shown_lem c.vbt (sum_in VbT past) (s.sums VbT) in
      λ i. record { vm = vm i; vmd = vmd i; vmt = vmt i; vb = vb i; vbd = vbd i; vbt = vbt i }

module _ (time supcode custcode : ℕ) (archive : List ArchiveLine) (log : List LogLine) (audit : List AuditLine) where
  abbrev start : World
  start = started time supcode custcode archive log audit

  start_told : Told (start_time time) (start_code time supcode) (start_code time custcode) start []
  start_told = record {
    sound = start_whole time supcode custcode;
    time = start_time_lem time supcode custcode (leb end_of_time time) refl;
    found = (no_alarms [] time supcode custcode archive log audit).0;
    sums = λ c. start_shows c [] time supcode custcode archive log audit;
    locks = start_locks time supcode custcode (leb end_of_time time) refl;
    outputs = start_outputs time supcode custcode archive log audit;
  }

  -- what a step keeps, where the state is what the history tells, holds at the end of every run from a start
  pub from_start_told : (P : World → History → Type 0)
      → ((x : Step) (w : World) (past : History) → Agreed w past → Told (start_time time) (start_code time supcode) (start_code time custcode) w past → P w past
      → P (step x w).0 ((x, (step x w).1) ∷ past))
      → P start [] → (xs : List Step) → P (run corrector xs start).1 (history xs start)
  from_start_told P f p xs = (from_start time supcode custcode archive log audit With with_kept (start_told, p) xs).1
    where
      With : World → History → Type 0
      With w past = Told (start_time time) (start_code time supcode) (start_code time custcode) w past × P w past

      with_kept : KeptByStep With
      with_kept x w past h (s, q) = (told_kept _ _ _ x w past h s, f x w past h s q)

  pub told : (xs : List Step) → Told (start_time time) (start_code time supcode) (start_code time custcode) (run corrector xs start).1 (history xs start)
  told xs = from_start time supcode custcode archive log audit (Told (start_time time) (start_code time supcode) (start_code time custcode)) (told_kept _ _ _) start_told xs
