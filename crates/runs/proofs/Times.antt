-- The time is that of the last accepted cycle of the run, or the start's; the month is that of the time. By the length of the run.
-- Assumes nothing.
use mathlib.Core.Path.{◌≡◌, refl, ap, ◌∙◌}
use mathlib.Core.Bool.{Bool, true, false, cond}
use mathlib.Core.List.{List, [], ◌∷◌, reverse_aux}
use Prim.Native.Nat.{ℕ}
use lib.Dec.{leb, eqb}
use borrow.Author.Tests.{eqb-true}
use Rattle.order.specs.Order.{run, trace}
use Rattle.calendar.specs.Calendar.{end_of_time, month_of}
use Rattle.books.specs.declared.ArchiveLine.{ArchiveLine}
use Rattle.books.specs.declared.LogLine.{LogLine}
use Rattle.books.specs.declared.AuditLine.{AuditLine}
use Rattle.state.specs.State.{fresh, fresh_core}
use Rattle.state.specs.Card.{first_of}
use Rattle.state.proofs.Sound.{measured_sound, whole_sound}
use Rattle.state.specs.declared.Measured.{Measured}
use Rattle.cycle.specs.Cycle.{cycled_core}
use Rattle.panel.specs.Panel.{start_of, start_refusal}
use Rattle.runs.specs.Run.{Step, World, number_of, step, corrector, started, Body, body_of}
use Rattle.runs.specs.Rows.{rows_of, refused_by}
use Rattle.runs.specs.History.{History, history, time_by, last_time, start_time}
use Rattle.runs.proofs.Keeps.{always_whole}
use Rattle.runs.proofs.Effects.{after, part_by, number_is, world_is, refused_body}

abbrev time_in : Body → ℕ
time_in b = b.core.measured.time

-- ---- a step

accepted_time : (x : Step) (w : World) → time_in (body_of (after x w)) ≡ time_by x w.state.core.measured.time
unfolding cycled_core
accepted_time x w = part_by (λ (m : Measured). m.time) x w

time_by_lem : (x : Step) (w : World) (k : ℕ) (t : Bool) → time_in (body_of (cond t (after x w) (refused_by x w k))) ≡ cond t (time_by x w.state.core.measured.time) w.state.core.measured.time
time_by_lem x w k true = accepted_time x w
time_by_lem x w k false = ap time_in (refused_body x w k)

pub step_time : (x : Step) (w : World) → (step x w).0.state.core.measured.time ≡ cond (eqb (number_of (step x w).1) 0) (time_by x w.state.core.measured.time) w.state.core.measured.time
step_time x w = let k = first_of (rows_of x w) in rw (number_is x w, world_is x w) (time_by_lem x w k (eqb k 0))

-- ---- a run

run_time : (xs : List Step) (w : World) (t : ℕ) (past : History) → w.state.core.measured.time ≡ last_time t past
    → (run corrector xs w).1.state.core.measured.time ≡ last_time t (reverse_aux (trace corrector xs w) past)
run_time [] w t past e = e
run_time (x ∷ xs) w t past e = run_time xs (step x w).0 t ((x, (step x w).1) ∷ past) (step_time x w ∙ rw e)

pub start_time_lem : (time supcode custcode : ℕ) (t : Bool) → leb end_of_time time ≡ t → (start_of time supcode custcode).state.core.measured.time ≡ start_time time
unfolding start_of start_refusal fresh fresh_core
start_time_lem time supcode custcode true e = rw e
start_time_lem time supcode custcode false e = rw e

pub start_month : (time supcode custcode : ℕ) (t : Bool) → leb end_of_time time ≡ t → (start_of time supcode custcode).state.core.measured.month ≡ month_of (start_time time)
unfolding start_of start_refusal fresh fresh_core
start_month time supcode custcode true e = rw e
start_month time supcode custcode false e = rw e

module _ (xs : List Step) (time supcode custcode : ℕ) (archive : List ArchiveLine) (log : List LogLine) (audit : List AuditLine) where
  abbrev start : World
  start = started time supcode custcode archive log audit

  abbrev end : World
  end = (run corrector xs start).1

  -- THE TIME IS THAT OF THE LAST ACCEPTED CYCLE, or the start's where there was none
  pub last_time_lem : end.state.core.measured.time ≡ last_time (start_time time) (history xs start)
  last_time_lem = run_time xs start (start_time time) [] (start_time_lem time supcode custcode (leb end_of_time time) refl)

  -- and the month is that time's
  pub last_month_lem : end.state.core.measured.month ≡ month_of (last_time (start_time time) (history xs start))
  last_month_lem =
      eqb-true end.state.core.measured.month (month_of end.state.core.measured.time) (measured_sound end.state.core.measured (whole_sound end.state (always_whole xs time supcode custcode archive log audit)).core.measured).in_month
      ∙ ap month_of last_time_lem
