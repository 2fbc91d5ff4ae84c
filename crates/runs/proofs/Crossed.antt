-- The archive has a line for every month crossed, one after another: the months of the lines that a run writes are those from the month of
-- the start up to, but not including, the month of the last accepted cycle. By the length of the run.
-- Assumes nothing.
use mathlib.Core.Path.{◌≡◌, refl, sym, ap, ◌∙◌}
use mathlib.Core.Bool.{Bool, true, false, cond}
use mathlib.Core.List.{List, [], ◌∷◌, ◌++◌, map, map-map}
use Prim.Native.Nat.{ℕ, zero, suc, ◌+◌, ◌-◌, ◌≤◌}
use native.Mathlib.Nat.{add-zero, zero-add, le_refl}
use native.Mathlib.Omega.{arith}
use lib.Dec.{leb, eqb}
use lib.ListN.{length}
use borrow.Author.Tests.{eqb-true, ltb-false}
use Rattle.order.specs.Order.{run}
use Rattle.calendar.specs.Calendar.{end_of_time, month_of}
use Rattle.calendar.proofs.Months.{month_mono}
use Rattle.state.specs.Card.{first_of}
use Rattle.state.specs.State.{whole_b}
use Rattle.state.proofs.Sound.{measured_sound, whole_sound}
use Rattle.books.specs.declared.ArchiveLine.{ArchiveLine}
use Rattle.books.specs.declared.LogLine.{LogLine}
use Rattle.books.specs.declared.AuditLine.{AuditLine}
use Rattle.state.specs.declared.Counters.{Counters}
use Rattle.commands.specs.declared.Brought.{Brought}
use Rattle.cycle.specs.Cycle.{months_from, months_crossed, archive_line, month_lines, cycle_refusal, cycled_core, cycled}
use Rattle.cycle.proofs.Join.{accepted}
use Rattle.panel.specs.Panel.{turned_core, turned, cleared, ticked}
use Rattle.doors.specs.Doors.{placed, with_session, read_after, write_after, committed_core, committed}
use Rattle.runs.specs.Run.{Step, Cycle, Turn, Clear, Tick, Ask, Call, Commit, World, number_of, step, corrector, started, Body, body_of}
use Rattle.runs.specs.Rows.{rows_of, refused_by}
use Rattle.runs.specs.History.{History, history, last_time, start_time}
use Rattle.runs.specs.Locks.{start_code}
use Rattle.runs.specs.Lines.{archive_shelf, wrote_in}
use Rattle.runs.proofs.Effects.{after, number_is, world_is, refused_body}
use Rattle.runs.proofs.Numbers.{map_join}
use Rattle.runs.proofs.InForce.{Agreed}
use Rattle.runs.proofs.Told.{Told, told, month_told, from_start_told}
use Rattle.runs.proofs.Lines.{archive_by, archive_told}
use Rattle.runs.proofs.Times.{start_month}

abbrev month_in : Body → ℕ
month_in b = b.core.measured.month

-- ---- months one after another

from_join : (a m n : ℕ) → months_from a m ++ months_from (a + m) n ≡ months_from a (m + n)
unfolding months_from
from_join a zero n = rw (add-zero, zero-add)
from_join a (suc m) n =
    let p : a + suc m ≡ a + 1 + m = omega arith in
    let q : suc m + n ≡ suc (m + n) = omega arith in
    rw (p, q) (ap (λ l. a ∷ l) (from_join (a + 1) m n))

crossed_join : (a b c : ℕ) → a ≤ b → b ≤ c → months_crossed a b ++ months_crossed b c ≡ months_crossed a c
unfolding months_crossed
crossed_join a b c l h =
    let p : a + (b - a) ≡ b = omega arith in
    let q : b - a + (c - b) ≡ c - a = omega arith in
    (rw (p, q) at (from_join a (b - a) (c - b)))

crossed_none : (a : ℕ) → months_crossed a a ≡ []
unfolding months_crossed months_from
crossed_none a = let p : a - a ≡ 0 = omega arith in rw p

-- the months of a cycle's lines are those that it crossed
line_months : (c : Counters) (a b : ℕ) → map (λ (l : ArchiveLine). l.month) (month_lines c a b) ≡ months_crossed a b
unfolding month_lines archive_line
line_months c a b = map-map (λ (l : ArchiveLine). l.month) (archive_line c) (months_crossed a b) ∙ map-id (months_crossed a b)
  where
    map-id : (l : List ℕ) → map (λ (x : ℕ). x) l ≡ l
    map-id [] = refl
    map-id (x ∷ l) = ap (λ t. x ∷ t) (map-id l)

-- ---- a step

record Crossed (ys : List ArchiveLine) (a b : ℕ) : Type 0 where
  up : a ≤ b
  months : map (λ (l : ArchiveLine). l.month) ys ≡ months_crossed a b

stays : (a : ℕ) → Crossed [] a a
stays a = record { up = le_refl a; months = sym (crossed_none a) }

-- an accepted cycle does not go back
cycle_up : (w : World) (r : Brought) → first_of (rows_of (Cycle r) w) ≡ 0 → w.state.core.measured.month ≤ month_of r.time
unfolding cycle_refusal
cycle_up w r z =
    let a = accepted (whole_b w.state) w.state (length w.archive) (length w.log) r z in
    let m = eqb-true w.state.core.measured.month (month_of w.state.core.measured.time) (measured_sound w.state.core.measured (whole_sound w.state a.is_whole).core.measured).in_month in
    rw m (month_mono w.state.core.measured.time r.time (ltb-false r.time w.state.core.measured.time a.not_early))

accepted_crosses : (x : Step) (w : World) → first_of (rows_of x w) ≡ 0 → Crossed (archive_by x w) w.state.core.measured.month (after x w).state.core.measured.month
unfolding cycled cycled_core turned turned_core cleared ticked with_session placed read_after write_after committed committed_core
accepted_crosses (Cycle r) w z = record { up = cycle_up w r z; months = line_months w.state.core.measured.counters w.state.core.measured.month (month_of r.time) }
accepted_crosses (Turn turn) w z = stays w.state.core.measured.month
accepted_crosses Clear w z = stays w.state.core.measured.month
accepted_crosses (Tick named) w z = stays w.state.core.measured.month
accepted_crosses (Ask question) w z = stays w.state.core.measured.month
accepted_crosses (Call door act) w z = stays w.state.core.measured.month
accepted_crosses (Commit door) w z = stays w.state.core.measured.month

crosses_by : (x : Step) (w : World) (k : ℕ) → first_of (rows_of x w) ≡ k → (t : Bool) → eqb k 0 ≡ t
    → Crossed (cond t (archive_by x w) []) w.state.core.measured.month (month_in (body_of (cond t (after x w) (refused_by x w k))))
crosses_by x w k z true e = accepted_crosses x w (z ∙ eqb-true k 0 e)
crosses_by x w k z false e = rw (refused_body x w k) (stays w.state.core.measured.month)

crosses : (x : Step) (w : World) → Crossed (cond (eqb (number_of (step x w).1) 0) (archive_by x w) []) w.state.core.measured.month (month_in (body_of (step x w).0))
crosses x w = let k = first_of (rows_of x w) in rw (number_is x w, world_is x w) (crosses_by x w k refl (eqb k 0) refl)

-- ---- a run

-- the archive lines that a run writes, oldest first, by the states that it comes through
abbrev pub archived_by : List Step → World → List ArchiveLine
archived_by [] w = []
archived_by (x ∷ xs) w = cond (eqb (number_of (step x w).1) 0) (archive_by x w) [] ++ archived_by xs (step x w).0

run_crosses : (xs : List Step) (w : World) → Crossed (archived_by xs w) w.state.core.measured.month (run corrector xs w).1.state.core.measured.month
run_crosses [] w = stays w.state.core.measured.month
run_crosses (x ∷ xs) w =
    let one = crosses x w in
    let rest = run_crosses xs (step x w).0 in
    record {
      up = omega (arith, one.up, rest.up);
      months =
          map_join (λ (l : ArchiveLine). l.month) (cond (eqb (number_of (step x w).1) 0) (archive_by x w) []) (archived_by xs (step x w).0)
          ∙ rw (one.months, rest.months) (crossed_join w.state.core.measured.month (step x w).0.state.core.measured.month (run corrector xs (step x w).0).1.state.core.measured.month one.up rest.up);
    }

-- THE MONTHS CROSSED, one line each, in their order: from any world
pub months_crossed_lem : (xs : List Step) (w : World)
    → map (λ (l : ArchiveLine). l.month) (archived_by xs w) ≡ months_crossed w.state.core.measured.month (run corrector xs w).1.state.core.measured.month
months_crossed_lem xs w = (run_crosses xs w).months

-- ---- a run from a start

module _ (xs : List Step) (time supcode custcode : ℕ) (archive : List ArchiveLine) (log : List LogLine) (audit : List AuditLine) where
  abbrev start : World
  start = started time supcode custcode archive log audit

  abbrev t : ℕ
  t = start_time time

  months_kept : (x : Step) (w : World) (past : History) → Agreed w past → Told t (start_code time supcode) (start_code time custcode) w past
      → Crossed (wrote_in archive_shelf t past) (month_of t) w.state.core.measured.month
      → Crossed (wrote_in archive_shelf t ((x, (step x w).1) ∷ past)) (month_of t) (step x w).0.state.core.measured.month
  months_kept x w past h s c =
      let one = crosses x w in
      let lines = wrote_in archive_shelf t past in
      let more = cond (eqb (number_of (step x w).1) 0) (archive_by x w) [] in
      rw (← archive_told t _ _ (length lines) x w past s) (record {
        up = omega (arith, c.up, one.up);
        months =
            map_join (λ (l : ArchiveLine). l.month) lines more
            ∙ rw (c.months, one.months) (crossed_join (month_of t) w.state.core.measured.month (step x w).0.state.core.measured.month c.up one.up);
      })

  -- THE ARCHIVE'S MONTHS are those from the month of the start up to, but not including, the month of the last accepted cycle
  pub archived_months : map (λ (l : ArchiveLine). l.month) (wrote_in archive_shelf t (history xs start)) ≡ months_crossed (month_of t) (month_of (last_time t (history xs start)))
  archived_months =
      let end = told time supcode custcode archive log audit xs in
      (from_start_told time supcode custcode archive log audit (λ w past. Crossed (wrote_in archive_shelf t past) (month_of t) w.state.core.measured.month) months_kept
      (rw (start_month time supcode custcode (leb end_of_time time) refl) (stays (month_of t))) xs).months
      ∙ ap (months_crossed (month_of t)) (month_told _ _ _ _ _ end)
