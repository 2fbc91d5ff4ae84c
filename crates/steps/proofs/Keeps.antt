-- An accepted cycle keeps the core whole, and any step keeps the state whole. A state that is not whole stays as it is.
-- Assumes nothing.
use mathlib.Core.Path.{◌≡◌, refl, sym, ap, ◌∙◌}
use mathlib.Core.Bool.{Bool, true, false}
use mathlib.Core.List.{List}
use Rattle.std.proofs.Common.{Option}
use Prim.Native.Nat.{ℕ}
use native.Mathlib.Omega.{arith}
use lib.Dec.{ltb, leb, eqb}
use lib.ListN.{length}
use borrow.Author.Tests.{eq-eqb, eqb-true, leb-false, lt-ltb}
use Rattle.ground.proofs.Flags.{Either, is_true, is_false, either_of}
use Rattle.calendar.specs.Calendar.{end_of_time, month_of}
use Rattle.ring.specs.Ring.{archive_lines}
use Rattle.ring.proofs.Whole.{ring_stays, book_stays, log_common}
use Rattle.units.specs.declared.Amounts.{Amounts}
use Rattle.state.specs.declared.Alarms.{Alarms}
use Rattle.state.specs.declared.Measured.{Measured}
use Rattle.state.specs.declared.Core.{Core}
use Rattle.state.specs.declared.State.{State}
use Rattle.state.specs.State.{measured_b, whole_b}
use Rattle.state.proofs.Sound.{SoundCore, Sound, measured_sound, whole_sound, sound_whole}
use Rattle.books.specs.declared.ArchiveLine.{ArchiveLine}
use Rattle.books.specs.declared.LogLine.{LogLine}
use Rattle.commands.specs.declared.Brought.{Brought}
use Rattle.commands.specs.declared.LockTurn.TheVariants.{Open, Shut}
use Rattle.commands.specs.declared.Act.TheVariants.{Begin, Read, Write, Abandon}
use Rattle.commands.specs.declared.Command.{Command}
use Rattle.commands.specs.declared.Command.TheVariants.{Cycle, Turn, Clear, Tick, Ask, Call, Commit}
use Rattle.cycle.specs.Cycle.{month_lines, alarms_for, amounts_for, any_alarm, measured_by, gained_for, changes, cycle_refusal, cycled_core, cycled, cycle_of}
use Rattle.cycle.proofs.Join.{accepted}
use Rattle.cycle.proofs.Laws.{counters_stay, totals_stay, gained_whole, latches_hold}
use Rattle.panel.specs.Panel.{open_refusal, open_of, shut_refusal, shut_of, clear_refusal, clear_by, tick_refusal, tick_by}
use Rattle.panel.proofs.Laws.{open_whole, shut_whole, clear_whole, tick_whole}
use Rattle.doors.specs.Doors.{begin_refusal, begin_by, read_refusal, read_by, write_refusal, write_by, abandon_refusal, abandon_by, commit_refusal, commit_of, refused_commit}
use Rattle.doors.proofs.Stays.{begin_whole, abandon_whole, read_whole, write_whole, commit_whole}
use Rattle.commands.specs.Answers.{World}
use Rattle.steps.specs.Step.{step}

-- ---- the core

-- what a cycle measures, its time being before the end of 2099
measured_stays : (m : Measured) (time : ℕ) (found : Alarms) (amounts : Option Amounts) → ltb time end_of_time ≡ true → measured_b m ≡ true → measured_b (measured_by m time found amounts) ≡ true
unfolding measured_b
measured_stays m time found amounts h e =
    let s = measured_sound m e in
    rw (h, counters_stay m.counters (any_alarm found) amounts s.counted, totals_stay m.counters (any_alarm found) amounts s.totalled, eq-eqb (month_of time) (month_of time) refl)

pub cycled_sound : (c : Core) (r : Brought) → ltb r.time end_of_time ≡ true → SoundCore c → SoundCore (cycled_core c r)
unfolding cycled_core gained_for
cycled_sound c r h s = record {
  measured = measured_stays c.measured r.time (alarms_for c.settings r) (amounts_for c.settings r) h s.measured;
  fit = s.fit;
  ordered = s.ordered;
  latched = latches_hold c.latches (alarms_for c.settings r);
  outputs = gained_whole c.settings (any_alarm (alarms_for c.settings r)) (amounts_for c.settings r) c.outputs s.outputs;
  archive_held = ring_stays archive_lines (length (month_lines c.measured.counters c.measured.month (month_of r.time))) c.stores.archive (omega arith) s.archive_held;
  log_held = book_stays log_common (length (changes c.measured.alarms (alarms_for c.settings r) (gained_for c.settings r c.outputs).over)) c.stores.log s.log_held;
  audit_held = s.audit_held;
}

cycle_by : (s : State) (r : Brought) (archive : List ArchiveLine) (log : List LogLine) (t : Bool) → eqb (cycle_refusal (whole_b s) s (length archive) (length log) r) 0 ≡ t
    → whole_b s ≡ true → whole_b (cycle_of s r archive log).answer.state ≡ true
unfolding cycle_of cycled
cycle_by s r archive log true z e =
    let p : Sound s = whole_sound s e in
    let late : leb end_of_time r.time ≡ false = (accepted (whole_b s) s (length archive) (length log) r (eqb-true (cycle_refusal (whole_b s) s (length archive) (length log) r) 0 z)).in_time in
    rw z
    (sound_whole (record { core = cycled_core s.core r; keypad = s.keypad; port = s.port })
    (record { core = cycled_sound s.core r (lt-ltb r.time end_of_time (leb-false end_of_time r.time late)) p.core; keypad = p.keypad; port = p.port }))
cycle_by s r archive log false z e = rw z e

-- ---- any command

pub step_whole : (c : Command) (w : World) → whole_b w.state ≡ true → whole_b (step c w).0.state ≡ true
step_whole (Cycle r) w e =
    cycle_by w.state r w.archive w.log (eqb (cycle_refusal (whole_b w.state) w.state (length w.archive) (length w.log) r) 0) refl e
step_whole (Turn (Open lock code)) w e = open_whole w.state lock code w.log e
step_whole (Turn (Shut lock)) w e = shut_whole w.state lock w.log e
step_whole Clear w e = clear_whole w.state e
step_whole (Tick n) w e = tick_whole w.state n e
step_whole (Ask question) w e = e
step_whole (Call door Begin) w e = begin_whole w.state door e
step_whole (Call door Abandon) w e = abandon_whole w.state door e
step_whole (Commit door) w e = commit_whole w.state door w.audit e
step_whole (Call door (Read setting)) w e = read_whole w.state door setting e
step_whole (Call door (Write setting v)) w e = write_whole w.state door setting v e

-- a state that is not whole is refused by 1, and stays as it is
step_stays : (c : Command) (w : World) → whole_b w.state ≡ false → (step c w).0.state ≡ w.state
unfolding cycle_of cycle_refusal open_of open_refusal shut_of shut_refusal clear_by clear_refusal tick_by tick_refusal begin_by begin_refusal read_by read_refusal write_by write_refusal abandon_by abandon_refusal commit_of commit_refusal refused_commit
step_stays (Cycle r) w e = rw e
step_stays (Turn (Open lock code)) w e = rw e
step_stays (Turn (Shut lock)) w e = rw e
step_stays Clear w e = rw e
step_stays (Tick n) w e = rw e
step_stays (Ask question) w e = refl
step_stays (Call door Begin) w e = rw e
step_stays (Call door (Read setting)) w e = rw e
step_stays (Call door (Write setting v)) w e = rw e
step_stays (Call door Abandon) w e = rw e
step_stays (Commit door) w e = rw e

-- SO A STATE IS WHOLE AFTER A STEP EXACTLY IF IT WAS WHOLE BEFORE
pub step_keeps : (c : Command) (w : World) → whole_b (step c w).0.state ≡ whole_b w.state
step_keeps c w = by (either_of (whole_b w.state))
  where
    by : Either (whole_b w.state) → whole_b (step c w).0.state ≡ whole_b w.state
    by (is_true e) = step_whole c w e ∙ sym e
    by (is_false e) = ap whole_b (step_stays c w e)
