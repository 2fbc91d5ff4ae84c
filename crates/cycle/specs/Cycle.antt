-- One measuring cycle as a whole: its refusals, the state after it and what it writes. Document 01, "One measuring cycle". What it measures is said in
-- the crate `measuring`, in the paper's order of work.
-- Assumes nothing.
use Rattle.std.specs.Prelude.{ℕ, Bool, not, cond, ◌&&◌, List, [], ◌∷◌, length, ltb, leb, eqb}
use Rattle.units.specs.Units.{most_pulses}
use Rattle.calendar.specs.Calendar.{end_of_time, month_of}
use Rattle.ring.specs.Ring.{archive_lines, log_lines, advanced_ring, advanced_book}
use Rattle.books.specs.declared.ArchiveLine.{ArchiveLine}
use Rattle.books.specs.declared.LogLine.{LogLine}
use Rattle.state.specs.declared.Core.{Core}
use Rattle.state.specs.declared.State.{State}
use Rattle.state.specs.State.{whole_b}
use Rattle.state.specs.Card.{first_of}
use Rattle.ring.specs.Store.{written}
use Rattle.notes.specs.Notes.{logged}
use Rattle.commands.specs.declared.Brought.{Brought}
use Rattle.commands.specs.Answers.{plain, Outcome, with_both}
unfoldable pub use Rattle.measuring.specs.Measuring.{months_from, months_crossed, archive_line, month_lines, coefficients_in, temperature_for, pressure_for, k_for, alarms_for, factor_for, amounts_for, is_too_large, any_alarm, counted, outputs_gained, gained_for, latches_after, change_notes, loss_notes, changes}
pub use Rattle.measuring.specs.Measuring.{natural_at, whole_at, coefficient_at, kelvin_for, measured_by}

-- `sound` says whether the state is whole
unfoldable pub cycle_refusal : Bool → State → ℕ → ℕ → Brought → ℕ
cycle_refusal sound s archiveLength logLength r = first_of (
    (1, not (sound && (eqb archiveLength archive_lines && eqb logLength log_lines)))
    ∷ (5, ltb r.time s.core.measured.time)
    ∷ (6, leb end_of_time r.time)
    ∷ (7, ltb most_pulses r.n)
    ∷ (14, is_too_large (amounts_for s.core.settings r))
    ∷ [])

unfoldable pub cycled_core : Core → Brought → Core
cycled_core c r = record {
  measured = measured_by c.measured r.time (alarms_for c.settings r) (amounts_for c.settings r);
  latches = latches_after c.latches (alarms_for c.settings r);
  locks = c.locks;
  settings = c.settings;
  outputs = (gained_for c.settings r c.outputs).outputs;
  stores = record {
    archive = advanced_ring archive_lines (length (month_lines c.measured.counters c.measured.month (month_of r.time))) c.stores.archive;
    log = advanced_book log_lines (length (changes c.measured.alarms (alarms_for c.settings r) (gained_for c.settings r c.outputs).over)) c.stores.log;
    audit = c.stores.audit;
  };
}

-- What an accepted cycle gives: the state after it, the archive with a line for every month crossed, and the logbook with a line for each alarm
-- that came or went and for each output that lost pulses, at the cycle's own time.
unfoldable pub cycled : State → Brought → List ArchiveLine → List LogLine → Outcome
cycled s r archive log =
    with_both
    (record { reply = plain 0; state = record { core = cycled_core s.core r; keypad = s.keypad; port = s.port } })
    (written archive_lines s.core.stores.archive archive (month_lines s.core.measured.counters s.core.measured.month (month_of r.time)))
    (written log_lines s.core.stores.log.ring log (logged s.core.stores.log r.time (changes s.core.measured.alarms (alarms_for s.core.settings r) (gained_for s.core.settings r s.core.outputs).over)))

-- the cycle: accepted where no refusal applies; a refused one returns its number and leaves everything as it was
unfoldable pub cycle_of : State → Brought → List ArchiveLine → List LogLine → Outcome
cycle_of s r archive log =
    let number = cycle_refusal (whole_b s) s (length archive) (length log) r in
    cond (eqb number 0) (cycled s r archive log) (with_both (record { reply = plain number; state = s }) archive log)
