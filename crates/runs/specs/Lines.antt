-- What a run writes into the three stores, line by line, said of the history alone. Document 01, "Books" and "One measuring cycle", 1 and 7.
-- Assumes nothing.
use Rattle.std.specs.Prelude.{ℕ, zero, suc, ◌+◌, ◌%◌, cond, List, [], ◌∷◌, ◌++◌, length}
use Rattle.units.specs.Units.{litres_shown, base_shown}
use Rattle.calendar.specs.Calendar.{month_of}
use Rattle.settings.specs.Settings.{setting_count}
use Rattle.ring.specs.declared.Ring.{Ring}
use Rattle.ring.specs.Ring.{archive_lines, log_lines, audit_lines, numbers}
use Rattle.ring.specs.Store.{held_lines}
use Rattle.books.specs.declared.ArchiveLine.{ArchiveLine}
use Rattle.books.specs.declared.LogLine.{LogLine}
use Rattle.books.specs.declared.AuditLine.{AuditLine}
use Rattle.books.specs.Books.{no_archive, no_log, no_audit}
use Rattle.state.specs.declared.Counters.{Counters}
use Rattle.notes.specs.Notes.{keep, numbered, log_line}
use Rattle.cycle.specs.Cycle.{month_lines, alarms_for, changes}
use Rattle.panel.specs.Panel.{turn_codes}
use Rattle.doors.specs.Doors.{Change, audit_line}
use Rattle.runs.specs.Run.{Step, Cycle, Turn, Clear, Tick, Ask, Call, Commit, on_cycle, World, lock_of, opens_it}
use Rattle.runs.specs.History.{History, done, last_time}
use Rattle.runs.specs.Stale.{has_staged}
use Rattle.runs.specs.InForce.{in_force, settings_in, seen_at}
use Rattle.runs.specs.Locks.{lock_at}
use Rattle.runs.specs.Sums.{Vm, VmD, VmT, Vb, VbD, VbT, sum_in}
use Rattle.runs.specs.Latches.{found_in}
use Rattle.runs.specs.Outputs.{losses_for}

-- A store: how many lines it can hold, what the state says of it, what is in it, and the lines that an accepted step writes, oldest first. Those
-- depend on the time of the start, the number of lines written before, the step, and the history before it.
pub record Shelf : Type 1 where
  pub Line : Type 0
  pub blank : Line
  pub size : ℕ
  pub ring : World → Ring
  pub store : World → List Line
  pub lines : ℕ → ℕ → Step → History → List Line

-- ---- the archive: an accepted cycle writes a line for every month crossed, with the counters as they stood before it

unfoldable pub counters_in : History → Counters
counters_in past = record {
  vm = litres_shown (sum_in Vm past);
  vmd = litres_shown (sum_in VmD past);
  vmt = litres_shown (sum_in VmT past);
  vb = base_shown (sum_in Vb past);
  vbd = base_shown (sum_in VbD past);
  vbt = base_shown (sum_in VbT past);
}

abbrev pub archive_for : ℕ → ℕ → Step → History → List ArchiveLine
archive_for t n x past = on_cycle (λ r. month_lines (counters_in past) (month_of (last_time t past)) (month_of r.time)) [] x

abbrev pub archive_shelf : Shelf
archive_shelf = record {
  Line = ArchiveLine;
  blank = no_archive;
  size = archive_lines;
  ring = λ w. w.state.core.stores.archive;
  store = λ w. w.archive;
  lines = archive_for;
}

-- ---- the logbook: the alarms that came or went and the outputs that lost pulses, at the cycle's own time; a lock that opened or shut, at the time of the last cycle

abbrev pub log_for : ℕ → ℕ → Step → History → List LogLine
log_for t n (Cycle r) past = numbered (log_line r.time) n (changes (found_in past) (alarms_for (settings_in past) r) (losses_for r past))
log_for t n (Turn turn) past = numbered (log_line (last_time t past)) n (turn_codes (lock_at (lock_of turn) past) (lock_of turn) (opens_it turn))
log_for t n Clear past = []
log_for t n (Tick named) past = []
log_for t n (Ask question) past = []
log_for t n (Call door act) past = []
log_for t n (Commit door) past = []

abbrev pub log_shelf : Shelf
log_shelf = record {
  Line = LogLine;
  blank = no_log;
  size = log_lines;
  ring = λ w. w.state.core.stores.log.ring;
  store = λ w. w.log;
  lines = log_for;
}

-- ---- the audit trail: one line for each setting that a commit puts in force

-- those among the first k settings, in order of number: each that the session has staged, with the value in force and the value staged
unfoldable pub changes_in : ℕ → History → ℕ → List Change
changes_in door past zero = []
changes_in door past (suc k) =
    changes_in door past k ++ keep (has_staged door (k + 1) past) (record { setting = k + 1; old = in_force (k + 1) past; new = seen_at door (k + 1) past })

abbrev pub audit_for : ℕ → ℕ → Step → History → List AuditLine
audit_for t n (Cycle r) past = []
audit_for t n (Turn turn) past = []
audit_for t n Clear past = []
audit_for t n (Tick named) past = []
audit_for t n (Ask question) past = []
audit_for t n (Call door act) past = []
audit_for t n (Commit door) past = numbered (audit_line (last_time t past) door) n (changes_in door past setting_count)

abbrev pub audit_shelf : Shelf
audit_shelf = record {
  Line = AuditLine;
  blank = no_audit;
  size = audit_lines;
  ring = λ w. w.state.core.stores.audit.ring;
  store = λ w. w.audit;
  lines = audit_for;
}

-- ---- a run

-- the lines that a run wrote, oldest first; t is the time of the start
abbrev pub wrote_in : (S : Shelf) → ℕ → History → List S.Line
wrote_in S t [] = []
wrote_in S t (x ∷ past) = wrote_in S t past ++ cond (done x) (S.lines t (length (wrote_in S t past)) x.0 past) []

-- the lines that a store holds, newest first
abbrev pub holds : (S : Shelf) → World → List S.Line
holds S w = held_lines S.size S.blank (S.ring w) (S.store w)

-- m numbers from n on: after 65,535 comes 0
abbrev pub numbers_from : ℕ → ℕ → List ℕ
numbers_from n zero = []
numbers_from n (suc m) = n % numbers ∷ numbers_from (n + 1) m
