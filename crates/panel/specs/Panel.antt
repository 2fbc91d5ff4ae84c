-- The commands that are no cycle and no session step: start, lock turns, clear, tick, the two reports, the readout, the lines of the archive and the logbook, and the newest
-- line with a code. Document 01, "Doors, sessions, locks", "Books" and "Number on the fault card"; document 02, Three, Five and Seven.
-- Assumes nothing.
use Rattle.std.specs.Prelude.{ℕ, ◌+◌, Bool, true, false, not, cond, ◌&&◌, ◌||◌, List, [], ◌∷◌, ◌++◌, length, drop, ltb, leb, eqb}
use Rattle.outputs.specs.Four.{rule_at, all_ticked, most_tick, all_shown}
use Rattle.calendar.specs.Calendar.{end_of_time}
use Rattle.units.specs.Units.{whole_litres}
use Rattle.message.specs.declared.Values.{Values}
use Rattle.message.specs.Message.{message, size}
use Rattle.settings.specs.Settings.{lock_count}
use Rattle.ring.specs.Ring.{archive_lines, log_lines, advanced_book}
use Rattle.books.specs.declared.ArchiveLine.{ArchiveLine}
use Rattle.books.specs.declared.LogLine.{LogLine}
use Rattle.books.specs.Books.{no_archive, no_log}
use Rattle.state.specs.declared.Counters.{Counters}
use Rattle.state.specs.declared.Alarms.{Alarms}
use Rattle.state.specs.declared.Locks.{Locks}
use Rattle.state.specs.declared.Core.{Core}
use Rattle.state.specs.declared.State.{State}
use Rattle.state.specs.declared.Moment.{Moment}
use Rattle.state.specs.State.{fresh, whole_b}
use Rattle.state.specs.Card.{first_of}
use Rattle.ring.specs.Store.{written}
use Rattle.notes.specs.Notes.{keep, logged}
use Rattle.commands.specs.declared.Given.TheVariants as given
use Rattle.commands.specs.declared.Reply.{Reply}
use Rattle.commands.specs.declared.Answer.{Answer}
use Rattle.commands.specs.Answers.{plain, giving, answered, Outcome, with_log}
use Rattle.asked.specs.Asked.{line_given, last_given}

-- ---- start

-- Refused by 6, it hands back the state that start time 0 and codes 0 would give.
unfoldable pub start_refusal : ℕ → ℕ
start_refusal time = first_of ((6, leb end_of_time time) ∷ [])

unfoldable pub start_of : ℕ → ℕ → ℕ → Answer
start_of time supcode custcode = answered (start_refusal time) (fresh 0 0 0) (fresh time supcode custcode)

-- ---- locks

abbrev pub no_lock : ℕ → Bool
no_lock lock = ltb lock 1 || ltb lock_count lock

unfoldable pub lock_in : Locks → ℕ → Bool
lock_in l lock = cond (eqb lock 1) l.cal (cond (eqb lock 2) l.sup l.cust)

-- the lock turned to where `to` says
unfoldable pub with_lock : Locks → ℕ → Bool → Locks
with_lock l lock to = record {
  cal = cond (eqb lock 1) to l.cal;
  sup = cond (eqb lock 2) to l.sup;
  cust = cond (eqb lock 3) to l.cust;
  supcode = l.supcode;
  custcode = l.custcode;
}

-- lock 1 is a switch, and the code given is ignored
unfoldable pub right_code : Locks → ℕ → ℕ → Bool
right_code l lock code = cond (eqb lock 1) true (cond (eqb lock 2) (eqb code l.supcode) (eqb code l.custcode))

-- 31 to 33: lock 1 to 3 opened; 41 to 43: shut. Turning a lock to where it already stands is not logged. `stood`: it was open before
unfoldable pub turn_codes : Bool → ℕ → Bool → List ℕ
turn_codes stood lock true = keep (not stood) (30 + lock)
turn_codes stood lock false = keep stood (40 + lock)

unfoldable pub turned_core : Core → ℕ → Bool → Core
turned_core c lock to = record {
  measured = c.measured;
  latches = c.latches;
  locks = with_lock c.locks lock to;
  settings = c.settings;
  outputs = c.outputs;
  stores = record { archive = c.stores.archive; log = advanced_book log_lines (length (turn_codes (lock_in c.locks lock) lock to)) c.stores.log; audit = c.stores.audit };
}

-- the time is that of the last accepted cycle
unfoldable pub turned : State → ℕ → Bool → List LogLine → Outcome
turned s lock to log =
    with_log
    (record { reply = plain 0; state = record { core = turned_core s.core lock to; keypad = s.keypad; port = s.port } })
    (written log_lines s.core.stores.log.ring log (logged s.core.stores.log s.core.measured.time (turn_codes (lock_in s.core.locks lock) lock to)))

abbrev pub refused_turn : ℕ → State → List LogLine → Outcome
refused_turn number s log = with_log (record { reply = plain number; state = s }) log

-- here and below, `sound` says whether the state is whole
unfoldable pub open_refusal : Bool → State → ℕ → ℕ → ℕ → ℕ
open_refusal sound s logLength lock code = first_of (
    (1, not (sound && eqb logLength log_lines))
    ∷ (3, no_lock lock)
    ∷ (8, not (right_code s.core.locks lock code))
    ∷ [])

unfoldable pub open_of : State → ℕ → ℕ → List LogLine → Outcome
open_of s lock code log =
    let number = open_refusal (whole_b s) s (length log) lock code in
    cond (eqb number 0) (turned s lock true log) (refused_turn number s log)

unfoldable pub shut_refusal : Bool → ℕ → ℕ → ℕ
shut_refusal sound logLength lock = first_of ((1, not (sound && eqb logLength log_lines)) ∷ (3, no_lock lock) ∷ [])

unfoldable pub shut_of : State → ℕ → List LogLine → Outcome
shut_of s lock log =
    let number = shut_refusal (whole_b s) (length log) lock in
    cond (eqb number 0) (turned s lock false log) (refused_turn number s log)

-- ---- clear

unfoldable pub clear_refusal : Bool → State → ℕ
clear_refusal sound s = first_of ((1, not sound) ∷ (10, not (s.core.locks.cal || s.core.locks.sup)) ∷ [])

-- drops the latch of each alarm not present
unfoldable pub cleared_latches : Alarms → Alarms → Alarms
cleared_latches latch present = record { p = latch.p && present.p; t = latch.t && present.t; k = latch.k && present.k }

unfoldable pub cleared : State → State
cleared s = record {
  core = record {
    measured = s.core.measured;
    latches = cleared_latches s.core.latches s.core.measured.alarms;
    locks = s.core.locks;
    settings = s.core.settings;
    outputs = s.core.outputs;
    stores = s.core.stores;
  };
  keypad = s.keypad;
  port = s.port;
}

unfoldable pub clear_by : Bool → State → Answer
clear_by sound s = answered (clear_refusal sound s) s (cleared s)

abbrev pub clear_of : State → Answer
clear_of s = clear_by (whole_b s) s

-- ---- tick (document 02, Three)

-- "15, a tick naming more than 600, after 1"
unfoldable pub tick_refusal : Bool → ℕ → ℕ
tick_refusal sound n = first_of ((1, not sound) ∷ (15, ltb most_tick n) ∷ [])

unfoldable pub ticked : State → ℕ → State
ticked s n = record {
  core = record {
    measured = s.core.measured;
    latches = s.core.latches;
    locks = s.core.locks;
    settings = s.core.settings;
    outputs = (all_ticked n s.core.outputs).outputs;
    stores = s.core.stores;
  };
  keypad = s.keypad;
  port = s.port;
}

-- it "answers the four numbers emitted"
unfoldable pub tick_by : Bool → State → ℕ → Answer
tick_by sound s n =
    let number = tick_refusal sound n in
    record { reply = giving number (given.Emitted (all_ticked n s.core.outputs).emitted); state = cond (eqb number 0) (ticked s n) s }

abbrev pub tick_of : State → ℕ → Answer
tick_of s n = tick_by (whole_b s) s n

-- ---- report

-- time, the four counters, the two totals, alarms, latches and locks of one moment, all as they are kept
unfoldable pub reported : Core → Moment
reported c = record {
  time = c.measured.time;
  counters = c.measured.counters;
  alarms = c.measured.alarms;
  latches = c.latches;
  cal = c.locks.cal;
  sup = c.locks.sup;
  cust = c.locks.cust;
}

unfoldable pub report_refusal : Bool → ℕ
report_refusal sound = first_of ((1, not sound) ∷ [])

unfoldable pub report_by : Bool → State → Reply
report_by sound s = giving (report_refusal sound) (given.Report (reported s.core))

abbrev pub report_of : State → Reply
report_of s = report_by (whole_b s) s

-- account, waiting and lost of each output; refused by 1 alone
unfoldable pub outputs_of : State → Reply
outputs_of s = giving (report_refusal (whole_b s)) (given.Outputs (all_shown (rule_at s.core.settings) s.core.outputs))

-- ---- readout (document 02, Five)

-- "Vb, VbD, VbT, Vm, VmD, VmT", each as it is kept and "cut off downwards" to litres. VbT is the kept total
unfoldable pub values_of : Counters → Values
values_of c = record {
  vb = whole_litres c.vb;
  vbd = whole_litres c.vbd;
  vbt = whole_litres c.vbt;
  vm = c.vm.0;
  vmd = c.vmd.0;
  vmt = c.vmt.0;
}

-- "16, the lent buffer is shorter than the message, after 1"; `room` is the length of the buffer
unfoldable pub readout_refusal : Bool → ℕ → ℕ
readout_refusal sound room = first_of ((1, not sound) ∷ (16, ltb room size) ∷ [])

unfoldable pub readout_by : Bool → State → ℕ → Reply
readout_by sound s room = giving (readout_refusal sound room) (given.Readout (record { room = room; values = values_of s.core.measured.counters }))

abbrev pub readout_of : State → ℕ → Reply
readout_of s room = readout_by (whole_b s) s room

-- what the lent buffer holds afterwards: the message, and "the bytes past the message stay as they were"; where it is refused, "nothing written"
unfoldable pub readout_leaves : State → List ℕ → List ℕ
readout_leaves s old = cond (eqb (readout_refusal (whole_b s) (length old)) 0) (message (values_of s.core.measured.counters) ++ drop size old) old

-- ---- a line of a store: line i of the lines held, newest first

abbrev pub log_line_of : State → ℕ → List LogLine → Reply
log_line_of s i log = line_given given.Log (whole_b s) log_lines no_log s.core.stores.log.ring log i

abbrev pub archive_line_of : State → ℕ → List ArchiveLine → Reply
archive_line_of s i archive = line_given given.Archive (whole_b s) archive_lines no_archive s.core.stores.archive archive i

-- ---- the newest line with a code (document 02, Seven)

abbrev pub last_of : State → ℕ → List LogLine → Reply
last_of s code log = last_given (whole_b s) s.core.stores.log.ring code log
