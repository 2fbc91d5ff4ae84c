-- The state of a corrector: as it starts, and when it is whole. Document 01, "Number on the fault card", its last paragraph; document 02, One and Three.
-- Assumes nothing.
use Rattle.std.specs.Prelude.{ℕ, Bool, false, not, ◌&&◌, ◌||◌, List, get_or, replicate, pos, ltb, eqb}
use Rattle.ground.specs.Below.{all_below}
use Rattle.units.specs.Units.{litres_rollover, base_rollover, plus_litres, plus_base}
use Rattle.settings.specs.Settings.{setting_count, fits_b, settings_fit_b, ordered_b, factory_settings}
use Rattle.settings.specs.declared.Value.TheVariants.{Whole}
use Rattle.outputs.specs.Four.{rule_at, outputs_b, fresh_outputs}
use Rattle.calendar.specs.Calendar.{end_of_time, month_of}
use Rattle.ring.specs.Ring.{archive_lines, log_lines, audit_lines, log_step, audit_step, ring_after, book_after, FromFresh, ring_b, book_b}
use Rattle.state.specs.declared.Counters.{Counters}
use Rattle.state.specs.declared.Alarms.{Alarms}
use Rattle.state.specs.declared.Locks.{Locks}
use Rattle.state.specs.declared.Cell.{Cell}
use Rattle.state.specs.declared.Session.{Session}
use Rattle.state.specs.declared.Measured.{Measured}
use Rattle.state.specs.declared.Stores.{Stores}
use Rattle.state.specs.declared.Core.{Core}
use Rattle.state.specs.declared.State.{State}
use Rattle.state.specs.declared.Tested.{Tested}

-- ---- a fresh device

abbrev pub blank_cell : Cell
blank_cell = record { staged = false; value = Whole (pos 0); read = false; overtaken = false }

-- a door with no session: nothing staged, nothing read
unfoldable pub no_session : Session
no_session = record { live = false; cells = replicate setting_count blank_cell }

unfoldable pub no_alarm : Alarms
no_alarm = record { p = false; t = false; k = false }

unfoldable pub nothing_counted : Counters
nothing_counted = record {
  vm = record { 0 = 0 };
  vmd = record { 0 = 0 };
  vmt = record { 0 = 0 };
  vb = record { 0 = 0 };
  vbd = record { 0 = 0 };
  vbt = record { 0 = 0 };
}

unfoldable pub shut_locks : ℕ → ℕ → Locks
shut_locks supcode custcode = record { cal = false; sup = false; cust = false; supcode = supcode; custcode = custcode }

-- counters 0, settings factory, nothing in the outputs, no alarm or latch, no line held; the start time is the last accepted time until a cycle is accepted
unfoldable pub fresh_core : ℕ → Locks → Core
fresh_core time locks = record {
  measured = record { time = time; month = month_of time; counters = nothing_counted; alarms = no_alarm };
  latches = no_alarm;
  locks = locks;
  settings = factory_settings;
  outputs = fresh_outputs;
  stores = record { archive = ring_after archive_lines 0; log = book_after log_lines 0; audit = book_after audit_lines 0 };
}

-- the locks are shut when fresh, and no session stands
unfoldable pub fresh : ℕ → ℕ → ℕ → State
fresh time supcode custcode = record { core = fresh_core time (shut_locks supcode custcode); keypad = no_session; port = no_session }

-- ---- when a state is whole

-- counters are in range
unfoldable pub counters_b : Counters → Bool
counters_b c = ltb c.vm.0 litres_rollover && ltb c.vmd.0 litres_rollover && ltb c.vb.0 base_rollover && ltb c.vbd.0 base_rollover

-- the kept totals do not differ from main plus disturbed under the rollover
unfoldable pub totals_b : Counters → Bool
totals_b c = eqb c.vmt.0 (plus_litres c.vm c.vmd).0 && eqb c.vbt.0 (plus_base c.vb c.vbd).0

-- each present alarm is latched
unfoldable pub latched_b : Alarms → Alarms → Bool
latched_b present latch =
    (not present.p || latch.p)
    && (not present.t || latch.t)
    && (not present.k || latch.k)

-- what the state says of each store is what some number of lines written to it from fresh would give
pub record StoresFromFresh (x : Stores) : Type 0 where
  pub archive : FromFresh (ring_after archive_lines) x.archive
  pub log : FromFresh (book_after log_lines) x.log
  pub audit : FromFresh (book_after audit_lines) x.audit

-- The same as a test that can be computed. It passes exactly where `StoresFromFresh` holds: `stores_from_fresh` in crates/state/proofs/Sound.antt.
unfoldable pub stores_b : Stores → Bool
stores_b x = ring_b archive_lines x.archive && book_b log_lines log_step x.log && book_b audit_lines audit_step x.audit

-- of setting k + 1 in the session at a door; `live` says whether a session is open there
unfoldable pub cell_b : Bool → ℕ → Cell → Bool
cell_b live k c =
    -- staged values are in range
    (not c.staged || fits_b k c.value)
    -- a setting marked as put in force through the other door also counts as read
    && (not c.overtaken || c.read)
    -- a door with no session has nothing staged or read
    && (not (c.staged || c.read) || live)

unfoldable pub cells_b : Bool → List Cell → ℕ → Bool
cells_b live cells k = cell_b live k (get_or cells k blank_cell)

unfoldable pub session_b : Session → Bool
session_b x = all_below (cells_b x.live x.cells) setting_count

-- time and counters are in range, the totals are right, and the month fits the time
unfoldable pub measured_b : Measured → Bool
measured_b m = ltb m.time end_of_time && counters_b m.counters && totals_b m.counters && eqb m.month (month_of m.time)

-- all that is no session
unfoldable pub core_b : Core → Bool
core_b c =
    measured_b c.measured
    -- settings are in range
    && settings_fit_b c.settings
    -- the pairs 7/8 and 9/10 are in order
    && ordered_b c.settings
    && latched_b c.measured.alarms c.latches
    -- each output by its choice and weight
    && outputs_b (rule_at c.settings) c.outputs
    && stores_b c.stores

unfoldable pub whole_b : State → Bool
whole_b s = core_b s.core && session_b s.keypad && session_b s.port

-- a state with the outcome of that test
unfoldable pub tested : State → Tested
tested s = record { state = s; sound = whole_b s }

-- ---- a state with another core

unfoldable pub with_core : State → Core → State
with_core s c = record { core = c; keypad = s.keypad; port = s.port }
