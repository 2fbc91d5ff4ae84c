-- What a whole state says, part by part, and back. The test on the stores passes exactly where some number of lines gives each. A fresh state is whole.
-- Assumes nothing.
use mathlib.Core.Path.{◌≡◌, refl}
use mathlib.Core.Bool.{Bool, true, ◌&&◌}
use mathlib.Core.Logic.{◌↔◌}
use Prim.Native.Nat.{ℕ, ◌<◌}
use native.Mathlib.Omega.{arith}
use lib.Dec.{ltb, eqb}
use borrow.Author.Tests.{lt-ltb, eq-eqb, eqb-true}
use Rattle.ground.specs.Below.{all_below}
use Rattle.ground.proofs.Flags.{and_left, and_right}
use Rattle.units.specs.Units.{litres_shown, base_shown, plus_litres, plus_base}
use Rattle.settings.specs.Settings.{settings_fit_b, ordered_b}
use Rattle.settings.proofs.Laws.{factory_fits, factory_ordered}
use Rattle.outputs.specs.Four.{rule_at, outputs_b}
use Rattle.outputs.proofs.All.{fresh_whole as outputs-fresh}
use Rattle.calendar.specs.Calendar.{end_of_time, month_of}
use Rattle.ring.specs.Ring.{archive_lines, log_lines, audit_lines, log_step, audit_step, ring_after, book_after, ring_b, book_b}
use Rattle.ring.proofs.Whole.{ring_passes, book_passes, log_common, audit_common, archive_whole, log_whole, audit_whole}
use Rattle.state.specs.declared.Counters.{Counters}
use Rattle.state.specs.declared.Measured.{Measured}
use Rattle.state.specs.declared.Stores.{Stores}
use Rattle.state.specs.declared.Core.{Core}
use Rattle.state.specs.declared.Locks.{Locks}
use Rattle.state.specs.declared.State.{State}
use Rattle.state.specs.State.{no_session, no_alarm, nothing_counted, shut_locks, fresh_core, fresh, counters_b, totals_b, latched_b, StoresFromFresh, stores_b, measured_b, cell_b, cells_b, session_b, core_b, whole_b}

-- ---- the stores

stores_from : (x : Stores) → stores_b x ≡ true → StoresFromFresh x
unfolding stores_b
stores_from x e =
    let a : Bool = ring_b archive_lines x.archive in
    let l : Bool = book_b log_lines log_step x.log in
    let t : Bool = book_b audit_lines audit_step x.audit in
    let two : (a && l) ≡ true = and_left (a && l) t e in
    record {
      archive = (archive_whole x.archive).0 (and_left a l two);
      log = (log_whole x.log).0 (and_right a l two);
      audit = (audit_whole x.audit).0 (and_right (a && l) t e);
    }

stores_pass : (x : Stores) → StoresFromFresh x → stores_b x ≡ true
unfolding stores_b
stores_pass x f = rw ((archive_whole x.archive).1 f.archive, (log_whole x.log).1 f.log, (audit_whole x.audit).1 f.audit)

-- THE TEST ON THE STORES PASSES EXACTLY WHERE some number of lines written from fresh gives what the state says of each
pub stores_from_fresh : (x : Stores) → (stores_b x ≡ true) ↔ StoresFromFresh x
stores_from_fresh x = (stores_from x, stores_pass x)

-- ---- the core

pub record SoundMeasured (m : Measured) : Type 0 where
  pub in_time : ltb m.time end_of_time ≡ true
  pub counted : counters_b m.counters ≡ true
  pub totalled : totals_b m.counters ≡ true
  pub in_month : eqb m.month (month_of m.time) ≡ true

pub record SoundCore (c : Core) : Type 0 where
  pub measured : measured_b c.measured ≡ true
  pub fit : settings_fit_b c.settings ≡ true
  pub ordered : ordered_b c.settings ≡ true
  pub latched : latched_b c.measured.alarms c.latches ≡ true
  pub outputs : outputs_b (rule_at c.settings) c.outputs ≡ true
  pub archive_held : ring_b archive_lines c.stores.archive ≡ true
  pub log_held : book_b log_lines log_step c.stores.log ≡ true
  pub audit_held : book_b audit_lines audit_step c.stores.audit ≡ true

-- what the test on the totals says
pub record Totalled (c : Counters) : Type 0 where
  pub litres : c.vmt.0 ≡ (plus_litres c.vm c.vmd).0
  pub base : c.vbt.0 ≡ (plus_base c.vb c.vbd).0

pub totals_sound : (c : Counters) → totals_b c ≡ true → Totalled c
unfolding totals_b
totals_sound c e =
    let l : ℕ = (plus_litres c.vm c.vmd).0 in
    let b : ℕ = (plus_base c.vb c.vbd).0 in
    record {
      litres = eqb-true c.vmt.0 l (and_left (eqb c.vmt.0 l) (eqb c.vbt.0 b) e);
      base = eqb-true c.vbt.0 b (and_right (eqb c.vmt.0 l) (eqb c.vbt.0 b) e);
    }

-- what is said of what was measured, clause by clause
pub measured_sound : (m : Measured) → measured_b m ≡ true → SoundMeasured m
unfolding measured_b
measured_sound m e =
    let t : Bool = ltb m.time end_of_time in
    let n : Bool = counters_b m.counters in
    let v : Bool = totals_b m.counters in
    let o : Bool = eqb m.month (month_of m.time) in
    let three : (t && n && v) ≡ true = and_left (t && n && v) o e in
    let two : (t && n) ≡ true = and_left (t && n) v three in
    record { in_time = and_left t n two; counted = and_right t n two; totalled = and_right (t && n) v three; in_month = and_right (t && n && v) o e }

pub core_sound : (c : Core) → core_b c ≡ true → SoundCore c
unfolding core_b stores_b
core_sound c e =
    let d : Bool = measured_b c.measured in
    let f : Bool = settings_fit_b c.settings in
    let o : Bool = ordered_b c.settings in
    let l : Bool = latched_b c.measured.alarms c.latches in
    let u : Bool = outputs_b (rule_at c.settings) c.outputs in
    let x : Bool = ring_b archive_lines c.stores.archive in
    let y : Bool = book_b log_lines log_step c.stores.log in
    let z : Bool = book_b audit_lines audit_step c.stores.audit in
    let e5 : (d && f && o && l && u) ≡ true = and_left (d && f && o && l && u) (x && y && z) e in
    let e4 : (d && f && o && l) ≡ true = and_left (d && f && o && l) u e5 in
    let e3 : (d && f && o) ≡ true = and_left (d && f && o) l e4 in
    let e2 : (d && f) ≡ true = and_left (d && f) o e3 in
    let s3 : (x && y && z) ≡ true = and_right (d && f && o && l && u) (x && y && z) e in
    let s2 : (x && y) ≡ true = and_left (x && y) z s3 in
    record {
      measured = and_left d f e2;
      fit = and_right d f e2;
      ordered = and_right (d && f) o e3;
      latched = and_right (d && f && o) l e4;
      outputs = and_right (d && f && o && l) u e5;
      archive_held = and_left x y s2;
      log_held = and_right x y s2;
      audit_held = and_right (x && y) z s3;
    }

pub sound_core : (c : Core) → SoundCore c → core_b c ≡ true
unfolding core_b stores_b
sound_core c p =
    rw (p.measured, p.fit, p.ordered, p.latched, p.outputs, p.archive_held, p.log_held, p.audit_held)

-- ---- the state

pub record Sound (s : State) : Type 0 where
  pub core : SoundCore s.core
  pub keypad : session_b s.keypad ≡ true
  pub port : session_b s.port ≡ true

pub whole_sound : (s : State) → whole_b s ≡ true → Sound s
unfolding whole_b
whole_sound s e =
    let c : Bool = core_b s.core in
    let k : Bool = session_b s.keypad in
    let p : Bool = session_b s.port in
    let two : (c && k) ≡ true = and_left (c && k) p e in
    record { core = core_sound s.core (and_left c k two); keypad = and_right c k two; port = and_right (c && k) p e }

pub sound_whole : (s : State) → Sound s → whole_b s ≡ true
unfolding whole_b
sound_whole s p = rw (sound_core s.core p.core, p.keypad, p.port)

-- ---- a fresh state

pub no_session_lem : session_b no_session ≡ true
unfolding session_b no_session cells_b cell_b all_below
no_session_lem = refl

fresh_core_lem : (time : ℕ) (locks : Locks) → time < end_of_time → SoundCore (fresh_core time locks)
unfolding fresh_core measured_b counters_b totals_b plus_litres litres_shown plus_base base_shown nothing_counted latched_b no_alarm
fresh_core_lem time locks h = record {
  measured = rw (lt-ltb time end_of_time h, eq-eqb (month_of time) (month_of time) refl);
  fit = factory_fits;
  ordered = factory_ordered;
  latched = refl;
  outputs = outputs-fresh;
  archive_held = ring_passes archive_lines (ring_after archive_lines 0) (omega arith) (record { lines = 0; gives = refl });
  log_held = book_passes log_common (book_after log_lines 0) (record { lines = 0; gives = refl });
  audit_held = book_passes audit_common (book_after audit_lines 0) (record { lines = 0; gives = refl });
}

pub fresh_whole : (time supcode custcode : ℕ) → time < end_of_time → whole_b (fresh time supcode custcode) ≡ true
unfolding fresh
fresh_whole time supcode custcode h =
    sound_whole (fresh time supcode custcode) (record { core = fresh_core_lem time (shut_locks supcode custcode) h; keypad = no_session_lem; port = no_session_lem })
