-- Laws of one measuring cycle, over the definitions: each present alarm is latched; the main counters stand still in a cycle with an alarm;
-- counters in range stay in range; the totals stay main plus disturbed; no amount of a whole device is ever too large; what the archive and the logbook hold afterwards.
-- Assumes nothing.
use mathlib.Core.Path.{◌≡◌, refl, sym, ap, ◌∙◌}
use mathlib.Core.Logic.{◌≢◌}
use Rattle.std.proofs.Common.{Option, Some, None}
use mathlib.Core.Bool.{Bool, true, false, not, cond, ◌&&◌, ◌||◌}
use mathlib.Core.List.{List, ◌++◌, reverse}
use Prim.Native.Nat.{ℕ, ◌*◌, ◌≤◌}
use native.Mathlib.Omega.{arith}
use lib.Dec.{T, ltb, leb, eqb}
use lib.ListN.{length, take}
use borrow.Author.Tests.{eq-eqb, ltb-false}
use Rattle.ground.proofs.Flags.{and_left, and_right, and_both}
use Rattle.units.specs.declared.Amounts.{Amounts}
use Rattle.units.specs.Units.{litres_rollover, base_rollover, litres_of, base_of, litres_shown, base_shown, plus_litres, plus_base, most_pulses, pulse_litres}
use Rattle.units.proofs.Sums.{litres_in_range, base_in_range, total_main, total_disturbed}
use Rattle.units.proofs.Counted.{never_more}
use Rattle.settings.specs.declared.Setting.{Setting}
use Rattle.settings.specs.Settings.{cp}
use Rattle.settings.proofs.Laws.{cp_in}
use Rattle.factor.proofs.Laws.{most_factor, factor_most}
use Rattle.outputs.specs.declared.Output.{Output}
use Rattle.outputs.specs.Four.{rule_at, outputs_b, none_gained}
use Rattle.outputs.proofs.All.{gains_keep}
use Rattle.calendar.specs.Calendar.{end_of_time, month_of}
use Rattle.ring.specs.Ring.{archive_lines, log_lines, ring_after, FromFresh, advanced_ring, advanced_book}
use Rattle.ring.specs.Store.{written, held_lines}
use Rattle.ring.proofs.Whole.{ring_from, book_from, log_common}
use Rattle.ring.proofs.Fresh.{book_ring}
use Rattle.ring.proofs.Stores.{whole_written}
use Rattle.books.specs.declared.ArchiveLine.{ArchiveLine}
use Rattle.books.specs.declared.LogLine.{LogLine}
use Rattle.books.specs.Books.{no_archive, no_log}
use Rattle.notes.specs.Notes.{numbered, log_line, logged}
use Rattle.notes.proofs.Laws.{numbered_length}
use Rattle.state.specs.declared.Counters.{Counters}
use Rattle.state.specs.declared.Alarms.{Alarms}
use Rattle.state.specs.declared.Core.{Core}
use Rattle.state.specs.declared.State.{State}
use Rattle.state.specs.State.{counters_b, totals_b, latched_b, whole_b}
use Rattle.state.proofs.Card.{not_false}
use Rattle.state.proofs.Sound.{totals_sound, whole_sound}
use Rattle.commands.specs.declared.Brought.{Brought}
use Rattle.cycle.specs.Cycle.{natural_at, alarms_for, factor_for, amounts_for, is_too_large, any_alarm, counted, outputs_gained, gained_for, latches_after, changes, month_lines, cycle_refusal, cycled_core, cycled}
use Rattle.cycle.proofs.Exact.{asked_in_ranges}

-- ---- alarms and latches

-- of one alarm
latch_flag : (found latch : Bool) → (not found || (found || latch)) ≡ true
latch_flag true latch = refl
latch_flag false latch = refl

pub latches_hold : (latch found : Alarms) → latched_b found (latches_after latch found) ≡ true
unfolding latched_b latches_after
latches_hold latch found = rw (latch_flag found.p latch.p, latch_flag found.t latch.t, latch_flag found.k latch.k)

-- each present alarm is latched
pub present_latched : (c : Core) (r : Brought) → latched_b (cycled_core c r).measured.alarms (cycled_core c r).latches ≡ true
unfolding cycled_core
present_latched c r = latches_hold c.latches (alarms_for c.settings r)

-- ---- counters

-- the whole of both amounts to one side: the other side stands still
main_stands : (c : Counters) (amounts : Option Amounts) → ((counted c true amounts).vm ≡ c.vm) × ((counted c true amounts).vb ≡ c.vb)
unfolding counted
main_stands c None = (refl, refl)
main_stands c (Some x) = (refl, refl)

disturbed_stands : (c : Counters) (amounts : Option Amounts) → ((counted c false amounts).vmd ≡ c.vmd) × ((counted c false amounts).vbd ≡ c.vbd)
unfolding counted
disturbed_stands c None = (refl, refl)
disturbed_stands c (Some x) = (refl, refl)

module _ (c : Core) (r : Brought) where
  -- in a cycle with an alarm the main counters stand still, and in one without the disturbed ones do
  pub main_still : any_alarm (alarms_for c.settings r) ≡ true →
      ((cycled_core c r).measured.counters.vm ≡ c.measured.counters.vm) × ((cycled_core c r).measured.counters.vb ≡ c.measured.counters.vb)
  unfolding cycled_core
  main_still h = rw h (main_stands c.measured.counters (amounts_for c.settings r))

  pub disturbed_still : any_alarm (alarms_for c.settings r) ≡ false →
      ((cycled_core c r).measured.counters.vmd ≡ c.measured.counters.vmd) × ((cycled_core c r).measured.counters.vbd ≡ c.measured.counters.vbd)
  unfolding cycled_core
  disturbed_still h = rw h (disturbed_stands c.measured.counters (amounts_for c.settings r))

record InRange (c : Counters) : Type 0 where
  vm : ltb c.vm.0 litres_rollover ≡ true
  vmd : ltb c.vmd.0 litres_rollover ≡ true
  vb : ltb c.vb.0 base_rollover ≡ true
  vbd : ltb c.vbd.0 base_rollover ≡ true

in_range_lem : (c : Counters) → counters_b c ≡ true → InRange c
unfolding counters_b
in_range_lem c e =
    let one : Bool = ltb c.vm.0 litres_rollover in
    let two : Bool = ltb c.vmd.0 litres_rollover in
    let three : Bool = ltb c.vb.0 base_rollover in
    let four : Bool = ltb c.vbd.0 base_rollover in
    let e3 : (one && two && three) ≡ true = and_left (one && two && three) four e in
    let e2 : (one && two) ≡ true = and_left (one && two) three e3 in
    record { vm = and_left one two e2; vmd = and_right one two e2; vb = and_right (one && two) three e3; vbd = and_right (one && two && three) four e }

-- counters in range stay in range
pub counters_stay : (c : Counters) (disturbed : Bool) (amounts : Option Amounts) → counters_b c ≡ true → counters_b (counted c disturbed amounts) ≡ true
unfolding counted counters_b
counters_stay c disturbed None e = e
counters_stay c false (Some x) e =
    let h = in_range_lem c e in
    rw (litres_in_range c.vm x.litres, h.vmd, base_in_range c.vb x.base, h.vbd)
counters_stay c true (Some x) e =
    let h = in_range_lem c e in
    rw (h.vm, litres_in_range c.vmd x.litres, h.vb, base_in_range c.vbd x.base)

-- totals that are main plus disturbed stay so
pub totals_stay : (c : Counters) (disturbed : Bool) (amounts : Option Amounts) → totals_b c ≡ true → totals_b (counted c disturbed amounts) ≡ true
unfolding counted totals_b plus_litres litres_shown plus_base base_shown
totals_stay c disturbed None e = e
totals_stay c false (Some x) e =
    let h = totals_sound c e in
    and_both
    (eq-eqb _ _ (total_main litres_rollover c.vm.0 c.vmd.0 c.vmt.0 x.litres.0 h.litres))
    (eq-eqb _ _ (total_main base_rollover c.vb.0 c.vbd.0 c.vbt.0 x.base.0 h.base))
totals_stay c true (Some x) e =
    let h = totals_sound c e in
    and_both
    (eq-eqb _ _ (total_disturbed litres_rollover c.vm.0 c.vmd.0 c.vmt.0 x.litres.0 h.litres))
    (eq-eqb _ _ (total_disturbed base_rollover c.vb.0 c.vbd.0 c.vbt.0 x.base.0 h.base))

-- outputs that are whole stay whole
pub gained_whole : (a : List Setting) (disturbed : Bool) (amounts : Option Amounts) (o : List Output) → outputs_b (rule_at a) o ≡ true → outputs_b (rule_at a) (outputs_gained (rule_at a) disturbed amounts o).outputs ≡ true
unfolding outputs_gained none_gained
gained_whole a disturbed None o e = e
gained_whole a disturbed (Some x) o e = gains_keep (rule_at a) (record { disturbed = disturbed; litres = x.litres; base = x.base }) o e

-- ---- the amounts of a whole device

pub factor_at_most : (s : State) (r : Brought) → whole_b s ≡ true → factor_for s.core.settings r ≤ most_factor
unfolding factor_for
factor_at_most s r w = factor_most _ _ _ _ _ (asked_in_ranges s w r)

module _ (s : State) (r : Brought) (w : whole_b s ≡ true) (few : r.n ≤ most_pulses) where
  -- n times the pulse value, and that times the factor
  pub amounts_counted : amounts_for s.core.settings r
      ≡ Some (record {
        litres = litres_of (r.n * pulse_litres (natural_at s.core.settings cp));
        base = base_of (r.n * pulse_litres (natural_at s.core.settings cp) * factor_for s.core.settings r);
      })
  unfolding amounts_for
  amounts_counted =
      let a : List Setting = s.core.settings in
      never_more r.n (natural_at a cp) (factor_for a r) few (cp_in a (whole_sound s w).core.fit).upto (omega (arith, factor_at_most s r w))

  pub never_too_large : is_too_large (amounts_for s.core.settings r) ≡ false
  unfolding is_too_large
  never_too_large = rw amounts_counted

  -- so a cycle counts them, to the main counters or to the disturbed ones, and to the totals
  pub counts_main : any_alarm (alarms_for s.core.settings r) ≡ false → (cycled_core s.core r).measured.counters
      ≡ record {
        vm = plus_litres s.core.measured.counters.vm (litres_of (r.n * pulse_litres (natural_at s.core.settings cp)));
        vmd = s.core.measured.counters.vmd;
        vmt = plus_litres s.core.measured.counters.vmt (litres_of (r.n * pulse_litres (natural_at s.core.settings cp)));
        vb = plus_base s.core.measured.counters.vb (base_of (r.n * pulse_litres (natural_at s.core.settings cp) * factor_for s.core.settings r));
        vbd = s.core.measured.counters.vbd;
        vbt = plus_base s.core.measured.counters.vbt (base_of (r.n * pulse_litres (natural_at s.core.settings cp) * factor_for s.core.settings r));
      }
  unfolding cycled_core counted
  counts_main h = rw (h, amounts_counted)

  pub counts_disturbed : any_alarm (alarms_for s.core.settings r) ≡ true → (cycled_core s.core r).measured.counters
      ≡ record {
        vm = s.core.measured.counters.vm;
        vmd = plus_litres s.core.measured.counters.vmd (litres_of (r.n * pulse_litres (natural_at s.core.settings cp)));
        vmt = plus_litres s.core.measured.counters.vmt (litres_of (r.n * pulse_litres (natural_at s.core.settings cp)));
        vb = s.core.measured.counters.vb;
        vbd = plus_base s.core.measured.counters.vbd (base_of (r.n * pulse_litres (natural_at s.core.settings cp) * factor_for s.core.settings r));
        vbt = plus_base s.core.measured.counters.vbt (base_of (r.n * pulse_litres (natural_at s.core.settings cp) * factor_for s.core.settings r));
      }
  unfolding cycled_core counted
  counts_disturbed h = rw (h, amounts_counted)

-- the answer is k, so a row with another number does not apply
record Past (k : ℕ) (b : Bool) (rest : ℕ) : Type 0 where
  here : b ≡ false
  later : rest ≡ k

past : (k n : ℕ) (b : Bool) (rest : ℕ) → T (not (eqb n k)) → cond b n rest ≡ k → Past k b rest
past k n true rest p e = absurd (rw (eq-eqb n k e) at p)
past k n false rest p e = record { here = refl; later = e }

-- refusal 14 is never given: 600 pulses of the largest value times the largest factor are below 10^17
pub never_fourteen : (s : State) (archiveLength logLength : ℕ) (r : Brought) → cycle_refusal (whole_b s) s archiveLength logLength r ≢ 14
unfolding cycle_refusal
never_fourteen s archiveLength logLength r e =
    let one = past 14 1 (not (whole_b s && (eqb archiveLength archive_lines && eqb logLength log_lines))) _ tt e in
    let five = past 14 5 (ltb r.time s.core.measured.time) _ tt one.later in
    let six = past 14 6 (leb end_of_time r.time) _ tt five.later in
    let seven = past 14 7 (ltb most_pulses r.n) _ tt six.later in
    let w : whole_b s ≡ true = and_left (whole_b s) (eqb archiveLength archive_lines && eqb logLength log_lines) (not_false _ one.here) in
    let last : ◌≡◌ {A = ℕ} (cond (is_too_large (amounts_for s.core.settings r)) 14 0) 14 = seven.later in
    let none : ◌≡◌ {A = ℕ} 0 14 = rw (never_too_large s r w (ltb-false most_pulses r.n seven.here)) at last in
    omega arith

-- ---- the stores

-- the lines held after a cycle, newest first: one for every month crossed, and those that were held, as far as the archive goes
pub archive_after : (s : State) (r : Brought) (archive : List ArchiveLine) (log : List LogLine) → whole_b s ≡ true → length archive ≡ archive_lines →
    held_lines archive_lines no_archive (cycled_core s.core r).stores.archive (cycled s r archive log).archive
    ≡ take archive_lines (reverse (month_lines s.core.measured.counters s.core.measured.month (month_of r.time)) ++ held_lines archive_lines no_archive s.core.stores.archive archive)
unfolding cycled cycled_core
archive_after s r archive log w e =
    whole_written archive_lines no_archive s.core.stores.archive archive (month_lines s.core.measured.counters s.core.measured.month (month_of r.time)) (omega arith) e
    (ring_from archive_lines s.core.stores.archive (whole_sound s w).core.archive_held)

-- and of the logbook: the alarms that came or went and the outputs that lost pulses, at the cycle's own time
pub log_after : (s : State) (r : Brought) (archive : List ArchiveLine) (log : List LogLine) → whole_b s ≡ true → length log ≡ log_lines →
    held_lines log_lines no_log (cycled_core s.core r).stores.log.ring (cycled s r archive log).log
    ≡ take log_lines (reverse (logged s.core.stores.log r.time (changes s.core.measured.alarms (alarms_for s.core.settings r) (gained_for s.core.settings r s.core.outputs).over)) ++ held_lines log_lines no_log s.core.stores.log.ring log)
unfolding cycled cycled_core advanced_book logged
log_after s r archive log w e =
    let codes : List ℕ = changes s.core.measured.alarms (alarms_for s.core.settings r) (gained_for s.core.settings r s.core.outputs).over in
    let lines : List LogLine = numbered (log_line r.time) s.core.stores.log.number codes in
    let held : FromFresh (ring_after log_lines) s.core.stores.log.ring = book_ring log_lines s.core.stores.log (book_from log_common s.core.stores.log (whole_sound s w).core.log_held) in
    ap (λ (n : ℕ). held_lines log_lines no_log (advanced_ring log_lines n s.core.stores.log.ring) (written log_lines s.core.stores.log.ring log lines))
    (sym (numbered_length (log_line r.time) s.core.stores.log.number codes))
    ∙ whole_written log_lines no_log s.core.stores.log.ring log lines (omega arith) e held
