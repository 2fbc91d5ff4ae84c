-- The sums: after any run from a start, each counter shows, under its rollover, the sum of what the accepted cycles put on it. By the length
-- of the run; a step that is no cycle leaves the counters.
-- Assumes nothing.
use mathlib.Core.Path.{◌≡◌, refl, sym, ap, ◌∙◌}
use mathlib.Core.Bool.{Bool, true, false, cond, true≢false}
use mathlib.Core.List.{List}
use Rattle.std.proofs.Common.{Some}
use Prim.Native.Nat.{ℕ, ◌+◌, ◌%◌}
use native.Mathlib.Nat.{add-zero, mod-add-mod}
use mathlib.Core.Logic.{◌⊎◌, inl, inr}
use lib.Dec.{ltb, eqb}
use borrow.Author.Tests.{eqb-true}
use Rattle.order.specs.Order.{run}
use Rattle.units.specs.Units.{litres_rollover, base_rollover, litres_of, base_of, litres_shown, base_shown, plus_litres, plus_base, converted_of, amounts_of}
use Rattle.settings.specs.declared.Setting.{Setting}
use Rattle.state.specs.declared.Counters.{Counters}
use Rattle.state.specs.State.{nothing_counted, fresh, fresh_core}
use Rattle.state.specs.Card.{first_of}
use Rattle.commands.specs.declared.Brought.{Brought}
use Rattle.cycle.specs.Cycle.{amounts_for, is_too_large, counted, any_alarm, alarms_for, cycled_core, cycled}
use Rattle.panel.specs.Panel.{turned_core, turned, cleared, ticked, start_of, start_refusal}
use Rattle.doors.specs.Doors.{placed, with_session, read_after, write_after, committed_core, committed}
use Rattle.books.specs.declared.ArchiveLine.{ArchiveLine}
use Rattle.books.specs.declared.LogLine.{LogLine}
use Rattle.books.specs.declared.AuditLine.{AuditLine}
use Rattle.runs.specs.Run.{Step, Cycle, Turn, Clear, Tick, Ask, Call, Commit, on_cycle, World, number_of, step, corrector, started, Body, body_of}
use Rattle.runs.specs.History.{History, history}
use Rattle.runs.specs.InForce.{settings_in}
use Rattle.runs.specs.Sums.{Counter, Vm, VmD, VmT, Vb, VbD, VbT, litres_by, base_by, put_by, amount_of, put_in, sum_in, shown_by, shows, rollover}
use Rattle.runs.specs.Rows.{rows_of}
use Rattle.runs.proofs.Effects.{after, number_is, world_is, leaves}
use Rattle.runs.proofs.Exactly.{silent}
use Rattle.runs.proofs.InForce.{KeptByStep, all_forced, from_start}

abbrev counters_in : Body → Counters
counters_in b = b.core.measured.counters

-- ---- the amounts of an accepted cycle

amounts_by : (a : List Setting) (r : Brought) (less : Bool) → ltb (base_by a r) base_rollover ≡ less
    → is_too_large (amounts_for a r) ≡ false → amounts_for a r ≡ Some (record { litres = litres_of (litres_by a r); base = base_of (base_by a r) })
unfolding amounts_for amounts_of converted_of is_too_large litres_by base_by
amounts_by a r true e h = rw e
amounts_by a r false e h = absurd (true≢false (rw e at h))

pub amounts_are : (a : List Setting) (r : Brought) → is_too_large (amounts_for a r) ≡ false → amounts_for a r ≡ Some (record { litres = litres_of (litres_by a r); base = base_of (base_by a r) })
amounts_are a r h = amounts_by a r (ltb (base_by a r) base_rollover) refl h

-- ---- one cycle

-- a counter that shows the sum s, and then a
more : (m s v a : ℕ) → v ≡ s % m → (v + a) % m ≡ (s + a) % m
more m s v a e = rw e (mod-add-mod s m a)

same : (m s v : ℕ) → v ≡ s % m → v ≡ (s + 0) % m
same m s v e = rw add-zero e

counted_by_lem : (c : Counter) (k : Counters) (s l b : ℕ) (disturbed : Bool) → shown_by c k ≡ s % rollover c
    → shown_by c (counted k disturbed (Some (record { litres = litres_of l; base = base_of b }))) ≡ (s + put_by c disturbed l b) % rollover c
unfolding counted plus_litres litres_shown plus_base base_shown
counted_by_lem Vm k s l b false e = more litres_rollover s k.vm.0 l e
counted_by_lem Vm k s l b true e = same litres_rollover s k.vm.0 e
counted_by_lem VmD k s l b false e = same litres_rollover s k.vmd.0 e
counted_by_lem VmD k s l b true e = more litres_rollover s k.vmd.0 l e
counted_by_lem VmT k s l b false e = more litres_rollover s k.vmt.0 l e
counted_by_lem VmT k s l b true e = more litres_rollover s k.vmt.0 l e
counted_by_lem Vb k s l b false e = more base_rollover s k.vb.0 b e
counted_by_lem Vb k s l b true e = same base_rollover s k.vb.0 e
counted_by_lem VbD k s l b false e = same base_rollover s k.vbd.0 e
counted_by_lem VbD k s l b true e = more base_rollover s k.vbd.0 b e
counted_by_lem VbT k s l b false e = more base_rollover s k.vbt.0 b e
counted_by_lem VbT k s l b true e = more base_rollover s k.vbt.0 b e

cycle_adds_by : (c : Counter) (r : Brought) (w : World) (s : ℕ) → shows c w ≡ s % rollover c → (t : Bool) → first_of (rows_of (Cycle r) w) ≡ 0 ⊎ (t ≡ false)
    → shows c (cond t (after (Cycle r) w) w) ≡ (s + cond t (amount_of c w.state.core.settings r) 0) % rollover c
unfolding cycled cycled_core
cycle_adds_by c r w s e true (inl z) =
    let a : List Setting = w.state.core.settings in
    rw (amounts_are a r (silent (rows_of (Cycle r) w) refl z 14))
    (counted_by_lem c w.state.core.measured.counters s (litres_by a r) (base_by a r) (any_alarm (alarms_for a r)) e)
cycle_adds_by c r w s e true (inr z) = absurd (true≢false z)
cycle_adds_by c r w s e false z = same (rollover c) s (shows c w) e

which : (n : ℕ) (t : Bool) → eqb n 0 ≡ t → (n ≡ 0) ⊎ (t ≡ false)
which n true e = inl (eqb-true n 0 e)
which n false e = inr refl

-- ---- one step

-- a step that is no cycle leaves the counters
kept : (c : Counter) (x : Step) (w : World) (s : ℕ) → shows c w ≡ s % rollover c → counters_in (body_of (after x w)) ≡ counters_in (body_of w)
    → shows c (step x w).0 ≡ (s + 0) % rollover c
kept c x w s e h = ap (shown_by c) (leaves counters_in x w h) ∙ same (rollover c) s (shows c w) e

-- what a step puts on a counter, by the settings in force in the world: an accepted cycle its amount, and anything else nothing
abbrev puts_on : Counter → Step → World → ℕ
puts_on c x w = on_cycle (λ r. cond (eqb (number_of (step x w).1) 0) (amount_of c w.state.core.settings r) 0) 0 x

step_adds : (c : Counter) (x : Step) (w : World) (s : ℕ) → shows c w ≡ s % rollover c → shows c (step x w).0 ≡ (s + puts_on c x w) % rollover c
unfolding turned turned_core cleared ticked with_session placed read_after write_after committed committed_core
step_adds c (Cycle r) w s e =
    let k = first_of (rows_of (Cycle r) w) in
    ap (shows c) (world_is (Cycle r) w)
    ∙ cycle_adds_by c r w s e (eqb k 0) (which k (eqb k 0) refl)
    ∙ ap (λ (j : ℕ). (s + cond (eqb j 0) (amount_of c w.state.core.settings r) 0) % rollover c) (sym (number_is (Cycle r) w))
step_adds c (Turn turn) w s e = kept c (Turn turn) w s e refl
step_adds c Clear w s e = kept c Clear w s e refl
step_adds c (Tick named) w s e = kept c (Tick named) w s e refl
step_adds c (Ask question) w s e = kept c (Ask question) w s e refl
step_adds c (Call door act) w s e = kept c (Call door act) w s e refl
step_adds c (Commit door) w s e = kept c (Commit door) w s e refl

-- ---- a run from a start

-- the settings in the world are those of the history, and so is what a step puts on a counter
puts_told : (c : Counter) (x : Step) (w : World) (past : History) → w.state.core.settings ≡ settings_in past → puts_on c x w ≡ put_in c (x, (step x w).1) past
puts_told c x w past e = ap (λ (a : List Setting). on_cycle (λ r. cond (eqb (number_of (step x w).1) 0) (amount_of c a r) 0) 0 x) e

pub sums_kept : (c : Counter) → KeptByStep (λ w past. shows c w ≡ sum_in c past % rollover c)
sums_kept c x w past h e = step_adds c x w (sum_in c past) e ∙ ap (λ (k : ℕ). (sum_in c past + k) % rollover c) (puts_told c x w past (all_forced w past h.force))

nothing_shows : (c : Counter) → shown_by c nothing_counted ≡ 0 % rollover c
unfolding nothing_counted
nothing_shows Vm = refl
nothing_shows VmD = refl
nothing_shows VmT = refl
nothing_shows Vb = refl
nothing_shows VbD = refl
nothing_shows VbT = refl

-- a refused start has counted nothing either
fresh_shows : (c : Counter) (t : Bool) (time supcode custcode : ℕ) → shown_by c (cond t (fresh time supcode custcode) (fresh 0 0 0)).core.measured.counters ≡ 0 % rollover c
unfolding fresh fresh_core
fresh_shows c true time supcode custcode = nothing_shows c
fresh_shows c false time supcode custcode = nothing_shows c

module _ (c : Counter) (xs : List Step) (time supcode custcode : ℕ) (archive : List ArchiveLine) (log : List LogLine) (audit : List AuditLine) where
  abbrev start : World
  start = started time supcode custcode archive log audit

  pub start_shows : shows c start ≡ 0 % rollover c
  unfolding start_of
  start_shows = fresh_shows c (eqb (start_refusal time) 0) time supcode custcode

  -- THE SUMS
  pub sums : shows c (run corrector xs start).1 ≡ sum_in c (history xs start) % rollover c
  sums = from_start time supcode custcode archive log audit (λ w past. shows c w ≡ sum_in c past % rollover c) (sums_kept c) start_shows xs
