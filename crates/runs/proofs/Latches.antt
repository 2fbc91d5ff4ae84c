-- Alarms and latches over a run: an alarm is present as the last accepted cycle found it, and its latch shows exactly where an accepted cycle
-- found it present and no accepted Clear after that found it not present. By the length of the run.
-- Assumes nothing.
use mathlib.Core.Path.{◌≡◌, refl, ap, ◌∙◌}
use mathlib.Core.Bool.{Bool, true, false, not, cond, ◌&&◌, ◌||◌, or-true}
use mathlib.Core.List.{List, [], ◌∷◌}
use Prim.Native.Nat.{ℕ}
use lib.Dec.{eqb}
use Rattle.order.specs.Order.{run}
use Rattle.books.specs.declared.ArchiveLine.{ArchiveLine}
use Rattle.books.specs.declared.LogLine.{LogLine}
use Rattle.books.specs.declared.AuditLine.{AuditLine}
use Rattle.state.specs.declared.Alarms.{Alarms}
use Rattle.state.specs.declared.Measured.{Measured}
use Rattle.state.specs.State.{no_alarm, fresh, fresh_core}
use Rattle.state.specs.Card.{first_of}
use Rattle.cycle.specs.Cycle.{alarms_for, latches_after, cycled_core, cycled}
use Rattle.panel.specs.Panel.{turned_core, turned, cleared_latches, cleared, ticked, start_of, start_refusal}
use Rattle.doors.specs.Doors.{placed, with_session, read_after, write_after, committed_core, committed}
use Rattle.runs.specs.Run.{Step, Cycle, Turn, Clear, Tick, Ask, Call, Commit, on_cycle, World, step, corrector, started, Body, body_of}
use Rattle.runs.specs.History.{History, history}
use Rattle.runs.specs.InForce.{settings_in}
use Rattle.runs.specs.Rows.{rows_of, refused_by}
use Rattle.runs.specs.Latches.{Alarm, p, t, k, flag_of, latch, found_in, latch_after, latch_in, accepted, finds_present, clears_absent, cleared_in}
use Rattle.runs.proofs.Effects.{after, part_by, number_is, world_is, refused_body}
use Rattle.runs.proofs.InForce.{KeptByStep, all_forced, from_start}

-- ---- present

abbrev alarms_in : Body → Alarms
alarms_in b = b.core.measured.alarms

-- what an accepted step finds, by the settings in force in the world; f was found before it
abbrev found_by : Step → World → Alarms → Alarms
found_by x w f = on_cycle (λ r. alarms_for w.state.core.settings r) f x

accepted_found : (x : Step) (w : World) → alarms_in (body_of (after x w)) ≡ found_by x w w.state.core.measured.alarms
unfolding cycled_core
accepted_found x w = part_by (λ (m : Measured). m.alarms) x w

found_by_lem : (x : Step) (w : World) (n : ℕ) (b : Bool) → alarms_in (body_of (cond b (after x w) (refused_by x w n))) ≡ cond b (found_by x w w.state.core.measured.alarms) w.state.core.measured.alarms
found_by_lem x w n true = accepted_found x w
found_by_lem x w n false = ap alarms_in (refused_body x w n)

step_found : (x : Step) (w : World) → (step x w).0.state.core.measured.alarms ≡ cond (accepted x w) (found_by x w w.state.core.measured.alarms) w.state.core.measured.alarms
step_found x w = let n = first_of (rows_of x w) in rw (number_is x w, world_is x w) (found_by_lem x w n (eqb n 0))

-- the settings in the world are those of the history, and so is what a step finds
found_told : (x : Step) (w : World) (past : History) (d : Bool) → w.state.core.settings ≡ settings_in past → w.state.core.measured.alarms ≡ found_in past
    → cond d (found_by x w w.state.core.measured.alarms) w.state.core.measured.alarms ≡ cond d (on_cycle (λ r. alarms_for (settings_in past) r) (found_in past) x) (found_in past)
found_told x w past d e f = rw (e, f)

pub found_kept : KeptByStep (λ w past. w.state.core.measured.alarms ≡ found_in past)
found_kept x w past h f = step_found x w ∙ found_told x w past (accepted x w) (all_forced w past h.force) f

-- ---- latched

abbrev latch_of : Alarm → Body → Bool
latch_of a b = flag_of a b.core.latches

turned_round : (l f : Bool) → (f || l) ≡ (l && true || f)
turned_round true true = refl
turned_round true false = refl
turned_round false true = refl
turned_round false false = refl

kept : (l : Bool) → l ≡ (l && true || false)
kept true = refl
kept false = refl

dropped : (l q : Bool) → (l && q) ≡ (l && not (not q) || false)
dropped true true = refl
dropped true false = refl
dropped false q = refl

-- a cycle's latches, and a Clear's
cycle_latch : (a : Alarm) (l f : Alarms) → flag_of a (latches_after l f) ≡ (flag_of a l && true || flag_of a f)
unfolding latches_after
cycle_latch p l f = turned_round l.p f.p
cycle_latch t l f = turned_round l.t f.t
cycle_latch k l f = turned_round l.k f.k

clear_latch : (a : Alarm) (l f : Alarms) → flag_of a (cleared_latches l f) ≡ (flag_of a l && not (not (flag_of a f)) || false)
unfolding cleared_latches
clear_latch p l f = dropped l.p f.p
clear_latch t l f = dropped l.t f.t
clear_latch k l f = dropped l.k f.k

accepted_latch : (a : Alarm) (x : Step) (w : World) → latch_of a (body_of (after x w)) ≡ (latch a w && not (clears_absent a x w) || finds_present a x w)
unfolding cycled cycled_core turned turned_core cleared ticked with_session placed read_after write_after committed committed_core
accepted_latch a (Cycle r) w = cycle_latch a w.state.core.latches (alarms_for w.state.core.settings r)
accepted_latch a (Turn turn) w = kept (latch a w)
accepted_latch a Clear w = clear_latch a w.state.core.latches w.state.core.measured.alarms
accepted_latch a (Tick named) w = kept (latch a w)
accepted_latch a (Ask question) w = kept (latch a w)
accepted_latch a (Call door act) w = kept (latch a w)
accepted_latch a (Commit door) w = kept (latch a w)

latch_by : (a : Alarm) (x : Step) (w : World) (n : ℕ) (b : Bool)
    → latch_of a (body_of (cond b (after x w) (refused_by x w n))) ≡ (latch a w && not (b && clears_absent a x w) || b && finds_present a x w)
latch_by a x w n true = accepted_latch a x w
latch_by a x w n false = ap (latch_of a) (refused_body x w n) ∙ kept (latch a w)

step_latch : (a : Alarm) (x : Step) (w : World)
    → latch a (step x w).0 ≡ (latch a w && not (accepted x w && clears_absent a x w) || accepted x w && finds_present a x w)
step_latch a x w = let n = first_of (rows_of x w) in rw (number_is x w, world_is x w) (latch_by a x w n (eqb n 0))

-- ---- a run

-- l: latched before; d and f: a step drops or sets it; c: a later Clear drops it; s: a later cycle sets it
joined : (l d f c s : Bool) → ((l && not d || f) && not c || s) ≡ (l && not (d || c) || (f && not c || s))
joined false d f c s = refl
joined true true f c s = refl
joined true false f false s = refl
joined true false true true s = refl
joined true false false true s = refl

-- a cycle of a run was accepted that found the alarm present, and no Clear after it that found it not present
abbrev latched_in : Alarm → List Step → World → Bool
latched_in a [] w = false
latched_in a (x ∷ xs) w = accepted x w && finds_present a x w && not (cleared_in a xs (step x w).0) || latched_in a xs (step x w).0

run_latch : (a : Alarm) (xs : List Step) (w : World) → latch a (run corrector xs w).1 ≡ (latch a w && not (cleared_in a xs w) || latched_in a xs w)
run_latch a [] w = kept (latch a w)
run_latch a (x ∷ xs) w =
    let v = (step x w).0 in
    run_latch a xs v
    ∙ rw (step_latch a x w)
    (joined (latch a w) (accepted x w && clears_absent a x w) (accepted x w && finds_present a x w) (cleared_in a xs v) (latched_in a xs v))

-- A LATCH STAYS UNTIL CLEARED: an accepted cycle found the alarm present, and no accepted Clear after it found it not present; from any world
pub latch_stays : (a : Alarm) (x : Step) (xs : List Step) (w : World) → (accepted x w && finds_present a x w) ≡ true → cleared_in a xs (step x w).0 ≡ false
    → latch a (run corrector (x ∷ xs) w).1 ≡ true
latch_stays a x xs w f c =
    let v = (step x w).0 in
    let l : latch a v ≡ true = step_latch a x w ∙ rw f (or-true (latch a w && not (accepted x w && clears_absent a x w))) in
    run_latch a xs v ∙ rw (l, c)

-- ---- a run from a start

-- a latch after a step, by what the history says
back_round : (l f : Bool) → (l && true || f) ≡ (f || l)
back_round true true = refl
back_round true false = refl
back_round false true = refl
back_round false false = refl

still : (l : Bool) → (l && true || false) ≡ l
still true = refl
still false = refl

only_present : (l q : Bool) → (l && not (not q) || false) ≡ (l && q)
only_present true true = refl
only_present true false = refl
only_present false q = refl

module _ (a : Alarm) (w : World) (past : History) (force : w.state.core.settings ≡ settings_in past) (found : w.state.core.measured.alarms ≡ found_in past) where
  latch_told : (x : Step) (l : Bool) → (l && not (clears_absent a x w) || finds_present a x w) ≡ latch_after a x past l
  latch_told (Cycle r) l = rw force (back_round l (flag_of a (alarms_for (settings_in past) r)))
  latch_told (Turn turn) l = still l
  latch_told Clear l = rw found (only_present l (flag_of a (found_in past)))
  latch_told (Tick named) l = still l
  latch_told (Ask question) l = still l
  latch_told (Call door act) l = still l
  latch_told (Commit door) l = still l

  latch_told_by : (x : Step) (l d : Bool) → (l && not (d && clears_absent a x w) || d && finds_present a x w) ≡ cond d (latch_after a x past l) l
  latch_told_by x l true = latch_told x l
  latch_told_by x l false = still l

record Shown (a : Alarm) (w : World) (past : History) : Type 0 where
  found : w.state.core.measured.alarms ≡ found_in past
  latched : latch a w ≡ latch_in a past

shown_kept : (a : Alarm) → KeptByStep (Shown a)
shown_kept a x w past h s = record {
  found = found_kept x w past h s.found;
  latched =
      step_latch a x w ∙ latch_told_by a w past (all_forced w past h.force) s.found x (latch a w) (accepted x w)
      ∙ ap (λ (l : Bool). cond (accepted x w) (latch_after a x past l) l) s.latched;
}

fresh_alarms : (b : Bool) (time supcode custcode : ℕ) → ((cond b (fresh time supcode custcode) (fresh 0 0 0)).core.measured.alarms ≡ no_alarm) × ((cond b (fresh time supcode custcode) (fresh 0 0 0)).core.latches ≡ no_alarm)
unfolding fresh fresh_core
fresh_alarms true time supcode custcode = (refl, refl)
fresh_alarms false time supcode custcode = (refl, refl)

unlatched : (a : Alarm) → flag_of a no_alarm ≡ false
unfolding no_alarm
unlatched p = refl
unlatched t = refl
unlatched k = refl

module _ (xs : List Step) (time supcode custcode : ℕ) (archive : List ArchiveLine) (log : List LogLine) (audit : List AuditLine) where
  abbrev start : World
  start = started time supcode custcode archive log audit

  pub no_alarms : (start.state.core.measured.alarms ≡ no_alarm) × (start.state.core.latches ≡ no_alarm)
  unfolding start_of
  no_alarms = fresh_alarms (eqb (start_refusal time) 0) time supcode custcode

  -- AN ALARM IS PRESENT AS THE LAST ACCEPTED CYCLE FOUND IT, and none before the first
  pub present_as_found : (run corrector xs start).1.state.core.measured.alarms ≡ found_in (history xs start)
  present_as_found =
      from_start time supcode custcode archive log audit (λ w past. w.state.core.measured.alarms ≡ found_in past) found_kept no_alarms.0 xs

  -- ITS LATCH SHOWS EXACTLY WHEN it was present in an accepted cycle, and no accepted Clear after that found it not present
  pub latch_exactly : (a : Alarm) → latch a (run corrector xs start).1 ≡ latch_in a (history xs start)
  latch_exactly a =
      (from_start time supcode custcode archive log audit (Shown a) (shown_kept a) (record { found = no_alarms.0; latched = rw (no_alarms.1, unlatched a) }) xs).latched
