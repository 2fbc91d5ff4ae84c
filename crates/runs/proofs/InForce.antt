-- The settings, exactly: after any run from a start each setting in force, and each value that a session has staged, is what the history says. By
-- the length of the run; a clause for each kind of step.
-- Assumes nothing.
use mathlib.Core.Path.{◌≡◌, refl, sym, ap, ◌∙◌}
use mathlib.Core.Bool.{Bool, true, false, cond}
use mathlib.Core.List.{List, [], ◌∷◌, reverse_aux}
use Prim.Native.Nat.{ℕ, ◌+◌, ◌-◌, ◌<◌}
use native.Mathlib.Omega.{arith}
use lib.Dec.{ltb, eqb}
use lib.ListN.{length, get_or}
use lib.Seq.{ext_get_or}
use borrow.Author.Tests.{eqb-true, ltb-false}
use Rattle.ground.proofs.Flags.{or_false_left, or_false_right}
use Rattle.order.specs.Order.{run, trace}
use Rattle.settings.specs.declared.Value.{Value}
use Rattle.settings.specs.declared.Setting.{Setting}
use Rattle.settings.specs.Settings.{setting_count, no_setting, value_at, factory_settings, rows}
use Rattle.ground.specs.Below.{listed}
use Rattle.ground.proofs.Listed.{length_listed, get_d_listed}
use Rattle.books.specs.declared.ArchiveLine.{ArchiveLine}
use Rattle.books.specs.declared.LogLine.{LogLine}
use Rattle.books.specs.declared.AuditLine.{AuditLine}
use Rattle.state.specs.declared.Cell.{Cell}
use Rattle.state.specs.declared.Session.{Session}
use Rattle.state.specs.State.{blank_cell, fresh, fresh_core}
use Rattle.state.specs.Card.{first_of}
use Rattle.state.proofs.Card.{not_false}
use Rattle.cycle.specs.Cycle.{cycled, cycled_core}
use Rattle.panel.specs.Panel.{turned, turned_core, cleared, ticked, start_of, start_refusal}
use Rattle.doors.specs.Doors.{no_door, no_such_setting, session_at, cell_at, placed, with_session, stands_at, as_stand, committed, committed_core}
use Rattle.staging.proofs.Force.{stand_length, stand_at}
use Rattle.runs.specs.Rows.{rows_of, refused_by}
use Rattle.runs.specs.Run.{Step, Cycle, Turn, Clear, Tick, Ask, Call, Commit, Begin, Read, Write, Abandon, World, Reply, number_of, step, corrector, started, Body}
use Rattle.runs.specs.History.{History, history}
use Rattle.runs.specs.Stale.{deed}
use Rattle.runs.specs.InForce.{last_written, forced_by, in_force, setting_of, settings_in}
use Rattle.runs.proofs.Exactly.{silent}
use Rattle.runs.proofs.Effects.{after, number_is, world_is, refused_body}
use Rattle.runs.proofs.Stale.{Known, Both, step_both, fresh_both, known_at, in_table}

-- ---- what the state keeps, and what the history says

abbrev force_in : Body → List Setting
force_in b = b.core.settings

pub record Forced (w : World) (past : History) : Type 0 where
  pub sized : length w.state.core.settings ≡ setting_count
  pub tells : (k : ℕ) → k < setting_count → value_at w.state.core.settings k ≡ in_force (k + 1) past

-- ---- a commit

stands_value : (x : Setting) (c : Cell) (t : Bool) → c.staged ≡ t → (stands_at x c).value ≡ cond t c.value x.value
unfolding stands_at
stands_value x c true e = rw e
stands_value x c false e = rw e

-- what a commit leaves in force is its session's last write, else what was in force
pub stood_at : (door : ℕ) (s : Session) (past : History) → Known door s past → s.live ≡ true → (a : List Setting) (k : ℕ) → length a ≡ setting_count → k < setting_count
    → value_at (as_stand a s.cells) k ≡ last_written door (k + 1) (value_at a k) past
unfolding cell_at
stood_at door s past h live a k z l =
    let c : Cell = get_or s.cells k blank_cell in
    let p : k + 1 - 1 ≡ k = omega arith in
    let inside : k < length a = rw z l in
    ap (λ (x : Setting). x.value) (stand_at a s.cells k inside)
    ∙ stands_value (get_or a k no_setting) c c.staged refl
    ∙ (rw p at ((h.tells live (k + 1) (in_table k l)).value (value_at a k)))

-- ---- a step

module _ (w : World) (past : History) (b : Both w past) (h : Forced w past) (a : Reply) (done : eqb (number_of a) 0 ≡ true) where
  -- a deed that is no commit
  kept : (x : Step) (v : World) → v.state.core.settings ≡ w.state.core.settings
      → ((k : ℕ) → forced_by (k + 1) (deed (x, a)) past (in_force (k + 1) past) ≡ in_force (k + 1) past) → Forced v ((x, a) ∷ past)
  kept x v e f = record {
    sized = rw e h.sized;
    tells = λ k l. ap (λ (s : List Setting). value_at s k) e ∙ h.tells k l ∙ sym (f k);
  }

  commit_forced : (door : ℕ) → no_door door ≡ false → (session_at w.state door).live ≡ true → Forced (after (Commit door) w) ((Commit door, a) ∷ past)
  unfolding committed committed_core placed
  commit_forced door e live = record {
    sized = stand_length w.state.core.settings (session_at w.state door).cells ∙ h.sized;
    tells = λ k l.
        rw done
        (stood_at door (session_at w.state door) past (known_at w past b door e) live w.state.core.settings k h.sized l
        ∙ ap (λ (v : Value). last_written door (k + 1) v past) (h.tells k l));
  }

  done_forced : (x : Step) → first_of (rows_of x w) ≡ 0 → Forced (after x w) ((x, a) ∷ past)
  unfolding cycled cycled_core turned turned_core cleared ticked with_session placed
  done_forced (Cycle r) z = kept (Cycle r) (after (Cycle r) w) refl (λ k. rw done)
  done_forced (Turn turn) z = kept (Turn turn) (after (Turn turn) w) refl (λ k. rw done)
  done_forced Clear z = kept Clear (after Clear w) refl (λ k. rw done)
  done_forced (Tick named) z = kept (Tick named) (after (Tick named) w) refl (λ k. rw done)
  done_forced (Ask question) z = kept (Ask question) w refl (λ k. rw done)
  done_forced (Call door Begin) z = kept (Call door Begin) (after (Call door Begin) w) refl (λ k. rw done)
  done_forced (Call door Abandon) z = kept (Call door Abandon) (after (Call door Abandon) w) refl (λ k. rw done)
  done_forced (Call door (Read j)) z = kept (Call door (Read j)) (after (Call door (Read j)) w) refl (λ k. rw done)
  done_forced (Call door (Write j v)) z = kept (Call door (Write j v)) (after (Call door (Write j v)) w) refl (λ k. rw done)
  done_forced (Commit door) z =
      commit_forced door (silent (rows_of (Commit door) w) refl z 3) (not_false (session_at w.state door).live (silent (rows_of (Commit door) w) refl z 4))

refused_forced : (x : Step) (w : World) (k : ℕ) (past : History) (a : Reply) → eqb (number_of a) 0 ≡ false → Forced w past → Forced (refused_by x w k) ((x, a) ∷ past)
refused_forced x w k past a n h =
    let e : (refused_by x w k).state.core.settings ≡ w.state.core.settings = ap force_in (refused_body x w k) in
    record { sized = rw e h.sized; tells = λ j l. rw n (ap (λ (s : List Setting). value_at s j) e ∙ h.tells j l) }

forced_by_lem : (x : Step) (w : World) (past : History) (a : Reply) (k : ℕ) → first_of (rows_of x w) ≡ k → number_of a ≡ k → (t : Bool) → eqb k 0 ≡ t → Both w past → Forced w past
    → Forced (cond t (after x w) (refused_by x w k)) ((x, a) ∷ past)
forced_by_lem x w past a k z e true q b h = done_forced w past b h a (rw e q) x (z ∙ eqb-true k 0 q)
forced_by_lem x w past a k z e false q b h = refused_forced x w k past a (rw e q) h

pub step_forced : (x : Step) (w : World) (past : History) → Both w past → Forced w past → Forced (step x w).0 ((x, (step x w).1) ∷ past)
step_forced x w past b h =
    let k = first_of (rows_of x w) in
    rw (world_is x w) (forced_by_lem x w past (step x w).1 k refl (number_is x w) (eqb k 0) refl b h)

-- ---- the settings in force as one list

-- a setting's place in the table
setting_place : (setting : ℕ) → no_such_setting setting ≡ false → (setting - 1 < setting_count) × (setting - 1 + 1 ≡ setting)
setting_place setting e =
    let p = ltb-false setting 1 (or_false_left (ltb setting 1) (ltb setting_count setting) e) in
    let q = ltb-false setting_count setting (or_false_right (ltb setting 1) (ltb setting_count setting) e) in
    (omega arith, omega arith)

pub all_forced : (w : World) (past : History) → Forced w past → w.state.core.settings ≡ settings_in past
unfolding settings_in
all_forced w past h =
    let f : ℕ → Setting = λ k. setting_of (in_force (k + 1) past) in
    ext_get_or no_setting w.state.core.settings (listed f setting_count) (h.sized ∙ sym (length_listed f setting_count))
    (λ k l. let i : k < setting_count = rw h.sized at l in ap setting_of (h.tells k i) ∙ sym (get_d_listed f setting_count k no_setting i))

-- ---- a run

-- the sessions and the settings are those of the history
pub record Agreed (w : World) (past : History) : Type 0 where
  pub sessions : Both w past
  pub force : Forced w past

step_agreed : (x : Step) (w : World) (past : History) → Agreed w past → Agreed (step x w).0 ((x, (step x w).1) ∷ past)
step_agreed x w past h = record { sessions = step_both x w past h.sessions; force = step_forced x w past h.sessions h.force }

-- a step keeps P, where the sessions and the settings are those of the history
abbrev pub KeptByStep : (World → History → Type 0) → Type 0
KeptByStep P = (x : Step) (w : World) (past : History) → Agreed w past → P w past → P (step x w).0 ((x, (step x w).1) ∷ past)

-- so a run keeps it
run_keeps : (P : World → History → Type 0) → KeptByStep P → (xs : List Step) (w : World) (past : History) → Agreed w past → P w past
    → Agreed (run corrector xs w).1 (reverse_aux (trace corrector xs w) past) × P (run corrector xs w).1 (reverse_aux (trace corrector xs w) past)
run_keeps P f [] w past h p = (h, p)
run_keeps P f (x ∷ xs) w past h p = run_keeps P f xs (step x w).0 ((x, (step x w).1) ∷ past) (step_agreed x w past h) (f x w past h p)

-- ---- a run from a start

factory_forced : (k : ℕ) → value_at factory_settings k ≡ value_at factory_settings (k + 1 - 1)
factory_forced k = let p : k + 1 - 1 ≡ k = omega arith in rw p

fresh_force : (t : Bool) (time supcode custcode : ℕ) → (cond t (fresh time supcode custcode) (fresh 0 0 0)).core.settings ≡ factory_settings
unfolding fresh fresh_core
fresh_force true time supcode custcode = refl
fresh_force false time supcode custcode = refl

factory_count : length factory_settings ≡ setting_count
unfolding factory_settings rows
factory_count = refl

module _ (time supcode custcode : ℕ) (archive : List ArchiveLine) (log : List LogLine) (audit : List AuditLine) where
  abbrev start : World
  start = started time supcode custcode archive log audit

  start_force : start.state.core.settings ≡ factory_settings
  unfolding start_of
  start_force = fresh_force (eqb (start_refusal time) 0) time supcode custcode

  start_agreed : Agreed start []
  unfolding start_of
  start_agreed =
      let (p, q) = fresh_both (eqb (start_refusal time) 0) time supcode custcode in
      record {
        sessions = record { keypad = p; port = q };
        force = record {
          sized = ap length start_force ∙ factory_count;
          tells = λ k l. ap (λ (a : List Setting). value_at a k) start_force ∙ factory_forced k;
        };
      }

  -- what a step keeps holds at the end of every run from a start, if it holds at the start
  pub from_start : (P : World → History → Type 0) → KeptByStep P → P start [] → (xs : List Step) → P (run corrector xs start).1 (history xs start)
  from_start P f p xs = (run_keeps P f xs start [] start_agreed p).1

  module _ (xs : List Step) where
    abbrev end : World
    end = (run corrector xs start).1

    abbrev past : History
    past = history xs start

    pub agreed : Agreed end past
    agreed = from_start Agreed (λ x w past h p. step_agreed x w past h) start_agreed xs

    -- EACH SETTING IN FORCE is the value of the last accepted commit that had it staged, else the factory value
    pub in_force_exactly : (setting : ℕ) → no_such_setting setting ≡ false → value_at end.state.core.settings (setting - 1) ≡ in_force setting past
    in_force_exactly setting e =
        let (l, m) = setting_place setting e in
        agreed.force.tells (setting - 1) l ∙ ap (λ (k : ℕ). in_force k past) m

    -- all of them
    pub settings_exactly : end.state.core.settings ≡ settings_in past
    settings_exactly = all_forced end past agreed.force
