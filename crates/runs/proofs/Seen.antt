-- What a session sees and does, said of the history: what it has staged, what each read answers, and when its commit is refused by 10 and by 12.
-- Assumes nothing.
use mathlib.Core.Path.{◌≡◌, refl, sym, ap, ◌∙◌}
use mathlib.Core.Bool.{Bool, true, false, not, cond, ◌&&◌, ◌||◌}
use mathlib.Core.Logic.{◌↔◌}
use mathlib.Core.List.{List}
use Prim.Native.Nat.{ℕ, ◌+◌, ◌-◌, ◌<◌}
use native.Mathlib.Omega.{arith}
use lib.Dec.{eqb}
use lib.ListN.{length, get_or}
use lib.Seq.{ext_get_or}
use Rattle.ground.proofs.Flags.{or_false_left, or_false_right}
use Rattle.order.specs.Order.{run}
use Rattle.settings.specs.declared.Value.{Value}
use Rattle.settings.specs.declared.Setting.{Setting}
use Rattle.settings.specs.Settings.{setting_count, no_setting, value_at, ordered_b, right_b}
use Rattle.ring.specs.Ring.{audit_lines}
use Rattle.ground.specs.Below.{listed}
use Rattle.ground.proofs.Listed.{length_listed, get_d_listed}
use Rattle.books.specs.declared.ArchiveLine.{ArchiveLine}
use Rattle.books.specs.declared.LogLine.{LogLine}
use Rattle.books.specs.declared.AuditLine.{AuditLine}
use Rattle.state.specs.declared.Session.{Session}
use Rattle.state.specs.State.{blank_cell}
use Rattle.state.specs.Card.{first_of}
use Rattle.state.proofs.Card.{not_false}
use Rattle.doors.specs.Doors.{no_door, no_such_setting, session_at, cell_at, value_read, as_stand, missing_at, lock_missing, stale_b}
use Rattle.staging.proofs.Force.{stand_length}
use Rattle.commands.specs.declared.Given.TheVariants as given
use Rattle.runs.specs.Exactly.{earlier}
use Rattle.runs.specs.Rows.{rows_of, unsound}
use Rattle.runs.specs.Run.{Step, Call, Commit, Read, World, Reply, giving, number_of, step, corrector, started}
use Rattle.runs.specs.History.{History, history}
use Rattle.runs.specs.Open.{open_at}
use Rattle.runs.specs.Stale.{has_staged}
use Rattle.runs.specs.InForce.{last_written, setting_of, seen_at, would_stand}
use Rattle.runs.specs.Locks.{lock_at, lacks_lock}
use Rattle.runs.proofs.Exactly.{silent}
use Rattle.runs.proofs.Effects.{step_is, number_is, refused_when}
use Rattle.runs.proofs.Stale.{Known, known_at, same_below, in_table}
use Rattle.runs.proofs.Locks.{locks_exactly}
use Rattle.runs.proofs.InForce.{agreed, in_force_exactly, stood_at}
use Rattle.runs.proofs.Open.{open_exactly}

-- of the rows before 10, 11 and 12: the door is one, and has a session
passed : (a b c d : Bool) → (a || (b || (c || d))) ≡ false → (b ≡ false) × (c ≡ false)
passed a b c d e =
    let p = or_false_right a (b || (c || d)) e in
    (or_false_left b (c || d) p, or_false_left c d (or_false_right b (c || d) p))

module _ (time supcode custcode : ℕ) (archive : List ArchiveLine) (log : List LogLine) (audit : List AuditLine) (xs : List Step) where
  abbrev start : World
  start = started time supcode custcode archive log audit

  abbrev end : World
  end = (run corrector xs start).1

  abbrev past : History
  past = history xs start

  known : (door : ℕ) → no_door door ≡ false → Known door (session_at end.state door) past
  known = known_at end past (agreed time supcode custcode archive log audit xs).sessions

  is_open : (door : ℕ) → no_door door ≡ false → (session_at end.state door).live ≡ open_at door past
  is_open door e = open_exactly xs time supcode custcode archive log audit door e

  -- WHAT AN OPEN SESSION HAS STAGED OF A SETTING is the last accepted write of it since the session was opened, if there is one
  pub staged_exactly : (door setting : ℕ) → no_door door ≡ false → no_such_setting setting ≡ false → open_at door past ≡ true
      → ((cell_at (session_at end.state door) setting).staged ≡ has_staged door setting past)
      × ((v : Value) → cond (cell_at (session_at end.state door) setting).staged (cell_at (session_at end.state door) setting).value v ≡ last_written door setting v past)
  staged_exactly door setting d e o =
      let m = (known door d).tells (is_open door d ∙ o) setting e in
      (m.staged, m.value)

  -- WHAT AN ACCEPTED READ ANSWERS: the session's last write, else the value in force, both by the history
  pub read_exactly : (door setting : ℕ) → number_of (step (Call door (Read setting)) end).1 ≡ 0
      → (step (Call door (Read setting)) end).1 ≡ giving 0 (given.Value (seen_at door setting past))
  unfolding value_read
  read_exactly door setting z =
      let x : Step = Call door (Read setting) in
      let n : first_of (rows_of x end) ≡ 0 = sym (number_is x end) ∙ z in
      let three = silent (rows_of x end) refl n 3 in
      let d = or_false_left (no_door door) (no_such_setting setting) three in
      let e = or_false_right (no_door door) (no_such_setting setting) three in
      let live = not_false (session_at end.state door).live (silent (rows_of x end) refl n 4) in
      let value = ((known door d).tells live setting e).value in
      ap (λ (o : World × Reply). o.1) (step_is x end)
      ∙ rw n
      (ap (λ (v : Value). giving 0 (given.Value v)) (value (value_at end.state.core.settings (setting - 1))
      ∙ ap (λ (v : Value). last_written door setting v past) (in_force_exactly time supcode custcode archive log audit xs setting e)))

  -- a lock is missing for a staged setting
  missing_same : (door : ℕ) → no_door door ≡ false → (session_at end.state door).live ≡ true
      → lock_missing end.state.core.locks (session_at end.state door).cells ≡ lacks_lock door past
  unfolding lock_missing missing_at cell_at
  missing_same door d live =
      rw (locks_exactly xs time supcode custcode archive log audit)
      (same_below (λ k. (get_or (session_at end.state door).cells k blank_cell).staged && not (right_b k (lock_at 1 past) (lock_at 2 past) (lock_at 3 past)))
      (λ k. has_staged door (k + 1) past && not (right_b k (lock_at 1 past) (lock_at 2 past) (lock_at 3 past))) setting_count
      (λ k l.
      let p : k + 1 - 1 ≡ k = omega arith in
      let staged = ((known door d).tells live (k + 1) (in_table k l)).staged in
      ap (λ (t : Bool). t && not (right_b k (lock_at 1 past) (lock_at 2 past) (lock_at 3 past))) (rw p at staged)))

  -- A COMMIT IS REFUSED BY 10 EXACTLY WHEN, by the history, its session has staged a setting whose lock is missing, where 1, 3 and 4 do not come first
  pub rights_exactly : (door : ℕ)
      → (number_of (step (Commit door) end).1 ≡ 10) ↔ ((earlier 10 (rows_of (Commit door) end) ≡ false) × (lacks_lock door past ≡ true))
  rights_exactly door = refused_when (Commit door) end 10 (omega arith) (lacks_lock door past) same
    where
      same : earlier 10 (rows_of (Commit door) end) ≡ false → lock_missing end.state.core.locks (session_at end.state door).cells ≡ lacks_lock door past
      same e =
          let live : Bool = (session_at end.state door).live in
          let (p, q) = passed (unsound end (eqb (length end.audit) audit_lines)) (no_door door) (not live) false e in
          missing_same door p (not_false live q)

  -- the settings as they would stand after a commit
  stand_same : (door : ℕ) → no_door door ≡ false → (session_at end.state door).live ≡ true
      → as_stand end.state.core.settings (session_at end.state door).cells ≡ would_stand door past
  unfolding would_stand
  stand_same door d live =
      let a : List Setting = end.state.core.settings in
      let s : Session = session_at end.state door in
      let f : ℕ → Setting = λ k. setting_of (seen_at door (k + 1) past) in
      let force = (agreed time supcode custcode archive log audit xs).force in
      ext_get_or no_setting (as_stand a s.cells) (listed f setting_count) (stand_length a s.cells ∙ force.sized ∙ sym (length_listed f setting_count))
      (λ k l.
      let i : k < setting_count = rw (stand_length a s.cells, force.sized) at l in
      ap setting_of (stood_at door s past (known door d) live a k force.sized i ∙ ap (λ (v : Value). last_written door (k + 1) v past) (force.tells k i))
      ∙ sym (get_d_listed f setting_count k no_setting i))

  -- A COMMIT IS REFUSED BY 12 EXACTLY WHEN the settings as they would stand by the history have a pair out of order, where 1, 3, 4, 10 and 11 do not come first
  pub pairs_exactly : (door : ℕ)
      → (number_of (step (Commit door) end).1 ≡ 12) ↔ ((earlier 12 (rows_of (Commit door) end) ≡ false) × (not (ordered_b (would_stand door past)) ≡ true))
  pairs_exactly door = refused_when (Commit door) end 12 (omega arith) (not (ordered_b (would_stand door past))) same
    where
      same : earlier 12 (rows_of (Commit door) end) ≡ false
          → not (ordered_b (as_stand end.state.core.settings (session_at end.state door).cells)) ≡ not (ordered_b (would_stand door past))
      same e =
          let live : Bool = (session_at end.state door).live in
          let cells = (session_at end.state door).cells in
          let (p, q) =
          passed (unsound end (eqb (length end.audit) audit_lines)) (no_door door) (not live)
          (lock_missing end.state.core.locks cells || (stale_b cells || false)) e
          in
          ap (λ (a : List Setting). not (ordered_b a)) (stand_same door p (not_false live q))
