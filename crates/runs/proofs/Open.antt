-- Open, exactly: after any run from a start a session is open at a door exactly where the history says so, and so a begin is refused by 2, and a
-- read, write, commit or abandon by 4, by what the history says. By the length of the run; a clause for each kind of step.
-- Assumes nothing.
use mathlib.Core.Path.{◌≡◌, refl, ap, ◌∙◌}
use mathlib.Core.Bool.{Bool, true, false, not, cond, ◌||◌, false≢true}
use mathlib.Core.Logic.{◌↔◌}
use mathlib.Core.List.{List, [], ◌∷◌, reverse_aux}
use Prim.Native.Nat.{ℕ}
use native.Mathlib.Omega.{arith}
use lib.Dec.{eqb}
use lib.ListN.{length}
use borrow.Author.Tests.{eqb-true}
use Rattle.ground.proofs.Flags.{or_false_left, or_false_right}
use Rattle.order.specs.Order.{run, trace}
use Rattle.settings.specs.declared.Value.{Value}
use Rattle.ring.specs.Ring.{audit_lines}
use Rattle.books.specs.declared.ArchiveLine.{ArchiveLine}
use Rattle.books.specs.declared.LogLine.{LogLine}
use Rattle.books.specs.declared.AuditLine.{AuditLine}
use Rattle.state.specs.declared.Session.{Session}
use Rattle.state.specs.declared.State.{State}
use Rattle.state.specs.State.{no_session, fresh}
use Rattle.state.specs.Card.{first_of}
use Rattle.cycle.specs.Cycle.{cycled}
use Rattle.panel.specs.Panel.{turned, cleared, ticked, start_of, start_refusal}
use Rattle.doors.specs.Doors.{no_door, no_such_setting, session_at, other_at, placed, with_session, with_cell, begun, read_after, write_after, overtaken_session, committed, ends_refused, refused_commit}
use Rattle.runs.specs.Exactly.{earlier}
use Rattle.runs.specs.Rows.{rows_of, unsound, not_whole, refused_by}
use Rattle.runs.specs.Run.{Step, Cycle, Turn, Clear, Tick, Ask, Call, Commit, Begin, Read, Write, Abandon, World, number_of, step, corrector, started}
use Rattle.runs.specs.History.{History, history}
use Rattle.runs.specs.Open.{open_after, open_at}
use Rattle.runs.proofs.Exactly.{silent}
use Rattle.runs.proofs.Effects.{after, number_is, world_is, refused_when}
use Rattle.runs.proofs.Stale.{each_door}

abbrev live : State → ℕ → Bool
live s door = (session_at s door).live

-- ---- a step at a door, seen from a door

-- d: the door of the step, door: the one that is looked at
abbrev AtDoors : (ℕ → ℕ → Type 0) → Type 0
AtDoors P = (d : ℕ) → no_door d ≡ false → (door : ℕ) → no_door door ≡ false → P d door

both_doors : (P : ℕ → ℕ → Type 0) → P 1 1 → P 1 2 → P 2 1 → P 2 2 → AtDoors P
both_doors P p q r t = each_door (λ d. (door : ℕ) → no_door door ≡ false → P d door) (each_door (P 1) p q) (each_door (P 2) r t)

put_live : (s : State) (x : Session) → AtDoors (λ d door. live (with_session s d x) door ≡ cond (eqb d door) x.live (live s door))
unfolding session_at with_session placed other_at
put_live s x = both_doors _ refl refl refl refl

begin_live : (s : State) → AtDoors (λ d door. live (with_session s d begun) door ≡ cond (eqb d door) true (live s door))
unfolding begun
begin_live s = put_live s begun

end_live : (s : State) → AtDoors (λ d door. live (with_session s d no_session) door ≡ cond (eqb d door) false (live s door))
unfolding no_session
end_live s = put_live s no_session

read_live : (s : State) (j : ℕ) → AtDoors (λ d door. live (read_after s d j) door ≡ live s door)
unfolding read_after with_session placed other_at session_at with_cell
read_live s j = both_doors _ refl refl refl refl

write_live : (s : State) (j : ℕ) (v : Value) → AtDoors (λ d door. live (write_after s d j v) door ≡ live s door)
unfolding write_after with_session placed other_at session_at with_cell
write_live s j v = both_doors _ refl refl refl refl

commit_live : (s : State) → AtDoors (λ d door. live (committed s d) door ≡ cond (eqb d door) false (live s door))
unfolding committed placed other_at session_at overtaken_session no_session
commit_live s = both_doors _ refl refl refl refl

-- ---- accepted

done_open : (x : Step) (w : World) → first_of (rows_of x w) ≡ 0 → (door : ℕ) → no_door door ≡ false → live (after x w).state door ≡ open_after door x 0 (live w.state door)
unfolding session_at cycled turned cleared ticked read_after write_after
done_open (Cycle r) w z door e = refl
done_open (Turn turn) w z door e = refl
done_open Clear w z door e = refl
done_open (Tick named) w z door e = refl
done_open (Ask question) w z door e = refl
done_open (Call d Begin) w z door e = begin_live w.state d (silent (rows_of (Call d Begin) w) refl z 3) door e
done_open (Call d Abandon) w z door e = end_live w.state d (silent (rows_of (Call d Abandon) w) refl z 3) door e
done_open (Commit d) w z door e = commit_live w.state d (silent (rows_of (Commit d) w) refl z 3) door e
done_open (Call d (Read j)) w z door e =
    read_live w.state j d (or_false_left (no_door d) (no_such_setting j) (silent (rows_of (Call d (Read j)) w) refl z 3)) door e
done_open (Call d (Write j v)) w z door e =
    write_live w.state j v d (or_false_left (no_door d) (no_such_setting j) (silent (rows_of (Call d (Write j v)) w) refl z 3)) door e

-- ---- refused

-- a commit that 10, 11 or 12 refuses is one at a door
past_three : (a b : Bool) (rest : ℕ) → ends_refused (cond a 1 (cond b 3 rest)) ≡ true → b ≡ false
past_three true b rest h = absurd (false≢true h)
past_three false true rest h = absurd (false≢true h)
past_three false false rest h = refl

-- a commit's own; k: its number, t: whether that ends the session
ended_open : (s : State) (d k : ℕ) (t : Bool) → ends_refused k ≡ t → eqb k 0 ≡ false → (ends_refused k ≡ true → no_door d ≡ false) → (door : ℕ) → no_door door ≡ false
    → live (cond t (with_session s d no_session) s) door ≡ open_after door (Commit d) k (live s door)
ended_open s d k true q z f door e = rw (z, q) (end_live s d (f q) door e)
ended_open s d k false q z f door e = rw (z, q)

refused_open : (x : Step) (w : World) (k : ℕ) → first_of (rows_of x w) ≡ k → eqb k 0 ≡ false → (door : ℕ) → no_door door ≡ false
    → live (refused_by x w k).state door ≡ open_after door x k (live w.state door)
unfolding refused_commit
refused_open (Cycle r) w k q z door e = refl
refused_open (Turn turn) w k q z door e = refl
refused_open Clear w k q z door e = refl
refused_open (Tick named) w k q z door e = refl
refused_open (Ask question) w k q z door e = refl
refused_open (Call d Begin) w k q z door e = rw z
refused_open (Call d Abandon) w k q z door e = rw z
refused_open (Commit d) w k q z door e =
    ended_open w.state d k (ends_refused k) refl z (λ h. past_three (unsound w (eqb (length w.audit) audit_lines)) (no_door d) _ (ap ends_refused q ∙ h)) door e
refused_open (Call d (Read setting)) w k q z door e = refl
refused_open (Call d (Write setting v)) w k q z door e = refl

-- ---- a step, a run

step_open_by : (x : Step) (w : World) (k : ℕ) → first_of (rows_of x w) ≡ k → (t : Bool) → eqb k 0 ≡ t → (door : ℕ) → no_door door ≡ false
    → live (cond t (after x w) (refused_by x w k)).state door ≡ open_after door x k (live w.state door)
step_open_by x w k q true z door e = let o = eqb-true k 0 z in rw o (done_open x w (q ∙ o) door e)
step_open_by x w k q false z door e = refused_open x w k q z door e

step_open : (x : Step) (w : World) (door : ℕ) → no_door door ≡ false → live (step x w).0.state door ≡ open_after door x (number_of (step x w).1) (live w.state door)
step_open x w door e = let k = first_of (rows_of x w) in rw (world_is x w, number_is x w) (step_open_by x w k refl (eqb k 0) refl door e)

run_open : (xs : List Step) (w : World) (past : History) (door : ℕ) → no_door door ≡ false → live w.state door ≡ open_at door past
    → live (run corrector xs w).1.state door ≡ open_at door (reverse_aux (trace corrector xs w) past)
run_open [] w past door e h = h
run_open (x ∷ xs) w past door e h =
    run_open xs (step x w).0 ((x, (step x w).1) ∷ past) door e (step_open x w door e ∙ ap (open_after door x (number_of (step x w).1)) h)

-- ---- a run from a start

fresh_shut : (t : Bool) (time supcode custcode door : ℕ) → no_door door ≡ false → live (cond t (fresh time supcode custcode) (fresh 0 0 0)) door ≡ false
unfolding session_at fresh no_session
fresh_shut true time supcode custcode = each_door (λ door. live (fresh time supcode custcode) door ≡ false) refl refl
fresh_shut false time supcode custcode = each_door (λ door. live (fresh 0 0 0) door ≡ false) refl refl

-- of the rows 1 and 3, which come before 2 and 4
third : (a b : Bool) → (a || (b || false)) ≡ false → b ≡ false
third a b e = or_false_left b false (or_false_right a (b || false) e)

module _ (xs : List Step) (time supcode custcode : ℕ) (archive : List ArchiveLine) (log : List LogLine) (audit : List AuditLine) where
  abbrev start : World
  start = started time supcode custcode archive log audit

  abbrev end : World
  end = (run corrector xs start).1

  -- A SESSION IS OPEN AT A DOOR EXACTLY WHERE THE HISTORY SAYS SO
  pub open_exactly : (door : ℕ) → no_door door ≡ false → (session_at end.state door).live ≡ open_at door (history xs start)
  unfolding start_of
  open_exactly door e = run_open xs start [] door e (fresh_shut (eqb (start_refusal time) 0) time supcode custcode door e)

  -- A BEGIN IS REFUSED BY 2 EXACTLY WHEN the history says that a session is open at its door, where 1 and 3 do not come first
  pub begin_open_exactly : (door : ℕ)
      → (number_of (step (Call door Begin) end).1 ≡ 2) ↔ ((earlier 2 (rows_of (Call door Begin) end) ≡ false) × (open_at door (history xs start) ≡ true))
  begin_open_exactly door =
      refused_when (Call door Begin) end 2 (omega arith) (open_at door (history xs start)) (λ e. open_exactly door (third (not_whole end) (no_door door) e))

  -- A READ, WRITE, COMMIT OR ABANDON IS REFUSED BY 4 EXACTLY WHEN the history says that no session is open there, where 1 and 3 do not come first
  abbrev pub ClosedExactly : ℕ → Step → Type 0
  ClosedExactly door x = (number_of (step x end).1 ≡ 4) ↔ ((earlier 4 (rows_of x end) ≡ false) × (not (open_at door (history xs start)) ≡ true))

  closed_same : (door : ℕ) → no_door door ≡ false → not (session_at end.state door).live ≡ not (open_at door (history xs start))
  closed_same door e = ap not (open_exactly door e)

  pub read_closed_exactly : (door setting : ℕ) → ClosedExactly door (Call door (Read setting))
  read_closed_exactly door setting =
      refused_when (Call door (Read setting)) end 4 (omega arith) (not (open_at door (history xs start)))
      (λ e. closed_same door (or_false_left (no_door door) (no_such_setting setting) (third (not_whole end) (no_door door || no_such_setting setting) e)))

  pub write_closed_exactly : (door setting : ℕ) (v : Value) → ClosedExactly door (Call door (Write setting v))
  write_closed_exactly door setting v =
      refused_when (Call door (Write setting v)) end 4 (omega arith) (not (open_at door (history xs start)))
      (λ e. closed_same door (or_false_left (no_door door) (no_such_setting setting) (third (not_whole end) (no_door door || no_such_setting setting) e)))

  pub commit_closed_exactly : (door : ℕ) → ClosedExactly door (Commit door)
  commit_closed_exactly door =
      refused_when (Commit door) end 4 (omega arith) (not (open_at door (history xs start)))
      (λ e. closed_same door (third (unsound end (eqb (length end.audit) audit_lines)) (no_door door) e))

  pub abandon_closed_exactly : (door : ℕ) → ClosedExactly door (Call door Abandon)
  abandon_closed_exactly door =
      refused_when (Call door Abandon) end 4 (omega arith) (not (open_at door (history xs start))) (λ e. closed_same door (third (not_whole end) (no_door door) e))
