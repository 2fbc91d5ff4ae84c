-- A whole state stays whole through begin, abandon, read, write and commit, whatever they answer.
-- Assumes nothing.
use mathlib.Core.Path.{◌≡◌, refl}
use mathlib.Core.Bool.{Bool, true, false, not, cond, ◌&&◌, ◌||◌, or-true, false≢true}
use mathlib.Core.List.{List}
use Prim.Native.Nat.{ℕ, ◌-◌, ◌<◌}
use native.Mathlib.Omega.{arith}
use lib.Dec.{ltb, eqb}
use lib.ListN.{length, get_or, set}
use lib.Seq.{get_or-set_same, get_or-set_other, set_out}
use borrow.Author.Tests.{ltb-true, ltb-false, eqb-true, eqb-false}
use Rattle.ground.specs.Below.{all_below}
use Rattle.ground.proofs.Flags.{Either, is_true, is_false, either_of, and_left, and_right, and_both, or_false_left, or_false_right}
use Rattle.ground.proofs.Every.{all_each, each_all}
use Rattle.settings.specs.declared.Value.{Value}
use Rattle.settings.specs.Settings.{setting_count, fits_b, settings_fit_b, ordered_b}
use Rattle.outputs.proofs.All.{commits_keep}
use Rattle.ring.specs.Ring.{audit_lines}
use Rattle.ring.proofs.Whole.{book_stays, audit_common}
use Rattle.books.specs.declared.AuditLine.{AuditLine}
use Rattle.state.specs.declared.Cell.{Cell}
use Rattle.state.specs.declared.Session.{Session}
use Rattle.state.specs.declared.Core.{Core}
use Rattle.state.specs.declared.State.{State}
use Rattle.state.specs.State.{blank_cell, no_session, cell_b, cells_b, session_b, core_b, whole_b}
use Rattle.state.proofs.Card.{Passes, passes, not_false}
use Rattle.state.proofs.Sound.{SoundCore, sound_core, Sound, whole_sound, no_session_lem}
use Rattle.commands.specs.Answers.{answered}
use Rattle.doors.specs.Doors.{no_door, no_such_setting, session_at, other_at, placed, with_session, cell_at, with_cell, begun, begin_refusal, begin_by, begin_of, abandon_refusal, abandon_by, abandon_of, read_refusal, marked_read, read_after, read_by, read_of, write_refusal, staged_cell, write_after, write_by, write_of, lock_missing, stale_b, as_stand, commit_refusal, commit_lines, marked_by, overtaken_session, committed_core, committed, ends_refused, refused_commit, commit_of}
use Rattle.staging.proofs.Force.{stand_fits, marks_at}

-- ---- a cell of a session

pub record SoundCell (live : Bool) (k : ℕ) (c : Cell) : Type 0 where
  pub fit : (not c.staged || fits_b k c.value) ≡ true
  pub seen : (not c.overtaken || c.read) ≡ true
  pub owned : (not (c.staged || c.read) || live) ≡ true

pub cell_sound : (live : Bool) (k : ℕ) (c : Cell) → cell_b live k c ≡ true → SoundCell live k c
unfolding cell_b
cell_sound live k c e =
    let x : Bool = not c.staged || fits_b k c.value in
    let y : Bool = not c.overtaken || c.read in
    let z : Bool = not (c.staged || c.read) || live in
    let two : (x && y) ≡ true = and_left (x && y) z e in
    record { fit = and_left x y two; seen = and_right x y two; owned = and_right (x && y) z e }

pub sound_cell : (live : Bool) (k : ℕ) (c : Cell) → SoundCell live k c → cell_b live k c ≡ true
unfolding cell_b
sound_cell live k c p = and_both (and_both p.fit p.seen) p.owned

pub read_sound : (live : Bool) (k : ℕ) (c : Cell) → live ≡ true → SoundCell live k c → SoundCell live k (marked_read c)
unfolding marked_read
read_sound live k c e p = record { fit = p.fit; seen = or-true (not c.overtaken); owned = rw e (or-true (not (c.staged || true))) }

pub staged_sound : (live : Bool) (k : ℕ) (c : Cell) (v : Value) → live ≡ true → fits_b k v ≡ true → SoundCell live k c → SoundCell live k (staged_cell c v)
unfolding staged_cell
staged_sound live k c v e f p = record { fit = f; seen = p.seen; owned = e }

seen_by_lem : (o r s : Bool) → (not o || r) ≡ true → (not (o || (r && s)) || r) ≡ true
seen_by_lem true r s e = e
seen_by_lem false true s e = or-true (not s)
seen_by_lem false false s e = refl

marked_sound : (live : Bool) (k : ℕ) (c d : Cell) → SoundCell live k d → SoundCell live k (marked_by c d)
unfolding marked_by
marked_sound live k c d p = record { fit = p.fit; seen = seen_by_lem d.overtaken d.read c.staged p.seen; owned = p.owned }

-- ---- a session

pub session_each : (x : Session) → session_b x ≡ true → (k : ℕ) → k < setting_count → SoundCell x.live k (get_or x.cells k blank_cell)
unfolding session_b cells_b
session_each x e k l = cell_sound x.live k (get_or x.cells k blank_cell) (all_each (cells_b x.live x.cells) setting_count e k l)

pub each_session : (x : Session) → ((k : ℕ) → k < setting_count → SoundCell x.live k (get_or x.cells k blank_cell)) → session_b x ≡ true
unfolding session_b cells_b
each_session x g = each_all (cells_b x.live x.cells) setting_count (λ k l. sound_cell x.live k (get_or x.cells k blank_cell) (g k l))

pub begun_sound : session_b begun ≡ true
unfolding session_b begun cells_b cell_b all_below
begun_sound = refl

put_cell : (live : Bool) (cells : List Cell) (i : ℕ) (c : Cell) → SoundCell live i c → (k : ℕ) → SoundCell live k (get_or cells k blank_cell) →
    Either (eqb k i) → Either (ltb i (length cells)) → SoundCell live k (get_or (set cells i c) k blank_cell)
put_cell live cells i c p k q (is_true t) (is_true l) =
    rw (eqb-true k i t, get_or-set_same cells i c blank_cell (ltb-true i (length cells) l)) p
put_cell live cells i c p k q (is_true t) (is_false o) = rw (set_out cells i c (ltb-false i (length cells) o)) q
put_cell live cells i c p k q (is_false f) l = rw (get_or-set_other cells i k c blank_cell (eqb-false k i f)) q

pub with_cell_sound : (x : Session) (setting : ℕ) (c : Cell) → SoundCell x.live (setting - 1) c → session_b x ≡ true → session_b (with_cell x setting c) ≡ true
unfolding with_cell
with_cell_sound x setting c p e =
    each_session (with_cell x setting c)
    (λ k l. put_cell x.live x.cells (setting - 1) c p k (session_each x e k l) (either_of (eqb k (setting - 1))) (either_of (ltb (setting - 1) (length x.cells))))

pub overtaken_sound : (mine theirs : Session) → session_b theirs ≡ true → session_b (overtaken_session mine theirs) ≡ true
unfolding overtaken_session
overtaken_sound mine theirs e =
    each_session (overtaken_session mine theirs)
    (λ k l. rw (marks_at mine.cells theirs.cells k) (marked_sound theirs.live k (get_or mine.cells k blank_cell) (get_or theirs.cells k blank_cell) (session_each theirs e k l)))

-- ---- the state

session_by_lem : (s : State) (door : ℕ) → Sound s → Either (eqb door 1) → session_b (session_at s door) ≡ true
unfolding session_at
session_by_lem s door p (is_true t) = rw t p.keypad
session_by_lem s door p (is_false f) = rw f p.port

pub session_sound : (s : State) (door : ℕ) → whole_b s ≡ true → session_b (session_at s door) ≡ true
session_sound s door e = session_by_lem s door (whole_sound s e) (either_of (eqb door 1))

other_by : (s : State) (door : ℕ) → Sound s → Either (eqb door 1) → session_b (other_at s door) ≡ true
unfolding other_at
other_by s door p (is_true t) = rw t p.port
other_by s door p (is_false f) = rw f p.keypad

pub other_sound : (s : State) (door : ℕ) → whole_b s ≡ true → session_b (other_at s door) ≡ true
other_sound s door e = other_by s door (whole_sound s e) (either_of (eqb door 1))

placed_by : (c : Core) (door : ℕ) (mine theirs : Session) → core_b c ≡ true → session_b mine ≡ true → session_b theirs ≡ true → Either (eqb door 1) →
    whole_b (placed c door mine theirs) ≡ true
unfolding placed whole_b
placed_by c door mine theirs p q r (is_true t) = simp (t, p, q, r)
placed_by c door mine theirs p q r (is_false f) = simp (f, p, q, r)

pub placed_whole : (c : Core) (door : ℕ) (mine theirs : Session) → SoundCore c → session_b mine ≡ true → session_b theirs ≡ true → whole_b (placed c door mine theirs) ≡ true
placed_whole c door mine theirs p q r = placed_by c door mine theirs (sound_core c p) q r (either_of (eqb door 1))

pub with_session_whole : (s : State) (door : ℕ) (x : Session) → whole_b s ≡ true → session_b x ≡ true → whole_b (with_session s door x) ≡ true
unfolding with_session
with_session_whole s door x e p = placed_whole s.core door x (other_at s door) (whole_sound s e).core p (other_sound s door e)

chosen_whole : (b : Bool) (before after : State) → whole_b before ≡ true → (b ≡ true → whole_b after ≡ true) → whole_b (cond b after before) ≡ true
chosen_whole true before after e g = g refl
chosen_whole false before after e g = e

answered_whole : (number : ℕ) (before after : State) → whole_b before ≡ true → (number ≡ 0 → whole_b after ≡ true) → whole_b (answered number before after).state ≡ true
answered_whole number before after e g = chosen_whole (eqb number 0) before after e (λ t. g (eqb-true number 0 t))

-- ---- what an accepted step says

pub record Accepted (s : State) (door : ℕ) : Type 0 where
  pub whole : whole_b s ≡ true
  pub at_door : no_door door ≡ false
  pub live : (session_at s door).live ≡ true

place_inside : (setting : ℕ) → no_such_setting setting ≡ false → setting - 1 < setting_count
place_inside setting e = omega (arith, ltb-false setting_count setting (or_false_right (ltb setting 1) (ltb setting_count setting) e))

pub read_accepted : (s : State) (door setting : ℕ) → read_refusal (whole_b s) s door setting ≡ 0 → Accepted s door × (setting - 1 < setting_count)
unfolding read_refusal
read_accepted s door setting e =
    let a : Passes (not (whole_b s)) (cond (no_door door || no_such_setting setting) 3 (cond (not (session_at s door).live) 4 0)) = passes 1 _ _ (omega arith) e in
    let b : Passes (no_door door || no_such_setting setting) (cond (not (session_at s door).live) 4 0) = passes 3 _ _ (omega arith) a.later in
    let c : Passes (not (session_at s door).live) 0 = passes 4 _ _ (omega arith) b.later in (
      record {
        whole = not_false (whole_b s) a.here;
        at_door = or_false_left (no_door door) (no_such_setting setting) b.here;
        live = not_false (session_at s door).live c.here;
      },
      place_inside setting (or_false_right (no_door door) (no_such_setting setting) b.here),
    )

pub write_accepted : (s : State) (door setting : ℕ) (v : Value) → write_refusal (whole_b s) s door setting v ≡ 0 →
    Accepted s door × (setting - 1 < setting_count) × (fits_b (setting - 1) v ≡ true)
unfolding write_refusal
write_accepted s door setting v e =
    let d : ℕ = cond (not (fits_b (setting - 1) v)) 9 0 in
    let a : Passes (not (whole_b s)) (cond (no_door door || no_such_setting setting) 3 (cond (not (session_at s door).live) 4 d)) = passes 1 _ _ (omega arith) e in
    let b : Passes (no_door door || no_such_setting setting) (cond (not (session_at s door).live) 4 d) = passes 3 _ _ (omega arith) a.later in
    let c : Passes (not (session_at s door).live) d = passes 4 _ _ (omega arith) b.later in
    let f : Passes (not (fits_b (setting - 1) v)) 0 = passes 9 _ _ (omega arith) c.later in (
      record {
        whole = not_false (whole_b s) a.here;
        at_door = or_false_left (no_door door) (no_such_setting setting) b.here;
        live = not_false (session_at s door).live c.here;
      },
      place_inside setting (or_false_right (no_door door) (no_such_setting setting) b.here),
      not_false (fits_b (setting - 1) v) f.here,
    )

pub record AcceptedCommit (s : State) (door auditLength : ℕ) : Type 0 where
  pub step : Accepted s door
  pub exact : auditLength ≡ audit_lines
  pub right : lock_missing s.core.locks (session_at s door).cells ≡ false
  pub current : stale_b (session_at s door).cells ≡ false
  pub ordered : ordered_b (as_stand s.core.settings (session_at s door).cells) ≡ true

pub commit_accepted : (s : State) (door n : ℕ) → commit_refusal (whole_b s) s door n ≡ 0 → AcceptedCommit s door n
unfolding commit_refusal
commit_accepted s door n e =
    let lock : Bool = lock_missing s.core.locks (session_at s door).cells in
    let old : Bool = stale_b (session_at s door).cells in
    let pairs : Bool = ordered_b (as_stand s.core.settings (session_at s door).cells) in
    let z : ℕ = cond (not pairs) 12 0 in
    let y : ℕ = cond old 11 z in
    let x : ℕ = cond lock 10 y in
    let w : ℕ = cond (not (session_at s door).live) 4 x in
    let a : Passes (not (whole_b s && eqb n audit_lines)) (cond (no_door door) 3 w) = passes 1 _ _ (omega arith) e in
    let b : Passes (no_door door) w = passes 3 _ _ (omega arith) a.later in
    let c : Passes (not (session_at s door).live) x = passes 4 _ _ (omega arith) b.later in
    let d : Passes lock y = passes 10 _ _ (omega arith) c.later in
    let f : Passes old z = passes 11 _ _ (omega arith) d.later in
    let g : Passes (not pairs) 0 = passes 12 _ _ (omega arith) f.later in
    let two : (whole_b s && eqb n audit_lines) ≡ true = not_false (whole_b s && eqb n audit_lines) a.here in
    record {
      step = record { whole = and_left (whole_b s) (eqb n audit_lines) two; at_door = b.here; live = not_false (session_at s door).live c.here };
      exact = eqb-true n audit_lines (and_right (whole_b s) (eqb n audit_lines) two);
      right = d.here;
      current = f.here;
      ordered = not_false pairs g.here;
    }

-- ---- begin, abandon, read, write

pub begin_whole : (s : State) (door : ℕ) → whole_b s ≡ true → whole_b (begin_of s door).state ≡ true
unfolding begin_by
begin_whole s door e = answered_whole (begin_refusal (whole_b s) s door) s (with_session s door begun) e (λ z. with_session_whole s door begun e begun_sound)

pub abandon_whole : (s : State) (door : ℕ) → whole_b s ≡ true → whole_b (abandon_of s door).state ≡ true
unfolding abandon_by
abandon_whole s door e = answered_whole (abandon_refusal (whole_b s) s door) s (with_session s door no_session) e (λ z. with_session_whole s door no_session e no_session_lem)

pub read_after_whole : (s : State) (door setting : ℕ) → read_refusal (whole_b s) s door setting ≡ 0 → whole_b (read_after s door setting) ≡ true
unfolding read_after cell_at
read_after_whole s door setting z =
    let a : Accepted s door = (read_accepted s door setting z).0 in
    let p : session_b (session_at s door) ≡ true = session_sound s door a.whole in
    with_session_whole s door (with_cell (session_at s door) setting (marked_read (cell_at (session_at s door) setting))) a.whole
    (with_cell_sound (session_at s door) setting (marked_read (cell_at (session_at s door) setting))
    (read_sound (session_at s door).live (setting - 1) (cell_at (session_at s door) setting) a.live (session_each (session_at s door) p (setting - 1) (read_accepted s door setting z).1))
    p)

pub read_whole : (s : State) (door setting : ℕ) → whole_b s ≡ true → whole_b (read_of s door setting).state ≡ true
unfolding read_by
read_whole s door setting e = answered_whole (read_refusal (whole_b s) s door setting) s (read_after s door setting) e (read_after_whole s door setting)

pub write_after_whole : (s : State) (door setting : ℕ) (v : Value) → write_refusal (whole_b s) s door setting v ≡ 0 → whole_b (write_after s door setting v) ≡ true
unfolding write_after cell_at
write_after_whole s door setting v z =
    let a : Accepted s door = (write_accepted s door setting v z).0 in
    let p : session_b (session_at s door) ≡ true = session_sound s door a.whole in
    with_session_whole s door (with_cell (session_at s door) setting (staged_cell (cell_at (session_at s door) setting) v)) a.whole
    (with_cell_sound (session_at s door) setting (staged_cell (cell_at (session_at s door) setting) v)
    (staged_sound (session_at s door).live (setting - 1) (cell_at (session_at s door) setting) v a.live (write_accepted s door setting v z).2
    (session_each (session_at s door) p (setting - 1) (write_accepted s door setting v z).1))
    p)

pub write_whole : (s : State) (door setting : ℕ) (v : Value) → whole_b s ≡ true → whole_b (write_of s door setting v).state ≡ true
unfolding write_by
write_whole s door setting v e = answered_whole (write_refusal (whole_b s) s door setting v) s (write_after s door setting v) e (write_after_whole s door setting v)

-- ---- commit

staged_fit : (b : Bool) (x : Bool) → (not b || x) ≡ true → b ≡ true → x ≡ true
staged_fit true x e t = e
staged_fit false x e t = absurd (false≢true t)

pub core_stays : (s : State) (door n lines : ℕ) → AcceptedCommit s door n → SoundCore (committed_core s.core (session_at s door).cells lines)
unfolding committed_core
core_stays s door n lines a =
    let p : SoundCore s.core = (whole_sound s a.step.whole).core in
    let q : session_b (session_at s door) ≡ true = session_sound s door a.step.whole in
    let stood : settings_fit_b (as_stand s.core.settings (session_at s door).cells) ≡ true = stand_fits s.core.settings (session_at s door).cells p.fit (λ k l t. staged_fit (get_or (session_at s door).cells k blank_cell).staged (fits_b k (get_or (session_at s door).cells k blank_cell).value) (session_each (session_at s door) q k l).fit t) in
    record {
      measured = p.measured;
      fit = stood;
      ordered = a.ordered;
      latched = p.latched;
      outputs = commits_keep s.core.settings (as_stand s.core.settings (session_at s door).cells) s.core.outputs stood p.outputs;
      archive_held = p.archive_held;
      log_held = p.log_held;
      audit_held = book_stays audit_common lines s.core.stores.audit p.audit_held;
    }

pub committed_whole : (s : State) (door n : ℕ) → commit_refusal (whole_b s) s door n ≡ 0 → whole_b (committed s door) ≡ true
unfolding committed
committed_whole s door n z =
    let a : AcceptedCommit s door n = commit_accepted s door n z in
    placed_whole (committed_core s.core (session_at s door).cells (length (commit_lines s door))) door no_session (overtaken_session (session_at s door) (other_at s door))
    (core_stays s door n (length (commit_lines s door)) a)
    no_session_lem
    (overtaken_sound (session_at s door) (other_at s door) (other_sound s door a.step.whole))

refused_whole : (s : State) (door number : ℕ) → whole_b s ≡ true → whole_b (refused_commit s door number) ≡ true
unfolding refused_commit
refused_whole s door number e = chosen_whole (ends_refused number) s (with_session s door no_session) e (λ t. with_session_whole s door no_session e no_session_lem)

commit_by : (s : State) (door : ℕ) (audit : List AuditLine) → whole_b s ≡ true → Either (eqb (commit_refusal (whole_b s) s door (length audit)) 0) →
    whole_b (commit_of s door audit).answer.state ≡ true
unfolding commit_of
commit_by s door audit e (is_true t) = rw t (committed_whole s door (length audit) (eqb-true (commit_refusal (whole_b s) s door (length audit)) 0 t))
commit_by s door audit e (is_false f) = rw f (refused_whole s door (commit_refusal (whole_b s) s door (length audit)) e)

pub commit_whole : (s : State) (door : ℕ) (audit : List AuditLine) → whole_b s ≡ true → whole_b (commit_of s door audit).answer.state ≡ true
commit_whole s door audit e = commit_by s door audit e (either_of (eqb (commit_refusal (whole_b s) s door (length audit)) 0))
