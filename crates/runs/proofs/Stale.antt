-- Stale, exactly: after any run from a start, what a session's cells say of a setting (staged, read, overtaken) is what the history says, and so
-- a commit is refused by 11 exactly when the history calls it stale. By the length of the run; a clause for each kind of step.
-- Assumes nothing.
use mathlib.Core.Path.{◌≡◌, refl, sym, ap, ◌∙◌}
use mathlib.Core.Bool.{Bool, true, false, not, cond, ◌&&◌, ◌||◌, true≢false}
use mathlib.Core.Logic.{◌↔◌}
use mathlib.Core.List.{List, [], ◌∷◌, reverse_aux}
use Prim.Native.Nat.{ℕ, zero, suc, ◌+◌, ◌-◌, ◌<◌}
use native.Mathlib.Omega.{arith}
use lib.Dec.{ltb, eqb}
use lib.ListN.{length, get_or, replicate, length-set}
use lib.Seq.{get_or-set_same, get_or-set_other}
use borrow.Author.Tests.{eqb-true, eqb-false, eq-eqb, ltb-false, le-ltb}
use Rattle.ground.specs.Below.{any_below}
use Rattle.ground.proofs.Flags.{or_false_left, or_false_right}
use Rattle.order.specs.Order.{run, trace}
use Rattle.settings.specs.declared.Value.{Value}
use Rattle.settings.specs.Settings.{setting_count}
use Rattle.ring.specs.Ring.{audit_lines}
use Rattle.books.specs.declared.ArchiveLine.{ArchiveLine}
use Rattle.books.specs.declared.LogLine.{LogLine}
use Rattle.books.specs.declared.AuditLine.{AuditLine}
use Rattle.state.specs.declared.Cell.{Cell}
use Rattle.state.specs.declared.Session.{Session}
use Rattle.state.specs.declared.State.{State}
use Rattle.state.specs.State.{blank_cell, no_session, fresh}
use Rattle.state.specs.Card.{first_of}
use Rattle.state.proofs.Card.{not_false}
use Rattle.cycle.specs.Cycle.{cycled}
use Rattle.panel.specs.Panel.{turned, cleared, ticked, start_of, start_refusal}
use Rattle.doors.specs.Doors.{no_door, no_such_setting, session_at, other_at, placed, with_session, cell_at, with_cell, begun, marked_read, read_after, staged_cell, write_after, lock_missing, overtaken_at, stale_b, marked_by, overtaken_session, committed, ends_refused, refused_commit}
use Rattle.staging.proofs.Force.{marks_at}
use Rattle.runs.specs.Exactly.{earlier}
use Rattle.runs.specs.Rows.{rows_of, unsound, refused_by}
use Rattle.runs.specs.Run.{Step, Cycle, Turn, Clear, Tick, Ask, Call, Commit, Begin, Read, Write, Abandon, World, Reply, number_of, step, corrector, started}
use Rattle.runs.specs.History.{History, history}
use Rattle.runs.specs.InForce.{written_by, last_written}
use Rattle.runs.specs.Stale.{Deed, nothing, begins, commits, reads, writes, deed, begins_at, commits_at, reads_at, writes_at, has_read, has_staged, other_door, overtaken_in, stale}
use Rattle.runs.proofs.Exactly.{silent}
use Rattle.runs.proofs.Cells.{at_set, overtaken_length}
use Rattle.runs.proofs.Effects.{after, number_is, world_is, refused_when}

-- ---- what a session's cells say, and what the history says

-- staged, read, overtaken; and the value staged, v where none is
pub record Marks (c : Cell) (p q r : Bool) (u : Value → Value) : Type 0 where
  pub staged : c.staged ≡ p
  pub read : c.read ≡ q
  pub overtaken : c.overtaken ≡ r
  pub value : (v : Value) → cond c.staged c.value v ≡ u v

pub record Known (door : ℕ) (s : Session) (past : History) : Type 0 where
  pub sized : length s.cells ≡ setting_count
  pub tells : s.live ≡ true → (k : ℕ) → no_such_setting k ≡ false
      → Marks (cell_at s k) (has_staged door k past) (has_read door k past) (overtaken_in door k past) (λ v. last_written door k v past)

-- ---- a deed and one session

-- a deed that is none at the door, nor a commit at the other
record Idle (door : ℕ) (y : Deed) : Type 0 where
  no_begin : begins_at door y ≡ false
  no_commit : commits_at (other_door door) y ≡ false
  no_read : (k : ℕ) → reads_at door k y ≡ false
  no_write : (k : ℕ) → writes_at door k y ≡ false
  no_value : (k : ℕ) (v : Value) → written_by door k y v ≡ v

idle_nothing : (door : ℕ) → Idle door nothing
idle_nothing door = record { no_begin = refl; no_commit = refl; no_read = λ k. refl; no_write = λ k. refl; no_value = λ k v. refl }

idle_begins : (door d : ℕ) → eqb d door ≡ false → Idle door (begins d)
idle_begins door d e = record { no_begin = e; no_commit = refl; no_read = λ k. refl; no_write = λ k. refl; no_value = λ k v. refl }

idle_reads : (door d j : ℕ) → eqb d door ≡ false → Idle door (reads d j)
idle_reads door d j e = record { no_begin = refl; no_commit = refl; no_read = λ k. rw e; no_write = λ k. refl; no_value = λ k v. refl }

idle_writes : (door d j : ℕ) (u : Value) → eqb d door ≡ false → Idle door (writes d j u)
idle_writes door d j u e = record { no_begin = refl; no_commit = refl; no_read = λ k. refl; no_write = λ k. rw e; no_value = λ k v. rw e }

idle_known : (door : ℕ) (s : Session) (past : History) (x : Step × Reply) → Idle door (deed x) → Known door s past → Known door s (x ∷ past)
idle_known door s past x i h = record {
  sized = h.sized;
  tells = λ l k e.
      let m = h.tells l k e in
      rw (i.no_begin, i.no_commit, i.no_read k, i.no_write k) (record {
        staged = m.staged;
        read = m.read;
        overtaken = m.overtaken;
        value = λ v. m.value v ∙ sym (i.no_value k (last_written door k v past));
      });
}

-- no session
none_known : (door : ℕ) (past : History) → Known door no_session past
unfolding no_session
none_known door past = record { sized = refl; tells = λ l k e. absurd (true≢false (sym l)) }

blank_at : (n k : ℕ) → get_or (replicate n blank_cell) k blank_cell ≡ blank_cell
blank_at zero k = refl
blank_at (suc n) zero = refl
blank_at (suc n) (suc k) = blank_at n k

begun_known : (door : ℕ) (past : History) (x : Step × Reply) → begins_at door (deed x) ≡ true → Known door begun (x ∷ past)
unfolding begun cell_at
begun_known door past x b = record {
  sized = refl;
  tells = λ l k e. rw (b, blank_at setting_count (k - 1)) (record { staged = refl; read = refl; overtaken = refl; value = λ v. refl });
}

-- ---- read and write

-- one cell set: the place of a setting in the table
apart : (k j : ℕ) → no_such_setting k ≡ false → no_such_setting j ≡ false → eqb j k ≡ false → k - 1 ≡ j - 1 → ⊥
apart k j e f n h =
    let p = ltb-false k 1 (or_false_left (ltb k 1) (ltb setting_count k) e) in
    let q = ltb-false j 1 (or_false_left (ltb j 1) (ltb setting_count j) f) in
    eqb-false j k n (omega arith)

inside : (s : Session) (j : ℕ) → length s.cells ≡ setting_count → no_such_setting j ≡ false → j - 1 < length s.cells
inside s j e f =
    let p = ltb-false j 1 (or_false_left (ltb j 1) (ltb setting_count j) f) in
    let q = ltb-false setting_count j (or_false_right (ltb j 1) (ltb setting_count j) f) in
    omega arith

-- what the new cell of setting j has stands at j, and elsewhere it is as it was
module _ {B : Type 0} (f : Cell → B) (s : Session) (j : ℕ) (c : Cell) (e : no_such_setting j ≡ false) (z : length s.cells ≡ setting_count) where
  put_by_lem : (k : ℕ) (t : Bool) → no_such_setting k ≡ false → eqb j k ≡ t → f (cell_at (with_cell s j c) k) ≡ cond t (f c) (f (cell_at s k))
  unfolding cell_at with_cell
  put_by_lem k true g h = rw (sym (eqb-true j k h), get_or-set_same s.cells (j - 1) c blank_cell (inside s j z e))
  put_by_lem k false g h = ap f (get_or-set_other s.cells (j - 1) (k - 1) c blank_cell (apart k j g e h))

  put_at : (k : ℕ) → no_such_setting k ≡ false → f (cell_at (with_cell s j c) k) ≡ cond (eqb j k) (f c) (f (cell_at s k))
  put_at k g = put_by_lem k (eqb j k) g refl

-- a flag that it has set
set_or : (t b : Bool) → cond t true b ≡ (t || b)
set_or true b = refl
set_or false b = refl

flag_set : (f : Cell → Bool) (s : Session) (j : ℕ) (c : Cell) → f c ≡ true → no_such_setting j ≡ false → length s.cells ≡ setting_count
    → (k : ℕ) → no_such_setting k ≡ false → f (cell_at (with_cell s j c) k) ≡ (eqb j k || f (cell_at s k))
flag_set f s j c t e z k g = put_at f s j c e z k g ∙ rw t (set_or (eqb j k) (f (cell_at s k)))

-- any other flag is as it was
flag_kept : {B : Type 0} (f : Cell → B) (s : Session) (j : ℕ) (c : Cell) → f c ≡ f (cell_at s j) → (k : ℕ) → f (cell_at (with_cell s j c) k) ≡ f (cell_at s k)
unfolding cell_at with_cell
flag_kept f s j c e k = at_set f s.cells (j - 1) c e (k - 1)

set_sized : (s : Session) (j : ℕ) (c : Cell) → length s.cells ≡ setting_count → length (with_cell s j c).cells ≡ setting_count
unfolding with_cell
set_sized s j c e = length-set s.cells (j - 1) c ∙ e

live_kept : (s : Session) (j : ℕ) (c : Cell) → (with_cell s j c).live ≡ true → s.live ≡ true
unfolding with_cell
live_kept s j c e = e

read_known : (door : ℕ) (s : Session) (past : History) (x : Step × Reply) (j : ℕ) → deed x ≡ reads door j → no_such_setting j ≡ false → Known door s past
    → Known door (with_cell s j (marked_read (cell_at s j))) (x ∷ past)
unfolding marked_read
read_known door s past x j d e h =
    let c : Cell = marked_read (cell_at s j) in
    let same : eqb door door ≡ true = eq-eqb door door refl in
    record {
      sized = set_sized s j c h.sized;
      tells = λ l k g.
          let m = h.tells (live_kept s j c l) k g in
          rw (d, same) (record {
            staged = flag_kept (λ (y : Cell). y.staged) s j c refl k ∙ m.staged;
            read = flag_set (λ (y : Cell). y.read) s j c refl e h.sized k g ∙ ap (λ t. eqb j k || t) m.read;
            overtaken = flag_kept (λ (y : Cell). y.overtaken) s j c refl k ∙ m.overtaken;
            value = λ v. flag_kept (λ (y : Cell). cond y.staged y.value v) s j c refl k ∙ m.value v;
          });
    }

write_known : (door : ℕ) (s : Session) (past : History) (x : Step × Reply) (j : ℕ) (v : Value) → deed x ≡ writes door j v → no_such_setting j ≡ false → Known door s past
    → Known door (with_cell s j (staged_cell (cell_at s j) v)) (x ∷ past)
unfolding staged_cell
write_known door s past x j v d e h =
    let c : Cell = staged_cell (cell_at s j) v in
    let same : eqb door door ≡ true = eq-eqb door door refl in
    record {
      sized = set_sized s j c h.sized;
      tells = λ l k g.
          let m = h.tells (live_kept s j c l) k g in
          rw (d, same) (record {
            staged = flag_set (λ (y : Cell). y.staged) s j c refl e h.sized k g ∙ ap (λ t. eqb j k || t) m.staged;
            read = flag_kept (λ (y : Cell). y.read) s j c refl k ∙ m.read;
            overtaken = flag_kept (λ (y : Cell). y.overtaken) s j c refl k ∙ m.overtaken;
            value = λ u. put_at (λ (y : Cell). cond y.staged y.value u) s j c e h.sized k g ∙ ap (λ t. cond (eqb j k) v t) (m.value u);
          });
    }

-- ---- the other door's commit

either_way : (o r s : Bool) → (o || r && s) ≡ (s && r || o)
either_way true true true = refl
either_way true true false = refl
either_way true false true = refl
either_way true false false = refl
either_way false true true = refl
either_way false true false = refl
either_way false false true = refl
either_way false false false = refl

commit_known : (door : ℕ) (m s : Session) (past : History) (x : Step × Reply) → deed x ≡ commits (other_door door) → m.live ≡ true
    → Known (other_door door) m past → Known door s past → Known door (overtaken_session m s) (x ∷ past)
unfolding overtaken_session cell_at marked_by
commit_known door m s past x d a f h =
    let same : eqb (other_door door) (other_door door) ≡ true = eq-eqb (other_door door) (other_door door) refl in
    record {
      sized = overtaken_length m.cells s.cells ∙ h.sized;
      tells = λ l k g.
          let p = f.tells a k g in
          let q = h.tells l k g in
          let c : Cell = get_or m.cells (k - 1) blank_cell in
          let e : Cell = get_or s.cells (k - 1) blank_cell in
          rw (d, same, marks_at m.cells s.cells (k - 1)) (record {
            staged = q.staged;
            read = q.read;
            overtaken = either_way e.overtaken e.read c.staged ∙ rw (p.staged, q.read, q.overtaken);
            value = q.value;
          });
    }

-- ---- a step and both sessions

pub record Both (w : World) (past : History) : Type 0 where
  pub keypad : Known 1 w.state.keypad past
  pub port : Known 2 w.state.port past

idle_both : (x : Step × Reply) (w : World) (past : History) → deed x ≡ nothing → Both w past → Both w (x ∷ past)
idle_both x w past e b = record {
  keypad = idle_known 1 w.state.keypad past x (rw e (idle_nothing 1)) b.keypad;
  port = idle_known 2 w.state.port past x (rw e (idle_nothing 2)) b.port;
}

-- the doors are 1 and 2
pub each_door : (P : ℕ → Type 0) → P 1 → P 2 → (door : ℕ) → no_door door ≡ false → P door
each_door P p q zero e = absurd (true≢false e)
each_door P p q (suc zero) e = p
each_door P p q (suc (suc zero)) e = q
each_door P p q (suc (suc (suc n))) e =
    absurd (omega (arith, ltb-false 2 (suc (suc (suc n))) (or_false_right (ltb (suc (suc (suc n))) 1) (ltb 2 (suc (suc (suc n)))) e)))

-- the session at a door
pub known_at : (w : World) (past : History) → Both w past → (door : ℕ) → no_door door ≡ false → Known door (session_at w.state door) past
unfolding session_at
known_at w past b = each_door (λ door. Known door (session_at w.state door) past) b.keypad b.port

module _ (w : World) (past : History) (b : Both w past) (a : Reply) (done : eqb (number_of a) 0 ≡ true) where
  begin_both : (door : ℕ) → no_door door ≡ false → Both (after (Call door Begin) w) ((Call door Begin, a) ∷ past)
  unfolding with_session placed other_at
  begin_both = each_door (λ door. Both (after (Call door Begin) w) ((Call door Begin, a) ∷ past))
      (record {
        keypad = begun_known 1 past (Call 1 Begin, a) (rw done);
        port = idle_known 2 w.state.port past (Call 1 Begin, a) (rw done (idle_begins 2 1 refl)) b.port;
      })
      (record {
        keypad = idle_known 1 w.state.keypad past (Call 2 Begin, a) (rw done (idle_begins 1 2 refl)) b.keypad;
        port = begun_known 2 past (Call 2 Begin, a) (rw done);
      })

  abandon_both : (door : ℕ) → no_door door ≡ false → Both (after (Call door Abandon) w) ((Call door Abandon, a) ∷ past)
  unfolding with_session placed other_at
  abandon_both = each_door (λ door. Both (after (Call door Abandon) w) ((Call door Abandon, a) ∷ past))
      (record {
        keypad = none_known 1 ((Call 1 Abandon, a) ∷ past);
        port = idle_known 2 w.state.port past (Call 1 Abandon, a) (rw done (idle_nothing 2)) b.port;
      })
      (record {
        keypad = idle_known 1 w.state.keypad past (Call 2 Abandon, a) (rw done (idle_nothing 1)) b.keypad;
        port = none_known 2 ((Call 2 Abandon, a) ∷ past);
      })

  read_both : (j : ℕ) → no_such_setting j ≡ false → (door : ℕ) → no_door door ≡ false → Both (after (Call door (Read j)) w) ((Call door (Read j), a) ∷ past)
  unfolding read_after with_session placed other_at session_at
  read_both j e = each_door (λ door. Both (after (Call door (Read j)) w) ((Call door (Read j), a) ∷ past))
      (record {
        keypad = read_known 1 w.state.keypad past (Call 1 (Read j), a) j (rw done) e b.keypad;
        port = idle_known 2 w.state.port past (Call 1 (Read j), a) (rw done (idle_reads 2 1 j refl)) b.port;
      })
      (record {
        keypad = idle_known 1 w.state.keypad past (Call 2 (Read j), a) (rw done (idle_reads 1 2 j refl)) b.keypad;
        port = read_known 2 w.state.port past (Call 2 (Read j), a) j (rw done) e b.port;
      })

  write_both : (j : ℕ) (v : Value) → no_such_setting j ≡ false → (door : ℕ) → no_door door ≡ false → Both (after (Call door (Write j v)) w) ((Call door (Write j v), a) ∷ past)
  unfolding write_after with_session placed other_at session_at
  write_both j v e = each_door (λ door. Both (after (Call door (Write j v)) w) ((Call door (Write j v), a) ∷ past))
      (record {
        keypad = write_known 1 w.state.keypad past (Call 1 (Write j v), a) j v (rw done) e b.keypad;
        port = idle_known 2 w.state.port past (Call 1 (Write j v), a) (rw done (idle_writes 2 1 j v refl)) b.port;
      })
      (record {
        keypad = idle_known 1 w.state.keypad past (Call 2 (Write j v), a) (rw done (idle_writes 1 2 j v refl)) b.keypad;
        port = write_known 2 w.state.port past (Call 2 (Write j v), a) j v (rw done) e b.port;
      })

  commit_both : (door : ℕ) → no_door door ≡ false → (session_at w.state door).live ≡ true → Both (after (Commit door) w) ((Commit door, a) ∷ past)
  unfolding committed placed other_at session_at
  commit_both = each_door (λ door. (session_at w.state door).live ≡ true → Both (after (Commit door) w) ((Commit door, a) ∷ past))
      (λ l. record {
        keypad = none_known 1 ((Commit 1, a) ∷ past);
        port = commit_known 2 w.state.keypad w.state.port past (Commit 1, a) (rw done) l b.keypad b.port;
      })
      (λ l. record {
        keypad = commit_known 1 w.state.port w.state.keypad past (Commit 2, a) (rw done) l b.port b.keypad;
        port = none_known 2 ((Commit 2, a) ∷ past);
      })

  done_both : (x : Step) → first_of (rows_of x w) ≡ 0 → Both (after x w) ((x, a) ∷ past)
  unfolding cycled turned cleared ticked
  done_both (Cycle r) z = idle_both (Cycle r, a) (after (Cycle r) w) past (rw done) (record { keypad = b.keypad; port = b.port })
  done_both (Turn turn) z = idle_both (Turn turn, a) (after (Turn turn) w) past (rw done) (record { keypad = b.keypad; port = b.port })
  done_both Clear z = idle_both (Clear, a) (after Clear w) past (rw done) (record { keypad = b.keypad; port = b.port })
  done_both (Tick named) z = idle_both ((Tick named), a) (after (Tick named) w) past (rw done) (record { keypad = b.keypad; port = b.port })
  done_both (Ask question) z = idle_both (Ask question, a) w past (rw done) b
  done_both (Call door Begin) z = begin_both door (silent (rows_of (Call door Begin) w) refl z 3)
  done_both (Call door Abandon) z = abandon_both door (silent (rows_of (Call door Abandon) w) refl z 3)
  done_both (Commit door) z =
      commit_both door (silent (rows_of (Commit door) w) refl z 3) (not_false (session_at w.state door).live (silent (rows_of (Commit door) w) refl z 4))
  done_both (Call door (Read j)) z =
      let e = silent (rows_of (Call door (Read j)) w) refl z 3 in
      read_both j (or_false_right (no_door door) (no_such_setting j) e) door (or_false_left (no_door door) (no_such_setting j) e)
  done_both (Call door (Write j v)) z =
      let e = silent (rows_of (Call door (Write j v)) w) refl z 3 in
      write_both j v (or_false_right (no_door door) (no_such_setting j) e) door (or_false_left (no_door door) (no_such_setting j) e)

-- a refusal leaves the sessions, but that 10, 11 and 12 at a commit end its session
ended_both : (w : World) (past : History) (door : ℕ) → Both w past → (t u : Bool) → eqb door 1 ≡ t → (s : State) → cond u (with_session w.state door no_session) w.state ≡ s
    → Known 1 s.keypad past × Known 2 s.port past
unfolding with_session placed other_at
ended_both w past door b true true e s q = rw (← q, e) (none_known 1 past, b.port)
ended_both w past door b false true e s q = rw (← q, e) (b.keypad, none_known 2 past)
ended_both w past door b t false e s q = rw (← q) (b.keypad, b.port)

refused_both : (x : Step) (w : World) (n : ℕ) (past : History) → Both w past → Both (refused_by x w n) past
unfolding refused_commit
refused_both (Cycle r) w n past b = b
refused_both (Turn turn) w n past b = b
refused_both Clear w n past b = b
refused_both (Tick named) w n past b = b
refused_both (Ask question) w n past b = b
refused_both (Call door act) w n past b = b
refused_both (Commit door) w n past b =
    let (p, q) = ended_both w past door b (eqb door 1) (ends_refused n) refl (refused_by (Commit door) w n).state refl in
    record { keypad = p; port = q }

step_both_by : (x : Step) (w : World) (past : History) (a : Reply) (k : ℕ) → first_of (rows_of x w) ≡ k → number_of a ≡ k → (t : Bool) → eqb k 0 ≡ t → Both w past
    → Both (cond t (after x w) (refused_by x w k)) ((x, a) ∷ past)
step_both_by x w past a k z e true q b = done_both w past b a (rw e q) x (z ∙ eqb-true k 0 q)
step_both_by x w past a k z e false q b = idle_both (x, a) (refused_by x w k) past (rw (e, q)) (refused_both x w k past b)

pub step_both : (x : Step) (w : World) (past : History) → Both w past → Both (step x w).0 ((x, (step x w).1) ∷ past)
step_both x w past b =
    let k = first_of (rows_of x w) in
    rw (world_is x w) (step_both_by x w past (step x w).1 k refl (number_is x w) (eqb k 0) refl b)

run_both : (xs : List Step) (w : World) (past : History) → Both w past → Both (run corrector xs w).1 (reverse_aux (trace corrector xs w) past)
run_both [] w past b = b
run_both (x ∷ xs) w past b = run_both xs (step x w).0 ((x, (step x w).1) ∷ past) (step_both x w past b)

-- ---- a run from a start

pub fresh_both : (t : Bool) (time supcode custcode : ℕ) → Known 1 (cond t (fresh time supcode custcode) (fresh 0 0 0)).keypad [] × Known 2 (cond t (fresh time supcode custcode) (fresh 0 0 0)).port []
unfolding fresh
fresh_both true time supcode custcode = (none_known 1 [], none_known 2 [])
fresh_both false time supcode custcode = (none_known 1 [], none_known 2 [])

pub same_below : (f g : ℕ → Bool) (n : ℕ) → ((k : ℕ) → k < n → f k ≡ g k) → any_below f n ≡ any_below g n
unfolding any_below
same_below f g zero h = refl
same_below f g (suc n) h = rw (h n (omega arith), same_below f g n (λ k l. h k (omega arith)))

pub in_table : (k : ℕ) → k < setting_count → no_such_setting (k + 1) ≡ false
in_table k l = rw (le-ltb (k + 1) 1 (omega arith), le-ltb setting_count (k + 1) (omega arith))

-- of the rows before 11: the door is one, and has a session
passed : (a b c d : Bool) → (a || (b || (c || d))) ≡ false → (b ≡ false) × (c ≡ false)
passed a b c d e =
    let p = or_false_right a (b || (c || d)) e in
    (or_false_left b (c || d) p, or_false_left c d (or_false_right b (c || d) p))

module _ (xs : List Step) (time supcode custcode : ℕ) (archive : List ArchiveLine) (log : List LogLine) (audit : List AuditLine) where
  abbrev start : World
  start = started time supcode custcode archive log audit

  abbrev end : World
  end = (run corrector xs start).1

  pub both : Both end (history xs start)
  unfolding start_of
  both =
      let (p, q) = fresh_both (eqb (start_refusal time) 0) time supcode custcode in
      run_both xs start [] (record { keypad = p; port = q })

  known : (door : ℕ) → no_door door ≡ false → Known door (session_at end.state door) (history xs start)
  known = known_at end (history xs start) both

  -- WHAT AN OPEN SESSION'S CELLS SAY OF A SETTING IS WHAT THE HISTORY SAYS: staged and at which value, read, overtaken
  pub marks_exactly : (door setting : ℕ) → no_door door ≡ false → no_such_setting setting ≡ false → (session_at end.state door).live ≡ true
      → Marks (cell_at (session_at end.state door) setting) (has_staged door setting (history xs start)) (has_read door setting (history xs start)) (overtaken_in door setting (history xs start))
      (λ v. last_written door setting v (history xs start))
  marks_exactly door setting d k l = (known door d).tells l setting k

  stale_same : (door : ℕ) → no_door door ≡ false → (session_at end.state door).live ≡ true → stale_b (session_at end.state door).cells ≡ stale door (history xs start)
  unfolding stale_b overtaken_at cell_at
  stale_same door d l =
      same_below (λ k. (get_or (session_at end.state door).cells k blank_cell).overtaken) (λ k. overtaken_in door (k + 1) (history xs start)) setting_count
      (λ k h. let p : k + 1 - 1 ≡ k = omega arith in rw p at (marks_exactly door (k + 1) d (in_table k h) l).overtaken)

  -- A COMMIT IS REFUSED BY 11 EXACTLY WHEN THE HISTORY CALLS IT STALE, where 1, 3, 4 and 10 do not come first
  pub stale_exactly : (door : ℕ)
      → (number_of (step (Commit door) end).1 ≡ 11) ↔ ((earlier 11 (rows_of (Commit door) end) ≡ false) × (stale door (history xs start) ≡ true))
  stale_exactly door = refused_when (Commit door) end 11 (omega arith) (stale door (history xs start)) same
    where
      same : earlier 11 (rows_of (Commit door) end) ≡ false → stale_b (session_at end.state door).cells ≡ stale door (history xs start)
      same e =
          let live : Bool = (session_at end.state door).live in
          let (p, q) = passed (unsound end (eqb (length end.audit) audit_lines)) (no_door door) (not live) (lock_missing end.state.core.locks (session_at end.state door).cells || false) e in
          stale_same door p (not_false live q)
