-- What the steps of a session leave alone: a commit refused by 10, 11 or 12 ends the session, and any other refusal leaves it; begin, read,
-- write and abandon change nothing of the core nor of the other door's session; what was read stays read. A second write of a setting replaces the
-- first. And a line of the audit trail.
-- Assumes nothing.
use mathlib.Core.Path.{◌≡◌, refl, sym, ap, ◌∙◌}
use mathlib.Core.Bool.{Bool, true, false, not, cond, ◌&&◌, false≢true}
use mathlib.Core.List.{List}
use Prim.Native.Nat.{ℕ, ◌-◌, ◌<◌}
use native.Mathlib.Omega.{arith}
use lib.Dec.{ltb, eqb}
use lib.ListN.{length, get_or, set, length-set}
use lib.Seq.{get_or-set_same, get_or-set_other, set_out}
use borrow.Author.Tests.{ltb-true, ltb-false, eqb-true, eqb-false, eq-eqb}
use Rattle.ground.proofs.Flags.{Either, is_true, is_false, either_of, and_left}
use Rattle.settings.specs.declared.Value.{Value}
use Rattle.settings.specs.Settings.{setting_count}
use Rattle.ring.specs.Ring.{audit_lines}
use Rattle.ring.specs.Store.{written, held_lines}
use Rattle.books.specs.declared.AuditLine.{AuditLine}
use Rattle.books.specs.Books.{no_audit}
use Rattle.state.specs.declared.Cell.{Cell}
use Rattle.state.specs.declared.Session.{Session}
use Rattle.state.specs.declared.Core.{Core}
use Rattle.state.specs.declared.State.{State}
use Rattle.state.specs.State.{blank_cell, no_session, whole_b}
use Rattle.state.proofs.Card.{passes, not_false}
use Rattle.commands.specs.declared.Given.TheVariants as given
use Rattle.asked.specs.Asked.{line_given}
use Rattle.doors.specs.Doors.{session_at, other_at, placed, with_session, cell_at, with_cell, begun, begin_refusal, begin_by, begin_of, abandon_refusal, abandon_by, abandon_of, read_refusal, marked_read, read_after, read_by, read_of, write_refusal, staged_cell, write_after, write_by, write_of, commit_refusal, commit_lines, committed, ends_refused, refused_commit, commit_of, audit_line_of}
use Rattle.doors.proofs.Stays.{read_accepted, write_accepted, begin_whole, abandon_whole, read_whole, write_whole}

-- ---- a commit, done or refused

number_by : (s : State) (door : ℕ) (l : List AuditLine) → Either (eqb (commit_refusal (whole_b s) s door (length l)) 0) →
    (commit_of s door l).answer.reply.number ≡ commit_refusal (whole_b s) s door (length l)
unfolding commit_of
number_by s door l (is_true t) = rw t (sym (eqb-true (commit_refusal (whole_b s) s door (length l)) 0 t))
number_by s door l (is_false f) = rw f

pub commit_number : (s : State) (door : ℕ) (l : List AuditLine) → (commit_of s door l).answer.reply.number ≡ commit_refusal (whole_b s) s door (length l)
commit_number s door l = number_by s door l (either_of (eqb (commit_refusal (whole_b s) s door (length l)) 0))

pub refused_kept : (s : State) (door number : ℕ) → ends_refused number ≡ false → refused_commit s door number ≡ s
unfolding refused_commit
refused_kept s door number h = rw h

pub refused_ended : (s : State) (door number : ℕ) → ends_refused number ≡ true → refused_commit s door number ≡ with_session s door no_session
unfolding refused_commit
refused_ended s door number h = rw h

done_by : (s : State) (door : ℕ) (l : List AuditLine) → eqb (commit_refusal (whole_b s) s door (length l)) 0 ≡ true →
    ((commit_of s door l).answer.state ≡ committed s door) × ((commit_of s door l).audit ≡ written audit_lines s.core.stores.audit.ring l (commit_lines s door))
unfolding commit_of
done_by s door l t = (rw t, rw t)

pub commit_done : (s : State) (door : ℕ) (l : List AuditLine) → (commit_of s door l).answer.reply.number ≡ 0 →
    ((commit_of s door l).answer.state ≡ committed s door) × ((commit_of s door l).audit ≡ written audit_lines s.core.stores.audit.ring l (commit_lines s door))
commit_done s door l e = done_by s door l (eq-eqb (commit_refusal (whole_b s) s door (length l)) 0 (sym (commit_number s door l) ∙ e))

-- ---- the two sessions of a placed state

mine_by_lem : (c : Core) (door : ℕ) (x y : Session) → Either (eqb door 1) → session_at (placed c door x y) door ≡ x
unfolding session_at placed
mine_by_lem c door x y (is_true t) = rw t
mine_by_lem c door x y (is_false f) = rw f

pub placed_mine : (c : Core) (door : ℕ) (x y : Session) → session_at (placed c door x y) door ≡ x
placed_mine c door x y = mine_by_lem c door x y (either_of (eqb door 1))

theirs_by_lem : (c : Core) (door : ℕ) (x y : Session) → Either (eqb door 1) → other_at (placed c door x y) door ≡ y
unfolding other_at placed
theirs_by_lem c door x y (is_true t) = rw t
theirs_by_lem c door x y (is_false f) = rw f

pub placed_theirs : (c : Core) (door : ℕ) (x y : Session) → other_at (placed c door x y) door ≡ y
placed_theirs c door x y = theirs_by_lem c door x y (either_of (eqb door 1))

pub placed_core : (c : Core) (door : ℕ) (x y : Session) → (placed c door x y).core ≡ c
unfolding placed
placed_core c door x y = refl

pub with_mine : (s : State) (door : ℕ) (x : Session) → session_at (with_session s door x) door ≡ x
unfolding with_session
with_mine s door x = placed_mine s.core door x (other_at s door)

pub with_theirs : (s : State) (door : ℕ) (x : Session) → other_at (with_session s door x) door ≡ other_at s door
unfolding with_session
with_theirs s door x = placed_theirs s.core door x (other_at s door)

pub with_core_lem : (s : State) (door : ℕ) (x : Session) → (with_session s door x).core ≡ s.core
unfolding with_session placed
with_core_lem s door x = refl

-- ---- begin, read, write and abandon change nothing of the core, nor of the other door's session

pub record Beside (door : ℕ) (s t : State) : Type 0 where
  pub core : t.core ≡ s.core
  pub other : other_at t door ≡ other_at s door
  pub whole : whole_b t ≡ whole_b s

pub beside_itself : (door : ℕ) (s : State) → Beside door s s
beside_itself door s = record { core = refl; other = refl; whole = refl }

chosen_beside : (b : Bool) (door : ℕ) (s : State) (x : Session) → (b ≡ true → whole_b s ≡ true) → (whole_b s ≡ true → whole_b (cond b (with_session s door x) s) ≡ true) →
    Beside door s (cond b (with_session s door x) s)
chosen_beside true door s x w g = record { core = with_core_lem s door x; other = with_theirs s door x; whole = g (w refl) ∙ sym (w refl) }
chosen_beside false door s x w g = beside_itself door s

pub begin_knows : (s : State) (door : ℕ) → begin_refusal (whole_b s) s door ≡ 0 → whole_b s ≡ true
unfolding begin_refusal
begin_knows s door z = not_false (whole_b s) (passes 1 (not (whole_b s)) _ (omega arith) z).here

pub begin_beside : (s : State) (door : ℕ) → Beside door s (begin_of s door).state
unfolding begin_by
begin_beside s door =
    chosen_beside (eqb (begin_refusal (whole_b s) s door) 0) door s begun (λ t. begin_knows s door (eqb-true (begin_refusal (whole_b s) s door) 0 t)) (begin_whole s door)

pub abandon_knows : (s : State) (door : ℕ) → abandon_refusal (whole_b s) s door ≡ 0 → whole_b s ≡ true
unfolding abandon_refusal
abandon_knows s door z = not_false (whole_b s) (passes 1 (not (whole_b s)) _ (omega arith) z).here

pub abandon_beside : (s : State) (door : ℕ) → Beside door s (abandon_of s door).state
unfolding abandon_by
abandon_beside s door =
    chosen_beside (eqb (abandon_refusal (whole_b s) s door) 0) door s no_session (λ t. abandon_knows s door (eqb-true (abandon_refusal (whole_b s) s door) 0 t)) (abandon_whole s door)

pub read_beside : (s : State) (door setting : ℕ) → Beside door s (read_of s door setting).state
unfolding read_by read_after
read_beside s door setting =
    chosen_beside (eqb (read_refusal (whole_b s) s door setting) 0) door s (with_cell (session_at s door) setting (marked_read (cell_at (session_at s door) setting)))
    (λ t. (read_accepted s door setting (eqb-true (read_refusal (whole_b s) s door setting) 0 t)).0.whole)
    (read_whole s door setting)

pub write_beside : (s : State) (door setting : ℕ) (v : Value) → Beside door s (write_of s door setting v).state
unfolding write_by write_after
write_beside s door setting v =
    chosen_beside (eqb (write_refusal (whole_b s) s door setting v) 0) door s (with_cell (session_at s door) setting (staged_cell (cell_at (session_at s door) setting) v))
    (λ t. (write_accepted s door setting v (eqb-true (write_refusal (whole_b s) s door setting v) 0 t)).0.whole)
    (write_whole s door setting v)

-- ---- what was read stays read

keeps_by : {A : Type 0} (f : Cell → A) (cells : List Cell) (i : ℕ) (c : Cell) → f c ≡ f (get_or cells i blank_cell) → (k : ℕ) →
    Either (eqb k i) → Either (ltb i (length cells)) → f (get_or (set cells i c) k blank_cell) ≡ f (get_or cells k blank_cell)
keeps_by f cells i c e k (is_true t) (is_true l) = rw (eqb-true k i t, get_or-set_same cells i c blank_cell (ltb-true i (length cells) l)) e
keeps_by f cells i c e k (is_true t) (is_false o) = rw (set_out cells i c (ltb-false i (length cells) o))
keeps_by f cells i c e k (is_false n) l = rw (get_or-set_other cells i k c blank_cell (eqb-false k i n))

-- what an entry that is put says like the old one, every entry says as before
put_keeps : {A : Type 0} (f : Cell → A) (x : Session) (setting : ℕ) (c : Cell) → f c ≡ f (cell_at x setting) → (k : ℕ) →
    f (get_or (with_cell x setting c).cells k blank_cell) ≡ f (get_or x.cells k blank_cell)
unfolding with_cell cell_at
put_keeps f x setting c e k =
    keeps_by f x.cells (setting - 1) c e k (either_of (eqb k (setting - 1))) (either_of (ltb (setting - 1) (length x.cells)))

chosen_keeps : {A : Type 0} (f : Cell → A) (b : Bool) (s : State) (door : ℕ) (x : Session) →
    ((k : ℕ) → f (get_or x.cells k blank_cell) ≡ f (get_or (session_at s door).cells k blank_cell)) → (k : ℕ) →
    f (get_or (session_at (cond b (with_session s door x) s) door).cells k blank_cell) ≡ f (get_or (session_at s door).cells k blank_cell)
chosen_keeps f true s door x g k = rw (with_mine s door x) (g k)
chosen_keeps f false s door x g k = refl

-- a write takes no "read" back, nor a mark of the other door
pub write_keeps_read : (s : State) (door setting : ℕ) (v : Value) (k : ℕ) →
    (get_or (session_at (write_of s door setting v).state door).cells k blank_cell).read ≡ (get_or (session_at s door).cells k blank_cell).read
unfolding write_by write_after staged_cell
write_keeps_read s door setting v =
    chosen_keeps (λ c. c.read) (eqb (write_refusal (whole_b s) s door setting v) 0) s door (with_cell (session_at s door) setting (staged_cell (cell_at (session_at s door) setting) v))
    (put_keeps (λ c. c.read) (session_at s door) setting (staged_cell (cell_at (session_at s door) setting) v) refl)

pub write_keeps_marks : (s : State) (door setting : ℕ) (v : Value) (k : ℕ) →
    (get_or (session_at (write_of s door setting v).state door).cells k blank_cell).overtaken ≡ (get_or (session_at s door).cells k blank_cell).overtaken
unfolding write_by write_after staged_cell
write_keeps_marks s door setting v =
    chosen_keeps (λ c. c.overtaken) (eqb (write_refusal (whole_b s) s door setting v) 0) s door (with_cell (session_at s door) setting (staged_cell (cell_at (session_at s door) setting) v))
    (put_keeps (λ c. c.overtaken) (session_at s door) setting (staged_cell (cell_at (session_at s door) setting) v) refl)

-- nor does a read take a mark back
pub read_keeps_marks : (s : State) (door setting k : ℕ) →
    (get_or (session_at (read_of s door setting).state door).cells k blank_cell).overtaken ≡ (get_or (session_at s door).cells k blank_cell).overtaken
unfolding read_by read_after marked_read
read_keeps_marks s door setting =
    chosen_keeps (λ c. c.overtaken) (eqb (read_refusal (whole_b s) s door setting) 0) s door (with_cell (session_at s door) setting (marked_read (cell_at (session_at s door) setting)))
    (put_keeps (λ c. c.overtaken) (session_at s door) setting (marked_read (cell_at (session_at s door) setting)) refl)

-- a read marks its setting, and takes no earlier "read" back
marked_by_lem : (x : Session) (setting k : ℕ) → Either (eqb k (setting - 1)) → Either (ltb (setting - 1) (length x.cells)) → (get_or x.cells k blank_cell).read ≡ true →
    (get_or (with_cell x setting (marked_read (cell_at x setting))).cells k blank_cell).read ≡ true
unfolding with_cell marked_read
marked_by_lem x setting k (is_true t) (is_true l) e =
    rw (eqb-true k (setting - 1) t, get_or-set_same x.cells (setting - 1) (marked_read (cell_at x setting)) blank_cell (ltb-true (setting - 1) (length x.cells) l))
marked_by_lem x setting k (is_true t) (is_false o) e = rw (set_out x.cells (setting - 1) (marked_read (cell_at x setting)) (ltb-false (setting - 1) (length x.cells) o)) e
marked_by_lem x setting k (is_false n) l e = rw (get_or-set_other x.cells (setting - 1) k (marked_read (cell_at x setting)) blank_cell (eqb-false k (setting - 1) n)) e

chosen_marked : (b : Bool) (s : State) (door setting k : ℕ) → (get_or (session_at s door).cells k blank_cell).read ≡ true →
    (get_or (session_at (cond b (with_session s door (with_cell (session_at s door) setting (marked_read (cell_at (session_at s door) setting)))) s) door).cells k blank_cell).read ≡ true
chosen_marked true s door setting k e =
    rw (with_mine s door (with_cell (session_at s door) setting (marked_read (cell_at (session_at s door) setting))))
    (marked_by_lem (session_at s door) setting k (either_of (eqb k (setting - 1))) (either_of (ltb (setting - 1) (length (session_at s door).cells))) e)
chosen_marked false s door setting k e = e

pub read_keeps_read : (s : State) (door setting k : ℕ) → (get_or (session_at s door).cells k blank_cell).read ≡ true →
    (get_or (session_at (read_of s door setting).state door).cells k blank_cell).read ≡ true
unfolding read_by read_after
read_keeps_read s door setting = chosen_marked (eqb (read_refusal (whole_b s) s door setting) 0) s door setting

pub read_marks : (s : State) (door setting : ℕ) → length (session_at s door).cells ≡ setting_count → (read_of s door setting).reply.number ≡ 0 →
    (cell_at (session_at (read_of s door setting).state door) setting).read ≡ true
unfolding read_by read_after with_cell cell_at marked_read
read_marks s door setting e z =
    let inside : setting - 1 < length (session_at s door).cells = omega (arith, (read_accepted s door setting z).1) in
    rw (eq-eqb (read_refusal (whole_b s) s door setting) 0 z, with_mine s door (with_cell (session_at s door) setting (marked_read (cell_at (session_at s door) setting))), get_or-set_same (session_at s door).cells (setting - 1) (marked_read (cell_at (session_at s door) setting)) blank_cell inside)

-- ---- a second write of a setting replaces the first

-- the session at the door has staged v for the setting
pub record Staged (s : State) (door setting : ℕ) (v : Value) : Type 0 where
  pub is_staged : (cell_at (session_at s door) setting).staged ≡ true
  pub its_value : (cell_at (session_at s door) setting).value ≡ v

written_cell : (s : State) (door setting : ℕ) (v : Value) → length (session_at s door).cells ≡ setting_count → (write_of s door setting v).reply.number ≡ 0 →
    cell_at (session_at (write_of s door setting v).state door) setting ≡ staged_cell (cell_at (session_at s door) setting) v
unfolding write_by write_after with_cell cell_at
written_cell s door setting v e z =
    let x : Session = with_cell (session_at s door) setting (staged_cell (cell_at (session_at s door) setting) v) in
    let inside : setting - 1 < length (session_at s door).cells = omega (arith, (write_accepted s door setting v z).1) in
    rw (eq-eqb (write_refusal (whole_b s) s door setting v) 0 z, with_mine s door x)
    (get_or-set_same (session_at s door).cells (setting - 1) (staged_cell (cell_at (session_at s door) setting) v) blank_cell inside)

pub write_stages : (s : State) (door setting : ℕ) (v : Value) → length (session_at s door).cells ≡ setting_count → (write_of s door setting v).reply.number ≡ 0 →
    Staged (write_of s door setting v).state door setting v
unfolding staged_cell
write_stages s door setting v e z =
    let c = written_cell s door setting v e z in
    record { is_staged = ap (λ (x : Cell). x.staged) c; its_value = ap (λ (x : Cell). x.value) c }

chosen_length : (b : Bool) (s : State) (door setting : ℕ) (c : Cell) →
    length (session_at (cond b (with_session s door (with_cell (session_at s door) setting c)) s) door).cells ≡ length (session_at s door).cells
unfolding with_cell
chosen_length true s door setting c = rw (with_mine s door (with_cell (session_at s door) setting c)) (length-set (session_at s door).cells (setting - 1) c)
chosen_length false s door setting c = refl

write_length : (s : State) (door setting : ℕ) (v : Value) → length (session_at (write_of s door setting v).state door).cells ≡ length (session_at s door).cells
unfolding write_by write_after
write_length s door setting v = chosen_length (eqb (write_refusal (whole_b s) s door setting v) 0) s door setting (staged_cell (cell_at (session_at s door) setting) v)

-- AFTER TWO ACCEPTED WRITES OF A SETTING THE SESSION HAS STAGED THE SECOND
pub write_replaces : (s : State) (door setting : ℕ) (v w : Value) → length (session_at s door).cells ≡ setting_count →
    (write_of s door setting v).reply.number ≡ 0 → (write_of (write_of s door setting v).state door setting w).reply.number ≡ 0 →
    Staged (write_of (write_of s door setting v).state door setting w).state door setting w
write_replaces s door setting v w e z y = write_stages (write_of s door setting v).state door setting w (write_length s door setting v ∙ e) y

-- ---- a commit that is refused and ends its session

past_first : (b : Bool) (rest : ℕ) → ends_refused (cond b 1 rest) ≡ true → b ≡ false
past_first true rest h = absurd (false≢true h)
past_first false rest h = refl

-- a commit that ends its session without putting anything in force was tried on a whole state
pub ended_knows : (s : State) (door n : ℕ) → ends_refused (commit_refusal (whole_b s) s door n) ≡ true → whole_b s ≡ true
unfolding commit_refusal
ended_knows s door n h = and_left (whole_b s) (eqb n audit_lines) (not_false (whole_b s && eqb n audit_lines) (past_first (not (whole_b s && eqb n audit_lines)) _ h))

-- ---- a line of the audit trail

-- a line that is given is line i of those held, newest first
pub audit_line_held : (s : State) (i : ℕ) (audit : List AuditLine) → (audit_line_of s i audit).number ≡ 0
    → (audit_line_of s i audit).given ≡ given.Audit (get_or (held_lines audit_lines no_audit s.core.stores.audit.ring audit) i no_audit)
unfolding line_given
audit_line_held s i audit e = rw e
