-- A call at a door: what it does to the session at the door, with any session at the other door. A clause for each kind of call.
-- Assumes nothing.
use mathlib.Core.Path.{◌≡◌, refl, ap, ◌∙◌, subst}
use mathlib.Core.Bool.{Bool, true, false, not, cond}
use mathlib.Core.List.{List, [], ◌∷◌}
use Prim.Native.Nat.{ℕ, ◌-◌}
use native.Mathlib.Omega.{arith}
use lib.Dec.{eqb}
use lib.ListN.{length, get_or}
use Rattle.order.specs.Order.{Door, keypad, port, Act, Role, aside, at}
use Rattle.settings.specs.declared.Value.{Value}
use Rattle.settings.specs.Settings.{setting_count, no_setting, fits_b, ordered_b}
use Rattle.ring.specs.Ring.{audit_lines}
use Rattle.ring.specs.Store.{written}
use Rattle.books.specs.declared.AuditLine.{AuditLine}
use Rattle.state.specs.declared.Core.{Core}
use Rattle.state.specs.declared.Session.{Session}
use Rattle.state.specs.declared.State.{State}
use Rattle.state.specs.State.{no_session, whole_b}
use Rattle.state.specs.Card.{first_of}
use Rattle.doors.specs.Doors.{no_door, no_such_setting, session_at, other_at, placed, with_session, cell_at, with_cell, begun, begin_refusal, begin_by, abandon_refusal, abandon_by, read_refusal, value_read, marked_read, read_after, read_by, write_refusal, staged_cell, write_after, write_by, lock_missing, stale_b, as_stand, commit_refusal, changes_among, audited, commit_lines, overtaken_session, committed_core, committed, ends_refused, refused_commit, commit_of}
use Rattle.state.proofs.Sound.{SoundCore}
use Rattle.doors.proofs.Stays.{commit_accepted, core_stays}
use Rattle.runs.specs.Exactly.{Rows}
use Rattle.runs.specs.Run.{Step, Cycle, Turn, Clear, Tick, Ask, Call, Commit, Begin, Read, Write, Abandon, World, Reply, plain, giving, step, role_at, role, Body}
use Rattle.commands.specs.declared.Given.TheVariants as given

-- ---- doors by their numbers

abbrev pub is_keypad : Door → Bool
is_keypad keypad = true
is_keypad port = false

pub record AtDoor (door : ℕ) (d : Door) : Type 0 where
  pub is_door : no_door door ≡ false
  pub which : eqb door 1 ≡ is_keypad d

-- a state and a world, from the door d: the core, the session at the door, and the other door's
abbrev pub state_at : Door → Core → Session → Session → State
state_at keypad c m t = record { core = c; keypad = m; port = t }
state_at port c m t = record { core = c; keypad = t; port = m }

abbrev pub world_at : Door → Body → Session → Session → World
world_at d b m t = record { state = state_at d b.core m t; archive = b.archive; log = b.log; audit = b.audit }

core_at : (d : Door) (c : Core) (m t : Session) → (state_at d c m t).core ≡ c
core_at keypad c m t = refl
core_at port c m t = refl

module _ {door : ℕ} where
  session_at_lem : {d : Door} → AtDoor door d → (c : Core) (m t : Session) → session_at (state_at d c m t) door ≡ m
  unfolding session_at
  session_at_lem {d = keypad} a c m t = rw a.which
  session_at_lem {d = port} a c m t = rw a.which

  other_at_lem : {d : Door} → AtDoor door d → (c : Core) (m t : Session) → other_at (state_at d c m t) door ≡ t
  unfolding other_at
  other_at_lem {d = keypad} a c m t = rw a.which
  other_at_lem {d = port} a c m t = rw a.which

  placed_at : {d : Door} → AtDoor door d → (c : Core) (m t : Session) → placed c door m t ≡ state_at d c m t
  unfolding placed
  placed_at {d = keypad} a c m t = rw a.which
  placed_at {d = port} a c m t = rw a.which

  with_session_lem : {d : Door} (a : AtDoor door d) (c : Core) (m t x : Session) → with_session (state_at d c m t) door x ≡ state_at d c x t
  unfolding with_session
  with_session_lem {d} a c m t x = rw (core_at d c m t, other_at_lem a c m t) (placed_at a c x t)

-- ---- the calls

pub data AtCall : Step → Door → Act → Type 0 where
  begins : {door : ℕ} {d : Door} → AtDoor door d → AtCall (Call door Begin) d Act.begin
  reads : {door setting : ℕ} {d : Door} → AtDoor door d → AtCall (Call door (Read setting)) d Act.read
  writes : {door setting : ℕ} {v : Value} {d : Door} → AtDoor door d → AtCall (Call door (Write setting v)) d Act.write
  commits : {door : ℕ} {d : Door} → AtDoor door d → AtCall (Commit door) d Act.commit
  abandons : {door : ℕ} {d : Door} → AtDoor door d → AtCall (Call door Abandon) d Act.abandon

not_aside : {d : Door} {y : Act} → ◌≡◌ {A = Role} aside (at d y) → ⊥
not_aside e = let z : ◌≡◌ {A = ℕ} 0 1 = cc in omega arith

door_by : (door : ℕ) (y : Act) (d : Door) (z : Act) (n k : Bool) → no_door door ≡ n → eqb door 1 ≡ k → role_at door y ≡ at d z → AtDoor door d × (y ≡ z)
door_by door y d z true k p q e = absurd (not_aside (rw p at e))
door_by door y d z false true p q e =
    let f : ◌≡◌ {A = Role} (at keypad y) (at d z) = rw (p, q) at e in
    let g : keypad ≡ d = cc in
    let h : y ≡ z = cc in
    (record { is_door = p; which = q ∙ ap is_keypad g }, h)
door_by door y d z false false p q e =
    let f : ◌≡◌ {A = Role} (at port y) (at d z) = rw (p, q) at e in
    let g : port ≡ d = cc in
    let h : y ≡ z = cc in
    (record { is_door = p; which = q ∙ ap is_keypad g }, h)

-- a call of this kind at a door
at_door : (door : ℕ) (y : Act) (d : Door) (z : Act) → role_at door y ≡ at d z → (x : Step) → (AtDoor door d → AtCall x d y) → AtCall x d z
at_door door y d z o x f =
    let (a, e) = door_by door y d z (no_door door) (eqb door 1) refl refl o in
    subst (λ (w : Act). AtCall x d w) e (f a)

pub call_of_lem : (x : Step) (d : Door) (y : Act) → role x ≡ at d y → AtCall x d y
call_of_lem (Cycle r) d y o = absurd (not_aside o)
call_of_lem (Turn turn) d y o = absurd (not_aside o)
call_of_lem Clear d y o = absurd (not_aside o)
call_of_lem (Tick named) d y o = absurd (not_aside o)
call_of_lem (Ask question) d y o = absurd (not_aside o)
call_of_lem (Call door Begin) d y o = at_door door Act.begin d y o (Call door Begin) begins
call_of_lem (Call door Abandon) d y o = at_door door Act.abandon d y o (Call door Abandon) abandons
call_of_lem (Commit door) d y o = at_door door Act.commit d y o (Commit door) commits
call_of_lem (Call door (Read setting)) d y o = at_door door Act.read d y o (Call door (Read setting)) reads
call_of_lem (Call door (Write setting v)) d y o = at_door door Act.write d y o (Call door (Write setting v)) writes

-- ---- at a door with no session: the answer

abbrev pub outside_of : Step → Body → Reply
outside_of (Cycle r) b = plain 0
outside_of (Turn turn) b = plain 0
outside_of Clear b = plain 0
outside_of (Tick named) b = plain 0
outside_of (Ask question) b = plain 0
outside_of (Call door Begin) b = plain 0
outside_of (Call door Abandon) b = plain 4
outside_of (Commit door) b = plain (cond (eqb (length b.audit) audit_lines) 4 1)
outside_of (Call door (Read setting)) b = plain (cond (no_such_setting setting) 3 4)
outside_of (Call door (Write setting v)) b = plain (cond (no_such_setting setting) 3 4)

module _ {door : ℕ} {d : Door} (a : AtDoor door d) (b : Body) (m t : Session) (w : whole_b (state_at d b.core m t) ≡ true) (o : m.live ≡ false) where
  live_at : (session_at (state_at d b.core m t) door).live ≡ false
  live_at = ap (λ (x : Session). x.live) (session_at_lem a b.core m t) ∙ o

  pub begin_outside : step (Call door Begin) (world_at d b m t) ≡ (world_at d b begun t, plain 0)
  unfolding begin_by begin_refusal
  begin_outside = rw (w, a.is_door, live_at, with_session_lem a b.core m t begun)

  pub abandon_outside : step (Call door Abandon) (world_at d b m t) ≡ (world_at d b m t, plain 4)
  unfolding abandon_by abandon_refusal
  abandon_outside = rw (w, a.is_door, live_at)

  read_outside_by : (setting : ℕ) (n : Bool) → no_such_setting setting ≡ n → step (Call door (Read setting)) (world_at d b m t) ≡ (world_at d b m t, outside_of (Call door (Read setting)) b)
  unfolding read_by read_refusal
  read_outside_by setting true e = rw (w, a.is_door, e)
  read_outside_by setting false e = rw (w, a.is_door, e, live_at)

  pub read_outside : (setting : ℕ) → step (Call door (Read setting)) (world_at d b m t) ≡ (world_at d b m t, outside_of (Call door (Read setting)) b)
  read_outside setting = read_outside_by setting (no_such_setting setting) refl

  write_outside_by : (setting : ℕ) (v : Value) (n : Bool) → no_such_setting setting ≡ n → step (Call door (Write setting v)) (world_at d b m t) ≡ (world_at d b m t, outside_of (Call door (Write setting v)) b)
  unfolding write_by write_refusal
  write_outside_by setting v true e = rw (w, a.is_door, e)
  write_outside_by setting v false e = rw (w, a.is_door, e, live_at)

  pub write_outside : (setting : ℕ) (v : Value) → step (Call door (Write setting v)) (world_at d b m t) ≡ (world_at d b m t, outside_of (Call door (Write setting v)) b)
  write_outside setting v = write_outside_by setting v (no_such_setting setting) refl

  commit_outside_by : (n : Bool) → eqb (length b.audit) audit_lines ≡ n → step (Commit door) (world_at d b m t) ≡ (world_at d b m t, outside_of (Commit door) b)
  unfolding commit_of commit_refusal refused_commit
  commit_outside_by true e = rw (w, e, a.is_door, live_at)
  commit_outside_by false e = rw (w, e)

  pub commit_outside : step (Commit door) (world_at d b m t) ≡ (world_at d b m t, outside_of (Commit door) b)
  commit_outside = commit_outside_by (eqb (length b.audit) audit_lines) refl

-- ---- at a door with a session: the session after it, where it goes on, and the answer

-- read: the setting counts as read, and the answer is the staged value if there is one, else the value in force
abbrev pub read_in : ℕ → Body → Session → Session × Reply
read_in setting b s = (
  with_cell s setting (marked_read (cell_at s setting)),
  giving 0 (given.Value (cond (cell_at s setting).staged (cell_at s setting).value (get_or b.core.settings (setting - 1) no_setting).value)),
)

abbrev pub write_in : ℕ → Value → Session → Session × Reply
write_in setting v s = (with_cell s setting (staged_cell (cell_at s setting) v), plain 0)

-- the rows of a commit, where the state is whole and a session is open
abbrev pub commit_rows : Body → Session → Rows
commit_rows b s =
    (1, not (eqb (length b.audit) audit_lines))
    ∷ (10, lock_missing b.core.locks s.cells)
    ∷ (11, stale_b s.cells)
    ∷ (12, not (ordered_b (as_stand b.core.settings s.cells)))
    ∷ []

abbrev pub inside_of : Step → Body → Session → Session × Reply
inside_of (Cycle r) b s = (s, plain 0)
inside_of (Turn turn) b s = (s, plain 0)
inside_of Clear b s = (s, plain 0)
inside_of (Tick named) b s = (s, plain 0)
inside_of (Ask question) b s = (s, plain 0)
inside_of (Call door Begin) b s = (s, plain 2)
inside_of (Call door Abandon) b s = (s, plain 0)
inside_of (Commit door) b s = (s, plain (first_of (commit_rows b s)))
inside_of (Call door (Read setting)) b s = cond (no_such_setting setting) (s, plain 3) (read_in setting b s)
inside_of (Call door (Write setting v)) b s = cond (no_such_setting setting) (s, plain 3) (cond (fits_b (setting - 1) v) (write_in setting v s) (s, plain 9))

-- the lines of a commit, and all that is no session after it
abbrev pub lines_in : ℕ → Body → Session → List AuditLine
lines_in door b s = audited b.core.stores.audit b.core.measured.time door (changes_among b.core.settings s.cells setting_count)

abbrev pub forced_by : ℕ → Body → Session → Body
forced_by door b s = record {
  core = committed_core b.core s.cells (length (lines_in door b s));
  archive = b.archive;
  log = b.log;
  audit = written audit_lines b.core.stores.audit.ring b.audit (lines_in door b s);
}

module _ {door : ℕ} {d : Door} (a : AtDoor door d) (b : Body) (m t : Session) (w : whole_b (state_at d b.core m t) ≡ true) (o : m.live ≡ true) where
  live_in : (session_at (state_at d b.core m t) door).live ≡ true
  live_in = ap (λ (x : Session). x.live) (session_at_lem a b.core m t) ∙ o

  pub begin_inside : step (Call door Begin) (world_at d b m t) ≡ (world_at d b m t, plain 2)
  unfolding begin_by begin_refusal
  begin_inside = rw (w, a.is_door, live_in)

  pub abandon_inside : step (Call door Abandon) (world_at d b m t) ≡ (world_at d b no_session t, plain 0)
  unfolding abandon_by abandon_refusal
  abandon_inside = rw (w, a.is_door, live_in, with_session_lem a b.core m t no_session)

  read_number : (setting : ℕ) → read_refusal (whole_b (state_at d b.core m t)) (state_at d b.core m t) door setting ≡ cond (no_such_setting setting) 3 0
  unfolding read_refusal
  read_number setting = rw (w, a.is_door, live_in)

  read_after_lem : (setting : ℕ) → read_after (state_at d b.core m t) door setting ≡ state_at d b.core (read_in setting b m).0 t
  unfolding read_after
  read_after_lem setting = rw (session_at_lem a b.core m t) (with_session_lem a b.core m t (read_in setting b m).0)

  read_value : (setting : ℕ) → giving 0 (given.Value (value_read (state_at d b.core m t) door setting)) ≡ (read_in setting b m).1
  unfolding value_read
  read_value setting = rw (session_at_lem a b.core m t, core_at d b.core m t)

  read_inside_by : (setting : ℕ) (n : Bool) → no_such_setting setting ≡ n
      → step (Call door (Read setting)) (world_at d b m t) ≡ (world_at d b (inside_of (Call door (Read setting)) b m).0 t, (inside_of (Call door (Read setting)) b m).1)
  unfolding read_by
  read_inside_by setting true e = rw (read_number setting, e)
  read_inside_by setting false e = rw (read_number setting, e, read_after_lem setting, read_value setting)

  pub read_inside : (setting : ℕ)
      → step (Call door (Read setting)) (world_at d b m t) ≡ (world_at d b (inside_of (Call door (Read setting)) b m).0 t, (inside_of (Call door (Read setting)) b m).1)
  read_inside setting = read_inside_by setting (no_such_setting setting) refl

  write_number : (setting : ℕ) (v : Value)
      → write_refusal (whole_b (state_at d b.core m t)) (state_at d b.core m t) door setting v ≡ cond (no_such_setting setting) 3 (cond (not (fits_b (setting - 1) v)) 9 0)
  unfolding write_refusal
  write_number setting v = rw (w, a.is_door, live_in)

  write_after_lem : (setting : ℕ) (v : Value) → write_after (state_at d b.core m t) door setting v ≡ state_at d b.core (write_in setting v m).0 t
  unfolding write_after
  write_after_lem setting v = rw (session_at_lem a b.core m t) (with_session_lem a b.core m t (write_in setting v m).0)

  write_inside_by : (setting : ℕ) (v : Value) (n f : Bool) → no_such_setting setting ≡ n → fits_b (setting - 1) v ≡ f
      → step (Call door (Write setting v)) (world_at d b m t) ≡ (world_at d b (inside_of (Call door (Write setting v)) b m).0 t, (inside_of (Call door (Write setting v)) b m).1)
  unfolding write_by
  write_inside_by setting v true f e g = rw (write_number setting v, e)
  write_inside_by setting v false true e g = rw (write_number setting v, e, g, write_after_lem setting v)
  write_inside_by setting v false false e g = rw (write_number setting v, e, g)

  pub write_inside : (setting : ℕ) (v : Value)
      → step (Call door (Write setting v)) (world_at d b m t) ≡ (world_at d b (inside_of (Call door (Write setting v)) b m).0 t, (inside_of (Call door (Write setting v)) b m).1)
  write_inside setting v = write_inside_by setting v (no_such_setting setting) (fits_b (setting - 1) v) refl refl

  -- commit: its number, and what becomes of the world by it
  commit_number : commit_refusal (whole_b (state_at d b.core m t)) (state_at d b.core m t) door (length b.audit) ≡ first_of (commit_rows b m)
  unfolding commit_refusal
  commit_number = rw (w, a.is_door, live_in, core_at d b.core m t, session_at_lem a b.core m t)

  commit_lines_lem : commit_lines (state_at d b.core m t) door ≡ lines_in door b m
  unfolding commit_lines
  commit_lines_lem = rw (core_at d b.core m t, session_at_lem a b.core m t)

  committed_at : committed (state_at d b.core m t) door ≡ state_at d (forced_by door b m).core no_session (overtaken_session m t)
  unfolding committed
  committed_at =
      rw (commit_lines_lem, core_at d b.core m t, session_at_lem a b.core m t, other_at_lem a b.core m t)
      (placed_at a (forced_by door b m).core no_session (overtaken_session m t))

  pub commit_done : first_of (commit_rows b m) ≡ 0
      → step (Commit door) (world_at d b m t) ≡ (world_at d (forced_by door b m) no_session (overtaken_session m t), plain 0)
  unfolding commit_of
  commit_done e = rw (commit_number, e, committed_at, commit_lines_lem, core_at d b.core m t)

  pub commit_ended : (n : ℕ) → eqb n 0 ≡ false → ends_refused n ≡ true → first_of (commit_rows b m) ≡ n
      → step (Commit door) (world_at d b m t) ≡ (world_at d b no_session t, plain n)
  unfolding commit_of refused_commit
  commit_ended n z l e = rw (commit_number, e, z, l, with_session_lem a b.core m t no_session)

  pub commit_refused : (n : ℕ) → eqb n 0 ≡ false → ends_refused n ≡ false → first_of (commit_rows b m) ≡ n
      → step (Commit door) (world_at d b m t) ≡ (world_at d b m t, plain n)
  unfolding commit_of refused_commit
  commit_refused n z l e = rw (commit_number, e, z, l)

  -- and the core stays whole
  pub forced_sound : first_of (commit_rows b m) ≡ 0 → SoundCore (forced_by door b m).core
  forced_sound e =
      let before : State = state_at d b.core m t in
      let n = length b.audit in
      rw (core_at d b.core m t, session_at_lem a b.core m t) at
      (core_stays before door n (length (lines_in door b m)) (commit_accepted before door n (commit_number ∙ e)))
