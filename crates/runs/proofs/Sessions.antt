-- The order of the sessions, of the corrector: its steps keep the laws of the general theorem, for stores of any length.
-- Assumes nothing.
use mathlib.Core.Path.{◌≡◌, refl, sym, ap, ◌∙◌}
use mathlib.Core.Logic.{◌⊎◌, inl, inr}
use mathlib.Core.Bool.{Bool, true, false, not, cond, false≢true}
use mathlib.Core.Option.{Option, none, some}
use mathlib.Core.List.{List, [], ◌∷◌}
use Prim.Native.Nat.{ℕ, ◌-◌, ◌<◌}
use native.Mathlib.Omega.{arith}
use lib.Dec.{ltb, leb, eqb}
use lib.ListN.{length, get_or, set}
use lib.Seq.{get_or-set_same}
use borrow.Author.Tests.{eqb-true, ltb-false, leb-false}
use Rattle.ground.proofs.Flags.{or_false_left, or_false_right}
use Rattle.order.specs.Order.{Door, keypad, port, Act, Fate, goesOn, dropped, committed, opens, fate, Serialises}
use Rattle.order.proofs.Order.{Build, Laws, slot, held, start, overtaken, core_by, mine_by, theirs_by, fate_of, Fits, serialises}
use Rattle.settings.specs.declared.Value.{Value}
use Rattle.settings.specs.Settings.{setting_count, value_at, fits_b, ordered_b}
use Rattle.ring.specs.Ring.{audit_lines}
use Rattle.ring.proofs.Stores.{written_length}
use Rattle.calendar.specs.Calendar.{end_of_time}
use Rattle.books.specs.declared.ArchiveLine.{ArchiveLine}
use Rattle.books.specs.declared.LogLine.{LogLine}
use Rattle.books.specs.declared.AuditLine.{AuditLine}
use Rattle.state.specs.declared.Cell.{Cell}
use Rattle.state.specs.declared.Session.{Session}
use Rattle.state.specs.State.{blank_cell, no_session, session_b, whole_b, fresh}
use Rattle.state.specs.Card.{first_of}
use Rattle.state.proofs.Sound.{SoundCore, whole_sound, fresh_whole, no_session_lem}
use Rattle.staging.proofs.Force.{unstaged_stands}
use Rattle.doors.proofs.Stays.{session_each, read_sound, staged_sound}
use Rattle.panel.specs.Panel.{start_refusal, start_of}
use Rattle.doors.specs.Doors.{no_such_setting, cell_at, with_cell, begun, marked_read, staged_cell, lock_missing, stale_b, as_stand, overtaken_session, overtaken_by, committed_core, ends_refused}
use Rattle.runs.specs.Run.{Step, Cycle, Turn, Clear, Tick, Ask, Call, Commit, Read, Write, World, Reply, plain, number_of, step, verdict_of, corrector, started, Body}
use Rattle.runs.proofs.Exactly.{silent}
use Rattle.runs.proofs.Cells.{OpenSession, open_begun, open_with, open_overtaken, at_set, each_set, stale_set, overtaken_blank, quiet_same, quiet_read}
use Rattle.runs.proofs.Aside.{world, alone, turn_of, whole, asides}
use Rattle.runs.proofs.Calls.{AtDoor, state_at, world_at, AtCall, begins, reads, writes, commits, abandons, call_of_lem, outside_of, read_in, write_in, commit_rows, inside_of, lines_in, forced_by, begin_outside, abandon_outside, read_outside, write_outside, commit_outside, begin_inside, abandon_inside, read_inside, write_inside, commit_done, commit_ended, commit_refused, forced_sound}

-- ---- how the corrector is built

abbrev force_of : Step → Body → Session → Body
force_of (Cycle r) b s = b
force_of (Turn turn) b s = b
force_of Clear b s = b
force_of (Tick named) b s = b
force_of (Ask question) b s = b
force_of (Call door act) b s = b
force_of (Commit door) b s = forced_by door b s

abbrev build : Build corrector
build = record {
  Core = Body;
  Sess = Session;
  world = world;
  blank = no_session;
  begun = begun;
  turn = turn_of;
  outside = outside_of;
  inside = inside_of;
  force = force_of;
  overtake = overtaken_session;
}

abbrev at_door : Door → Body → Option Session → Option Session → World
at_door d b m t = held corrector build d b m t

abbrev at_slot : Option Session → Session
at_slot m = slot corrector build m

held_at : (d : Door) (b : Body) (m t : Option Session) → at_door d b m t ≡ world_at d b (at_slot m) (at_slot t)
held_at keypad b m t = refl
held_at port b m t = refl

-- ---- what comes about: n is the length of the audit trail

pub record GoodBody (n : ℕ) (b : Body) : Type 0 where
  pub sound : SoundCore b.core
  pub sized : length b.audit ≡ n

slot_whole : (m : Option Session) → Fits OpenSession m → session_b (at_slot m) ≡ true
slot_whole none f = no_session_lem
slot_whole (some s) f = f.whole

whole_at_lem : (d : Door) (b : Body) (m t : Option Session) → SoundCore b.core → Fits OpenSession m → Fits OpenSession t
    → whole_b (state_at d b.core (at_slot m) (at_slot t)) ≡ true
whole_at_lem keypad b m t s f g = whole b (at_slot m) (at_slot t) s (slot_whole m f) (slot_whole t g)
whole_at_lem port b m t s f g = whole b (at_slot t) (at_slot m) s (slot_whole t g) (slot_whole m f)

closed_slot : no_session.live ≡ false
unfolding no_session
closed_slot = refl

-- ---- each call does what the build says

module _ (b : Body) (t : Option Session) (s : SoundCore b.core) (g : Fits OpenSession t) where
  outside_does : {x : Step} {d : Door} {y : Act} → AtCall x d y
      → step x (at_door d b none t) ≡ (at_door d b (start corrector build (opens y (verdict_of (number_of (outside_of x b))))) t, outside_of x b)
  outside_does (begins {d = d} a) =
      rw (held_at d b none t, held_at d b (some begun) t) (begin_outside a b no_session (at_slot t) (whole_at_lem d b none t s tt g) closed_slot)
  outside_does (reads {setting = setting} {d = d} a) =
      rw (held_at d b none t) (read_outside a b no_session (at_slot t) (whole_at_lem d b none t s tt g) closed_slot setting)
  outside_does (writes {setting = setting} {v = v} {d = d} a) =
      rw (held_at d b none t) (write_outside a b no_session (at_slot t) (whole_at_lem d b none t s tt g) closed_slot setting v)
  outside_does (commits {d = d} a) =
      rw (held_at d b none t) (commit_outside a b no_session (at_slot t) (whole_at_lem d b none t s tt g) closed_slot)
  outside_does (abandons {d = d} a) =
      rw (held_at d b none t) (abandon_outside a b no_session (at_slot t) (whole_at_lem d b none t s tt g) closed_slot)

-- the other door's session, if there is one, after a commit
overtaken_slot : (s : Session) (t : Option Session) → overtaken_session s (at_slot t) ≡ at_slot (overtaken corrector build s t)
unfolding overtaken_session no_session
overtaken_slot s none = rw (overtaken_blank s.cells setting_count)
overtaken_slot s (some t) = refl

module _ (b : Body) (s : Session) (t : Option Session) (c : SoundCore b.core) (f : OpenSession s) (g : Fits OpenSession t) where
  abbrev Inside : Step → Door → Act → Type 0
  Inside x d y =
      step x (at_door d b (some s) t)
      ≡ (
        at_door d (core_by corrector build (fate_of corrector build y x b s) x b s) (mine_by corrector build (fate_of corrector build y x b s) x b s)
            (theirs_by corrector build (fate_of corrector build y x b s) s t),
        (inside_of x b s).1,
      )

  commit_does : {door : ℕ} {d : Door} → AtDoor door d → (n : ℕ) → first_of (commit_rows b s) ≡ n → (z e : Bool) → eqb n 0 ≡ z → ends_refused n ≡ e
      → Inside (Commit door) d Act.commit
  commit_does {door} {d} a n q true e z h =
      let o : first_of (commit_rows b s) ≡ 0 = q ∙ eqb-true n 0 z in
      rw (o, held_at d b (some s) t, held_at d (forced_by door b s) none (overtaken corrector build s t))
      (rw (overtaken_slot s t) at (commit_done a b s (at_slot t) (whole_at_lem d b (some s) t c f g) f.live o))
  commit_does {door} {d} a n q false true z h =
      rw (q, z, h, held_at d b (some s) t, held_at d b none t) (commit_ended a b s (at_slot t) (whole_at_lem d b (some s) t c f g) f.live n z h q)
  commit_does {door} {d} a n q false false z h =
      rw (q, z, h, held_at d b (some s) t) (commit_refused a b s (at_slot t) (whole_at_lem d b (some s) t c f g) f.live n z h q)

  inside_does : {x : Step} {d : Door} {y : Act} → AtCall x d y → Inside x d y
  inside_does (begins {d = d} a) = rw (held_at d b (some s) t) (begin_inside a b s (at_slot t) (whole_at_lem d b (some s) t c f g) f.live)
  inside_does (reads {door = door} {setting = setting} {d = d} a) =
      rw (held_at d b (some s) t, held_at d b (some (inside_of (Call door (Read setting)) b s).0) t)
      (read_inside a b s (at_slot t) (whole_at_lem d b (some s) t c f g) f.live setting)
  inside_does (writes {door = door} {setting = setting} {v = v} {d = d} a) =
      rw (held_at d b (some s) t, held_at d b (some (inside_of (Call door (Write setting v)) b s).0) t)
      (write_inside a b s (at_slot t) (whole_at_lem d b (some s) t c f g) f.live setting v)
  inside_does (commits {door = door} {d = d} a) =
      let n = first_of (commit_rows b s) in
      commit_does a n refl (eqb n 0) (ends_refused n) refl refl
  inside_does (abandons {d = d} a) =
      rw (held_at d b (some s) t, held_at d b none t) (abandon_inside a b s (at_slot t) (whole_at_lem d b (some s) t c f g) f.live)

-- ---- what a session has looked at: the settings that count as read

abbrev Alike : Session → Body → Body → Type 0
Alike s b e = (k : ℕ) → (get_or s.cells k blank_cell).read ≡ true → value_at b.core.settings k ≡ value_at e.core.settings k

-- a begin that is done is the only call that opens a session
opens_same : {x : Step} {d : Door} {y : Act} → AtCall x d y → (b e : Body) → opens y (verdict_of (number_of (outside_of x b))) ≡ true → outside_of x e ≡ outside_of x b
opens_same (begins a) b e q = refl
opens_same (reads a) b e q = absurd (false≢true q)
opens_same (writes a) b e q = absurd (false≢true q)
opens_same (commits a) b e q = absurd (false≢true q)
opens_same (abandons a) b e q = absurd (false≢true q)

-- a setting's number is in the table
in_table : (setting : ℕ) → no_such_setting setting ≡ false → setting - 1 < setting_count
in_table setting e =
    let l = ltb-false setting 1 (or_false_left (ltb setting 1) (ltb setting_count setting) e) in
    let h = ltb-false setting_count setting (or_false_right (ltb setting 1) (ltb setting_count setting) e) in
    omega arith

-- ---- read

module _ (setting : ℕ) (b : Body) (s : Session) where
  read_open : OpenSession s → (n : Bool) → no_such_setting setting ≡ n → OpenSession (cond n (s, plain 3) (read_in setting b s)).0
  unfolding cell_at
  read_open f true q = f
  read_open f false q =
      open_with s setting (marked_read (cell_at s setting)) f
      (read_sound s.live (setting - 1) (cell_at s setting) f.live (session_each s f.whole (setting - 1) (in_table setting q)))

  read_alike : (e : Body) (n : Bool) → Alike (cond n (s, plain 3) (read_in setting b s)).0 b e → Alike s b e
  unfolding with_cell marked_read
  read_alike e true h k r = h k r
  read_alike e false h k r =
      h k (each_set (λ j c. (get_or s.cells j blank_cell).read ≡ true → c.read ≡ true) s.cells (setting - 1) (marked_read (cell_at s setting)) (λ q. refl) (λ j q. q) k r)

  read_same : (e : Body) → OpenSession s → (n : Bool) → no_such_setting setting ≡ n
      → Alike (cond n (s, plain 3) (read_in setting b s)).0 b e
      → cond n (s, plain 3) (read_in setting e s) ≡ cond n (s, plain 3) (read_in setting b s)
  unfolding with_cell marked_read
  read_same e f true q h = refl
  read_same e f false q h =
      let l : setting - 1 < length s.cells = rw f.sized (in_table setting q) in
      let x : Cell = marked_read (cell_at s setting) in
      let r : (get_or (set s.cells (setting - 1) x) (setting - 1) blank_cell).read ≡ true = ap (λ (c : Cell). c.read) (get_or-set_same s.cells (setting - 1) x blank_cell l) in
      rw (h (setting - 1) r)

  read_stale : (n : Bool) → stale_b s.cells ≡ true → stale_b (cond n (s, plain 3) (read_in setting b s)).0.cells ≡ true
  unfolding with_cell cell_at marked_read
  read_stale true h = h
  read_stale false h = stale_set s.cells (setting - 1) (marked_read (cell_at s setting)) refl ∙ h

-- ---- write

module _ (setting : ℕ) (v : Value) (s : Session) where
  abbrev wrote : Bool → Bool → Session × Reply
  wrote n f = cond n (s, plain 3) (cond f (write_in setting v s) (s, plain 9))

  write_open : OpenSession s → (n f : Bool) → no_such_setting setting ≡ n → fits_b (setting - 1) v ≡ f → OpenSession (wrote n f).0
  unfolding cell_at
  write_open o true f q e = o
  write_open o false true q e =
      open_with s setting (staged_cell (cell_at s setting) v) o
      (staged_sound s.live (setting - 1) (cell_at s setting) v o.live e (session_each s o.whole (setting - 1) (in_table setting q)))
  write_open o false false q e = o

  write_alike : (b e : Body) (n f : Bool) → Alike (wrote n f).0 b e → Alike s b e
  unfolding with_cell cell_at staged_cell
  write_alike b e true f h k r = h k r
  write_alike b e false true h k r =
      h k (at_set (λ (c : Cell). c.read) s.cells (setting - 1) (staged_cell (cell_at s setting) v) refl k ∙ r)
  write_alike b e false false h k r = h k r

  write_stale : (n f : Bool) → stale_b s.cells ≡ true → stale_b (wrote n f).0.cells ≡ true
  unfolding with_cell cell_at staged_cell
  write_stale true f h = h
  write_stale false true h = stale_set s.cells (setting - 1) (staged_cell (cell_at s setting) v) refl ∙ h
  write_stale false false h = h

-- ---- commit

-- only a commit that is done puts a session in force
not_committed : {k : Fate} → k ≡ goesOn → k ≡ committed → ⊥
not_committed p q = let z : ◌≡◌ {A = ℕ} 0 1 = cc in omega arith

not_dropped : {k : Fate} → k ≡ dropped → k ≡ committed → ⊥
not_dropped p q = let z : ◌≡◌ {A = ℕ} 0 1 = cc in omega arith

done_by : (n : ℕ) (z e : Bool) → eqb n 0 ≡ z → ends_refused n ≡ e → fate Act.commit (verdict_of n) ≡ committed → n ≡ 0
done_by n true e p q h = eqb-true n 0 p
done_by n false true p q h = absurd (not_dropped refl (rw (p, q) at h))
done_by n false false p q h = absurd (not_committed refl (rw (p, q) at h))

commit_zero : (n : ℕ) → fate Act.commit (verdict_of n) ≡ committed → n ≡ 0
commit_zero n h = done_by n (eqb n 0) (ends_refused n) refl refl h

-- a session goes on after a commit only where the audit trail has not its length
goes_by : (q r t : Bool) → fate Act.commit (verdict_of (first_of ((1, false) ∷ (10, q) ∷ (11, r) ∷ (12, t) ∷ []))) ≡ goesOn → ⊥
goes_by true r t h = let z : ◌≡◌ {A = ℕ} 0 1 = cc in omega arith
goes_by false true t h = let z : ◌≡◌ {A = ℕ} 0 1 = cc in omega arith
goes_by false false true h = let z : ◌≡◌ {A = ℕ} 0 1 = cc in omega arith
goes_by false false false h = let z : ◌≡◌ {A = ℕ} 0 1 = cc in omega arith

commit_same : (b e : Body) (s : Session) → length e.audit ≡ length b.audit → (l : Bool) → eqb (length b.audit) audit_lines ≡ l
    → fate Act.commit (verdict_of (first_of (commit_rows b s))) ≡ goesOn → first_of (commit_rows e s) ≡ first_of (commit_rows b s)
commit_same b e s n true q h =
    absurd (goes_by (lock_missing b.core.locks s.cells) (stale_b s.cells) (not (ordered_b (as_stand b.core.settings s.cells))) (rw q at h))
commit_same b e s n false q h = rw (n, q)

-- ---- the laws, of a corrector whose audit trail has n lines

module _ (n : ℕ) where
  abbrev Fated : Act → Step → Body → Session → Fate → Type 0
  Fated y x b s k = fate_of corrector build y x b s ≡ k

  force_good : {x : Step} {d : Door} {y : Act} → AtCall x d y → (b : Body) (s : Session) → GoodBody n b → OpenSession s → Fated y x b s committed → GoodBody n (force_of x b s)
  force_good (begins a) b s g f q = absurd (not_committed refl q)
  force_good (reads a) b s g f q = absurd (not_committed refl q)
  force_good (writes a) b s g f q = absurd (not_committed refl q)
  force_good (commits {door = door} {d = d} a) b s g f q =
      record {
        sound = forced_sound a b s no_session (whole_at_lem d b (some s) none g.sound f tt) f.live (commit_zero (first_of (commit_rows b s)) q);
        sized = written_length audit_lines b.core.stores.audit.ring b.audit (lines_in door b s) ∙ g.sized;
      }
  force_good (abandons a) b s g f q = absurd (not_dropped refl q)

  inside_open : {x : Step} {d : Door} {y : Act} → AtCall x d y → (b : Body) (s : Session) → OpenSession s → OpenSession (inside_of x b s).0
  inside_open (begins a) b s f = f
  inside_open (reads {setting = setting} a) b s f = read_open setting b s f (no_such_setting setting) refl
  inside_open (writes {setting = setting} {v = v} a) b s f = write_open setting v s f (no_such_setting setting) (fits_b (setting - 1) v) refl refl
  inside_open (commits a) b s f = f
  inside_open (abandons a) b s f = f

  inside_alike : {x : Step} {d : Door} {y : Act} → AtCall x d y → (s : Session) (b e : Body) → Alike (inside_of x b s).0 b e → Alike s b e
  inside_alike (begins a) s b e h = h
  inside_alike (reads {setting = setting} a) s b e h = read_alike setting b s e (no_such_setting setting) h
  inside_alike (writes {setting = setting} {v = v} a) s b e h = write_alike setting v s b e (no_such_setting setting) (fits_b (setting - 1) v) h
  inside_alike (commits a) s b e h = h
  inside_alike (abandons a) s b e h = h

  inside_same : {x : Step} {d : Door} {y : Act} → AtCall x d y → (s : Session) (b e : Body) → GoodBody n b → GoodBody n e → OpenSession s → Fated y x b s goesOn
      → Alike (inside_of x b s).0 b e → inside_of x e s ≡ inside_of x b s
  inside_same (begins a) s b e g h f q w = refl
  inside_same (reads {setting = setting} a) s b e g h f q w = read_same setting b s e f (no_such_setting setting) refl w
  inside_same (writes a) s b e g h f q w = refl
  inside_same (commits a) s b e g h f q w =
      rw (commit_same b e s (h.sized ∙ sym g.sized) (eqb (length b.audit) audit_lines) refl q)
  inside_same (abandons a) s b e g h f q w = refl

  inside_stale : {x : Step} {d : Door} {y : Act} → AtCall x d y → (b : Body) (s : Session) → stale_b s.cells ≡ true → stale_b (inside_of x b s).0.cells ≡ true
  inside_stale (begins a) b s h = h
  inside_stale (reads {setting = setting} a) b s h = read_stale setting b s (no_such_setting setting) h
  inside_stale (writes {setting = setting} {v = v} a) b s h = write_stale setting v s (no_such_setting setting) (fits_b (setting - 1) v) h
  inside_stale (commits a) b s h = h
  inside_stale (abandons a) b s h = h

  stale_out : {x : Step} {d : Door} {y : Act} → AtCall x d y → (b : Body) (s : Session) → Fated y x b s committed → stale_b s.cells ≡ true → ⊥
  stale_out (begins a) b s q h = not_committed refl q
  stale_out (reads a) b s q h = not_committed refl q
  stale_out (writes a) b s q h = not_committed refl q
  stale_out (commits a) b s q h = false≢true (sym (silent (commit_rows b s) refl (commit_zero (first_of (commit_rows b s)) q) 11) ∙ h)
  stale_out (abandons a) b s q h = not_dropped refl q

  -- a commit makes the other session stale, or leaves it, and all that it has read, as it was
  abbrev Overtaken : Body → Body → Session → Session → Type 0
  Overtaken b c s t =
      (stale_b (overtaken_session s t).cells ≡ true) ⊎ ((overtaken_session s t ≡ t) × ((e : Body) → Alike t c e → Alike t b e))

  overtaken_by_lem : (door : ℕ) (b : Body) (s t : Session) → OpenSession t → (l : Bool) → stale_b (overtaken_by s.cells t.cells) ≡ l
      → Overtaken b (forced_by door b s) s t
  unfolding overtaken_session committed_core
  overtaken_by_lem door b s t f true q = inl q
  overtaken_by_lem door b s t f false q =
      inr (
        (λ i. record { live = t.live; cells = quiet_same s.cells t.cells q f.sized i }),
        λ e h k r. sym (unstaged_stands b.core.settings s.cells k (quiet_read s.cells t.cells q f.sized k r)) ∙ h k r,
      )

  overtaking : {x : Step} {d : Door} {y : Act} → AtCall x d y → (b : Body) (s t : Session) → OpenSession t → Fated y x b s committed → Overtaken b (force_of x b s) s t
  overtaking (begins a) b s t f q = absurd (not_committed refl q)
  overtaking (reads a) b s t f q = absurd (not_committed refl q)
  overtaking (writes a) b s t f q = absurd (not_committed refl q)
  overtaking (commits {door = door} a) b s t f q = overtaken_by_lem door b s t f (stale_b (overtaken_by s.cells t.cells)) refl
  overtaking (abandons a) b s t f q = absurd (not_dropped refl q)

  laws : Laws corrector build
  laws = record {
    Good = GoodBody n;
    Fit = OpenSession;
    Stale = λ s. stale_b s.cells ≡ true;
    Agree = Alike;
    closes = λ b s t. refl;
    turns = λ x o b m t g f h. (asides x o b g.sound).beside (at_slot m) (at_slot t) (slot_whole m f) (slot_whole t h);
    calls_outside = λ x d y o b t g f. outside_does b t g.sound f (call_of_lem x d y o);
    calls_inside = λ x d y o b s t g f h. inside_does b s t g.sound f h (call_of_lem x d y o);
    good_turn = λ x o b g. record { sound = (asides x o b g.sound).sound; sized = ap length (asides x o b g.sound).audit ∙ g.sized };
    good_force = λ x d y o b s g f q. force_good (call_of_lem x d y o) b s g f q;
    fit_begun = open_begun;
    fit_inside = λ x d y o b s g f q. inside_open (call_of_lem x d y o) b s f;
    fit_overtake = λ s t f h. open_overtaken s t h;
    agree_refl = λ s b k r. refl;
    agree_turn = λ x o s b e g f h k r. rw (asides x o b g.sound).settings at (h k r);
    same_outside = λ x d y o b e g h q. opens_same (call_of_lem x d y o) b e q;
    agree_inside = λ x d y o s b e g h f q w. inside_alike (call_of_lem x d y o) s b e w;
    same_inside = λ x d y o s b e g h f q w. inside_same (call_of_lem x d y o) s b e g h f q w;
    stale_inside = λ x d y o b s g f q h. inside_stale (call_of_lem x d y o) b s h;
    stale_refused = λ x d y o b s g f q h. stale_out (call_of_lem x d y o) b s q h;
    overtakes = λ x d y o b s t g f h q. overtaking (call_of_lem x d y o) b s t h q;
  }

-- THE ORDER OF THE SESSIONS, of a corrector with a whole core and no session, and stores of any length with anything in them
pub in_order_lem : (xs : List Step) (b : Body) → SoundCore b.core → Serialises corrector xs (alone b)
unfolding laws
in_order_lem xs b s = serialises corrector build (laws (length b.audit)) xs b (record { sound = s; sized = refl })

-- of a corrector that was started; refused by 6, the start hands back a fresh state all the same
fresh_in_order : (xs : List Step) (time supcode custcode : ℕ) (archive : List ArchiveLine) (log : List LogLine) (audit : List AuditLine) → time < end_of_time
    → Serialises corrector xs (record { state = fresh time supcode custcode; archive = archive; log = log; audit = audit })
unfolding fresh
fresh_in_order xs time supcode custcode archive log audit l =
    in_order_lem xs (record { core = (fresh time supcode custcode).core; archive = archive; log = log; audit = audit })
    (whole_sound (fresh time supcode custcode) (fresh_whole time supcode custcode l)).core

started_by : (xs : List Step) (time supcode custcode : ℕ) (archive : List ArchiveLine) (log : List LogLine) (audit : List AuditLine) (t : Bool) → leb end_of_time time ≡ t
    → Serialises corrector xs (started time supcode custcode archive log audit)
unfolding start_of start_refusal
started_by xs time supcode custcode archive log audit true e = rw e (fresh_in_order xs 0 0 0 archive log audit (omega arith))
started_by xs time supcode custcode archive log audit false e =
    rw e (fresh_in_order xs time supcode custcode archive log audit (leb-false end_of_time time e))

pub sessions_in_order : (xs : List Step) (time supcode custcode : ℕ) (archive : List ArchiveLine) (log : List LogLine) (audit : List AuditLine)
    → Serialises corrector xs (started time supcode custcode archive log audit)
sessions_in_order xs time supcode custcode archive log audit =
    started_by xs time supcode custcode archive log audit (leb end_of_time time) refl
