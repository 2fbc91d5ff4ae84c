-- Steps that are no session's: whatever the sessions, such a step does the same to the rest and leaves the settings and the audit trail as they
-- are. A clause for each group of commands.
-- Assumes nothing.
use mathlib.Core.Path.{◌≡◌, refl, ap, ◌∙◌}
use mathlib.Core.Bool.{Bool, true, false, cond}
use Prim.Native.Nat.{ℕ}
use native.Mathlib.Omega.{arith}
use lib.Dec.{eqb}
use lib.ListN.{length}
use Rattle.order.specs.Order.{Door, Act, Role, aside, at}
use Rattle.ring.specs.Ring.{audit_lines}
use Rattle.state.specs.declared.Session.{Session}
use Rattle.state.specs.declared.State.{State}
use Rattle.state.specs.State.{no_session, session_b, whole_b}
use Rattle.state.specs.Card.{first_of}
use Rattle.state.proofs.Sound.{SoundCore, sound_whole, whole_sound, no_session_lem}
use Rattle.cycle.specs.Cycle.{cycled_core, cycled}
use Rattle.panel.specs.Panel.{turned_core, turned, cleared, ticked}
use Rattle.doors.specs.Doors.{no_door, refused_commit}
use Rattle.runs.specs.Rows.{rows_of, refused_by}
use Rattle.runs.specs.Run.{Step, Cycle, Turn, Clear, Tick, Ask, Call, Commit, Begin, Read, Write, Abandon, Reply, World, step, Body, body_of, act_of, role_at, role}
use Rattle.runs.specs.Run as command
use Rattle.commands.specs.declared.Given.TheVariants as given
use Rattle.steps.proofs.Keeps.{step_whole}
use Rattle.runs.proofs.Effects.{after, given_by, step_is}

abbrev pub state_of : Body → Session → Session → State
state_of b k p = record { core = b.core; keypad = k; port = p }

abbrev pub world : Body → Session → Session → World
world b k p = record { state = state_of b k p; archive = b.archive; log = b.log; audit = b.audit }

abbrev pub alone : Body → World
alone b = world b no_session no_session

-- a step aside, with no session at either door
abbrev pub turn_of : Step → Body → Body × Reply
turn_of x b = (body_of (step x (alone b)).0, (step x (alone b)).1)

pub whole : (b : Body) (k p : Session) → SoundCore b.core → session_b k ≡ true → session_b p ≡ true → whole_b (state_of b k p) ≡ true
whole b k p s e f = sound_whole (state_of b k p) (record { core = s; keypad = e; port = f })

pub record Aside (x : Step) (b : Body) : Type 0 where
  pub beside : (k p : Session) → session_b k ≡ true → session_b p ≡ true → step x (world b k p) ≡ (world (turn_of x b).0 k p, (turn_of x b).1)
  pub sound : SoundCore (turn_of x b).0.core
  pub settings : (turn_of x b).0.core.settings ≡ b.core.settings
  pub audit : (turn_of x b).0.audit ≡ b.audit

quiet : (b : Body) → SoundCore b.core → whole_b (state_of b no_session no_session) ≡ true
quiet b s = whole b no_session no_session s no_session_lem no_session_lem

-- what a step comes to by its number n, t: whether that is 0
abbrev comes_to : Step → ℕ → Bool → World → World × Reply
comes_to x n t w = (cond t (after x w) (refused_by x w n), record { number = n; given = cond t (given_by x w) given.Nothing })

-- a step that looks at no session: accepted, it does the same whatever they are; refused, it leaves all
record Beside (x : Step) (b : Body) (n : ℕ) : Type 0 where
  moves : (k p : Session) → after x (world b k p) ≡ world (body_of (after x (alone b))) k p
  stays : (k p : Session) → refused_by x (world b k p) n ≡ world b k p
  gives : (k p : Session) → given_by x (world b k p) ≡ given_by x (alone b)
  settings : (after x (alone b)).state.core.settings ≡ b.core.settings
  audit : (after x (alone b)).audit ≡ b.audit

module _ (x : Step) (b : Body) (n : ℕ) (s : SoundCore b.core) (same : (k p : Session) → whole_b (state_of b k p) ≡ true → first_of (rows_of x (world b k p)) ≡ n) where
  comes : (k p : Session) → session_b k ≡ true → session_b p ≡ true → step x (world b k p) ≡ comes_to x n (eqb n 0) (world b k p)
  comes k p e f = step_is x (world b k p) ∙ ap (λ (j : ℕ). comes_to x j (eqb j 0) (world b k p)) (same k p (whole b k p s e f))

  record Apart (t : Bool) : Type 0 where
    beside : (k p : Session) → comes_to x n t (world b k p) ≡ (world (body_of (comes_to x n t (alone b)).0) k p, (comes_to x n t (alone b)).1)
    settings : (comes_to x n t (alone b)).0.state.core.settings ≡ b.core.settings
    audit : (comes_to x n t (alone b)).0.audit ≡ b.audit

  aside_by : Apart (eqb n 0) → Aside x b
  aside_by a =
      let o = comes no_session no_session no_session_lem no_session_lem in
      record {
        beside = λ k p i j. rw (comes k p i j, o) (a.beside k p);
        sound = (whole_sound (step x (alone b)).0.state (step_whole x (alone b) (whole b no_session no_session s no_session_lem no_session_lem))).core;
        settings = rw o a.settings;
        audit = rw o a.audit;
      }

  apart_by : (t : Bool) → Beside x b n → Apart t
  apart_by true h = record { beside = λ k p. rw (h.moves k p, h.gives k p); settings = h.settings; audit = h.audit }
  apart_by false h = record {
    beside = λ k p. rw (h.stays k p, h.stays no_session no_session);
    settings = rw (h.stays no_session no_session);
    audit = rw (h.stays no_session no_session);
  }

  aside_of : Beside x b n → Aside x b
  aside_of h = aside_by (apart_by (eqb n 0) h)

  -- a step that is refused, whatever the sessions
  refused_of : eqb n 0 ≡ false → ((k p : Session) → refused_by x (world b k p) n ≡ world b k p) → Aside x b
  refused_of z h = aside_by (rw z (record {
    beside = λ k p. rw (h k p, h no_session no_session);
    settings = rw (h no_session no_session);
    audit = rw (h no_session no_session);
  }))

-- ---- a call at no door

no_door_lem : (door : ℕ) (y : Act) (t : Bool) → no_door door ≡ t → role_at door y ≡ aside → no_door door ≡ true
no_door_lem door y true q e = q
no_door_lem door y false q e = absurd (is-aside (rw q at e))
  where
    is-aside : {d : Door} → ◌≡◌ {A = Role} (at d y) aside → ⊥
    is-aside e = let z : ◌≡◌ {A = ℕ} 0 1 = cc in omega arith

nowhere : (door : ℕ) (act : command.Act) (w : World) → no_door door ≡ true → whole_b w.state ≡ true → first_of (rows_of (Call door act) w) ≡ 3
nowhere door Begin w n e = rw (e, n)
nowhere door (Read setting) w n e = rw (e, n)
nowhere door (Write setting v) w n e = rw (e, n)
nowhere door Abandon w n e = rw (e, n)

commit_nowhere : (b : Body) → SoundCore b.core → (door : ℕ) → no_door door ≡ true → (t : Bool) → eqb (length b.audit) audit_lines ≡ t → Aside (Commit door) b
unfolding refused_commit
commit_nowhere b s door n true e = refused_of (Commit door) b 3 s (λ k p w. rw (w, e, n)) refl (λ k p. refl)
commit_nowhere b s door n false e = refused_of (Commit door) b 1 s (λ k p w. rw (w, e)) refl (λ k p. refl)

-- ---- all of them: the number is that with no session, where the state is whole

abbrev number_alone : Step → Body → ℕ
number_alone x b = first_of (rows_of x (alone b))

pub asides : (x : Step) → role x ≡ aside → (b : Body) → SoundCore b.core → Aside x b
unfolding cycled cycled_core turned turned_core cleared ticked
asides (Cycle r) o b s =
    aside_of (Cycle r) b (number_alone (Cycle r) b) s (λ k p w. rw (w, quiet b s))
    (record { moves = λ k p. refl; stays = λ k p. refl; gives = λ k p. refl; settings = refl; audit = refl })
asides (Turn turn) o b s =
    aside_of (Turn turn) b (number_alone (Turn turn) b) s (λ k p w. rw (w, quiet b s))
    (record { moves = λ k p. refl; stays = λ k p. refl; gives = λ k p. refl; settings = refl; audit = refl })
asides Clear o b s =
    aside_of Clear b (number_alone Clear b) s (λ k p w. rw (w, quiet b s))
    (record { moves = λ k p. refl; stays = λ k p. refl; gives = λ k p. refl; settings = refl; audit = refl })
asides (Tick named) o b s =
    aside_of (Tick named) b (number_alone (Tick named) b) s (λ k p w. rw (w, quiet b s))
    (record { moves = λ k p. refl; stays = λ k p. refl; gives = λ k p. refl; settings = refl; audit = refl })
asides (Ask question) o b s =
    aside_of (Ask question) b (number_alone (Ask question) b) s (λ k p w. rw (w, quiet b s))
    (record { moves = λ k p. refl; stays = λ k p. refl; gives = λ k p. refl; settings = refl; audit = refl })
asides (Call door act) o b s =
    refused_of (Call door act) b 3 s (λ k p w. nowhere door act (world b k p) (no_door_lem door (act_of act) (no_door door) refl o) w) refl (λ k p. refl)
asides (Commit door) o b s = commit_nowhere b s door (no_door_lem door Act.commit (no_door door) refl o) (eqb (length b.audit) audit_lines) refl
