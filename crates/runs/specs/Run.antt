-- A run: steps, each one command, on a device with its three stores. What a step comes to is said in the crate `steps`, in the definition that the
-- contracts of the program's own functions cite. A start is no step: a run begins with a device that was started.
-- Assumes nothing.
use Rattle.std.specs.Prelude.{ℕ, Bool, true, false, cond, List, eqb}
use Rattle.order.specs.Order.{keypad, port, Role, aside, at, Verdict, done, ended, refused, Device}
use Rattle.order.specs.Order as order
use Rattle.books.specs.declared.ArchiveLine.{ArchiveLine}
use Rattle.books.specs.declared.LogLine.{LogLine}
use Rattle.books.specs.declared.AuditLine.{AuditLine}
use Rattle.state.specs.declared.Core.{Core}
use Rattle.state.specs.State.{no_session}
use Rattle.commands.specs.declared.Brought.{Brought}
use Rattle.panel.specs.Panel.{start_of}
use Rattle.doors.specs.Doors.{no_door, ends_refused}
pub use Rattle.commands.specs.declared.LockTurn.{LockTurn}
pub use Rattle.commands.specs.declared.LockTurn.TheVariants.{Open, Shut}
pub use Rattle.commands.specs.declared.Question.{Question}
pub use Rattle.commands.specs.declared.Act.{Act}
pub use Rattle.commands.specs.declared.Act.TheVariants.{Begin, Read, Write, Abandon}
pub use Rattle.commands.specs.declared.Command.{Command}
pub use Rattle.commands.specs.declared.Command.TheVariants.{Cycle, Turn, Clear, Tick, Ask, Call, Commit}
pub use Rattle.commands.specs.declared.Given.{Given}
pub use Rattle.commands.specs.declared.Reply.{Reply}
pub use Rattle.commands.specs.Answers.{World, plain, giving}
pub use Rattle.steps.specs.Step.{with_state, answers, cycles, logs, audits, lock_turned, reply_to, called_by, call_of, step}

abbrev pub Step : Type 0
Step = Command

abbrev pub number_of : Reply → ℕ
number_of r = r.number

-- a device that was started, with stores of any length and with anything in them
abbrev pub started : ℕ → ℕ → ℕ → List ArchiveLine → List LogLine → List AuditLine → World
started time supcode custcode archive log audit =
    record { state = (start_of time supcode custcode).state; archive = archive; log = log; audit = audit }

-- all that is no session: the core and the stores
pub record Body : Type 0 where
  pub core : Core
  pub archive : List ArchiveLine
  pub log : List LogLine
  pub audit : List AuditLine

abbrev pub body_of : World → Body
body_of w = record { core = w.state.core; archive = w.archive; log = w.log; audit = w.audit }

-- what is said of a cycle, and of any other command
abbrev pub on_cycle : {A : Type 0} → (Brought → A) → A → Step → A
on_cycle f d (Cycle r) = f r
on_cycle f d (Turn turn) = d
on_cycle f d Clear = d
on_cycle f d (Tick named) = d
on_cycle f d (Ask question) = d
on_cycle f d (Call door act) = d
on_cycle f d (Commit door) = d

-- which lock is turned, and whether to open
abbrev pub lock_of : LockTurn → ℕ
lock_of (Open lock code) = lock
lock_of (Shut lock) = lock

abbrev pub opens_it : LockTurn → Bool
opens_it (Open lock code) = true
opens_it (Shut lock) = false

-- ---- what a step is to the sessions

-- a call whose door is not 1..2 is no session's
abbrev pub role_at : ℕ → order.Act → Role
role_at door y = cond (no_door door) aside (at (cond (eqb door 1) keypad port) y)

abbrev pub act_of : Act → order.Act
act_of Begin = order.Act.begin
act_of (Read setting) = order.Act.read
act_of (Write setting v) = order.Act.write
act_of Abandon = order.Act.abandon

abbrev pub role : Step → Role
role (Cycle r) = aside
role (Turn turn) = aside
role Clear = aside
role (Tick named) = aside
role (Ask question) = aside
role (Call door act) = role_at door (act_of act)
role (Commit door) = role_at door order.Act.commit

-- 10, 11 and 12 at a commit also end its session
abbrev pub verdict_of : ℕ → Verdict
verdict_of n = cond (eqb n 0) done (cond (ends_refused n) ended refused)

-- the state with its unfinished sessions taken away
abbrev pub closed : World → World
closed w = with_state w (record { core = w.state.core; keypad = no_session; port = no_session })

abbrev pub corrector : Device
corrector = record {
  World = World;
  Step = Step;
  Answer = Reply;
  step = step;
  role = role;
  verdict = λ a. verdict_of (number_of a);
  closed = closed;
}
