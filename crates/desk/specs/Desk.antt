-- Lines put to a desk, which is the device's state with its three stores. A command does its step, with the desk's stores lent.
-- Assumes nothing.
use Rattle.std.specs.Prelude.{ℕ, zero, suc, min, List, replicate, get_or, set}
use Rattle.ring.specs.Ring.{archive_lines, log_lines, audit_lines}
use Rattle.books.specs.Books.{no_archive, no_log, no_audit}
use Rattle.panel.specs.Panel.{start_of}
use Rattle.commands.specs.declared.Entry.{Entry}
use Rattle.commands.specs.declared.Entry.TheVariants as entry
use Rattle.commands.specs.declared.Echo.{Echo}
use Rattle.commands.specs.declared.Echo.TheVariants as echo
use Rattle.commands.specs.Answers.{World}
use Rattle.steps.specs.Step.{with_state, step}
use Rattle.desk.specs.declared.Desk.{Desk}
use Rattle.desk.specs.declared.Started.{Started}
use Rattle.desk.specs.declared.Served.{Served}

-- how many lines a block may have
abbrev pub block : ℕ
block = 256

-- a start writes nothing into the stores: every line is one that was never written
unfoldable pub started : ℕ → ℕ → ℕ → Started
started time supcode custcode = record {
  number = (start_of time supcode custcode).reply.number;
  desk = record {
    state = (start_of time supcode custcode).state;
    archive = replicate archive_lines no_archive;
    log = replicate log_lines no_log;
    audit = replicate audit_lines no_audit;
  };
}

-- ---- one line

abbrev pub world_in : Desk → World
world_in d = record { state = d.state; archive = d.archive; log = d.log; audit = d.audit }

abbrev pub desk_of : World → Desk
desk_of w = record { state = w.state; archive = w.archive; log = w.log; audit = w.audit }

-- A start replaces the state. A refused one does too: by the state of start time 0 and codes 0.
unfoldable pub entered : Entry → World → World × Echo
entered entry.Nothing w = (w, echo.Nothing)
entered entry.Unknown w = (w, echo.Unknown)
entered (entry.Start time supcode custcode) w =
    (with_state w (start_of time supcode custcode).state, echo.Said (start_of time supcode custcode).reply)
entered (entry.Put c) w = ((step c w).0, echo.Said (step c w).1)
entered (entry.Parse p) w = (w, echo.Parse p)

-- ---- lines one after another

abbrev pub no_input : Entry
no_input = entry.Nothing

abbrev pub no_response : Echo
no_response = echo.Nothing

abbrev pub entry_at : List Entry → ℕ → Entry
entry_at inputs k = get_or inputs k no_input

-- the world after the first k lines
unfoldable pub world_after : World → List Entry → ℕ → World
world_after w inputs zero = w
world_after w inputs (suc k) = (entered (entry_at inputs k) (world_after w inputs k)).0

-- what is said to the first k lines, each at its place
unfoldable pub echoes : World → List Entry → ℕ → List Echo
echoes w inputs zero = replicate block no_response
echoes w inputs (suc k) = set (echoes w inputs k) k (entered (entry_at inputs k) (world_after w inputs k)).1

unfoldable pub served : Desk → List Entry → ℕ → Served
served d inputs count = record { desk = desk_of (world_after (world_in d) inputs (min count block)); responses = echoes (world_in d) inputs (min count block) }
