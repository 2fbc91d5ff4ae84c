-- Lines put to a desk, read as runs. The commands among them are the steps. A start begins a new run, over the stores as they then stand. An empty
-- line is answered by nothing, an unknown one by `?`, and a message by what the reader says of it; none of these is a step.
-- Assumes nothing.
use Rattle.std.specs.Prelude.{ℕ, ◌-◌, ◌≡◌, List, [], ◌∷◌, ◌++◌, length, replicate, take}
use Rattle.order.specs.Order.{run}
use Rattle.commands.specs.declared.Command.{Command}
use Rattle.commands.specs.declared.Reply.{Reply}
use Rattle.commands.specs.declared.Entry.{Entry}
use Rattle.commands.specs.declared.Entry.TheVariants as entry
use Rattle.commands.specs.declared.Echo.{Echo}
use Rattle.commands.specs.declared.Echo.TheVariants as echo
use Rattle.panel.specs.Panel.{start_of}
use Rattle.commands.specs.Answers.{World}
use Rattle.desk.specs.declared.Desk.{Desk}
use Rattle.desk.specs.declared.Served.{Served}
use Rattle.desk.specs.Desk.{block, no_response, world_in, desk_of, served}
use Rattle.runs.specs.Run.{corrector, started}
pub use Rattle.runs.specs.Never.{Sized}

-- ---- a run

-- the world in which it began, and its steps
pub record Run : Type 0 where
  pub from : World
  pub steps : List Command

-- what it answers, and the world at its end
unfoldable pub answered : Run → List Reply
answered r = (run corrector r.steps r.from).0

unfoldable pub end_of : Run → World
end_of r = (run corrector r.steps r.from).1

-- ---- the runs among lines

-- a start, with the commands after it
pub record Part : Type 0 where
  pub time : ℕ
  pub supcode : ℕ
  pub custcode : ℕ
  pub steps : List Command

-- the commands before the first start
unfoldable pub at_first : List Entry → List Command
at_first [] = []
at_first (entry.Nothing ∷ es) = at_first es
at_first (entry.Unknown ∷ es) = at_first es
at_first (entry.Start time supcode custcode ∷ es) = []
at_first (entry.Put c ∷ es) = c ∷ at_first es
at_first (entry.Parse p ∷ es) = at_first es

-- each start, with the commands between it and the next
unfoldable pub parts : List Entry → List Part
parts [] = []
parts (entry.Nothing ∷ es) = parts es
parts (entry.Unknown ∷ es) = parts es
parts (entry.Start time supcode custcode ∷ es) = record { time = time; supcode = supcode; custcode = custcode; steps = at_first es } ∷ parts es
parts (entry.Put c ∷ es) = parts es
parts (entry.Parse p ∷ es) = parts es

-- the first run goes on with the device that is there
unfoldable pub first_run : List Entry → World → Run
first_run es w = record { from = w; steps = at_first es }

-- the run that a start begins: nothing of the run before it is kept but the stores
unfoldable pub next : Part → Run → Run
next p r = record {
  from = started p.time p.supcode p.custcode (end_of r).archive (end_of r).log (end_of r).audit;
  steps = p.steps;
}

unfoldable pub last_of : Run → List Part → Run
last_of r [] = r
last_of r (p ∷ ps) = last_of (next p r) ps

-- the answers of all the runs; the number that a start is answered with comes before those of its run
unfoldable pub answers_of : Run → List Part → List Reply
answers_of r [] = answered r
answers_of r (p ∷ ps) = answered r ++ ((start_of p.time p.supcode p.custcode).reply ∷ answers_of (next p r) ps)

-- the run that is under way after the lines
unfoldable pub last_run : List Entry → World → Run
last_run es w = last_of (first_run es w) (parts es)

-- ---- what is said to the lines

-- each answer at the place of its command, or of its start
unfoldable pub in_place : List Entry → List Reply → List Echo
in_place [] rs = []
in_place (entry.Nothing ∷ es) rs = echo.Nothing ∷ in_place es rs
in_place (entry.Unknown ∷ es) rs = echo.Unknown ∷ in_place es rs
in_place (entry.Start time supcode custcode ∷ es) [] = []
in_place (entry.Start time supcode custcode ∷ es) (r ∷ rs) = echo.Said r ∷ in_place es rs
in_place (entry.Put c ∷ es) [] = []
in_place (entry.Put c ∷ es) (r ∷ rs) = echo.Said r ∷ in_place es rs
in_place (entry.Parse p ∷ es) rs = echo.Parse p ∷ in_place es rs

unfoldable pub said_to : List Entry → World → List Echo
said_to es w = in_place es (answers_of (first_run es w) (parts es))

-- ---- a block, and blocks one after another

-- what is to be handed back for a block
unfoldable pub ran : Desk → List Entry → Served
ran d es = record {
  desk = desk_of (end_of (last_run es (world_in d)));
  responses = said_to es (world_in d) ++ replicate (block - length es) no_response;
}

-- what `desk::serve` is given beside the desk: an array, and how many of its lines are to be served
pub record Block : Type 0 where
  pub inputs : List Entry
  pub count : ℕ
  pub full : length inputs ≡ block

unfoldable pub lines_in : Block → List Entry
lines_in b = take b.count b.inputs

unfoldable pub lines_of : List Block → List Entry
lines_of [] = []
lines_of (b ∷ bs) = lines_in b ++ lines_of bs

-- blocks served, each on the desk that came back from the one before: what was put out to their lines, and the desk at the end
unfoldable pub served_all : List Block → Desk → List Echo × Desk
served_all [] d = ([], d)
served_all (b ∷ bs) d =
    let s = served d b.inputs b.count in
    (take (length (lines_in b)) s.responses ++ (served_all bs s.desk).0, (served_all bs s.desk).1)

-- ---- a device that was just started, over stores of their exact lengths

pub record Begun (w : World) : Type 0 where
  pub time : ℕ
  pub supcode : ℕ
  pub custcode : ℕ
  pub state : w.state ≡ (start_of time supcode custcode).state
  pub sized : Sized w
