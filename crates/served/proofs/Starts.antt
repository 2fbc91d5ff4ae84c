-- Starts among lines: each begins a new run. And a desk that is handed out fresh is one that was just started.
-- Assumes nothing.
use Prim.Native.Nat.{ℕ}
use mathlib.Core.Path.{◌≡◌, refl, sym, ap, ◌∙◌}
use mathlib.Core.List.{List, [], ◌∷◌, ◌++◌, map}
use lib.ListN.{replicate}
use Rattle.order.specs.Order.{run}
use Rattle.ring.specs.Ring.{archive_lines, log_lines, audit_lines}
use Rattle.books.specs.Books.{no_archive, no_log, no_audit}
use Rattle.panel.specs.Panel.{start_of}
use Rattle.commands.specs.declared.Command.{Command}
use Rattle.commands.specs.declared.Entry.{Entry}
use Rattle.commands.specs.declared.Entry.TheVariants as entry
use Rattle.commands.specs.declared.Echo.{Echo}
use Rattle.commands.specs.declared.Echo.TheVariants as echo
use Rattle.commands.specs.Answers.{World}
use Rattle.steps.specs.Step.{step}
use Rattle.desk.specs.Desk.{world_in, entered}
use Rattle.desk.specs.Desk as desk
use Rattle.runs.specs.Run.{corrector, started}
use Rattle.served.specs.Served.{Run, answered, end_of, Part, at_first, parts, first_run, next, last_of, answers_of, last_run, in_place, said_to}
use Rattle.served.proofs.Sitting.{sitting, sitting_runs, said_join}

-- ---- no start: one run

-- LINES WITH NO START AMONG THEM ARE ONE RUN, that of their commands
pub one_run : (es : List Entry) (w : World) → parts es ≡ [] → last_run es w ≡ record { from = w; steps = at_first es }
unfolding last_run last_of first_run
one_run es w e = rw e

-- AND ITS REPLIES STAND AT THE PLACES OF THE COMMANDS
pub replies_in_place : (es : List Entry) (w : World) → parts es ≡ [] → said_to es w ≡ in_place es (run corrector (at_first es) w).0
unfolding said_to answers_of answered first_run
replies_in_place es w e = rw e

put_alone_lem : (cs : List Command) (w : World) → sitting (map entry.Put cs) w ≡ (map echo.Said (run corrector cs w).0, (run corrector cs w).1)
unfolding sitting entered
put_alone_lem [] w = refl
put_alone_lem (c ∷ cs) w = ap (λ (p : List Echo × World). (echo.Said (step c w).1 ∷ p.0, p.1)) (put_alone_lem cs (step c w).0)

-- COMMANDS ALONE: the run is of these very commands, and its replies are what is said
pub commands_alone : (cs : List Command) (w : World)
    → (said_to (map entry.Put cs) w ≡ map echo.Said (run corrector cs w).0) × (end_of (last_run (map entry.Put cs) w) ≡ (run corrector cs w).1)
commands_alone cs w =
    let e = sym (sitting_runs (map entry.Put cs) w) ∙ put_alone_lem cs w in
    (ap (λ (p : List Echo × World). p.0) e, ap (λ (p : List Echo × World). p.1) e)

-- ---- a start

module _ (time supcode custcode : ℕ) (after : List Entry) where
  abbrev here : Part
  here = record { time = time; supcode = supcode; custcode = custcode; steps = at_first after }

  first_ends : (before : List Entry) → at_first (before ++ (entry.Start time supcode custcode ∷ after)) ≡ at_first before
  unfolding at_first
  first_ends [] = refl
  first_ends (entry.Nothing ∷ es) = first_ends es
  first_ends (entry.Unknown ∷ es) = first_ends es
  first_ends (entry.Start t a b ∷ es) = refl
  first_ends (entry.Put c ∷ es) = ap (λ (l : List Command). c ∷ l) (first_ends es)
  first_ends (entry.Parse p ∷ es) = first_ends es

  parts_split : (before : List Entry) → parts (before ++ (entry.Start time supcode custcode ∷ after)) ≡ parts before ++ (here ∷ parts after)
  unfolding parts
  parts_split [] = refl
  parts_split (entry.Nothing ∷ es) = parts_split es
  parts_split (entry.Unknown ∷ es) = parts_split es
  parts_split (entry.Start t a b ∷ es) = rw (first_ends es, parts_split es)
  parts_split (entry.Put c ∷ es) = parts_split es
  parts_split (entry.Parse p ∷ es) = parts_split es

  last_split : (r : Run) (ps : List Part) (p : Part) (qs : List Part) → last_of r (ps ++ (p ∷ qs)) ≡ last_of (next p (last_of r ps)) qs
  unfolding last_of
  last_split r [] p qs = refl
  last_split r (x ∷ ps) p qs = last_split (next x r) ps p qs

  -- A START BEGINS A NEW RUN, which has nothing but the stores of all that was before
  pub starts_anew : (before : List Entry) (w : World) → let v = end_of (last_run before w) in
      last_run (before ++ (entry.Start time supcode custcode ∷ after)) w ≡ last_run after (started time supcode custcode v.archive v.log v.audit)
  unfolding last_run first_run next
  starts_anew before w = rw (first_ends before, parts_split before) (last_split (record { from = w; steps = at_first before }) (parts before) here (parts after))

  said_start : (v : World) → said_to (entry.Start time supcode custcode ∷ after) v
      ≡ echo.Said (start_of time supcode custcode).reply ∷ said_to after (started time supcode custcode v.archive v.log v.audit)
  unfolding said_to first_run at_first parts in_place answers_of answered next end_of
  said_start v = refl

  -- and so has what is said
  pub said_anew : (before : List Entry) (w : World) → let v = end_of (last_run before w) in
      said_to (before ++ (entry.Start time supcode custcode ∷ after)) w
      ≡ said_to before w ++ (echo.Said (start_of time supcode custcode).reply ∷ said_to after (started time supcode custcode v.archive v.log v.audit))
  said_anew before w =
      said_join before (entry.Start time supcode custcode ∷ after) w ∙ ap (λ (l : List Echo). said_to before w ++ l) (said_start (end_of (last_run before w)))

-- ---- a fresh desk

-- A FRESH DESK IS A DEVICE THAT WAS STARTED, over stores of their exact lengths in which no line was ever written
pub fresh_is_started : (time supcode custcode : ℕ)
    → world_in (desk.started time supcode custcode).desk
    ≡ started time supcode custcode (replicate archive_lines no_archive) (replicate log_lines no_log) (replicate audit_lines no_audit)
unfolding desk.started
fresh_is_started time supcode custcode = refl
