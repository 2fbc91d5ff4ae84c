-- Every run at a desk began with a start. The desk was handed out fresh, and a start among the lines finds stores of their exact lengths, because no step changes the
-- length of a store.
-- Assumes nothing.
use Prim.Native.Nat.{ℕ}
use mathlib.Core.Path.{refl}
use mathlib.Core.List.{List, [], ◌∷◌}
use lib.ListN.{length-replicate}
use Rattle.ring.specs.Ring.{archive_lines, log_lines, audit_lines}
use Rattle.books.specs.Books.{no_archive, no_log, no_audit}
use Rattle.commands.specs.declared.Entry.{Entry}
use Rattle.commands.specs.Answers.{World}
use Rattle.desk.specs.Desk.{world_in}
use Rattle.desk.specs.Desk as desk
use Rattle.runs.proofs.Never.{run_sized}
use Rattle.served.specs.Served.{Run, end_of, Part, parts, first_run, next, last_of, last_run, Begun}

-- ---- every run began with a start

next_begun : (p : Part) (r : Run) → Begun r.from → Begun (next p r).from
unfolding next end_of
next_begun p r b =
    let s = run_sized r.steps r.from b.sized in
    record { time = p.time; supcode = p.supcode; custcode = p.custcode; state = refl; sized = record { archive = s.archive; log = s.log; audit = s.audit } }

last_begun_lem : (r : Run) (ps : List Part) → Begun r.from → Begun (last_of r ps).from
unfolding last_of
last_begun_lem r [] b = b
last_begun_lem r (p ∷ ps) b = last_begun_lem (next p r) ps (next_begun p r b)

-- THE RUN UNDER WAY BEGAN WITH A START, where the first did
pub always_begun : (es : List Entry) (w : World) → Begun w → Begun (last_run es w).from
unfolding last_run first_run
always_begun es w b = last_begun_lem (first_run es w) (parts es) b

-- A FRESH DESK WAS JUST STARTED
pub fresh_begun : (time supcode custcode : ℕ) → Begun (world_in (desk.started time supcode custcode).desk)
unfolding desk.started
fresh_begun time supcode custcode = record {
  time = time;
  supcode = supcode;
  custcode = custcode;
  state = refl;
  sized = record { archive = length-replicate archive_lines no_archive; log = length-replicate log_lines no_log; audit = length-replicate audit_lines no_audit };
}
