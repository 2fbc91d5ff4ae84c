-- Each state of a run from a start is whole.
-- Assumes nothing.
use mathlib.Core.Path.{◌≡◌}
use mathlib.Core.Bool.{true}
use mathlib.Core.List.{List, [], ◌∷◌}
use Prim.Native.Nat.{ℕ}
use Rattle.state.specs.State.{whole_b}
use Rattle.books.specs.declared.ArchiveLine.{ArchiveLine}
use Rattle.books.specs.declared.LogLine.{LogLine}
use Rattle.books.specs.declared.AuditLine.{AuditLine}
use Rattle.panel.proofs.Laws.{start_whole}
use Rattle.steps.proofs.Keeps.{step_whole}
use Rattle.order.specs.Order.{run}
use Rattle.runs.specs.Run.{Step, World, step, corrector, started}

run_whole : (xs : List Step) (w : World) → whole_b w.state ≡ true → whole_b (run corrector xs w).1.state ≡ true
run_whole [] w e = e
run_whole (x ∷ xs) w e = run_whole xs (step x w).0 (step_whole x w e)

-- A START LEADS TO WHOLE STATES ONLY
pub always_whole : (xs : List Step) (time supcode custcode : ℕ) (archive : List ArchiveLine) (log : List LogLine) (audit : List AuditLine)
    → whole_b (run corrector xs (started time supcode custcode archive log audit)).1.state ≡ true
always_whole xs time supcode custcode archive log audit =
    run_whole xs (started time supcode custcode archive log audit) (start_whole time supcode custcode)
