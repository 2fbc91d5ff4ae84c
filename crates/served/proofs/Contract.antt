-- The same, said of what the program's own functions `desk::fresh` and `desk::serve` hand back. Their contracts are those that the compiler made of their text
-- (`Post`: of the arguments, the answer, and the arguments at the end); they are not written again here.
-- Assumes nothing.
use Prim.Native.Nat.{ℕ}
use mathlib.Core.Path.{◌≡◌, ap, ◌∙◌}
use lib.ListN.{replicate}
use Rattle.ring.specs.Ring.{archive_lines, log_lines, audit_lines}
use Rattle.books.specs.Books.{no_archive, no_log, no_audit}
use Rattle.desk.specs.declared.Desk.{Desk}
use Rattle.desk.specs.declared.Started.{Started}
use Rattle.desk.specs.declared.Served.{Served}
use Rattle.desk.specs.Desk.{world_in}
use Rattle.desk.proofs.fresh.Reads as fresh
use Rattle.desk.proofs.serve.Reads as serve
use Rattle.runs.specs.Run.{started}
use Rattle.served.specs.Served.{ran, Block, lines_in}
use Rattle.served.proofs.Served.{every_block}
use Rattle.served.proofs.Starts.{fresh_is_started}

-- WHAT `desk::serve` HANDS BACK IS RUNS, whatever desk and block it is given
pub serve_is_run : (d : Desk) (b : Block) (r : Served) (e : _) → serve.Post tt (d, (b.inputs, (b.count, tt))) r e → r ≡ ran d (lines_in b)
serve_is_run d b r e x = x ∙ every_block d b

-- WHAT `desk::fresh` HANDS BACK IS A DEVICE THAT WAS STARTED
pub fresh_starts : (time supcode custcode : ℕ) (r : Started) (e : _) → fresh.Post tt (time, (supcode, (custcode, tt))) r e
    → world_in r.desk ≡ started time supcode custcode (replicate archive_lines no_archive) (replicate log_lines no_log) (replicate audit_lines no_audit)
fresh_starts time supcode custcode r e x = ap (λ (s : Started). world_in s.desk) x ∙ fresh_is_started time supcode custcode
