use Prim.Native.Nat.{◌-◌, ◌≤◌}
use lib.ListN.{length}
use Rattle.pace.proofs.read_full.Given as goal

abbrev pub invariant-loop-held : goal.invariant-loop-held
invariant-loop-held l = l.held ≤ length l.input

abbrev pub decreases-loop-held : goal.decreases-loop-held
decreases-loop-held l = length l.input - l.held
