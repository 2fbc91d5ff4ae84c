use Rattle.lines.proofs.Cuts.{Taken}
use Rattle.lines.proofs.inputs_in.Given as goal

abbrev pub invariant-loop-count : goal.invariant-loop-count
invariant-loop-count l = Taken l.input l.inputs l.count l.at
