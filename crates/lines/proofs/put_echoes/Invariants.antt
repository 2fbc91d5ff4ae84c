use Rattle.lines.proofs.Fronts.{Echoed}
use Rattle.lines.proofs.put_echoes.Given as goal

abbrev pub invariant-loop-echo : goal.invariant-loop-echo
invariant-loop-echo l = Echoed l.initial.out l.responses l.out l.used l.echo-index
