use Rattle.std.proofs.Common.{◌≡◌}
use Rattle.spelling.specs.Spelling.{spelled}
use Rattle.reader.proofs.number.Given as goal

abbrev pub invariant-loop-b : goal.invariant-loop-b
invariant-loop-b l = l.value ≡ spelled 10 l.part l.b-index
