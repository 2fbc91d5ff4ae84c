use Rattle.std.proofs.Common.{◌*◌, take}
use Rattle.spelling.specs.Spelling.{Put}
use Rattle.text.specs.Echoes.{hexed}
use Rattle.text.proofs.echoes.hex_into.Given as goal

abbrev pub invariant-loop-b : goal.invariant-loop-b
invariant-loop-b l = Put (l.b-index * 2) l.initial.out l.out l.at l.next (hexed (take l.b-index l.part))
