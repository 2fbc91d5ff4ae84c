use Rattle.std.proofs.Common.{◌*◌, take}
use Rattle.std.specs.List.{flat_map}
use Rattle.spelling.specs.Cursor.{Appends}
use Rattle.text.specs.Echoes.{joined}
use Rattle.text.proofs.echoes.put_all.Given as goal

abbrev pub invariant-loop-item : goal.invariant-loop-item
invariant-loop-item g l = Appends (l.item-index * g.W.Words.most) l.initial.cursor l.cursor (joined (flat_map g.W.Words.words (take l.item-index l.items)))
