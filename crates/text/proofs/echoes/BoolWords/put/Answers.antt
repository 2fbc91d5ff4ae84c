use Rattle.std.proofs.Common.{arith}
use Rattle.spelling.proofs.Appended.{two}
use Rattle.text.proofs.Puts.{word}
use Rattle.text.proofs.echoes.BoolWords.put.Goals as goal

pub returns : goal.returns
returns c = word (two 2 (omega arith) c.put_byte.ensures (rw c.flag_of.ensures at c.put_byte-2.ensures))
