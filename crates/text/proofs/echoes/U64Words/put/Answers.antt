use Rattle.std.proofs.Common.{arith}
use Rattle.spelling.proofs.Appended.{two}
use Rattle.text.proofs.Puts.{word}
use Rattle.text.proofs.echoes.U64Words.put.Goals as goal

pub returns : goal.returns
returns c = word (two 21 (omega arith) c.put_byte.ensures c.put_decimal.ensures)
