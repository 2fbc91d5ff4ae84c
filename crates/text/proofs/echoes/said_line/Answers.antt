use Rattle.std.proofs.Common.{arith}
use Rattle.text.specs.Echoes.{said_text}
use Rattle.spelling.proofs.Appended.{two}
use Rattle.text.proofs.echoes.said_line.Goals as goal

pub returns : goal.returns
unfolding said_text
returns c = two 422 (omega arith) c.put_decimal.ensures (two 402 (omega arith) c.put.ensures c.put_byte.ensures)
