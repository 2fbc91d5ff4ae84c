use Rattle.std.proofs.Common.{arith}
use Rattle.text.specs.Echoes.{last_words}
use Rattle.text.proofs.Puts.{rows}
use Rattle.text.proofs.echoes.LastWords.put.Goals as goal

pub returns : goal.returns
unfolding last_words
returns c = rows _ _ 84 (omega arith) c.put.ensures c.put-2.ensures
