use Rattle.std.proofs.Common.{arith}
use Rattle.text.specs.Echoes.{audit_words, number_words}
use Rattle.text.proofs.Puts.{rows}
use Rattle.text.proofs.echoes.AuditLineWords.put.Goals as goal

pub returns : goal.returns
unfolding audit_words number_words
returns c = rows _ _ 132 (omega arith) c.put_all.ensures (rows _ _ 48 (omega arith) c.put.ensures c.put-2.ensures)
