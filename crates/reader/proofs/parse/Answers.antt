use Rattle.std.proofs.Common.{arith}
use Rattle.reader.proofs.Compared.{other_form, other_check, accepted}
use Rattle.reader.proofs.parse.Goals as goal

pub returns-then-ne : goal.returns-then-ne
returns-then-ne c = other_form _ _ _ (omega arith) c.values_on-values.ensures c.write.ensures _ c.ne.ensures c.if-ne.true

pub returns-then-bytes-expected : goal.returns-then-bytes-expected
returns-then-bytes-expected c = other_check _ _ _ (omega arith) c.values_on-values.ensures c.write.ensures _ c.ne.ensures c.if-ne.false c.if-bytes-expected.true

pub returns : goal.returns
returns c = accepted _ _ _ (omega arith) c.values_on-values.ensures c.write.ensures _ c.ne.ensures c.if-ne.false c.if-bytes-expected.false
