use Rattle.std.proofs.Common.{arith}
use Rattle.spelling.proofs.Appended.{two}
use Rattle.message.specs.Message.{body}
use Rattle.message.proofs.put_body.Goals as goal

pub returns : goal.returns
unfolding body
returns c =
    two 154 (omega arith) c.put_line.ensures
    (two 129 (omega arith) c.put_line-2.ensures
    (two 104 (omega arith) c.put_line-3.ensures
    (two 79 (omega arith) c.put_line-4.ensures
    (two 54 (omega arith) c.put_line-5.ensures
    (two 29 (omega arith) c.put_line-6.ensures
    c.put_text.ensures)))))
