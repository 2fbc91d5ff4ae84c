use Rattle.std.proofs.Common.{arith}
use Rattle.spelling.proofs.Appended.{two, looser, retext}
use Rattle.text.proofs.Puts.{accepted_line, refused_line}
use Rattle.text.proofs.echoes.parsed_line.Goals as goal
use Rattle.text.proofs.echoes.parsed_line.Goals.{in-Ok, in-Err}

pub returns : goal.returns
returns c =
    let p = c.args.parsed in
    elim c.match-parsed.branch [
      | in-Ok w ↦
          let last = rw w.cursor-is at c.put_byte-2.ensures in
          retext (accepted_line p w.in-Ok.v w.in-Ok.is)
          (looser 422 (omega arith) (two 128 (omega arith) w.put_byte.ensures (two 127 (omega arith) w.put.ensures (two 106 (omega arith) w.put_others.ensures last))))
      | in-Err w ↦
          let last = rw w.cursor-is at c.put_byte-2.ensures in
          retext (refused_line p w.in-Err.number w.in-Err.is) (looser 422 (omega arith) (two 21 (omega arith) w.put_decimal.ensures last))
    ]
