use Rattle.std.proofs.Common.{arith}
use Rattle.spelling.proofs.Appended.{two, looser, retext}
use Rattle.text.proofs.Puts.{accepted_office, refused_office}
use Rattle.text.proofs.echoes.office_text.Goals as goal
use Rattle.text.proofs.echoes.office_text.Goals.{in-Ok, in-Err}

pub returns : goal.returns
returns c =
    let p = c.args.parsed in
    elim c.match-parsed.branch [
      | in-Ok w ↦
          let last = rw w.cursor-is at c.put_byte.ensures in
          retext (accepted_office p w.in-Ok.v w.in-Ok.is) (looser 422 (omega arith) (two 126 (omega arith) w.put_decimal.ensures (two 106 (omega arith) w.put_others.ensures last)))
      | in-Err w ↦
          let last = rw w.cursor-is at c.put_byte.ensures in
          retext (refused_office p w.in-Err.number w.in-Err.is)
          (looser 422 (omega arith) (two 29 (omega arith) w.put_text.ensures (two 22 (omega arith) w.put.ensures last)))
    ]
