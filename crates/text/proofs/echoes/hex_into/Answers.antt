use Rattle.std.proofs.Common.{arith}
use Rattle.spelling.proofs.Lent.{digits_at}
use Rattle.spelling.proofs.Spelled.{within}
use Rattle.text.proofs.Puts.{no_byte, byte_more}
use Rattle.text.proofs.echoes.hex_into.Goals as goal

pub loop-b-init : goal.loop-b-init
loop-b-init c = no_byte c.args.out.now c.args.part.now c.args.at

pub loop-b-preserved : goal.loop-b-preserved
loop-b-preserved c =
    let l = c.loop-b in
    let i = l.invariant in
    byte_more c.args.part.now l.b-index (omega arith) i
    (digits_at l.out l.next 16 2 _ c.digits_into.new.part (within 16 (omega arith) (omega arith)) (omega (arith, i.most, i.room)) c.digits_into.ensures)
