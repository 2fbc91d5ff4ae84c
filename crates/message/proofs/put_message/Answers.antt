use Rattle.std.proofs.Common.{arith}
use Rattle.message.proofs.Whole.{whole}
use Rattle.message.proofs.put_message.Goals as goal

pub returns : goal.returns
returns c =
    let stx = c.put_byte.ensures in
    let body = c.put_body.ensures in
    let since = c.put_since.ensures body.put.least (omega (arith, c.requires, stx.put.ends, stx.put.room, body.put.most, body.put.room)) in
    whole c.args.v _ _ _ _ stx body (omega (arith, stx.put.ends, stx.put.room)) _ (rw since at c.xor_of-check.ensures) c.put_byte-2.ensures
