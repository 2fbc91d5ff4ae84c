use Rattle.std.proofs.Common.{◌≡◌, length, arith, rules}
use Rattle.spelling.proofs.Appended.{two}
use Rattle.message.specs.Message.{cubic_metres, line}
use Rattle.message.proofs.put_line.Goals as goal

pub returns : goal.returns
unfolding line cubic_metres
returns c =
    let value = two 13 (omega arith) c.put_digits.ensures (two 4 (omega arith) c.put_byte-2.ensures c.put_digits-2.ensures) in
    let address : length c.args.address ≡ 5 = search (rules, c.well_formed) in
    two 25 (omega arith) c.put_text.ensures (two 20 (omega arith) c.put_byte.ensures (two 19 (omega arith) value c.put_text-2.ensures))
