use Rattle.std.proofs.Common.{arith, ap, refl}
use Rattle.text.specs.Echoes.{hexed, readout_words}
use Rattle.spelling.proofs.Appended.{two, retext}
use Rattle.text.proofs.Puts.{word}
use Rattle.text.proofs.Lent.{few, front_length, shown}
use Rattle.text.proofs.echoes.ReadoutWords.put.Goals as goal

pub returns : goal.returns
unfolding readout_words
returns c =
    let a = c.args.self in
    let n = c.min-n in
    let w = c.write in
    let most = few a.room n.result a.values _ w.new.buffer n.ensures refl w.ensures in
    let long = front_length a.room n.result a.values _ w.new.buffer n.ensures refl w.ensures in
    let bytes = shown a.room n.result a.values _ w.new.buffer n.ensures refl w.ensures in
    word (two 401 (omega (arith, most, long)) c.put_byte.ensures (retext (ap hexed bytes) c.put_hex.ensures))
