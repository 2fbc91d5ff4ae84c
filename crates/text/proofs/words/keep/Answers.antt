use Rattle.text.proofs.Bytes.{all_copied}
use Rattle.text.proofs.words.keep.Goals as goal

pub returns : goal.returns
returns c =
    let a = c.args in
    all_copied a.input.now c.copy_within.new.self a.from a.to c.kept_of-n.result c.if-input-to.false c.if-to-from.false c.kept_of-n.ensures c.copy_within.ensures.len c.copy_within.ensures.after
