use Rattle.std.proofs.Common.{arith}
use Rattle.text.proofs.Puts.{none_put, item_more, all_put}
use Rattle.text.proofs.echoes.put_all.Goals as goal

pub loop-item-init : goal.loop-item-init
loop-item-init g c = none_put _ c.args.cursor.now

pub loop-item-preserved : goal.loop-item-preserved
loop-item-preserved g c =
    let l = c.loop-item in
    let x = c.item-item in
    item_more g.W.Words.words g.W.Words.most c.args.items.now l.item-index x.result x.result c.loop-item-test.true x.is l.invariant c.put.ensures

pub returns : goal.returns
returns g c = let l = c.loop-item in all_put g.W.Words.words g.W.Words.most c.args.items.now l.item-index (omega arith) l.invariant
