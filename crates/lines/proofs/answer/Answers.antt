-- Without room nothing is served; else what is done is what the three calls do, one after another.
use Rattle.lines.proofs.Fronts.{none_served, block_served}
use Rattle.lines.proofs.answer.Goals as goal

pub returns-then-out-lt-ROOM : goal.returns-then-out-lt-ROOM
returns-then-out-lt-ROOM c = none_served c.args.d c.args.input.now c.args.out.now c.if-out-lt-ROOM.true

pub returns : goal.returns
returns c =
    block_served c.args.d c.args.input.now c.args.out.now c.put_echoes-used.new.out c.inputs_in-asked.result c.serve-served.result c.put_echoes-used.result
    c.if-out-lt-ROOM.false c.inputs_in-asked.ensures c.serve-served.ensures c.put_echoes-used.ensures
