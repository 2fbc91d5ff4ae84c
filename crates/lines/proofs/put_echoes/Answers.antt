-- At first no line stands at the front; a turn puts one line more behind the others.
use Rattle.desk.specs.Desk.{no_response}
use Rattle.lines.proofs.Fronts.{none_echoed, echo_more}
use Rattle.lines.proofs.put_echoes.Goals as goal

pub loop-echo-init : goal.loop-echo-init
loop-echo-init c = none_echoed c.args.out.now c.args.responses.now

pub loop-echo-preserved : goal.loop-echo-preserved
loop-echo-preserved c =
    let l = c.loop-echo in
    echo_more c.args.out.now c.args.responses.now l.out c.echo_line-used.new.out l.used c.echo_line-used.result l.echo-index no_response c.requires.roomy c.requires.few l.invariant
    c.loop-echo-test.true c.echo_line-used.ensures
