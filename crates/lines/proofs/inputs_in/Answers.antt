-- Each turn takes one line; where there is none more, or the block is full, those taken are the input's.
use Rattle.std.proofs.Common.{sym, ◌∙◌, ap, arith}
use Rattle.text.proofs.Bytes.{the_rest}
use Rattle.lines.specs.Lines.{line_end}
use Rattle.lines.proofs.Cuts.{line_more, no_more, full}
use Rattle.lines.proofs.inputs_in.Goals as goal

pub returns-in_default : goal.returns-in_default
returns-in_default c =
    let input = c.args.input.now in
    let l = c.loop-count in
    no_more input l.inputs l.count l.at l.invariant (omega arith) (sym (c.line_end.ensures ∙ ap line_end (the_rest input l.at)) ∙ c.in_default.is)

pub loop-count-preserved : goal.loop-count-preserved
loop-count-preserved c =
    let input = c.args.input.now in
    let l = c.loop-count in
    let next = line_more input l.inputs l.count l.at c.in-Some.n l.invariant (omega arith) (sym (c.line_end.ensures ∙ ap line_end (the_rest input l.at)) ∙ c.in-Some.is) in
    rw (c.entry_of.ensures, the_rest input l.at) next

pub returns : goal.returns
returns c = full c.args.input.now c.loop-count.inputs c.loop-count.count c.loop-count.at c.loop-count.invariant (omega arith)
