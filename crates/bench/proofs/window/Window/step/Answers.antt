-- What is written lies within the buffer of answers.
use Rattle.std.proofs.Common.{sym, length-take-le}
use Rattle.lines.proofs.Fronts.{answers_within}
use Rattle.bench.specs.Bench.{there}
use Rattle.bench.proofs.window.Window.step.Goals as goal

pub slice_bounds-write_all-end-2 : goal.slice_bounds-write_all-end-2
slice_bounds-write_all-end-2 c =
    let x = c.answer-answers in
    sym (length-take-le _ _ (answers_within c.args.desk.now (there c.args.self.now) c.args.out.now x.new.out x.result x.ensures.0 x.ensures.1))
