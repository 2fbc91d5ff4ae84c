-- After k turns the desk and what was said are those of k lines.
use Rattle.std.proofs.Common.{◌≡◌}
use Rattle.desk.specs.Desk.{world_in, world_after, echoes}
use Rattle.desk.proofs.serve.Given as goal

abbrev pub invariant-loop-k : goal.invariant-loop-k
invariant-loop-k l = record {
  world : world_in l.tested.desk ≡ world_after (world_in l.fn.d) l.fn.inputs l.k;
  said : l.responses ≡ echoes (world_in l.fn.d) l.fn.inputs l.k;
}
