-- Each entry is the definition's.
use Rattle.std.proofs.Common.{rules}
use Rattle.ground.proofs.Chains.{listed_by}
use Rattle.outputs.specs.Outputs.{fresh_output}
use Rattle.outputs.specs.Four.{output_count, all_committed}
use Rattle.outputs.proofs.after_commits.Goals as goal

pub returns : goal.returns
unfolding all_committed
returns c = listed_by _ fresh_output output_count c.from_fn.result c.from_fn.ensures.items.long (λ k l. let h = c.from_fn.ensures.items.at k fresh_output l in search rules)
