-- Each entry is the definition's.
use Rattle.std.proofs.Common.{rules}
use Rattle.ground.proofs.Chains.{listed_by}
use Rattle.outputs.specs.Four.{output_count}
use Rattle.outputs.specs.Plan.{all_shown_guarded}
use Rattle.outputs.proofs.outputs_shown.Goals as goal

pub returns : goal.returns
unfolding all_shown_guarded
returns c = listed_by _ record { account = 0; waiting = 0; lost = 0 } output_count c.from_fn.result c.from_fn.ensures.items.long (λ k l. let h = c.from_fn.ensures.items.at k record { account = 0; waiting = 0; lost = 0 } l in search rules)
