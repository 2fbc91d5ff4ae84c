-- Each entry of both lists is the definition's.
use Rattle.std.proofs.Common.{◌≡◌, ℕ, ◌<◌, get_or, rules}
use Rattle.ground.proofs.Chains.{listed_by}
use Rattle.outputs.specs.declared.Ticked.{Ticked}
use Rattle.outputs.specs.Outputs.{ticked_by, fresh_output}
use Rattle.outputs.specs.Four.{output_count, output_at, all_ticked}
use Rattle.outputs.proofs.after_ticks.Goals as goal

none : Ticked
none = record { output = fresh_output; emitted = 0 }

module _ (c : goal.After-map-2) where
  each : (k : ℕ) → k < output_count → get_or c.map-ticked.result k none ≡ ticked_by c.args.n (output_at c.args.o k)
  each k l = let h = c.map-ticked.ensures.items.at k fresh_output none l in search rules

  output : (k : ℕ) → k < output_count → output_at c.map.result k ≡ (ticked_by c.args.n (output_at c.args.o k)).output
  output k l = let h = c.map.ensures.items.at k none fresh_output l in let e = each k l in search rules

  emitted : (k : ℕ) → k < output_count → get_or c.map-2.result k 0 ≡ (ticked_by c.args.n (output_at c.args.o k)).emitted
  emitted k l = let h = c.map-2.ensures.items.at k none 0 l in let e = each k l in search rules

pub returns : goal.returns
unfolding all_ticked
returns c = rw (listed_by _ fresh_output output_count c.map.result c.map.ensures.items.long (output c), listed_by _ 0 output_count c.map-2.result c.map-2.ensures.items.long (emitted c))
