-- Each entry of both lists is the definition's.
use Rattle.std.proofs.Common.{◌≡◌, ℕ, ◌<◌, get_or, false, rules}
use Rattle.ground.proofs.Chains.{listed_by}
use Rattle.outputs.specs.declared.Gained.{Gained}
use Rattle.outputs.specs.Outputs.{gained_by, fresh_output}
use Rattle.outputs.specs.Four.{output_count, output_at, all_gained}
use Rattle.outputs.specs.Plan.{rule_guarded}
use Rattle.outputs.proofs.after_gains.Goals as goal

none : Gained
none = record { output = fresh_output; over = false }

module _ (c : goal.After-map-2) where
  each : (k : ℕ) → k < output_count → get_or c.from_fn-gained.result k none ≡ gained_by (rule_guarded c.args.a k) c.args.g (output_at c.args.o k)
  unfolding rule_guarded
  each k l = let h = c.from_fn-gained.ensures.items.at k none l in search rules

  output : (k : ℕ) → k < output_count → output_at c.map.result k ≡ (gained_by (rule_guarded c.args.a k) c.args.g (output_at c.args.o k)).output
  output k l = let h = c.map.ensures.items.at k none fresh_output l in let e = each k l in search rules

  over : (k : ℕ) → k < output_count → get_or c.map-2.result k false ≡ (gained_by (rule_guarded c.args.a k) c.args.g (output_at c.args.o k)).over
  over k l = let h = c.map-2.ensures.items.at k none false l in let e = each k l in search rules

pub returns : goal.returns
unfolding all_gained
returns c = rw (listed_by _ fresh_output output_count c.map.result c.map.ensures.items.long (output c), listed_by _ false output_count c.map-2.result c.map-2.ensures.items.long (over c))
