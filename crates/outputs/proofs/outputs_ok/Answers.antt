-- The chain's answer, over the outputs with their places, is the definition's.
use Rattle.std.proofs.Common.{rules, arith, ◌∙◌}
use Rattle.std.proofs.lemmas.Iterator.{YieldsList-from_slice}
use Rattle.std.proofs.lemmas.Iterator.Consumers.{YieldsList-from_enumerate}
use Rattle.std.proofs.lemmas.Iterator.Search.{all_from_yields_List}
use Rattle.ground.proofs.Chains.{all_places}
use Rattle.outputs.specs.Outputs.{output_b, fresh_output}
use Rattle.outputs.specs.Four.{output_count, rule_at, outputs_b}
use Rattle.outputs.proofs.outputs_ok.Goals as goal

pub returns : goal.returns
unfolding outputs_b
returns c =
    all_from_yields_List (λ p. output_b (rule_at c.args.a p.0) p.1) _ _ _ c.all.ensures.ran (YieldsList-from_enumerate (YieldsList-from_slice c.args.o (cc)) (cc)) (λ x b q k. search rules)
    ∙ all_places (λ p. output_b (rule_at c.args.a p.0) p.1) fresh_output c.args.o output_count (omega arith)
