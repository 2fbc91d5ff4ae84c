use Rattle.std.proofs.Common.{◌≡◌, ◌∙◌, rules}
use Rattle.std.proofs.iter.runs.Made.{chains}
use Rattle.std.specs.Prelude.{bit_xor}
use Rattle.std.specs.List.{fold}
use Rattle.message.proofs.Check.{xor_folded}
use Rattle.message.proofs.xor_of.Goals as goal

pub returns : goal.returns
returns c =
    let folded : c.fold.result ≡ fold (λ a b. bit_xor a b) 0 c.args.part.now = search (rules, chains) in
    folded ∙ xor_folded c.args.part.now
