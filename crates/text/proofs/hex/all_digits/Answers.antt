use Rattle.std.proofs.Common.{◌∙◌, rules}
use Rattle.std.proofs.lemmas.Iterator.{YieldsList-from_slice}
use Rattle.std.proofs.lemmas.Iterator.Search.{all_from_yields_List}
use Rattle.std.specs.Prelude.{nat_lt}
use borrow.Author.Tests.{tests}
use Rattle.spelling.specs.Spelling.{digit_of}
use Rattle.text.proofs.Digits.{digits_all}
use Rattle.text.proofs.hex.all_digits.Goals as goal

pub returns : goal.returns
returns c =
    all_from_yields_List (λ b. nat_lt (digit_of b) 16) _ _ _ c.all.ensures.ran (YieldsList-from_slice c.args.w.now (cc)) (λ x b q k. search (rules, tests))
    ∙ digits_all c.args.w.now
