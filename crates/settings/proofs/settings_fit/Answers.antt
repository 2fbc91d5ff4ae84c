-- The chain's answer, over the settings with their places, is the definition's.
use Rattle.std.proofs.Common.{rules, arith, ◌∙◌}
use Rattle.std.proofs.lemmas.Iterator.{YieldsList-from_slice}
use Rattle.std.proofs.lemmas.Iterator.Consumers.{YieldsList-from_enumerate}
use Rattle.std.proofs.lemmas.Iterator.Search.{all_from_yields_List}
use Rattle.ground.proofs.Chains.{all_places}
use Rattle.settings.specs.Settings.{fits_b, fits_at, no_setting, setting_count, settings_fit_b}
use Rattle.settings.proofs.settings_fit.Goals as goal

pub returns : goal.returns
unfolding settings_fit_b fits_at
returns c =
    all_from_yields_List (λ p. fits_b p.0 p.1.value) _ _ _ c.all.ensures.ran (YieldsList-from_enumerate (YieldsList-from_slice c.args.a (cc)) (cc)) (λ x b q k. search rules)
    ∙ all_places (λ p. fits_b p.0 p.1.value) no_setting c.args.a setting_count (omega arith)
