-- Each setting stands at its factory value.
use Rattle.std.proofs.Common.{◌≡◌, rules, refl, ◌∙◌}
use Rattle.ground.specs.Below.{listed}
use Rattle.ground.proofs.Chains.{listed_by}
use Rattle.settings.specs.Settings.{no_setting, setting_count, factory_of, factory_settings, row_of, rows}
use Rattle.settings.proofs.factory_settings.Goals as goal

each : listed (λ k. factory_of (row_of k)) setting_count ≡ factory_settings
unfolding factory_settings rows row_of factory_of listed
each = refl

pub returns : goal.returns
returns c =
    listed_by (λ k. factory_of (row_of k)) no_setting setting_count c.from_fn.result c.from_fn.ensures.items.long (λ k l. let h = c.from_fn.ensures.items.at k no_setting l in search rules) ∙ each
