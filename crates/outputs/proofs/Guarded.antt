-- Of settings that fit, the code's rules are the paper's: no weight is above the most. Of whole outputs, so is what a report shows: no account is above the largest weight.
-- Assumes nothing.
use Rattle.std.proofs.Common.{◌≡◌, ℕ, ◌<◌, ◌≤◌, Bool, true, eqb, List, arith, eqb-true, le-leb}
use borrow.Author.Tests.{eqb-false}
use Rattle.ground.specs.Ranges.{most_weight}
use Rattle.ground.proofs.Every.{all_each}
use Rattle.ground.proofs.Flags.{Either, is_true, is_false, either_of}
use Rattle.ground.proofs.Listed.{listed_same}
use Rattle.settings.specs.declared.Setting.{Setting}
use Rattle.settings.specs.Settings.{settings_fit_b}
use Rattle.settings.proofs.Laws.{weight_in_lem}
use Rattle.outputs.specs.declared.Rule.{Rule}
use Rattle.outputs.specs.declared.Gain.{Gain}
use Rattle.outputs.specs.declared.Output.{Output}
use Rattle.outputs.specs.declared.AllGained.{AllGained}
use Rattle.outputs.specs.Outputs.{output_b, output_shown}
use Rattle.outputs.specs.Four.{output_count, rule_at, output_at, all_gained, outputs_b, all_shown}
use Rattle.outputs.specs.Plan.{guarded_by, rule_guarded, most_account, account_guarded, shown_guarded, all_shown_guarded}
use Rattle.outputs.proofs.Choices.{weight_most}
use Rattle.outputs.proofs.Whole.{whole_is}

-- ---- the rules

weight_fits : (a : List Setting) → settings_fit_b a ≡ true → (k : ℕ) → k < output_count → (rule_at a k).weight ≤ most_weight
unfolding rule_at
weight_fits a e k h = (weight_in_lem a e k h).upto

pub rules_guarded : (a : List Setting) → settings_fit_b a ≡ true → (k : ℕ) → k < output_count → rule_guarded a k ≡ rule_at a k
unfolding rule_guarded guarded_by
rules_guarded a e k h = rw (le-leb (rule_at a k).weight most_weight (weight_fits a e k h))

-- ---- the gains

all_gained_is : {o p : List Output} {s t : List Bool} → o ≡ p → s ≡ t → ◌≡◌ {A = AllGained} (record { outputs = o; over = s }) (record { outputs = p; over = t })
all_gained_is e f = cc

pub gains_guarded : (a : List Setting) → settings_fit_b a ≡ true → (g : Gain) (o : List Output) → all_gained (rule_guarded a) g o ≡ all_gained (rule_at a) g o
unfolding all_gained
gains_guarded a e g o =
    all_gained_is
    (listed_same _ _ output_count (λ k h. rw (rules_guarded a e k h)))
    (listed_same _ _ output_count (λ k h. rw (rules_guarded a e k h)))

-- ---- what a report shows

account_most : (r : Rule) (o : Output) → r.weight ≤ most_weight → output_b r o ≡ true → o.account.0 ≤ most_account
account_most r o w e = by (either_of (eqb r.choice 0))
  where
    by : Either (eqb r.choice 0) → o.account.0 ≤ most_account
    by (is_true t) = omega (arith, (whole_is r o e).off (eqb-true r.choice 0 t))
    by (is_false t) = omega (arith, weight_most r w, (whole_is r o e).below (eqb-false r.choice 0 t))

shown_same : (r : Rule) (o : Output) → o.account.0 ≤ most_account → shown_guarded r o ≡ output_shown r o
unfolding shown_guarded account_guarded output_shown
shown_same r o h = rw (le-leb o.account.0 most_account h)

pub shown_guarded_lem : (a : List Setting) → settings_fit_b a ≡ true → (o : List Output) → outputs_b (rule_at a) o ≡ true → all_shown_guarded a o ≡ all_shown (rule_at a) o
unfolding all_shown_guarded all_shown outputs_b
shown_guarded_lem a e o w =
    listed_same _ _ output_count
    (λ k h. shown_same (rule_at a k) (output_at o k) (account_most (rule_at a k) (output_at o k) (weight_fits a e k h) (all_each (λ j. output_b (rule_at a j) (output_at o j)) output_count w k h)))
