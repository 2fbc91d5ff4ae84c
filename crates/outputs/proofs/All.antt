-- Each of the four outputs goes by the rule of one; so what is whole stays whole.
-- Assumes nothing.
use Rattle.std.proofs.Common.{◌≡◌, ℕ, ◌<◌, true, List, get_or, refl}
use Rattle.ground.specs.Below.{all_below}
use Rattle.ground.proofs.Every.{all_each, each_all}
use Rattle.ground.proofs.Listed.{get_d_listed}
use Rattle.settings.specs.declared.Setting.{Setting}
use Rattle.settings.specs.Settings.{rows, factory_of, factory_settings, settings_fit_b}
use Rattle.settings.proofs.Laws.{choice_in, weight_in_lem}
use Rattle.outputs.specs.declared.Rule.{Rule}
use Rattle.outputs.specs.declared.Gain.{Gain}
use Rattle.outputs.specs.declared.Output.{Output}
use Rattle.outputs.specs.Outputs.{gained_by, ticked_by, committed_by, account_b, output_b, fresh_output}
use Rattle.outputs.specs.Four.{output_count, rule_at, output_at, all_gained, all_ticked, all_committed, outputs_b, fresh_outputs}
use Rattle.outputs.proofs.Whole.{gain_keeps, tick_keeps, commit_keeps}

-- ---- one of the four

module _ (k : ℕ) (h : k < output_count) where
  pub gained_at : (rules : ℕ → Rule) (g : Gain) (o : List Output) → output_at (all_gained rules g o).outputs k ≡ (gained_by (rules k) g (output_at o k)).output
  unfolding all_gained
  gained_at rules g o = get_d_listed (λ j. (gained_by (rules j) g (output_at o j)).output) output_count k fresh_output h

  pub ticked_at : (n : ℕ) (o : List Output) → output_at (all_ticked n o).outputs k ≡ (ticked_by n (output_at o k)).output
  unfolding all_ticked
  ticked_at n o = get_d_listed (λ j. (ticked_by n (output_at o j)).output) output_count k fresh_output h

  pub emitted_at : (n : ℕ) (o : List Output) → get_or (all_ticked n o).emitted k 0 ≡ (ticked_by n (output_at o k)).emitted
  unfolding all_ticked
  emitted_at n o = get_d_listed (λ j. (ticked_by n (output_at o j)).emitted) output_count k 0 h

  pub committed_at : (old new : ℕ → Rule) (o : List Output) → output_at (all_committed old new o) k ≡ committed_by (old k) (new k) (output_at o k)
  unfolding all_committed
  committed_at old new o = get_d_listed (λ j. committed_by (old j) (new j) (output_at o j)) output_count k fresh_output h

  whole_at_lem : (rules : ℕ → Rule) (o : List Output) → outputs_b rules o ≡ true → output_b (rules k) (output_at o k) ≡ true
  unfolding outputs_b
  whole_at_lem rules o e = all_each (λ j. output_b (rules j) (output_at o j)) output_count e k h

-- ---- all four stay whole

pub gains_keep : (rules : ℕ → Rule) (g : Gain) (o : List Output) → outputs_b rules o ≡ true → outputs_b rules (all_gained rules g o).outputs ≡ true
unfolding outputs_b
gains_keep rules g o e = each_all _ output_count (λ k h. rw (gained_at k h rules g o) (gain_keeps (rules k) g (output_at o k) (whole_at_lem k h rules o e)))

pub ticks_keep : (rules : ℕ → Rule) (n : ℕ) (o : List Output) → outputs_b rules o ≡ true → outputs_b rules (all_ticked n o).outputs ≡ true
unfolding outputs_b
ticks_keep rules n o e = each_all _ output_count (λ k h. rw (ticked_at k h n o) (tick_keeps (rules k) n (output_at o k) (whole_at_lem k h rules o e)))

pub commits_keep : (a b : List Setting) (o : List Output) → settings_fit_b b ≡ true → outputs_b (rule_at a) o ≡ true → outputs_b (rule_at b) (all_committed (rule_at a) (rule_at b) o) ≡ true
unfolding outputs_b rule_at
commits_keep a b o f e =
    each_all _ output_count
    (λ k h. rw (committed_at k h (rule_at a) (rule_at b) o) (commit_keeps (rule_at a k) (rule_at b k) (output_at o k) (choice_in b f k h).upto (weight_in_lem b f k h).from (whole_at_lem k h (rule_at a) o e)))

pub fresh_whole : outputs_b (rule_at factory_settings) fresh_outputs ≡ true
unfolding outputs_b all_below rule_at factory_settings factory_of rows fresh_outputs account_b output_b
fresh_whole = refl
