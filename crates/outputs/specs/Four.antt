-- The four outputs, each by the rule of one. Document 02, Three. Outputs are numbered from 0 here; output k is output k + 1 on paper.
-- Assumes nothing.
use Rattle.std.specs.Prelude.{ℕ, ◌+◌, Bool, false, List, replicate, slice_index_or}
use Rattle.ground.specs.Below.{all_below, listed}
use Rattle.settings.specs.declared.Setting.{Setting}
use Rattle.settings.specs.Settings.{natural_at, first_choice, first_weight}
use Rattle.outputs.specs.declared.Rule.{Rule}
use Rattle.outputs.specs.declared.Gain.{Gain}
use Rattle.outputs.specs.declared.Output.{Output}
use Rattle.outputs.specs.declared.AllGained.{AllGained}
use Rattle.outputs.specs.declared.AllTicked.{AllTicked}
use Rattle.outputs.specs.declared.Shown.{Shown}
use Rattle.outputs.specs.Outputs.{gained_by, ticked_by, committed_by, output_b, fresh_output, output_shown}

abbrev pub output_count : ℕ
output_count = 4

-- "settings 22 to 29 (choices ..; then weights ..)": the two settings of output k
unfoldable pub rule_at : List Setting → ℕ → Rule
rule_at a k = record { choice = natural_at a (first_choice + k); weight = natural_at a (first_weight + k) }

-- output k; past the last stands a fresh one
abbrev pub output_at : List Output → ℕ → Output
output_at o k = slice_index_or o k fresh_output

-- after an accepted cycle: the outputs, and which of them lost pulses
unfoldable pub all_gained : (ℕ → Rule) → Gain → List Output → AllGained
all_gained rules g o = record {
  outputs = listed (λ k. (gained_by (rules k) g (output_at o k)).output) output_count;
  over = listed (λ k. (gained_by (rules k) g (output_at o k)).over) output_count;
}

-- where nothing is counted
unfoldable pub none_gained : List Output → AllGained
none_gained o = record { outputs = o; over = replicate output_count false }

-- after a tick: the outputs, and "the four numbers emitted"
unfoldable pub all_ticked : ℕ → List Output → AllTicked
all_ticked n o = record {
  outputs = listed (λ k. (ticked_by n (output_at o k)).output) output_count;
  emitted = listed (λ k. (ticked_by n (output_at o k)).emitted) output_count;
}

-- "15, a tick naming more than 600"
abbrev pub most_tick : ℕ
most_tick = 600

-- after an accepted commit
unfoldable pub all_committed : (ℕ → Rule) → (ℕ → Rule) → List Output → List Output
all_committed old new o = listed (λ k. committed_by (old k) (new k) (output_at o k)) output_count

unfoldable pub outputs_b : (ℕ → Rule) → List Output → Bool
outputs_b rules o = all_below (λ k. output_b (rules k) (output_at o k)) output_count

unfoldable pub fresh_outputs : List Output
fresh_outputs = replicate output_count fresh_output

unfoldable pub all_shown : (ℕ → Rule) → List Output → List Shown
all_shown rules o = listed (λ k. output_shown (rules k) (output_at o k)) output_count
