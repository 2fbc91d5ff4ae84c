-- How the code works the outputs out. Its numbers have 64 bits, so it takes a weight above 1,000,000 litres for an output that is off, and shows no account above the
-- largest weight. A whole state has neither. The laws that both are the paper's there are `rules_guarded` and `shown_guarded_lem` in proofs/Guarded.antt.
-- Assumes nothing.
use Rattle.std.specs.Prelude.{ℕ, ◌+◌, ◌-◌, ◌*◌, ◌%◌, min, false, cond, ◌||◌, List, nat_le, nat_lt}
use Rattle.ground.specs.Below.{listed}
use Rattle.ground.specs.Ranges.{most_weight}
use Rattle.units.specs.Units.{litre_at_base}
use Rattle.settings.specs.declared.Setting.{Setting}
use Rattle.outputs.specs.declared.Rule.{Rule}
use Rattle.outputs.specs.declared.Output.{Output}
use Rattle.outputs.specs.declared.Buffer.{Buffer}
use Rattle.outputs.specs.declared.Gained.{Gained}
use Rattle.outputs.specs.declared.Shown.{Shown}
use Rattle.outputs.specs.Outputs.{most_waiting, lost_rollover, account_of, account_shown}
use Rattle.outputs.specs.Four.{output_count, rule_at, output_at}

-- ---- choice and weight

-- a rule with a weight in range, or that of an output that is off
abbrev pub no_rule : Rule
no_rule = record { choice = 0; weight = 0 }

unfoldable pub guarded_by : Rule → Rule
guarded_by r = cond (nat_le r.weight most_weight) r no_rule

unfoldable pub rule_guarded : List Setting → ℕ → Rule
rule_guarded a k = guarded_by (rule_at a k)

-- ---- a gain, as the code takes it: pulses due go to a buffer, at most three numbers of them one after another

unfoldable pub pushed : ℕ → Buffer → Buffer
pushed due b = record {
  waiting = min (b.waiting + due) most_waiting;
  lost = (b.lost + (b.waiting + due - most_waiting)) % lost_rollover;
  over = b.over || nat_lt most_waiting (b.waiting + due);
}

-- the buffer of an output before any of them
unfoldable pub buffer_of : Output → Buffer
buffer_of o = record { waiting = o.waiting; lost = o.lost; over = false }

-- an output with this account, and with what the buffer has come to
unfoldable pub gained_of : ℕ → Buffer → Gained
gained_of n b = record { output = record { account = account_of n; waiting = b.waiting; lost = b.lost }; over = b.over }

-- ---- what a report shows

-- the largest weight, in the smaller unit
abbrev pub most_account : ℕ
most_account = most_weight * litre_at_base

unfoldable pub account_guarded : ℕ → ℕ → ℕ
account_guarded choice account = cond (nat_le account most_account) (account_shown choice account) 0

unfoldable pub shown_guarded : Rule → Output → Shown
shown_guarded r o = record { account = account_guarded r.choice o.account.0; waiting = o.waiting; lost = o.lost }

unfoldable pub all_shown_guarded : List Setting → List Output → List Shown
all_shown_guarded a o = listed (λ k. shown_guarded (rule_at a k) (output_at o k)) output_count
