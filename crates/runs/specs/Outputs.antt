-- The pulse outputs over a run, said of the history alone (the balance at the end also looks at the device). Document 02, Three: "pulses due, summed from the history of gains and weights, equal emitted plus waiting
-- plus lost, modulo 2^32". Outputs are numbered from 0 here; output k is output k + 1 on paper.
-- Assumes nothing.
use Rattle.std.specs.Prelude.{◌≡◌, ℕ, ◌+◌, ◌-◌, ◌%◌, ◌≤◌, min, Bool, cond, List, [], ◌∷◌, ltb, get_or, drop, Some, None}
use Rattle.ground.specs.Below.{listed}
use Rattle.settings.specs.declared.Setting.{Setting}
use Rattle.outputs.specs.declared.Rule.{Rule}
use Rattle.outputs.specs.declared.Output.{Output}
use Rattle.outputs.specs.Outputs.{Followed, followed, weight_in, wholes, rest_of, most_waiting, lost_rollover, account_of, same_rule}
use Rattle.outputs.specs.Four.{output_count, rule_at, output_at}
use Rattle.commands.specs.declared.Brought.{Brought}
use Rattle.commands.specs.declared.Given.{Given}
use Rattle.commands.specs.declared.Given.TheVariants as given
use Rattle.runs.specs.Run.{Step, on_cycle, Reply, World}
use Rattle.runs.specs.History.{History, done}
use Rattle.runs.specs.InForce.{settings_in}
use Rattle.runs.specs.Sums.{amount_of}

-- ---- gains and weights

-- the choice and the weight of output k, by the last accepted commits
abbrev pub rule_in : ℕ → History → Rule
rule_in k past = rule_at (settings_in past) k

abbrev pub weight_now : ℕ → History → ℕ
weight_now k past = weight_in (rule_in k past)

-- what a cycle puts on the counter that is followed: the amount that the sums are made of, before any rollover
abbrev pub gain_on : Followed → List Setting → Brought → ℕ
gain_on None a r = 0
gain_on (Some c) a r = amount_of c a r

abbrev pub gain_for : ℕ → Brought → History → ℕ
gain_for k r past = gain_on (followed (rule_in k past).choice) (settings_in past) r

-- what a step gives output k: an accepted cycle its gain, and anything else nothing
abbrev pub gain_at : ℕ → Step × Reply → History → ℕ
gain_at k x past = on_cycle (λ r. cond (done x) (gain_for k r past) 0) 0 x.0

-- ---- pulses due

-- choice and weight are after the step what they were before it
abbrev pub rule_stands : ℕ → Step × Reply → History → Bool
rule_stands k x past = same_rule (rule_in k past) (rule_in k (x ∷ past))

-- what the counter gained since choice or weight last changed: all of it in one unit
abbrev pub since_in : ℕ → History → ℕ
since_in k [] = 0
since_in k (x ∷ past) = cond (rule_stands k x past) (since_in k past + gain_at k x past) 0

-- the pulses due of the stretches that a change has ended
abbrev pub ended_in : ℕ → History → ℕ
ended_in k [] = 0
ended_in k (x ∷ past) = cond (rule_stands k x past) (ended_in k past) (ended_in k past + wholes (weight_now k past) (since_in k past))

-- PULSES DUE: over every stretch in which choice and weight stood, the whole weights in what the counter gained
abbrev pub due_in : ℕ → History → ℕ
due_in k past = ended_in k past + wholes (weight_now k past) (since_in k past)

-- ---- pulses emitted: the sum of the k-th numbers that the ticks answered

abbrev pub emitted_by : Given → List ℕ
emitted_by given.Nothing = []
emitted_by (given.Value v) = []
emitted_by (given.Report m) = []
emitted_by (given.Emitted e) = e
emitted_by (given.Outputs all) = []
emitted_by (given.Readout x) = []
emitted_by (given.Archive l) = []
emitted_by (given.Log l) = []
emitted_by (given.Audit l) = []
emitted_by (given.Last x) = []

abbrev pub taken_at : ℕ → Step × Reply → ℕ
taken_at k x = get_or (emitted_by x.1.given) k 0

abbrev pub emitted_in : ℕ → History → ℕ
emitted_in k [] = 0
emitted_in k (x ∷ past) = emitted_in k past + taken_at k x

-- ---- pulses waiting and lost

-- the rest waits in the account
abbrev pub account_in : ℕ → History → ℕ
account_in k past = rest_of (weight_now k past) (since_in k past)

-- the whole weights of a cycle, and of a step
abbrev pub due_for : ℕ → Brought → History → ℕ
due_for k r past = wholes (weight_now k past) (account_in k past + gain_for k r past)

abbrev pub due_at : ℕ → Step × Reply → History → ℕ
due_at k x past = wholes (weight_now k past) (account_in k past + gain_at k x past)

-- at most 65,535 wait, and a tick takes what it answers
abbrev pub waiting_in : ℕ → History → ℕ
waiting_in k [] = 0
waiting_in k (x ∷ past) = min (waiting_in k past + due_at k x past) most_waiting - taken_at k x

-- the excess is lost
abbrev pub lost_in : ℕ → History → ℕ
lost_in k [] = 0
lost_in k (x ∷ past) = lost_in k past + (waiting_in k past + due_at k x past - most_waiting)

-- and has its line: a cycle loses pulses of output k
abbrev pub loses_for : ℕ → Brought → History → Bool
loses_for k r past = ltb most_waiting (waiting_in k past + due_for k r past)

abbrev pub losses_for : Brought → History → List Bool
losses_for r past = listed (λ k. loses_for k r past) output_count

-- ---- the outputs as the history has them

abbrev pub output_in : ℕ → History → Output
output_in k past = record { account = account_of (account_in k past); waiting = waiting_in k past; lost = lost_in k past % lost_rollover }

unfoldable pub outputs_in : History → List Output
outputs_in past = listed (λ k. output_in k past) output_count

-- ---- at every moment of a history what was due less what was emitted fits the buffer

abbrev pub AlwaysFits : ℕ → History → Type 0
AlwaysFits k past = (n : ℕ) → due_in k (drop n past) ≤ emitted_in k (drop n past) + most_waiting

-- ---- the balance

-- output k of a device
abbrev pub output_of : ℕ → World → Output
output_of k w = output_at w.state.core.outputs k

-- pulses due, by the history, are those emitted, waiting and lost, modulo 2^32
abbrev pub Balances : ℕ → World → History → Type 0
Balances k w past = due_in k past % lost_rollover ≡ (emitted_in k past + (output_of k w).waiting + (output_of k w).lost) % lost_rollover
