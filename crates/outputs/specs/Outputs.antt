-- The rule of one pulse output. Document 02, Three, in its order.
-- Assumes nothing.
use Rattle.std.specs.Prelude.{ℕ, ◌+◌, ◌-◌, ◌*◌, ◌/◌, ◌%◌, min, Bool, cond, ◌&&◌, List, [], ◌∷◌, ◌==◌, nat_le, nat_lt, slice_index_or, Option, Some, None}
use Rattle.units.specs.declared.Counter.{Counter}
use Rattle.units.specs.declared.Counter.TheVariants.{Vm, VmD, VmT, Vb, VbD, VbT}
use Rattle.units.specs.Units.{litre_at_base, put_by}
use Rattle.outputs.specs.declared.Account.{Account}
use Rattle.outputs.specs.declared.Rule.{Rule}
use Rattle.outputs.specs.declared.Gain.{Gain}
use Rattle.outputs.specs.declared.Output.{Output}
use Rattle.outputs.specs.declared.Gained.{Gained}
use Rattle.outputs.specs.declared.Ticked.{Ticked}
use Rattle.outputs.specs.declared.Shown.{Shown}

-- ---- "each off or following one of Vm, VmD, VmT, Vb, VbD, VbT", "choices 0..6 in the order above"

-- a counter, or none where the output is off
abbrev pub Followed : Type 0
Followed = Option Counter

unfoldable pub choices : List Followed
choices = None ∷ Some Vm ∷ Some VmD ∷ Some VmT ∷ Some Vb ∷ Some VbD ∷ Some VbT ∷ []

-- a number above 6 is no choice, and follows nothing
unfoldable pub followed : ℕ → Followed
followed choice = slice_index_or choices choice None

-- ---- "with a weight of 1 to 1,000,000 litres a pulse"

-- a litre in the unit of a counter
unfoldable pub litre_on : Counter → ℕ
litre_on Vm = 1
litre_on VmD = 1
litre_on VmT = 1
litre_on Vb = litre_at_base
litre_on VbD = litre_at_base
litre_on VbT = litre_at_base

-- a litre in the unit of the counter that is followed; an output that is off has no unit, and 0 stands for it
unfoldable pub litre_in : Followed → ℕ
litre_in None = 0
litre_in (Some c) = litre_on c

-- the weight in that unit
unfoldable pub weight_in : Rule → ℕ
weight_in r = litre_in (followed r.choice) * r.weight

-- ---- "What a counter gains in an accepted cycle", "Gains are taken before the rollover"

unfoldable pub gain_by : Followed → Gain → ℕ
gain_by None g = 0
gain_by (Some c) g = put_by c g.disturbed g.litres.0 g.base.0

-- what is gained by the counter of a choice, in its own unit
abbrev pub gain_in : ℕ → Gain → ℕ
gain_in choice g = gain_by (followed choice) g

-- ---- "is added to the output's account. Whole weights become pulses due; the rest waits in the account."

-- the whole weights in an amount, and the rest; where there is no weight there is neither
abbrev pub wholes : ℕ → ℕ → ℕ
wholes weight amount = amount / weight

unfoldable pub rest_of : ℕ → ℕ → ℕ
rest_of weight amount = cond (weight == 0) 0 (amount % weight)

-- ---- "Due pulses wait in a buffer of at most 65,535, and the excess is added to a lost counter modulo 2^32 and logged"

abbrev pub most_waiting : ℕ
most_waiting = 65535

abbrev pub lost_rollover : ℕ
lost_rollover = 4294967296

abbrev pub account_of : ℕ → Account
account_of n = record { 0 = n }

-- so much more goes to the account, at this weight; `over` says that pulses were lost
unfoldable pub credited_by : ℕ → ℕ → Output → Gained
credited_by weight gain o =
    let amount = o.account.0 + gain in
    let waiting = o.waiting + wholes weight amount in
    record {
      output = record {
        account = account_of (rest_of weight amount);
        waiting = min waiting most_waiting;
        lost = (o.lost + (waiting - most_waiting)) % lost_rollover;
      };
      over = nat_lt most_waiting waiting;
    }

-- an output after an accepted cycle
unfoldable pub gained_by : Rule → Gain → Output → Gained
gained_by r g o = credited_by (weight_in r) (gain_in r.choice g) o

-- ---- "A new tick command takes from each buffer the smaller of the number it names and what waits"

unfoldable pub ticked_by : ℕ → Output → Ticked
ticked_by n o = record {
  output = record { account = o.account; waiting = o.waiting - min n o.waiting; lost = o.lost };
  emitted = min n o.waiting;
}

-- ---- "The amount too small for a pulse is dropped when a commit puts in force a choice or weight of that output that differs from the old one."

unfoldable pub same_rule : Rule → Rule → Bool
same_rule old new = old.choice == new.choice && old.weight == new.weight

abbrev pub emptied : Output → Output
emptied o = record { account = account_of 0; waiting = o.waiting; lost = o.lost }

-- an output after an accepted commit, with its choice and weight before and after
unfoldable pub committed_by : Rule → Rule → Output → Output
committed_by old new o = cond (same_rule old new) o (emptied o)

-- ---- "In a whole state an output's account is below its weight, and 0 if it is off; at most 65,535 pulses wait, and the lost counter is below 2^32."

unfoldable pub account_b : Rule → Output → Bool
account_b r o = cond (r.choice == 0) (o.account.0 == 0) (nat_lt o.account.0 (weight_in r))

unfoldable pub output_b : Rule → Output → Bool
output_b r o = account_b r o && nat_le o.waiting most_waiting && nat_lt o.lost lost_rollover

-- ---- at a start

abbrev pub fresh_output : Output
fresh_output = record { account = account_of 0; waiting = 0; lost = 0 }

-- ---- what a report shows: the account in hundred-thousandths of a litre, whatever the output follows. An output that is off shows 0: a number divided by 0 is 0 here.

unfoldable pub account_shown : ℕ → ℕ → ℕ
account_shown choice account = account * litre_at_base / litre_in (followed choice)

unfoldable pub output_shown : Rule → Output → Shown
output_shown r o = record { account = account_shown r.choice o.account.0; waiting = o.waiting; lost = o.lost }
