-- Cases worked by hand.
-- Assumes nothing.
use Rattle.std.proofs.Common.{◌≡◌, ℕ, Bool, true, false, refl}
use Rattle.units.specs.Units.{litres_of, base_of}
use Rattle.outputs.specs.declared.Rule.{Rule}
use Rattle.outputs.specs.declared.Gain.{Gain}
use Rattle.outputs.specs.declared.Output.{Output}
use Rattle.outputs.specs.declared.Gained.{Gained}
use Rattle.outputs.specs.Outputs.{choices, followed, litre_on, litre_in, weight_in, gain_by, account_of, rest_of, credited_by, gained_by, fresh_output}

abbrev rule : ℕ → ℕ → Rule
rule c w = record { choice = c; weight = w }

-- an account, what waits and what was lost
abbrev output : ℕ → ℕ → ℕ → Output
output a w l = record { account = account_of a; waiting = w; lost = l }

abbrev gained : Output → Bool → Gained
gained o t = record { output = o; over = t }

-- so many litres, and so many hundred-thousandths at base conditions; not disturbed
abbrev litres : ℕ → ℕ → Gain
litres l b = record { disturbed = false; litres = litres_of l; base = base_of b }

-- Vm at 300 litres a pulse: exactly one weight, one litre short of it, and three with 100 litres left
one_weight : gained_by (rule 1 300) (litres 300 0) fresh_output ≡ gained (output 0 1 0) false
unfolding choices followed litre_on litre_in weight_in gain_by rest_of credited_by gained_by
one_weight = refl

one_short : gained_by (rule 1 300) (litres 299 0) fresh_output ≡ gained (output 299 0 0) false
unfolding choices followed litre_on litre_in weight_in gain_by rest_of credited_by gained_by
one_short = refl

three_weights : gained_by (rule 1 300) (litres 1000 0) fresh_output ≡ gained (output 100 3 0) false
unfolding choices followed litre_on litre_in weight_in gain_by rest_of credited_by gained_by
three_weights = refl

-- Vb at 100 litres a pulse, 10 pulses of 100 litres at twice the pressure: 1,863.55 litres are 18 pulses, and 63.55 litres are left
ten_pulses : gained_by (rule 4 100) (litres 1000 186355000) fresh_output ≡ gained (output 6355000 18 0) false
unfolding choices followed litre_on litre_in weight_in gain_by rest_of credited_by gained_by
ten_pulses = refl

-- VbT at a litre a pulse, the largest cycle: 22,958,898,600 pulses are due, 65,535 wait, and the rest is lost, modulo 2^32
the_largest : gained_by (rule 6 1) (litres 60000000 2295889860000000) fresh_output ≡ gained (output 0 65535 1483996585) true
unfolding choices followed litre_on litre_in weight_in gain_by rest_of credited_by gained_by
the_largest = refl

-- VmT at a litre a pulse: a buffer that is just full has lost nothing, and one pulse more is lost
just_full : gained_by (rule 3 1) (litres 1 0) (output 0 65534 0) ≡ gained (output 0 65535 0) false
unfolding choices followed litre_on litre_in weight_in gain_by rest_of credited_by gained_by
just_full = refl

one_more : gained_by (rule 3 1) (litres 1 0) (output 0 65535 0) ≡ gained (output 0 65535 1) true
unfolding choices followed litre_on litre_in weight_in gain_by rest_of credited_by gained_by
one_more = refl
