-- What the readouts of a run say. Document 02, Five.
-- Assumes nothing.
use Rattle.std.specs.Prelude.{List, []}
use Rattle.message.specs.declared.Values.{Values}
use Rattle.commands.specs.declared.Given.{Given}
use Rattle.commands.specs.declared.Given.TheVariants as given
use Rattle.panel.specs.Panel.{values_of}
use Rattle.runs.specs.History.{History}
use Rattle.runs.specs.Lines.{counters_in}

-- the six values by the history alone: the sums of the accepted cycles, up to the rollover, cut off downwards to litres
abbrev pub values_in : History → Values
values_in past = values_of (counters_in past)

-- something of the values that were read out, if it was a readout that gave this
abbrev pub readouts_by : {A : Type 0} → (Values → List A) → Given → List A
readouts_by f given.Nothing = []
readouts_by f (given.Value v) = []
readouts_by f (given.Report m) = []
readouts_by f (given.Emitted e) = []
readouts_by f (given.Outputs all) = []
readouts_by f (given.Readout x) = f x.values
readouts_by f (given.Archive l) = []
readouts_by f (given.Log l) = []
readouts_by f (given.Audit l) = []
readouts_by f (given.Last x) = []
