-- The number of a refusal is not 0, which is done.
-- Assumes nothing.
use mathlib.Core.Path.{◌≡◌, refl}
use mathlib.Core.Bool.{false}
use lib.Dec.{eqb}
use Rattle.state.specs.declared.faults.Fault.{Fault}
use Rattle.state.specs.declared.faults.Fault.TheVariants as fault
use Rattle.state.specs.Card.{number_of}

pub not_done : (refusal : Fault) → eqb (number_of refusal) 0 ≡ false
unfolding number_of
not_done fault.NotWhole = refl
not_done fault.SessionOpen = refl
not_done fault.NoSuch = refl
not_done fault.NoSession = refl
not_done fault.TimeBack = refl
not_done fault.TimePastEnd = refl
not_done fault.ManyPulses = refl
not_done fault.WrongCode = refl
not_done fault.BadValue = refl
not_done fault.LockMissing = refl
not_done fault.Stale = refl
not_done fault.PairCrossed = refl
not_done fault.NotHeld = refl
not_done fault.TooLarge = refl
not_done fault.LongTick = refl
not_done fault.ShortBuffer = refl
