-- The fault card: which number a command answers. Document 01, "Number on the fault card".
-- Assumes nothing.
use Rattle.std.specs.Prelude.{ℕ, Bool, cond, List, [], ◌∷◌, Result, Ok, Err}
use Rattle.state.specs.declared.faults.Fault.{Fault}
use Rattle.state.specs.declared.faults.Fault.TheVariants as fault

-- "Where several apply": rows in the printed order (1, then 3, then 2 or 4, then the rest rising), each with its number and whether it
-- applies. The answer is the first that applies, and 0, done, where none does.
abbrev pub first_of : List (ℕ × Bool) → ℕ
first_of [] = 0
first_of (x ∷ xs) = cond x.1 x.0 (first_of xs)

-- the number that stands before each row of the card
unfoldable pub number_of : Fault → ℕ
number_of fault.NotWhole = 1
number_of fault.SessionOpen = 2
number_of fault.NoSuch = 3
number_of fault.NoSession = 4
number_of fault.TimeBack = 5
number_of fault.TimePastEnd = 6
number_of fault.ManyPulses = 7
number_of fault.WrongCode = 8
number_of fault.BadValue = 9
number_of fault.LockMissing = 10
number_of fault.Stale = 11
number_of fault.PairCrossed = 12
number_of fault.NotHeld = 13
number_of fault.TooLarge = 14
number_of fault.LongTick = 15
number_of fault.ShortBuffer = 16

-- the number that is answered: 0, done, or that of the refusal
unfoldable pub outcome_number : {A : Type 0} → Result A Fault → ℕ
outcome_number (Ok x) = 0
outcome_number (Err f) = number_of f
