-- Runs over stores of their exact lengths. Row 1 never applies in them, so each command's rows can be read without the first.
-- Assumes nothing.
use Rattle.std.specs.Prelude.{ℕ, ◌≡◌, Bool, false, ◌||◌, [], ◌∷◌, eqb, length}
use Rattle.ring.specs.Ring.{archive_lines, log_lines, audit_lines}
use Rattle.runs.specs.Exactly.{Rows}
use Rattle.runs.specs.Rows.{rows_of}
use Rattle.runs.specs.Run.{Step, World, number_of}
use Rattle.runs.specs.History.{History}

-- the three stores have their exact lengths
pub record Sized (w : World) : Type 0 where
  pub archive : length w.archive ≡ archive_lines
  pub log : length w.log ≡ log_lines
  pub audit : length w.audit ≡ audit_lines

abbrev pub after_first : Rows → Rows
after_first [] = []
after_first (x ∷ xs) = xs

-- a command's rows without row 1, which is the first of every command
abbrev pub later_rows : Step → World → Rows
later_rows x w = after_first (rows_of x w)

-- some step of the history was answered with the number n
abbrev pub met_in : ℕ → History → Bool
met_in n [] = false
met_in n (x ∷ past) = eqb (number_of x.1) n || met_in n past
