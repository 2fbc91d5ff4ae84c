-- When a code last came, by the history alone: read off the lines that a run wrote, in the order in which it wrote them. Document 02, Seven.
-- Assumes nothing.
use Rattle.std.specs.Prelude.{ℕ, ◌+◌, ◌-◌, cond, List, [], ◌∷◌, length, drop, Some, None}
use Rattle.ring.specs.Ring.{log_lines}
use Rattle.books.specs.declared.LogLine.{LogLine}
use Rattle.asked.specs.Asked.{has_code}
use Rattle.commands.specs.declared.Last.{Last}
use Rattle.runs.specs.History.{History}
use Rattle.runs.specs.Lines.{log_shelf, wrote_in}

-- one line more to look at
abbrev pub one_further : Last → Last
one_further said = record { line = said.line; looked = said.looked + 1 }

-- What is said of the code when one more line has been written: this line, if it has the code. If not, what was said before, with one line more to look at.
abbrev pub with_line : ℕ → Last → LogLine → Last
with_line code said x = cond (has_code code x) (record { line = Some x; looked = 1 }) (one_further said)

-- the same for line after line, in the order in which they were written
abbrev pub with_lines : ℕ → Last → List LogLine → Last
with_lines code said [] = said
with_lines code said (x ∷ xs) = with_lines code (with_line code said x) xs

-- the last line with the code among these; before the first line there is none, and nothing to look at
abbrev pub last_among : ℕ → List LogLine → Last
last_among code lines = with_lines code (record { line = None; looked = 0 }) lines

-- the last n lines, in the order in which they were written
abbrev pub last_ones : ℕ → List LogLine → List LogLine
last_ones n lines = drop (length lines - n) lines

-- "the last line with that code among the last 250 that the run wrote"; t is the time of the start
abbrev pub last_in : ℕ → ℕ → History → Last
last_in code t past = last_among code (last_ones log_lines (wrote_in log_shelf t past))
