-- Lines by the block: the entries of the whole lines of an input, what a desk says to them, and the lines of that.
-- Assumes nothing.
use Rattle.std.specs.Prelude.{ℕ, ◌+◌, ◌-◌, ◌*◌, ◌≡◌, cond, List, [], ◌∷◌, ◌++◌, map, position, Option, eqb, ltb, length, take, drop, replicate}
use Prim.Native.Char.{code as byte}
use Rattle.text.specs.Entries.{entry_of}
use Rattle.text.specs.Echoes.{echo_text, enough}
use Rattle.commands.specs.declared.Entry.{Entry}
use Rattle.commands.specs.declared.Echo.{Echo}
use Rattle.desk.specs.declared.Desk.{Desk}
use Rattle.desk.specs.declared.Served.{Served}
use Rattle.desk.specs.Desk.{block, no_input, served}
use Rattle.lines.specs.declared.Inputs.{Inputs}
use Rattle.lines.specs.declared.Answers.{Answers}

-- ---- the whole lines of an input

abbrev pub line_feed : ℕ
line_feed = byte "\n"

-- where the first line feed is
abbrev pub line_end : List ℕ → Option ℕ
line_end input = position (λ b. eqb b line_feed) input

-- a byte put before the first of these lines; if there is no line, no line feed follows the byte, so it is in no whole line
unfoldable pub in_front : ℕ → List (List ℕ) → List (List ℕ)
in_front b [] = []
in_front b (line ∷ lines) = (b ∷ line) ∷ lines

-- the input cut at every line feed, the line feeds left out; what comes after the last line feed is no whole line
unfoldable pub whole_lines : List ℕ → List (List ℕ)
whole_lines [] = []
whole_lines (b ∷ rest) = cond (eqb b line_feed) ([] ∷ whole_lines rest) (in_front b (whole_lines rest))

-- how many bytes these lines take, each with its line feed
unfoldable pub bytes_of : List (List ℕ) → ℕ
bytes_of [] = 0
bytes_of (line ∷ lines) = length line + 1 + bytes_of lines

-- ---- their entries

-- the entries in order, and blank ones up to a block
unfoldable pub in_block : List (List ℕ) → List Entry
in_block lines = map entry_of lines ++ replicate (block - length lines) no_input

unfoldable pub inputs_of : List (List ℕ) → Inputs
inputs_of lines = record { count = length lines; inputs = in_block lines; at = bytes_of lines }

-- the first lines of the input, as many as make a block
unfoldable pub inputs_in : List ℕ → Inputs
inputs_in input = inputs_of (take block (whole_lines input))

-- ---- the lines of what is said

-- one after another
unfoldable pub echo_lines : List Echo → List ℕ
echo_lines [] = []
echo_lines (x ∷ responses) = echo_text x ++ echo_lines responses

-- room for a block of the longest lines
abbrev pub room : ℕ
room = enough * block

-- a text of so many bytes was put at the front; what stood behind it still does
pub record Fronted (old new text : List ℕ) (used : ℕ) : Type 0 where
  pub many : used ≡ length text
  pub stands : new ≡ text ++ drop used old

-- ---- lines answered: those of a block are put to the desk, and what is said is put at the front of `out`

unfoldable pub served_lines : Desk → List ℕ → Served
served_lines d input = served d (inputs_in input).inputs (inputs_in input).count

unfoldable pub said_lines : Desk → List ℕ → List ℕ
said_lines d input = echo_lines (take (inputs_in input).count (served_lines d input).responses)

-- with too little room nothing is written and nothing is put to the desk: no answer is lost
unfoldable pub answers_of : Desk → List ℕ → List ℕ → Answers
answers_of d input out =
    cond (ltb (length out) room)
    (record { desk = d; at = 0; used = 0 })
    (record { desk = (served_lines d input).desk; at = (inputs_in input).at; used = length (said_lines d input) })

unfoldable pub answer_text : Desk → List ℕ → List ℕ → List ℕ
answer_text d input out = cond (ltb (length out) room) [] (said_lines d input)
