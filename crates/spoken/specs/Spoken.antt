-- Lines of text put to a desk, read as runs: what is to be put out to them, and how an input is answered turn by turn and
-- read by read.
-- Assumes nothing.
use Rattle.std.specs.Prelude.{ℕ, ◌*◌, ◌≤◌, List, [], ◌∷◌, ◌++◌, map, length, take, drop}
use Rattle.commands.specs.declared.Entry.{Entry}
use Rattle.commands.specs.declared.Echo.{Echo}
use Rattle.text.specs.Words.{deciding}
use Rattle.text.specs.Entries.{entry_of}
use Rattle.text.specs.Echoes.{echo_text}
use Rattle.desk.specs.declared.Desk.{Desk}
use Rattle.desk.specs.Desk.{block, world_in, desk_of}
use Rattle.lines.specs.declared.Answers.{Answers}
use Rattle.lines.specs.Lines.{whole_lines, bytes_of, room, answers_of, answer_text}
use Rattle.served.specs.Served.{end_of, last_run, said_to}

-- ---- what is to be put out to lines

-- what each line asks
unfoldable pub entries_of : List (List ℕ) → List Entry
entries_of lines = map entry_of lines

-- the text of what is said, one line after another
unfoldable pub text_of : List Echo → List ℕ
text_of [] = []
text_of (e ∷ es) = echo_text e ++ text_of es

-- the text that was put out, and the desk at the end
pub record Spoken : Type 0 where
  pub text : List ℕ
  pub desk : Desk

-- the text of what the runs among these lines say, and the desk of the last of these runs
unfoldable pub spoken : List (List ℕ) → Desk → Spoken
spoken lines d = record {
  text = text_of (said_to (entries_of lines) (world_in d));
  desk = desk_of (end_of (last_run (entries_of lines) (world_in d)));
}

-- ---- an input answered turn by turn

-- what one call of `lines::answer` is to hand back for these lines
unfoldable pub answers_to : List (List ℕ) → Desk → Answers
answers_to lines d = record { desk = (spoken lines d).desk; at = bytes_of lines; used = length (spoken lines d).text }

-- a text, and what is put out after it
unfoldable pub and_then : List ℕ → Spoken → Spoken
and_then text s = record { text = text ++ s.text; desk = s.desk }

-- Each turn has the desk and the bytes that the turn before left. It puts its text into a store, given as it stands before that turn.
unfoldable pub in_turns : List (List ℕ) → List ℕ → Desk → Spoken
in_turns [] input d = record { text = []; desk = d }
in_turns (out ∷ outs) input d =
    and_then (answer_text d input out) (in_turns outs (drop (answers_of d input out).at input) (answers_of d input out).desk)

-- the bytes that the turns leave
unfoldable pub left_by : List (List ℕ) → List ℕ → Desk → List ℕ
left_by [] input d = input
left_by (out ∷ outs) input d = left_by outs (drop (answers_of d input out).at input) (answers_of d input out).desk

-- each store has room for a block of the longest lines
unfoldable pub Roomy : List (List ℕ) → Type 0
Roomy [] = Unit {0}
Roomy (out ∷ outs) = (room ≤ length out) × Roomy outs

-- there are turns for all the lines, and each has room
unfoldable pub Enough : List (List ℕ) → List ℕ → Type 0
Enough outs input = Roomy outs × (length (whole_lines input) ≤ length outs * block)

-- ---- an input read in pieces

-- the bytes that a read gave, and the stores of the turns that come after it. Where the input ends within a line, the line feed that the bench puts
-- there is the last read.
pub record Read : Type 0 where
  pub bytes : List ℕ
  pub outs : List (List ℕ)

-- of what the turns leave, so much is held as decides the answer of a line
unfoldable pub held_after : List (List ℕ) → List ℕ → Desk → List ℕ
held_after outs input d = take deciding (left_by outs input d)

-- Each read stands behind the bytes that are held.
unfoldable pub in_reads : List Read → List ℕ → Desk → Spoken
in_reads [] held d = record { text = []; desk = d }
in_reads (r ∷ rs) held d =
    let input = held ++ r.bytes in
    let s = in_turns r.outs input d in
    and_then s.text (in_reads rs (held_after r.outs input d) s.desk)

-- the bytes of all the reads: the whole input
unfoldable pub all_read : List Read → List ℕ
all_read [] = []
all_read (r ∷ rs) = r.bytes ++ all_read rs

-- after each read there are turns for all its lines
unfoldable pub EnoughAfter : List Read → Type 0
EnoughAfter [] = Unit {0}
EnoughAfter (r ∷ rs) = Enough r.outs r.bytes × EnoughAfter rs
