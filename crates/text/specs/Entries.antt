-- A line read as an entry. Its first word and how many words it has say which entry; the other words are numbers, readings or a value. Any other line is unknown.
-- Assumes nothing.
use Rattle.std.specs.Prelude.{ℕ, Bool, cond, ◌||◌, List, ltb, eqb, length, get_or, Option, Some, None}
use Prim.Native.Char.{code as byte}
use Rattle.settings.specs.declared.Value.{Value}
use Rattle.commands.specs.declared.Brought.{Brought}
use Rattle.commands.specs.declared.LockTurn.TheVariants.{Open, Shut}
use Rattle.commands.specs.declared.Question.TheVariants as question
use Rattle.commands.specs.declared.Act.TheVariants.{Begin, Read, Write, Abandon}
use Rattle.commands.specs.declared.Command.TheVariants.{Cycle, Turn, Clear, Tick, Ask, Call, Commit}
use Rattle.commands.specs.declared.Entry.{Entry}
use Rattle.commands.specs.declared.Entry.TheVariants as entry
use Rattle.spelling.specs.Spelling.{bytes, same_b}
use Rattle.text.specs.Words.{word, no_word}
use Rattle.text.specs.Echoes.{most_lent}
use Rattle.text.specs.Hex.{parse_asked}
use Rattle.text.specs.Numbers.{number_in, code_of, reading_of, raw_by, pressure_by, computed_by, value_in}

-- a longer line is no command
abbrev pub longest : ℕ
longest = 500

-- an empty line, or one that begins with `#`
unfoldable pub is_quiet : List ℕ → Bool
is_quiet line = eqb (length line) 0 || eqb (get_or line 0 0) (byte "#")

-- ---- a word alone, and a word with one, two or three numbers: a row for each. `parse` has hexadecimal digits in the place of a number

-- report; clear; outputs
unfoldable pub alone : List ℕ → Entry
alone w =
    cond (same_b w (bytes "report")) (entry.Put (Ask question.Report))
    (cond (same_b w (bytes "clear")) (entry.Put Clear)
    (cond (same_b w (bytes "outputs")) (entry.Put (Ask question.Outputs))
    entry.Unknown))

-- readout LEN: the bench has no longer buffer to lend
unfoldable pub readout_asked : ℕ → Entry
readout_asked n = cond (ltb most_lent n) entry.Unknown (entry.Put (Ask (question.Readout n)))

-- archive, log, audit I; readout LEN; last CODE
unfoldable pub question_with : List ℕ → ℕ → Entry
question_with w n =
    cond (same_b w (bytes "archive")) (entry.Put (Ask (question.Archive n)))
    (cond (same_b w (bytes "log")) (entry.Put (Ask (question.Log n)))
    (cond (same_b w (bytes "audit")) (entry.Put (Ask (question.Audit n)))
    (cond (same_b w (bytes "readout")) (readout_asked n)
    (cond (same_b w (bytes "last")) (entry.Put (Ask (question.Last n)))
    entry.Unknown))))

-- begin, commit, abandon DOOR; shut LOCK; tick N; or a question
unfoldable pub with_one : List ℕ → ℕ → Entry
with_one w n =
    cond (same_b w (bytes "begin")) (entry.Put (Call n Begin))
    (cond (same_b w (bytes "commit")) (entry.Put (Commit n))
    (cond (same_b w (bytes "abandon")) (entry.Put (Call n Abandon))
    (cond (same_b w (bytes "shut")) (entry.Put (Turn (Shut n)))
    (cond (same_b w (bytes "tick")) (entry.Put (Tick n))
    (question_with w n)))))

unfoldable pub one_or : List ℕ → Option ℕ → Entry
one_or w None = entry.Unknown
one_or w (Some n) = with_one w n

-- parse HEX; any other word has a number
unfoldable pub word_or : List ℕ → Option ℕ → List ℕ → Entry
word_or w number x = cond (same_b w (bytes "parse")) (parse_asked x) (one_or w number)

-- read DOOR SETTING; open LOCK CODE
unfoldable pub open_by : ℕ → Option ℕ → Entry
open_by lock None = entry.Unknown
open_by lock (Some c) = entry.Put (Turn (Open lock c))

unfoldable pub with_two : List ℕ → ℕ → ℕ → Entry
with_two w a b =
    cond (same_b w (bytes "read")) (entry.Put (Call a (Read b)))
    (cond (same_b w (bytes "open")) (open_by a (code_of b))
    entry.Unknown)

unfoldable pub two_or : List ℕ → Option ℕ → Option ℕ → Entry
two_or w None b = entry.Unknown
two_or w (Some a) None = entry.Unknown
two_or w (Some a) (Some b) = with_two w a b

-- start TIME CODE2 CODE3
unfoldable pub start_by : ℕ → Option ℕ → Option ℕ → Entry
start_by time None b = entry.Unknown
start_by time (Some a) None = entry.Unknown
start_by time (Some a) (Some b) = entry.Start time a b

unfoldable pub with_three : List ℕ → ℕ → ℕ → ℕ → Entry
with_three w a b c =
    cond (same_b w (bytes "start")) (start_by a (code_of b) (code_of c))
    entry.Unknown

unfoldable pub three_or : List ℕ → Option ℕ → Option ℕ → Option ℕ → Entry
three_or w None b c = entry.Unknown
three_or w (Some a) None c = entry.Unknown
three_or w (Some a) (Some b) None = entry.Unknown
three_or w (Some a) (Some b) (Some c) = with_three w a b c

-- ---- two numbers and a value; two numbers and three readings

-- write DOOR SETTING w VALUE; write DOOR SETTING c HEX
unfoldable pub with_value : List ℕ → ℕ → ℕ → Value → Entry
with_value w a b v =
    cond (same_b w (bytes "write")) (entry.Put (Call a (Write b v)))
    entry.Unknown

unfoldable pub value_or : List ℕ → Option ℕ → Option ℕ → Option Value → Entry
value_or w None b v = entry.Unknown
value_or w (Some a) None v = entry.Unknown
value_or w (Some a) (Some b) None = entry.Unknown
value_or w (Some a) (Some b) (Some v) = with_value w a b v

-- cycle TIME N RAW P K
unfoldable pub with_readings : List ℕ → Brought → Entry
with_readings w brought =
    cond (same_b w (bytes "cycle")) (entry.Put (Cycle brought))
    entry.Unknown

unfoldable pub readings_or : List ℕ → Option ℕ → Option ℕ → Option (Option ℕ) → Option (Option ℕ) → Option (Option ℕ) → Entry
readings_or w None n r p k = entry.Unknown
readings_or w (Some t) None r p k = entry.Unknown
readings_or w (Some t) (Some n) None p k = entry.Unknown
readings_or w (Some t) (Some n) (Some r) None k = entry.Unknown
readings_or w (Some t) (Some n) (Some r) (Some p) None = entry.Unknown
readings_or w (Some t) (Some n) (Some r) (Some p) (Some k) =
    with_readings w (record { time = t; n = n; raw = r; pressure = p; k = k })

-- ---- the line

-- word k as a decimal number, and as a reading
abbrev pub number_at : List ℕ → ℕ → Option ℕ
number_at line k = number_in 10 (word line k)

abbrev pub reading_at : List ℕ → ℕ → Option (Option ℕ)
reading_at line k = reading_of (word line k)

-- by the number of its words: one to six
unfoldable pub entry_in : List ℕ → Entry
entry_in line =
    cond (no_word line 1) (alone (word line 0))
    (cond (no_word line 2) (word_or (word line 0) (number_at line 1) (word line 1))
    (cond (no_word line 3) (two_or (word line 0) (number_at line 1) (number_at line 2))
    (cond (no_word line 4) (three_or (word line 0) (number_at line 1) (number_at line 2) (number_at line 3))
    (cond (no_word line 5) (value_or (word line 0) (number_at line 1) (number_at line 2) (value_in (word line 3) (word line 4)))
    (cond (no_word line 6)
    (readings_or (word line 0) (number_at line 1) (number_at line 2)
    (raw_by (reading_at line 3)) (pressure_by (reading_at line 4)) (computed_by (reading_at line 5)))
    entry.Unknown)))))

unfoldable pub entry_of : List ℕ → Entry
entry_of line = cond (is_quiet line) entry.Nothing (cond (ltb longest (length line)) entry.Unknown (entry_in line))
