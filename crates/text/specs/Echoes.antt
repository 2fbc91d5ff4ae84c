-- What is said, as a line: a number, words with a space before each, and a line feed at the end.
-- Assumes nothing.
use Rattle.std.specs.Prelude.{ℕ, zero, suc, ◌+◌, ◌/◌, min, Bool, cond, List, [], ◌∷◌, ◌++◌, ltb, length, replicate, map, Option, Some, None, Result, Ok, Err, ℤ, pos, nat_abs, Float}
use Prim.Native.Char.{code as byte}
use Rattle.std.specs.Int.Signed.{lt_z}
use Rattle.std.specs.List.{flat_map}
use Rattle.std.specs.Float.Ieee.{is_nan, to_bits}
use Rattle.std.specs.Float.{binary64}
use Rattle.books.specs.declared.ArchiveLine.{ArchiveLine}
use Rattle.books.specs.declared.LogLine.{LogLine}
use Rattle.books.specs.declared.AuditLine.{AuditLine}
use Rattle.state.specs.declared.Counters.{Counters}
use Rattle.state.specs.declared.Alarms.{Alarms}
use Rattle.state.specs.declared.Moment.{Moment}
use Rattle.settings.specs.declared.Value.{Value}
use Rattle.settings.specs.declared.Value.TheVariants.{Whole, Coefficient}
use Rattle.outputs.specs.declared.Shown.{Shown}
use Rattle.commands.specs.declared.Readout.{Readout}
use Rattle.commands.specs.declared.Last.{Last}
use Rattle.commands.specs.declared.Given.{Given}
use Rattle.commands.specs.declared.Given.TheVariants as given
use Rattle.commands.specs.declared.Reply.{Reply}
use Rattle.commands.specs.declared.Echo.{Echo}
use Rattle.commands.specs.declared.Echo.TheVariants as echo
use Rattle.spelling.specs.Spelling.{bytes, digits}
use Rattle.message.specs.declared.Values.{Values}
use Rattle.message.specs.Message.{written}
use Rattle.reader.specs.declared.Unread.{Unread}
use Rattle.reader.specs.Reader.{number_of}
use Rattle.text.specs.Words.{space}

-- ---- numbers

-- how many digits n has, but never more than m + 1
unfoldable pub places_up_to : ℕ → ℕ → ℕ
places_up_to zero n = 1
places_up_to (suc m) n = cond (ltb n 10) 1 (suc (places_up_to m (n / 10)))

-- how many digits a number of 64 bits has: at most 20
unfoldable pub places : ℕ → ℕ
places n = places_up_to 19 n

unfoldable pub decimal : ℕ → List ℕ
decimal n = digits 10 (places n) n

-- a number below zero has `-` before its digits
unfoldable pub signed : ℤ → List ℕ
signed n = cond (lt_z n (pos 0)) (byte "-" ∷ decimal (nat_abs n)) (decimal (nat_abs n))

-- the bits of a float; 0 for a NaN, which is never printed
unfoldable pub bits_of : Float → ℕ
bits_of f = cond (is_nan f) 0 (to_bits binary64 f)

-- `1` or `0`
unfoldable pub flag : Bool → ℕ
flag on = cond on (byte "1") (byte "0")

-- ---- words

-- a word and the space before it
abbrev pub spaced : List ℕ → List ℕ
spaced w = space ∷ w

-- words in a row, each with a space before it
unfoldable pub joined : List (List ℕ) → List ℕ
joined [] = []
joined (w ∷ ws) = spaced w ++ joined ws

-- `w` and a whole number, or `c` and 16 hexadecimal digits
unfoldable pub value_words : Value → List (List ℕ)
value_words (Whole n) = bytes "w" ∷ signed n ∷ []
value_words (Coefficient f) = bytes "c" ∷ digits 16 16 (bits_of f) ∷ []

unfoldable pub flag_words : Bool → Bool → Bool → List (List ℕ)
flag_words a b c = (flag a ∷ []) ∷ (flag b ∷ []) ∷ (flag c ∷ []) ∷ []

unfoldable pub number_words : ℕ → ℕ → ℕ → ℕ → List (List ℕ)
number_words a b c d = decimal a ∷ decimal b ∷ decimal c ∷ decimal d ∷ []

-- ---- the words of each kind of line

-- MONTH Vm VmD Vb VbD
unfoldable pub archive_words : ArchiveLine → List (List ℕ)
archive_words l = decimal l.month ∷ number_words l.vm.0 l.vmd.0 l.vb.0 l.vbd.0

-- NUMBER TIME CODE
unfoldable pub log_words : LogLine → List (List ℕ)
log_words l = decimal l.number ∷ decimal l.time ∷ decimal l.code ∷ []

-- NUMBER TIME CODE LOOKED; or `-` and LOOKED
unfoldable pub newest_words : Option LogLine → List (List ℕ)
newest_words (Some l) = log_words l
newest_words None = bytes "-" ∷ []

unfoldable pub last_words : Last → List (List ℕ)
last_words x = newest_words x.line ++ (decimal x.looked ∷ [])

-- NUMBER TIME DOOR SETTING, the old value, the new value
unfoldable pub audit_words : AuditLine → List (List ℕ)
audit_words l = number_words l.number l.time l.door l.setting ++ (value_words l.old ++ value_words l.new)

-- Vm VmD Vb VbD
unfoldable pub counter_words : Counters → List (List ℕ)
counter_words c = number_words c.vm.0 c.vmd.0 c.vb.0 c.vbd.0

-- p T K, the alarms and then the latches
unfoldable pub lamp_words : Alarms → Alarms → List (List ℕ)
lamp_words alarms latches = flag_words alarms.p alarms.t alarms.k ++ flag_words latches.p latches.t latches.k

-- TIME Vm VmD Vb VbD VmT VbT, the alarms, the latches, the three locks
unfoldable pub moment_words : Moment → List (List ℕ)
moment_words m =
    (decimal m.time ∷ [])
    ++ (counter_words m.counters
    ++ ((decimal m.counters.vmt.0 ∷ decimal m.counters.vbt.0 ∷ [])
    ++ (lamp_words m.alarms m.latches
    ++ flag_words m.cal m.sup m.cust)))

-- E1 E2 E3 E4
unfoldable pub emitted_words : List ℕ → List (List ℕ)
emitted_words e = map decimal e

-- A W L
unfoldable pub output_words : Shown → List (List ℕ)
output_words x = decimal x.account ∷ decimal x.waiting ∷ decimal x.lost ∷ []

-- A1 W1 L1 A2 W2 L2 A3 W3 L3 A4 W4 L4
unfoldable pub outputs_words : List Shown → List (List ℕ)
outputs_words all = flat_map output_words all

-- two digits a byte
unfoldable pub hexed : List ℕ → List ℕ
hexed [] = []
hexed (b ∷ l) = digits 16 2 b ++ hexed l

-- the buffer that the bench lends for a readout: each of its bytes, and the most that it may have
abbrev pub unwritten : ℕ
unwritten = 170

abbrev pub most_lent : ℕ
most_lent = 200

-- the whole of that buffer, with the message in it
unfoldable pub readout_words : Readout → List (List ℕ)
readout_words x = hexed (written x.values (replicate (min x.room most_lent) unwritten)) ∷ []

-- ---- a message that was read

-- words in a row, a space between two
unfoldable pub separated : List (List ℕ) → List ℕ
separated [] = []
separated (w ∷ ws) = w ++ joined ws

-- V1 V2 V3 V4 V5 V6, in litres: the first, and the others
unfoldable pub other_words : Values → List (List ℕ)
other_words v = number_words v.vbd v.vbt v.vm v.vmd ++ (decimal v.vmt ∷ [])

unfoldable pub litres_words : Values → List (List ℕ)
litres_words v = decimal v.vb ∷ other_words v

-- what the reader says, a refusal by its number on the fault card
unfoldable pub by_number : Result Values Unread → Result Values ℕ
by_number (Ok v) = Ok v
by_number (Err e) = Err (number_of e)

-- `0` and the values, or the number of the refusal, whichever it is
unfoldable pub parsed_text : Result Values ℕ → List ℕ
parsed_text (Ok v) = separated (bytes "0" ∷ litres_words v) ++ bytes "\n"
parsed_text (Err n) = decimal n ++ bytes "\n"

-- what the office's program prints: "the six values in litres with single spaces and a line feed, or `refused `, the number and a line feed"
unfoldable pub office_text : Result Values ℕ → List ℕ
office_text (Ok v) = separated (litres_words v) ++ bytes "\n"
office_text (Err n) = separated (bytes "refused" ∷ decimal n ∷ []) ++ bytes "\n"

-- ---- lines

-- what is given beside the number
unfoldable pub given_words : Given → List (List ℕ)
given_words given.Nothing = []
given_words (given.Value v) = value_words v
given_words (given.Report m) = moment_words m
given_words (given.Emitted e) = emitted_words e
given_words (given.Outputs all) = outputs_words all
given_words (given.Readout x) = readout_words x
given_words (given.Archive l) = archive_words l
given_words (given.Log l) = log_words l
given_words (given.Audit l) = audit_words l
given_words (given.Last x) = last_words x

-- the number on the fault card, 0 where done, the words of what is given, and the line feed
unfoldable pub said_text : Reply → List ℕ
said_text r = decimal r.number ++ (joined (given_words r.given) ++ bytes "\n")

-- `?` and the line feed
unfoldable pub unknown_text : List ℕ
unknown_text = bytes "?\n"

unfoldable pub echo_text : Echo → List ℕ
echo_text echo.Nothing = []
echo_text echo.Unknown = unknown_text
echo_text (echo.Said r) = said_text r
echo_text (echo.Parse p) = parsed_text p

-- room enough for any line; where there is less, nothing is put
abbrev pub enough : ℕ
enough = 422

unfoldable pub text_for : List ℕ → ℕ → Echo → List ℕ
text_for out at e = cond (ltb (length out) (at + enough)) [] (echo_text e)

unfoldable pub office_for : List ℕ → Result Values ℕ → List ℕ
office_for out p = cond (ltb (length out) enough) [] (office_text p)
