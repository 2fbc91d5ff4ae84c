-- One call of `lines::answer`: what it puts out is what the runs among its lines say.
-- Assumes nothing.
use Prim.Native.Nat.{ℕ, ◌-◌, ◌≤◌}
use native.Mathlib.Omega.{arith}
use mathlib.Core.Path.{◌≡◌, refl, sym, ap, ◌∙◌}
use mathlib.Core.List.{List, [], ◌∷◌, ◌++◌}
use borrow.Author.Tests.{le-ltb}
use lib.ListN.{length, length-map, length-take, take, replicate}
use lib.Seq.{take-append_seam}
use Rattle.commands.specs.declared.Entry.{Entry}
use Rattle.commands.specs.declared.Echo.{Echo}
use Rattle.text.specs.Entries.{entry_of}
use Rattle.text.specs.Echoes.{echo_text}
use Rattle.desk.specs.declared.Desk.{Desk}
use Rattle.desk.specs.declared.Served.{Served}
use Rattle.desk.specs.Desk.{block, no_input, no_response, world_in, served}
use Rattle.lines.specs.Lines.{whole_lines, in_block, inputs_of, inputs_in, echo_lines, room, served_lines, said_lines, answers_of, answer_text}
use Rattle.served.specs.Served.{said_to, ran}
use Rattle.served.proofs.Served.{served_is_run}
use Rattle.served.proofs.Sitting.{said_length}
use Rattle.spoken.specs.Spoken.{entries_of, text_of, spoken, answers_to}

-- the lines of what is put out are the text of what is said
text_is : (es : List Echo) → echo_lines es ≡ text_of es
unfolding echo_lines text_of
text_is [] = refl
text_is (e ∷ es) = ap (λ (l : List ℕ). echo_text e ++ l) (text_is es)

many_entries : (lines : List (List ℕ)) → length (entries_of lines) ≡ length lines
unfolding entries_of
many_entries lines = length-map lines entry_of

-- the lines of a block are served as the runs among their entries
lines_run : (d : Desk) (lines : List (List ℕ)) → length lines ≤ block → served d (in_block lines) (length lines) ≡ ran d (entries_of lines)
unfolding in_block entries_of
lines_run d lines h =
    let rest : List Entry = replicate (block - length lines) no_input in
    ap (served d (entries_of lines ++ rest)) (sym (many_entries lines))
    ∙ served_is_run d (entries_of lines) rest (omega (arith, many_entries lines))

-- and of what comes back, the places of the lines
lines_said : (d : Desk) (lines : List (List ℕ)) → echo_lines (take (length lines) (ran d (entries_of lines)).responses) ≡ (spoken lines d).text
unfolding ran spoken
lines_said d lines =
    let es : List Echo = said_to (entries_of lines) (world_in d) in
    let rest : List Echo = replicate (block - length (entries_of lines)) no_response in
    let n : length lines ≡ length es = sym (said_length (entries_of lines) (world_in d) ∙ many_entries lines) in
    ap echo_lines (ap (λ (k : ℕ). take k (es ++ rest)) n ∙ take-append_seam es rest) ∙ text_is es

-- ONE CALL OF `lines::answer`, WITH ROOM: the text is that of what the runs among the first block of lines say, the desk is theirs, and `at` is the
-- number of their bytes
pub lines_answered : (d : Desk) (input out : List ℕ) → room ≤ length out → let lines = take block (whole_lines input) in
    (answer_text d input out ≡ (spoken lines d).text) × (answers_of d input out ≡ answers_to lines d)
unfolding answer_text answers_of answers_to said_lines served_lines inputs_in inputs_of spoken ran
lines_answered d input out h =
    let lines : List (List ℕ) = take block (whole_lines input) in
    let e = lines_run d lines (omega (arith, length-take block (whole_lines input))) in
    let said = ap (λ (s : Served). echo_lines (take (length lines) s.responses)) e ∙ lines_said d lines in
    let t = le-ltb (length out) room h in
    (rw t said, rw (t, said, e))
