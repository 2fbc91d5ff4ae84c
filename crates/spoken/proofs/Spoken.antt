-- What is put out to an input, turn after turn, is what the runs among its lines say. By induction on the number of turns.
-- Assumes nothing.
use Prim.Native.Nat.{ℕ, ◌+◌, ◌*◌, ◌≤◌}
use native.Mathlib.Omega.{arith}
use mathlib.Core.Path.{◌≡◌, refl, sym, ap, ◌∙◌}
use mathlib.Core.List.{List, [], ◌∷◌, ◌++◌, append_assoc}
use lib.ListN.{length, take, drop, take-append-drop}
use lib.Seq.{take-add, take_all}
use Rattle.commands.specs.declared.Entry.{Entry}
use Rattle.commands.specs.declared.Echo.{Echo}
use Rattle.commands.specs.Answers.{World}
use Rattle.text.specs.Entries.{entry_of}
use Rattle.text.specs.Echoes.{echo_text}
use Rattle.desk.specs.declared.Desk.{Desk}
use Rattle.desk.specs.Desk.{block, world_in}
use Rattle.lines.specs.Lines.{whole_lines, bytes_of, inputs_of, inputs_in, room}
use Rattle.lines.proofs.Cuts.{others_left}
use Rattle.runs.proofs.Numbers.{map_join}
use Rattle.served.specs.Served.{end_of, at_first, parts, first_run, last_of, last_run, in_place, said_to}
use Rattle.served.proofs.Sitting.{said_join, end_join}
use Rattle.spoken.specs.Spoken.{entries_of, text_of, spoken, answers_to, and_then, in_turns, Roomy, Enough}
use Rattle.spoken.proofs.Answered.{lines_answered}

-- what is left behind the bytes of a block
pub left_lines : (input : List ℕ) → whole_lines (drop (bytes_of (take block (whole_lines input))) input) ≡ drop block (whole_lines input)
unfolding inputs_in inputs_of
left_lines input = others_left input

-- THE REST COMES LATER: the lines of an input are those of a block, and those of what is left behind their bytes. None is lost, and none comes twice
pub the_rest_later : (input : List ℕ) → let lines = take block (whole_lines input) in whole_lines input ≡ lines ++ whole_lines (drop (bytes_of lines) input)
the_rest_later input =
    sym (take-append-drop block (whole_lines input)) ∙ ap (λ (l : List (List ℕ)). take block (whole_lines input) ++ l) (sym (left_lines input))

text_join : (a b : List Echo) → text_of (a ++ b) ≡ text_of a ++ text_of b
unfolding text_of
text_join [] b = refl
text_join (e ∷ a) b = ap (λ (l : List ℕ). echo_text e ++ l) (text_join a b) ∙ sym (append_assoc (echo_text e) (text_of a) (text_of b))

pub entries_join : (a b : List (List ℕ)) → entries_of (a ++ b) ≡ entries_of a ++ entries_of b
unfolding entries_of
entries_join a b = map_join entry_of a b

pub nothing_spoken : (d : Desk) → spoken [] d ≡ record { text = []; desk = d }
unfolding spoken entries_of text_of said_to last_run last_of first_run end_of parts at_first in_place
nothing_spoken d = refl

-- what is said to entries and then to more of them, as text
pub said_text_lem : (es fs : List Entry) (w : World) → text_of (said_to (es ++ fs) w) ≡ text_of (said_to es w) ++ text_of (said_to fs (end_of (last_run es w)))
said_text_lem es fs w = ap text_of (said_join es fs w) ∙ text_join (said_to es w) (said_to fs (end_of (last_run es w)))

-- lines, and then more lines to the desk that they left
pub spoken_join : (a b : List (List ℕ)) (d : Desk) → spoken (a ++ b) d ≡ and_then (spoken a d).text (spoken b (spoken a d).desk)
unfolding spoken and_then
spoken_join a b d =
    rw (entries_join a b, said_text_lem (entries_of a) (entries_of b) (world_in d), end_join (entries_of a) (entries_of b) (world_in d))

no_turn : (input : List ℕ) (d : Desk) → in_turns [] input d ≡ spoken [] d
unfolding in_turns
no_turn input d = sym (nothing_spoken d)

-- one turn, and those after it
one_turn : (out : List ℕ) (outs : List (List ℕ)) (input : List ℕ) (d : Desk) → room ≤ length out → let lines = take block (whole_lines input) in
    in_turns (out ∷ outs) input d ≡ and_then (spoken lines d).text (in_turns outs (drop (bytes_of lines) input) (spoken lines d).desk)
unfolding in_turns answers_to
one_turn out outs input d h = let e = lines_answered d input out h in rw (e.0, e.1)

turn_more : (out : List ℕ) (outs : List (List ℕ)) (input : List ℕ) (d : Desk) (n : ℕ) → room ≤ length out
    → ((rest : List ℕ) (c : Desk) → in_turns outs rest c ≡ spoken (take n (whole_lines rest)) c)
    → in_turns (out ∷ outs) input d ≡ spoken (take (block + n) (whole_lines input)) d
turn_more out outs input d n h known =
    let all : List (List ℕ) = whole_lines input in
    let lines : List (List ℕ) = take block all in
    let c : Desk = (spoken lines d).desk in
    one_turn out outs input d h
    ∙ ap (and_then (spoken lines d).text) (known (drop (bytes_of lines) input) c ∙ ap (λ (l : List (List ℕ)). spoken (take n l) c) (left_lines input))
    ∙ sym (spoken_join lines (take n (drop block all)) d)
    ∙ ap (λ (l : List (List ℕ)). spoken l d) (sym (take-add block n all))

-- AFTER ANY NUMBER OF TURNS what is put out and the desk are those of the runs among so many blocks of lines
pub turn_by_turn : (outs : List (List ℕ)) (input : List ℕ) (d : Desk) → Roomy outs → in_turns outs input d ≡ spoken (take (length outs * block) (whole_lines input)) d
unfolding Roomy
turn_by_turn [] input d r = no_turn input d
turn_by_turn (out ∷ outs) input d r =
    let n : block + length outs * block ≡ length (out ∷ outs) * block = omega arith in
    turn_more out outs input d (length outs * block) r.0 (λ rest c. turn_by_turn outs rest c r.1)
    ∙ ap (λ (k : ℕ). spoken (take k (whole_lines input)) d) n

-- WHAT IS SPOKEN IS A RUN: with as many turns as the lines need, or more, what is put out to an input, all together, is the text of what the runs
-- among all its whole lines say, and the desk is that of the last of these runs
pub spoken_is_run : (outs : List (List ℕ)) (input : List ℕ) (d : Desk) → Enough outs input → in_turns outs input d ≡ spoken (whole_lines input) d
unfolding Enough
spoken_is_run outs input d h =
    turn_by_turn outs input d h.0 ∙ ap (λ (l : List (List ℕ)). spoken l d) (take_all (length outs * block) (whole_lines input) h.1)
