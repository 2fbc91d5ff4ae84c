-- One turn, said of what the program's own function `lines::answer` does. Its contract is the one that the compiler made of its text (`Post`: of the arguments, the
-- answer, and the arguments at the end); it is not written again here.
-- Assumes nothing.
use Prim.Native.Nat.{ℕ, ◌≤◌}
use mathlib.Core.Path.{◌≡◌, ap, ◌∙◌}
use mathlib.Core.List.{List, ◌++◌}
use lib.ListN.{length, take, drop}
use Rattle.desk.specs.declared.Desk.{Desk}
use Rattle.desk.specs.Desk.{block}
use Rattle.lines.specs.declared.Answers.{Answers}
use Rattle.lines.specs.Lines.{whole_lines, room}
use Rattle.lines.proofs.answer.Reads as answer
use Rattle.spoken.specs.Spoken.{spoken, answers_to}
use Rattle.spoken.proofs.Answered.{lines_answered}

-- WHAT `lines::answer` PUTS INTO THE STORE IS WHAT THE RUNS SAY, whatever desk and input it is given, and a store with room: `old` is the store before the
-- call, and `e.1.1.0` after it
pub answer_speaks : (κs : _) (d : Desk) (input : _) (old : _) (r : Answers) (e : _) → answer.Post κs (d, (input, (old, tt))) r e → room ≤ length old.now
    → let lines = take block (whole_lines input.now) in let new = e.1.1.0 in
    (r ≡ answers_to lines d) × (new.now ≡ (spoken lines d).text ++ drop r.used old.now)
answer_speaks κs d input old r e x h =
    let p = lines_answered d input.now old.now h in
    (x.0 ∙ p.1, x.1 ∙ ap (λ (l : List ℕ). l ++ drop r.used old.now) p.0)
