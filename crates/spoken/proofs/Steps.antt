-- An input at any moment: lines are answered or, if no whole line is held, more is read behind what is kept. Either leads from one such moment to the next.
-- Assumes nothing.
use Prim.Native.Nat.{ℕ, ◌≤◌}
use native.Mathlib.Omega.{arith}
use mathlib.Core.Path.{◌≡◌, refl, sym, ap, ◌∙◌}
use mathlib.Core.List.{List, [], ◌∷◌, ◌++◌, append_assoc, append-nil}
use lib.ListN.{length, take, drop}
use Rattle.text.specs.Words.{deciding}
use Rattle.commands.specs.declared.Entry.{Entry}
use Rattle.desk.specs.declared.Desk.{Desk}
use Rattle.desk.specs.Desk.{block, world_in}
use Rattle.lines.specs.declared.Answers.{Answers}
use Rattle.lines.specs.Lines.{whole_lines, bytes_of, room, answers_of, answer_text}
use Rattle.served.specs.Served.{end_of, at_first, parts, first_run, last_of, last_run, in_place, said_to}
use Rattle.served.proofs.Sitting.{end_join}
use Rattle.spoken.specs.Spoken.{entries_of, text_of, spoken, answers_to}
use Rattle.spoken.specs.SoFar.{SoFar}
use Rattle.spoken.proofs.Answered.{lines_answered}
use Rattle.spoken.proofs.Spoken.{entries_join, said_text_lem}
use Rattle.spoken.proofs.Pieces.{behind, in_two, cut_lines_answered}

-- at first nothing was read, and nothing put out
pub at_first_lem : (d : Desk) → SoFar d [] [] [] d
unfolding text_of said_to last_run last_of first_run end_of parts at_first in_place
at_first_lem d = record { answered = []; lines = λ more. refl; said = refl; reached = refl }

-- a block of lines more
block_more : (first : Desk) (bytes held text : List ℕ) (d : Desk) → SoFar first bytes held text d → let lines = take block (whole_lines held) in
    SoFar first bytes (drop (bytes_of lines) held) (text ++ (spoken lines d).text) (spoken lines d).desk
unfolding spoken
block_more first bytes held text d s =
    let es : List Entry = s.answered in
    let ls : List (List ℕ) = take block (whole_lines held) in
    let fs : List Entry = entries_of ls in
    record {
      answered = es ++ fs;
      lines = λ more.
          s.lines more
          ∙ ap (λ (l : List (List ℕ)). es ++ entries_of l) (in_two block held more)
          ∙ ap (λ (l : List Entry). es ++ l) (entries_join ls (whole_lines (behind block held ++ more)))
          ∙ sym (append_assoc es fs (entries_of (whole_lines (behind block held ++ more))));
      said = rw (s.said, s.reached, said_text_lem es fs (world_in first));
      reached = rw (s.reached, end_join es fs (world_in first));
    }

-- AFTER A CALL OF `lines::answer`, WITH ROOM: what it put is put out, and the bytes behind those that it answered are held
pub answered_so_far : (first : Desk) (bytes held text : List ℕ) (d : Desk) (out : List ℕ) → room ≤ length out → SoFar first bytes held text d
    → SoFar first bytes (drop (answers_of d held out).at held) (text ++ answer_text d held out) (answers_of d held out).desk
unfolding answers_to
answered_so_far first bytes held text d out h s =
    let e = lines_answered d held out h in
    rw (e.0, e.1) (block_more first bytes held text d s)

-- where it answered no byte, no whole line is held
pub none_held : (d : Desk) (held out : List ℕ) → room ≤ length out → (answers_of d held out).at ≡ 0 → whole_lines held ≡ []
unfolding answers_to bytes_of
none_held d held out h e = no_bytes (whole_lines held) (sym (ap (λ (r : Answers). r.at) (lines_answered d held out h).1) ∙ e)
  where
    no_bytes : (ls : List (List ℕ)) → bytes_of (take block ls) ≡ 0 → ls ≡ []
    no_bytes [] z = refl
    no_bytes (l ∷ ls) z = absurd (omega (arith, z))

-- AFTER A READ: what was held is kept cut to 201 bytes, and what the read gave stands behind it
pub read_so_far : (first : Desk) (bytes held text : List ℕ) (d : Desk) (given : List ℕ) → whole_lines held ≡ [] → SoFar first bytes held text d
    → SoFar first (bytes ++ given) (take deciding held ++ given) text d
read_so_far first bytes held text d given u s = record {
  answered = s.answered;
  lines = λ more.
      ap (λ (l : List ℕ). entries_of (whole_lines l)) (append_assoc bytes given more)
      ∙ s.lines (given ++ more)
      ∙ ap (λ (l : List Entry). s.answered ++ l)
      (sym (cut_lines_answered held (given ++ more) u) ∙ ap (λ (l : List ℕ). entries_of (whole_lines l)) (sym (append_assoc (take deciding held) given more)));
  said = s.said;
  reached = s.reached;
}

-- AND WHEN NO WHOLE LINE IS HELD, all whole lines that were read are answered, and nothing else was put out
pub all_so_far : (first : Desk) (bytes held text : List ℕ) (d : Desk) → whole_lines held ≡ [] → SoFar first bytes held text d
    → record { text = text; desk = d } ≡ spoken (whole_lines bytes) first
unfolding spoken entries_of
all_so_far first bytes held text d u s =
    let none = ap (λ (l : List ℕ). entries_of (whole_lines l)) (append-nil held) ∙ ap entries_of u in
    let all = s.lines [] ∙ ap (λ (l : List Entry). s.answered ++ l) none ∙ append-nil s.answered in
    rw (s.said, s.reached, sym (ap (λ (l : List ℕ). entries_of (whole_lines l)) (append-nil bytes)) ∙ all)
