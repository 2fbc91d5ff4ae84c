-- The bench reads on only when no whole line is left, and cuts the unfinished one. Nothing is lost: once more has come, what is served and said is what it would be if
-- all of that line had been kept.
-- Assumes nothing.
use Prim.Native.Nat.{ℕ, ◌≤◌}
use mathlib.Core.Path.{◌≡◌, ap, ◌∙◌}
use mathlib.Core.List.{List, ◌++◌}
use lib.ListN.{length, take}
use borrow.Author.Tests.{le-ltb}
use Rattle.text.specs.Words.{deciding, kept_part}
use Rattle.desk.specs.declared.Desk.{Desk}
use Rattle.lines.specs.Lines.{room, answers_of, inputs_in, served_lines, said_lines}
use Rattle.lines.proofs.Kept.{unfinished, none_whole, cut_served, cut_said}
use Rattle.bench.specs.Bench.{part}

kept_is : (old : List ℕ) (from to : ℕ) → to ≤ length old → kept_part old from to ≡ take deciding (part old from to)
unfolding kept_part
kept_is old from to h = rw (le-ltb (length old) to h)

none_there : (d : Desk) (old out : List ℕ) (from to : ℕ) → room ≤ length out → (answers_of d (part old from to) out).at ≡ 0 → (inputs_in (part old from to)).at ≡ 0
unfolding answers_of
none_there d old out from to r e = rw (le-ltb (length out) room r) at e

module _ (d : Desk) (old out more : List ℕ) (from to : ℕ) (h : to ≤ length old) (r : room ≤ length out) (e : (answers_of d (part old from to) out).at ≡ 0) where
  pub nothing_lost_served : served_lines d (kept_part old from to ++ more) ≡ served_lines d (part old from to ++ more)
  nothing_lost_served =
      ap (λ (l : List ℕ). served_lines d (l ++ more)) (kept_is old from to h)
      ∙ cut_served d (part old from to) more (unfinished (part old from to) (none_whole (part old from to) (none_there d old out from to r e)))

  pub nothing_lost_said : said_lines d (kept_part old from to ++ more) ≡ said_lines d (part old from to ++ more)
  nothing_lost_said =
      ap (λ (l : List ℕ). said_lines d (l ++ more)) (kept_is old from to h)
      ∙ cut_said d (part old from to) more (unfinished (part old from to) (none_whole (part old from to) (none_there d old out from to r e)))
