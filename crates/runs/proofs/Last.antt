-- When did the pressure alarm last come? After any run from a start, the line answered is the last with that code among the last 250 that the run wrote, and the number
-- of lines looked at is what the history says.
-- Assumes nothing.
use mathlib.Core.Path.{◌≡◌, refl, sym, ap, ◌∙◌}
use mathlib.Core.List.{List, [], ◌∷◌, reverse, reverse_aux, reverse-append}
use Prim.Native.Nat.{ℕ, suc, ◌-◌, ◌≤◌}
use native.Mathlib.Omega.{arith}
use lib.Dec.{leb}
use lib.ListN.{length, take, drop, take-append-drop, length-drop, length-reverse}
use lib.Seq.{take_all, take_at}
use borrow.Author.Tests.{leb-true, leb-false}
use Rattle.ground.proofs.Flags.{Either, is_true, is_false, either_of}
use Rattle.order.specs.Order.{run}
use Rattle.ring.specs.Ring.{log_lines}
use Rattle.books.specs.declared.ArchiveLine.{ArchiveLine}
use Rattle.books.specs.declared.LogLine.{LogLine}
use Rattle.books.specs.declared.AuditLine.{AuditLine}
use Rattle.asked.specs.Asked.{has_code, with_code, newest_of, newest_in, last_given}
use Rattle.commands.specs.declared.Last.{Last}
use Rattle.std.specs.Prelude.{Some, None}
use Rattle.commands.specs.declared.Question.TheVariants as question
use Rattle.commands.specs.declared.Given.TheVariants as given
use Rattle.runs.specs.Run.{Step, Ask, World, Given, giving, step, corrector, started}
use Rattle.runs.specs.History.{history, start_time}
use Rattle.runs.specs.Lines.{log_shelf, wrote_in}
use Rattle.runs.specs.Never.{Sized}
use Rattle.runs.specs.Last.{one_further, with_line, with_lines, last_among, last_ones, last_in}
use Rattle.runs.proofs.Lines.{log_holds}
use Rattle.runs.proofs.Never.{number_without_one}

-- ---- the order of writing, and newest first

module _ (code : ℕ) where
  -- the places of lines that stand one place further back
  further_by : (y : LogLine) (ys : List LogLine) (place held : ℕ) → newest_of (suc held) (with_code code (suc (suc place)) ys) ≡ one_further (newest_of held (with_code code (suc place) ys))
      → Either (has_code code y) → newest_of (suc held) (with_code code (suc place) (y ∷ ys)) ≡ one_further (newest_of held (with_code code place (y ∷ ys)))
  unfolding with_code newest_of
  further_by y ys place held rest (is_true t) = rw t (ap (λ (k : ℕ). record { line = Some y; looked = k }) (omega arith))
  further_by y ys place held rest (is_false f) = rw f rest

  further_back : (ys : List LogLine) (place held : ℕ) → newest_of (suc held) (with_code code (suc place) ys) ≡ one_further (newest_of held (with_code code place ys))
  unfolding with_code newest_of
  further_back [] place held = ap (λ (k : ℕ). record { line = None; looked = k }) (omega arith)
  further_back (y ∷ ys) place held = further_by y ys place held (further_back ys (suc place) held) (either_of (has_code code y))

  one_line_by : (x : LogLine) (ys : List LogLine) → Either (has_code code x) → newest_in code (x ∷ ys) ≡ with_line code (newest_in code ys) x
  unfolding newest_in with_code newest_of
  one_line_by x ys (is_true t) = rw t
  one_line_by x ys (is_false f) = rw f (further_back ys 0 (length ys))

  -- a line that is written is the newest of all
  one_line : (x : LogLine) (ys : List LogLine) → newest_in code (x ∷ ys) ≡ with_line code (newest_in code ys) x
  one_line x ys = one_line_by x ys (either_of (has_code code x))

  lines_on : (xs ys : List LogLine) → with_lines code (newest_in code ys) xs ≡ newest_in code (reverse_aux xs ys)
  lines_on [] ys = refl
  lines_on (x ∷ xs) ys = ap (λ (said : Last). with_lines code said xs) (sym (one_line x ys)) ∙ lines_on xs (x ∷ ys)

  none_yet : newest_in code [] ≡ record { line = None; looked = 0 }
  unfolding newest_in with_code newest_of
  none_yet = refl

  -- THE LAST LINE IN THE ORDER OF WRITING IS THE FIRST, NEWEST FIRST
  pub last_is_newest : (xs : List LogLine) → last_among code xs ≡ newest_in code (reverse xs)
  last_is_newest xs = ap (λ (said : Last). with_lines code said xs) (sym none_yet) ∙ lines_on xs []

-- ---- the last n, and the first n from the other end

module _ (n : ℕ) (xs : List LogLine) where
  abbrev rest : ℕ
  rest = length xs - n

  ends_by : Either (leb n (length xs)) → take n (reverse xs) ≡ reverse (last_ones n xs)
  ends_by (is_true t) =
      let low : n ≤ length xs = leb-true n (length xs) t in
      ap (λ (l : List LogLine). take n (reverse l)) (sym (take-append-drop rest xs))
      ∙ ap (take n) (reverse-append (take rest xs) (drop rest xs))
      ∙ take_at (reverse (drop rest xs)) (reverse (take rest xs)) n (length-reverse (drop rest xs) ∙ length-drop rest xs ∙ omega arith)
  ends_by (is_false f) =
      let few : length xs ≤ n = omega (arith, leb-false n (length xs) f) in
      let all : 0 ≡ rest = omega arith in
      take_all n (reverse xs) (rw (length-reverse xs) few)
      ∙ ap (λ (k : ℕ). reverse (drop k xs)) all

  ends_alike : take n (reverse xs) ≡ reverse (last_ones n xs)
  ends_alike = ends_by (either_of (leb n (length xs)))

-- ---- a run from a start

given_by_lem : (n : ℕ) (v w : Given) → n ≡ 0 → v ≡ w → giving n v ≡ giving 0 w
given_by_lem n v w e f = rw (e, f)

module _ (time supcode custcode : ℕ) (archive : List ArchiveLine) (log : List LogLine) (audit : List AuditLine)
    (sized : Sized (started time supcode custcode archive log audit)) (xs : List Step) where
  abbrev start : World
  start = started time supcode custcode archive log audit

  abbrev end : World
  end = (run corrector xs start).1

  abbrev lines : List LogLine
  lines = wrote_in log_shelf (start_time time) (history xs start)

  -- THE LINE ANSWERED IS THE LAST WITH THAT CODE AMONG THE LAST 250 THAT THE RUN WROTE. There is always an answer
  pub last_exactly : (code : ℕ) → (step (Ask (question.Last code)) end).1 ≡ giving 0 (given.Last (last_in code (start_time time) (history xs start)))
  unfolding last_given
  last_exactly code =
      given_by_lem _ _ _ (number_without_one time supcode custcode archive log audit sized xs (Ask (question.Last code)))
      (ap (λ (l : List LogLine). given.Last (newest_in code l)) (log_holds time supcode custcode archive log audit xs sized.log ∙ ends_alike log_lines lines)
      ∙ ap given.Last (sym (last_is_newest code (last_ones log_lines lines))))
