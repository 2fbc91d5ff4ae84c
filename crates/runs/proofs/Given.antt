-- A line is given, exactly: after any run from a start, over stores of their exact lengths, line i of a store is given where i is below the smaller of
-- its size and the number of lines that the run wrote, and is refused by 13 where it is not. One law of a store, cited for the three.
-- Assumes nothing.
use mathlib.Core.Path.{◌≡◌, refl, ap, ◌∙◌}
use mathlib.Core.Bool.{Bool, true, false, not, cond}
use mathlib.Core.List.{List, [], ◌∷◌, reverse}
use Prim.Native.Nat.{ℕ, min}
use lib.Dec.{ltb}
use lib.ListN.{length, take, length-take, length-reverse}
use Rattle.order.specs.Order.{run}
use Rattle.books.specs.declared.ArchiveLine.{ArchiveLine}
use Rattle.books.specs.declared.LogLine.{LogLine}
use Rattle.books.specs.declared.AuditLine.{AuditLine}
use Rattle.state.specs.Card.{first_of}
use Rattle.commands.specs.declared.Question.TheVariants as question
use Rattle.runs.specs.Run.{Step, Question, Ask, World, number_of, step, corrector, started}
use Rattle.runs.specs.History.{history, start_time}
use Rattle.runs.specs.Lines.{Shelf, archive_shelf, log_shelf, audit_shelf, wrote_in, holds}
use Rattle.runs.specs.Never.{Sized, later_rows}
use Rattle.runs.proofs.Lines.{archive_holds, log_holds, audit_holds}
use Rattle.runs.proofs.Never.{number_without_one}

-- row 13 is the one row of such a question after the first
by_held : (t : Bool) → first_of ((13, not t) ∷ []) ≡ cond t 0 13
by_held true = refl
by_held false = refl

module _ (time supcode custcode : ℕ) (archive : List ArchiveLine) (log : List LogLine) (audit : List AuditLine)
    (sized : Sized (started time supcode custcode archive log audit)) (xs : List Step) where
  abbrev start : World
  start = started time supcode custcode archive log audit

  abbrev end : World
  end = (run corrector xs start).1

  -- the lines that the run wrote into a store
  abbrev pub lines : (S : Shelf) → List S.Line
  lines S = wrote_in S (start_time time) (history xs start)

  -- line i, asked for by `ask i`, is given where i is below the smaller of the store's size and the number of lines written, and is refused by 13 where it is not
  abbrev pub GivenExactly : (S : Shelf) → (ℕ → Question) → Type 0
  GivenExactly S ask = (i : ℕ) → number_of (step (Ask (ask i)) end).1 ≡ cond (ltb i (min S.size (length (lines S)))) 0 13

  given_by_lem : (S : Shelf) (ask : ℕ → Question) → ((i : ℕ) → later_rows (Ask (ask i)) end ≡ (13, not (ltb i (length (holds S end)))) ∷ [])
      → holds S end ≡ take S.size (reverse (lines S)) → GivenExactly S ask
  given_by_lem S ask row h i =
      let many : length (holds S end) ≡ min S.size (length (lines S)) =
      ap length h ∙ length-take S.size (reverse (lines S)) ∙ ap (min S.size) (length-reverse (lines S)) in
      number_without_one time supcode custcode archive log audit sized xs (Ask (ask i))
      ∙ ap first_of (row i)
      ∙ by_held (ltb i (length (holds S end)))
      ∙ ap (λ (n : ℕ). cond (ltb i n) 0 13) many

  -- A LINE OF A STORE IS GIVEN EXACTLY WHEN IT IS ONE OF THOSE HELD OF THE LINES THAT THE RUN WROTE, and else 13 is answered
  pub line_given_exactly : GivenExactly archive_shelf question.Archive × GivenExactly log_shelf question.Log × GivenExactly audit_shelf question.Audit
  line_given_exactly = (
    given_by_lem archive_shelf question.Archive (λ i. refl) (archive_holds time supcode custcode archive log audit xs sized.archive),
    given_by_lem log_shelf question.Log (λ i. refl) (log_holds time supcode custcode archive log audit xs sized.log),
    given_by_lem audit_shelf question.Audit (λ i. refl) (audit_holds time supcode custcode archive log audit xs sized.audit),
  )
