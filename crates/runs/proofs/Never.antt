-- Never one: over stores of their exact lengths no run from a start meets refusal 1. No step changes the length of a store, and the state stays whole,
-- so row 1 never applies. What is said of a command by all its rows is then so by its rows after the first.
-- Assumes nothing.
use mathlib.Core.Path.{◌≡◌, refl, sym, ap, ◌∙◌}
use mathlib.Core.Bool.{true, false, not, ◌&&◌, false≢true}
use mathlib.Core.Logic.{◌↔◌}
use mathlib.Core.List.{List, [], ◌∷◌, reverse_aux}
use Prim.Native.Nat.{ℕ, ◌<◌}
use native.Mathlib.Omega.{arith}
use lib.Dec.{eqb}
use lib.ListN.{length}
use borrow.Author.Tests.{eq-eqb, ne_eqb, not-true}
use Rattle.ground.proofs.Flags.{and_left, and_right}
use Rattle.order.specs.Order.{run, trace}
use Rattle.ring.specs.declared.Ring.{Ring}
use Rattle.ring.specs.Ring.{archive_lines, log_lines, audit_lines}
use Rattle.ring.specs.Store.{written}
use Rattle.ring.proofs.Stores.{written_length}
use Rattle.books.specs.declared.ArchiveLine.{ArchiveLine}
use Rattle.books.specs.declared.LogLine.{LogLine}
use Rattle.books.specs.declared.AuditLine.{AuditLine}
use Rattle.state.specs.State.{whole_b}
use Rattle.state.specs.Card.{first_of}
use Rattle.panel.proofs.Laws.{start_whole}
use Rattle.steps.proofs.Keeps.{step_whole}
use Rattle.commands.specs.declared.Question.TheVariants as question
use Rattle.runs.specs.Exactly.{applies, earlier, lists_number, orderly_b}
use Rattle.runs.specs.Exactly as exact
use Rattle.runs.specs.Rows.{asking, rows_of}
use Rattle.runs.specs.Run.{Step, Question, Cycle, Turn, Clear, Tick, Ask, Call, Commit, World, number_of, step, corrector, started, Body, body_of}
use Rattle.runs.specs.History.{History, history}
use Rattle.runs.specs.Never.{Sized, later_rows, met_in}
use Rattle.runs.proofs.Exactly.{exactly, done_exactly, listed}
use Rattle.runs.proofs.Effects.{after, leaves, number_is, orderly}
use Rattle.runs.proofs.Keeps.{always_whole}
use Rattle.runs.proofs.Lines.{archive_by, log_by, audit_by, archive_stores, log_stores, audit_stores}

-- ---- no step changes the length of a store

store_kept : {A : Type 0} (size : ℕ) (f : Body → List A) (r : Ring) (ys : List A) (x : Step) (w : World) → f (body_of (after x w)) ≡ written size r (f (body_of w)) ys
    → length (f (body_of (step x w).0)) ≡ length (f (body_of w))
store_kept size f r ys x w e = leaves (λ (b : Body). length (f b)) x w (ap length e ∙ written_length size r (f (body_of w)) ys)

pub step_sized : (x : Step) (w : World) → Sized w → Sized (step x w).0
step_sized x w s = record {
  archive = store_kept archive_lines (λ b. b.archive) w.state.core.stores.archive (archive_by x w) x w (archive_stores x w) ∙ s.archive;
  log = store_kept log_lines (λ b. b.log) w.state.core.stores.log.ring (log_by x w) x w (log_stores x w) ∙ s.log;
  audit = store_kept audit_lines (λ b. b.audit) w.state.core.stores.audit.ring (audit_by x w) x w (audit_stores x w) ∙ s.audit;
}

pub run_sized : (xs : List Step) (w : World) → Sized w → Sized (run corrector xs w).1
run_sized [] w s = s
run_sized (x ∷ xs) w s = run_sized xs (step x w).0 (step_sized x w s)

-- ---- a world in which row 1 does not apply

record Ready (w : World) : Type 0 where
  whole : whole_b w.state ≡ true
  sized : Sized w

step_ready : (x : Step) (w : World) → Ready w → Ready (step x w).0
step_ready x w s = record { whole = step_whole x w s.whole; sized = step_sized x w s.sized }

module _ (w : World) (s : Ready w) where
  archive_full : eqb (length w.archive) archive_lines ≡ true
  archive_full = eq-eqb (length w.archive) archive_lines s.sized.archive

  log_full : eqb (length w.log) log_lines ≡ true
  log_full = eq-eqb (length w.log) log_lines s.sized.log

  audit_full : eqb (length w.audit) audit_lines ≡ true
  audit_full = eq-eqb (length w.audit) audit_lines s.sized.audit

  lent_full : (q : Question) → (asking q (body_of w)).lent ≡ true
  lent_full question.Report = refl
  lent_full question.Outputs = refl
  lent_full (question.Readout room) = refl
  lent_full (question.Archive i) = archive_full
  lent_full (question.Log i) = log_full
  lent_full (question.Audit i) = audit_full
  lent_full (question.Last code) = log_full

  first_row : (x : Step) → rows_of x w ≡ (1, false) ∷ later_rows x w
  first_row (Cycle r) = rw (s.whole, archive_full, log_full)
  first_row (Turn turn) = rw (s.whole, log_full)
  first_row Clear = rw s.whole
  first_row (Tick named) = rw s.whole
  first_row (Ask q) = rw (s.whole, lent_full q)
  first_row (Call door act) = rw s.whole
  first_row (Commit door) = rw (s.whole, audit_full)

  number_later : (x : Step) → number_of (step x w).1 ≡ first_of (later_rows x w)
  number_later x = number_is x w ∙ ap first_of (first_row x)

  -- no number of the later rows is 1, and they are in order
  others : (x : Step) → (not (lists_number 1 (later_rows x w)) && orderly_b (later_rows x w)) ≡ true
  others x = sym (ap orderly_b (first_row x)) ∙ orderly x w

  unlisted : (x : Step) → lists_number 1 (later_rows x w) ≡ false
  unlisted x = not-true (lists_number 1 (later_rows x w)) (and_left (not (lists_number 1 (later_rows x w))) (orderly_b (later_rows x w)) (others x))

  orderly_later : (x : Step) → orderly_b (later_rows x w) ≡ true
  orderly_later x = and_right (not (lists_number 1 (later_rows x w))) (orderly_b (later_rows x w)) (others x)

  not_one : (x : Step) → number_of (step x w).1 ≡ 1 → ⊥
  not_one x e = false≢true (sym (unlisted x) ∙ listed (later_rows x w) 1 (omega arith) (sym (number_later x) ∙ e))

-- ---- the answers of a run

none_met : (xs : List Step) (w : World) (past : History) → Ready w → met_in 1 past ≡ false → met_in 1 (reverse_aux (trace corrector xs w) past) ≡ false
none_met [] w past s e = e
none_met (x ∷ xs) w past s e =
    none_met xs (step x w).0 ((x, (step x w).1) ∷ past) (step_ready x w s) (rw (ne_eqb (number_of (step x w).1) 1 (not_one w s x)) e)

-- ---- a run from a start

module _ (time supcode custcode : ℕ) (archive : List ArchiveLine) (log : List LogLine) (audit : List AuditLine)
    (sized : Sized (started time supcode custcode archive log audit)) (xs : List Step) where
  abbrev start : World
  start = started time supcode custcode archive log audit

  abbrev end : World
  end = (run corrector xs start).1

  from_start : Ready start
  from_start = record { whole = start_whole time supcode custcode; sized = sized }

  ready : Ready end
  ready = record { whole = always_whole xs time supcode custcode archive log audit; sized = run_sized xs start sized }

  -- NO STEP OF THE RUN WAS ANSWERED WITH 1
  pub never_met : met_in 1 (history xs start) ≡ false
  never_met = none_met xs start [] from_start refl

  module _ (x : Step) where
    -- its number is that of its rows after the first
    pub number_without_one : number_of (step x end).1 ≡ first_of (later_rows x end)
    number_without_one = number_later end ready x

    -- NOR WOULD ANY STEP BE THAT CAME NEXT
    pub never_one : number_of (step x end).1 ≡ 1 → ⊥
    never_one = not_one end ready x

    -- THE NUMBER IS n EXACTLY WHEN ROW n APPLIES AND NO ROW BEFORE IT, row 1 left out
    pub refused_without_one : (n : ℕ) → 0 < n → (number_of (step x end).1 ≡ n) ↔ exact.Given n (later_rows x end)
    refused_without_one n l = rw (number_later end ready x) (exactly (later_rows x end) (orderly_later end ready x) n l)

    -- IT IS 0 EXACTLY WHEN NO ROW APPLIES, row 1 left out
    pub accepted_without_one : (number_of (step x end).1 ≡ 0) ↔ ((n : ℕ) → applies n (later_rows x end) ≡ false)
    accepted_without_one = rw (number_later end ready x) (done_exactly (later_rows x end) (orderly_later end ready x))

    -- WHETHER A ROW BEFORE ROW n APPLIES is the same with row 1 and without it; so any theorem that says `earlier n (rows_of ..)` can be read without row 1
    pub earlier_without_one : (n : ℕ) → (1 ≡ n → ⊥) → earlier n (rows_of x end) ≡ earlier n (later_rows x end)
    earlier_without_one n other = ap (earlier n) (first_row end ready x) ∙ rw (ne_eqb 1 n other)
