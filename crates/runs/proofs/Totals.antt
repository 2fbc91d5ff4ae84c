-- The totals of a report: after any run from a start, VmT and VbT show, under the rollover, the sum of what the accepted cycles put on the main
-- and on the disturbed counter. They are kept, and a state after a run is whole, so they are main plus disturbed.
-- Assumes nothing.
use mathlib.Core.Path.{◌≡◌, ◌∙◌}
use mathlib.Core.List.{List}
use Prim.Native.Nat.{ℕ, ◌+◌, ◌%◌}
use Rattle.order.specs.Order.{run}
use Rattle.units.specs.declared.Litres.{Litres}
use Rattle.units.specs.declared.BaseUnits.{BaseUnits}
use Rattle.units.specs.Units.{litres_rollover, base_rollover, litres_shown, base_shown, plus_litres, plus_base}
use Rattle.units.proofs.Sums.{litres_together, base_together}
use Rattle.books.specs.declared.ArchiveLine.{ArchiveLine}
use Rattle.books.specs.declared.LogLine.{LogLine}
use Rattle.books.specs.declared.AuditLine.{AuditLine}
use Rattle.panel.specs.Panel.{reported, report_refusal, report_by}
use Rattle.panel.proofs.Laws.{total_litres, total_base}
use Rattle.runs.specs.Run.{Step, Ask, World, giving, step, corrector, started}
use Rattle.commands.specs.declared.Question.TheVariants as question
use Rattle.commands.specs.declared.Given.TheVariants as given
use Rattle.runs.specs.Sums.{Vm, VmD, Vb, VbD, sum_in}
use Rattle.runs.specs.History.{History, history}
use Rattle.runs.proofs.Keeps.{always_whole}
use Rattle.runs.proofs.Sums.{sums}

-- a counter by what it shows
pub litres_shown_lem : (v : Litres) (s : ℕ) → v.0 ≡ s % litres_rollover → v ≡ litres_shown s
unfolding litres_shown
litres_shown_lem v s e = λ i. record { 0 = e i }

pub base_shown_lem : (v : BaseUnits) (s : ℕ) → v.0 ≡ s % base_rollover → v ≡ base_shown s
unfolding base_shown
base_shown_lem v s e = λ i. record { 0 = e i }

module _ (xs : List Step) (time supcode custcode : ℕ) (archive : List ArchiveLine) (log : List LogLine) (audit : List AuditLine) where
  abbrev start : World
  start = started time supcode custcode archive log audit

  abbrev end : World
  end = (run corrector xs start).1

  abbrev past : History
  past = history xs start

  -- a report after a run is given
  pub report_given : (step (Ask question.Report) end).1 ≡ giving 0 (given.Report (reported end.state.core))
  unfolding report_by report_refusal
  report_given = rw (always_whole xs time supcode custcode archive log audit)

  -- ITS VmT IS THE SUM OF BOTH COUNTERS' SUMS, under the rollover
  pub total_measured : (reported end.state.core).counters.vmt ≡ litres_shown (sum_in Vm past + sum_in VmD past)
  unfolding reported
  total_measured =
      let main = litres_shown_lem end.state.core.measured.counters.vm (sum_in Vm past) (sums Vm xs time supcode custcode archive log audit) in
      let disturbed = litres_shown_lem end.state.core.measured.counters.vmd (sum_in VmD past) (sums VmD xs time supcode custcode archive log audit) in
      total_litres end.state (always_whole xs time supcode custcode archive log audit)
      ∙ (λ i. plus_litres (main i) (disturbed i))
      ∙ litres_together (sum_in Vm past) (sum_in VmD past)

  -- AND ITS VbT
  pub total_at_base : (reported end.state.core).counters.vbt ≡ base_shown (sum_in Vb past + sum_in VbD past)
  unfolding reported
  total_at_base =
      let main = base_shown_lem end.state.core.measured.counters.vb (sum_in Vb past) (sums Vb xs time supcode custcode archive log audit) in
      let disturbed = base_shown_lem end.state.core.measured.counters.vbd (sum_in VbD past) (sums VbD xs time supcode custcode archive log audit) in
      total_base end.state (always_whole xs time supcode custcode archive log audit)
      ∙ (λ i. plus_base (main i) (disturbed i))
      ∙ base_together (sum_in Vb past) (sum_in VbD past)
