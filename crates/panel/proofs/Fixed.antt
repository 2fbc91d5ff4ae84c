-- No freedom, of the contracts of this crate as the compiler made them: see crates/cycle/proofs/Fixed.antt.
-- Assumes nothing.
use mathlib.Core.Path.{◌≡◌}
use seplogic.Ra.Ura.{Ura}
use base.Logic.{SProp, ent}
use prog.Memory.{Memory}
use prog.Routine.{Routine}
use types.Logic.{Logic}
use contract.Monad.{Fun, conj, fact}
use contract.Lifetimes.{Lfts}
use denote.Triple.Clauses.{AtExit}
use Rattle.ground.proofs.Fixed.{fixed, together}
use Rattle.commands.specs.declared.Reply.{Reply}
use Rattle.commands.specs.declared.Answer.{Answer}
use Rattle.panel.proofs.start.Reads as start
use Rattle.panel.proofs.clear.Reads as clear
use Rattle.panel.proofs.report.Reads as report
use Rattle.panel.proofs.tick.Reads as tick
use Rattle.panel.proofs.outputs.Reads as outputs
use Rattle.panel.specs.contracts.open_lock as opens
use Rattle.panel.specs.contracts.shut_lock as shuts
use Rattle.panel.specs.contracts.readout as readouts
use Rattle.panel.specs.contracts.archive_line as archives
use Rattle.panel.specs.contracts.log_line as logs
use Rattle.panel.specs.contracts.last as lasts

-- ---- plain values

pub start_fixed : (a : _) (r q : Answer) (e f : _) → start.Post tt a r e → start.Post tt a q f → r ≡ q
start_fixed a r q e f x y = fixed x y

pub clear_fixed : (a : _) (r q : Answer) (e f : _) → clear.Post tt a r e → clear.Post tt a q f → r ≡ q
clear_fixed a r q e f x y = fixed x y

pub report_fixed : (a : _) (r q : Reply) (e f : _) → report.Post tt a r e → report.Post tt a q f → r ≡ q
report_fixed a r q e f x y = fixed x y

pub tick_fixed : (a : _) (r q : Answer) (e f : _) → tick.Post tt a r e → tick.Post tt a q f → r ≡ q
tick_fixed a r q e f x y = fixed x y

pub outputs_fixed : (a : _) (r q : Reply) (e f : _) → outputs.Post tt a r e → outputs.Post tt a q f → r ≡ q
outputs_fixed a r q e f x y = fixed x y

-- ---- over a store

module _ {M : Type 1} {𝓤 : Ura M} (𝓛 : Logic 𝓤) (mem : Memory → SProp 𝓤) (run : Routine → Fun 𝓤) where
  pub open_fixed : (κs : Lfts 1) (a : _) (r q : Answer) (e f : AtExit opens.ended κs)
      → ent 𝓤 (conj 𝓤 ((opens.clauses 𝓛 mem run κs a).ensures tt r e) ((opens.clauses 𝓛 mem run κs a).ensures tt q f)) (fact 𝓤 ((r ≡ q) × (e.1.1.1.0.now ≡ f.1.1.1.0.now)))
  open_fixed κs a r q e f = together 𝓤 _ _ ((r ≡ q) × (e.1.1.1.0.now ≡ f.1.1.1.0.now)) (λ x y. (fixed x.0 y.0, fixed x.1 y.1))

  pub shut_fixed : (κs : Lfts 1) (a : _) (r q : Answer) (e f : AtExit shuts.ended κs)
      → ent 𝓤 (conj 𝓤 ((shuts.clauses 𝓛 mem run κs a).ensures tt r e) ((shuts.clauses 𝓛 mem run κs a).ensures tt q f)) (fact 𝓤 ((r ≡ q) × (e.1.1.0.now ≡ f.1.1.0.now)))
  shut_fixed κs a r q e f = together 𝓤 _ _ ((r ≡ q) × (e.1.1.0.now ≡ f.1.1.0.now)) (λ x y. (fixed x.0 y.0, fixed x.1 y.1))

  pub readout_fixed : (κs : Lfts 1) (a : _) (r q : Reply) (e f : AtExit readouts.ended κs)
      → ent 𝓤 (conj 𝓤 ((readouts.clauses 𝓛 mem run κs a).ensures tt r e) ((readouts.clauses 𝓛 mem run κs a).ensures tt q f)) (fact 𝓤 ((r ≡ q) × (e.1.0.now ≡ f.1.0.now)))
  readout_fixed κs a r q e f = together 𝓤 _ _ ((r ≡ q) × (e.1.0.now ≡ f.1.0.now)) (λ x y. (fixed x.0 y.0, fixed x.1 y.1))

  pub archive_line_fixed : (κs : Lfts 1) (a : _) (r q : Reply) (e f : AtExit archives.ended κs)
      → ent 𝓤 (conj 𝓤 ((archives.clauses 𝓛 mem run κs a).ensures tt r e) ((archives.clauses 𝓛 mem run κs a).ensures tt q f)) (fact 𝓤 (r ≡ q))
  archive_line_fixed κs a r q e f = together 𝓤 _ _ (r ≡ q) (λ x y. fixed x y)

  pub log_line_fixed : (κs : Lfts 1) (a : _) (r q : Reply) (e f : AtExit logs.ended κs)
      → ent 𝓤 (conj 𝓤 ((logs.clauses 𝓛 mem run κs a).ensures tt r e) ((logs.clauses 𝓛 mem run κs a).ensures tt q f)) (fact 𝓤 (r ≡ q))
  log_line_fixed κs a r q e f = together 𝓤 _ _ (r ≡ q) (λ x y. fixed x y)

  pub last_fixed : (κs : Lfts 1) (a : _) (r q : Reply) (e f : AtExit lasts.ended κs)
      → ent 𝓤 (conj 𝓤 ((lasts.clauses 𝓛 mem run κs a).ensures tt r e) ((lasts.clauses 𝓛 mem run κs a).ensures tt q f)) (fact 𝓤 (r ≡ q))
  last_fixed κs a r q e f = together 𝓤 _ _ (r ≡ q) (λ x y. fixed x y)
