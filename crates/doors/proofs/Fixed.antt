-- No freedom, of the contracts of this crate as the compiler made them: see crates/cycle/proofs/Fixed.antt.
-- Assumes nothing.
use mathlib.Core.Path.{◌≡◌}
use seplogic.Ra.Ura.{Ura}
use base.Logic.{SProp, ent}
use prog.Memory.{Memory}
use prog.Routine.{Routine}
use types.Logic.{Logic}
use contract.Monad.{Fun, conj, fact}
use contract.Lifetimes.{Lfts}
use denote.Triple.Clauses.{AtExit}
use Rattle.ground.proofs.Fixed.{fixed, together}
use Rattle.commands.specs.declared.Reply.{Reply}
use Rattle.commands.specs.declared.Answer.{Answer}
use Rattle.doors.proofs.begin.Reads as begin
use Rattle.doors.proofs.abandon.Reads as abandon
use Rattle.doors.proofs.read.Reads as read
use Rattle.doors.proofs.write.Reads as write
use Rattle.doors.specs.contracts.audit_line as audits
use Rattle.doors.specs.contracts.commit as commits

-- ---- plain values

pub begin_fixed : (a : _) (r q : Answer) (e f : _) → begin.Post tt a r e → begin.Post tt a q f → r ≡ q
begin_fixed a r q e f x y = fixed x y

pub abandon_fixed : (a : _) (r q : Answer) (e f : _) → abandon.Post tt a r e → abandon.Post tt a q f → r ≡ q
abandon_fixed a r q e f x y = fixed x y

pub read_fixed : (a : _) (r q : Answer) (e f : _) → read.Post tt a r e → read.Post tt a q f → r ≡ q
read_fixed a r q e f x y = fixed x y

pub write_fixed : (a : _) (r q : Answer) (e f : _) → write.Post tt a r e → write.Post tt a q f → r ≡ q
write_fixed a r q e f x y = fixed x y

-- ---- over a store

module _ {M : Type 1} {𝓤 : Ura M} (𝓛 : Logic 𝓤) (mem : Memory → SProp 𝓤) (run : Routine → Fun 𝓤) where
  pub commit_fixed : (κs : Lfts 1) (a : _) (r q : Answer) (e f : AtExit commits.ended κs)
      → ent 𝓤 (conj 𝓤 ((commits.clauses 𝓛 mem run κs a).ensures tt r e) ((commits.clauses 𝓛 mem run κs a).ensures tt q f)) (fact 𝓤 ((r ≡ q) × (e.1.1.0.now ≡ f.1.1.0.now)))
  commit_fixed κs a r q e f = together 𝓤 _ _ ((r ≡ q) × (e.1.1.0.now ≡ f.1.1.0.now)) (λ x y. (fixed x.0 y.0, fixed x.1 y.1))

  pub audit_line_fixed : (κs : Lfts 1) (a : _) (r q : Reply) (e f : AtExit audits.ended κs)
      → ent 𝓤 (conj 𝓤 ((audits.clauses 𝓛 mem run κs a).ensures tt r e) ((audits.clauses 𝓛 mem run κs a).ensures tt q f)) (fact 𝓤 (r ≡ q))
  audit_line_fixed κs a r q e f = together 𝓤 _ _ (r ≡ q) (λ x y. fixed x y)
