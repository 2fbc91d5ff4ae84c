-- No freedom, of the contract of `parse` as the compiler made it: see crates/cycle/proofs/Fixed.antt.
-- Assumes nothing.
use mathlib.Core.Path.{◌≡◌}
use seplogic.Ra.Ura.{Ura}
use base.Logic.{SProp, ent}
use prog.Memory.{Memory}
use prog.Routine.{Routine}
use types.Logic.{Logic}
use contract.Monad.{Fun, conj, fact}
use contract.Lifetimes.{Lfts}
use denote.Triple.Clauses.{AtExit}
use Rattle.ground.proofs.Fixed.{fixed, together}
use Rattle.reader.specs.contracts.parse as parses

module _ {M : Type 1} {𝓤 : Ura M} (𝓛 : Logic 𝓤) (mem : Memory → SProp 𝓤) (run : Routine → Fun 𝓤) where
  pub parse_fixed : (κs : Lfts 1) (a : _) (r q : _) (e f : AtExit parses.ended κs)
      → ent 𝓤 (conj 𝓤 ((parses.clauses 𝓛 mem run κs a).ensures tt r e) ((parses.clauses 𝓛 mem run κs a).ensures tt q f)) (fact 𝓤 (r ≡ q))
  parse_fixed κs a r q e f = together 𝓤 _ _ (r ≡ q) (λ x y. fixed x y)
