-- No freedom, of the contract of `write` as the compiler made it: see crates/cycle/proofs/Fixed.antt.
-- Assumes nothing.
use mathlib.Core.Path.{◌≡◌}
use seplogic.Ra.Ura.{Ura}
use base.Logic.{SProp, ent}
use prog.Memory.{Memory}
use prog.Routine.{Routine}
use types.Logic.{Logic}
use contract.Monad.{Fun, conj, fact}
use contract.Lifetimes.{Lfts}
use denote.Triple.Clauses.{AtExit}
use Rattle.ground.proofs.Fixed.{fixed, together}
use Rattle.message.specs.contracts.write as writes

module _ {M : Type 1} {𝓤 : Ura M} (𝓛 : Logic 𝓤) (mem : Memory → SProp 𝓤) (run : Routine → Fun 𝓤) where
  pub write_fixed : (κs : Lfts 1) (a : _) (r q : _) (e f : AtExit writes.ended κs)
      → ent 𝓤 (conj 𝓤 ((writes.clauses 𝓛 mem run κs a).ensures tt r e) ((writes.clauses 𝓛 mem run κs a).ensures tt q f)) (fact 𝓤 (e.1.0.now ≡ f.1.0.now))
  write_fixed κs a r q e f = together 𝓤 _ _ (e.1.0.now ≡ f.1.0.now) (λ x y. fixed x y)
