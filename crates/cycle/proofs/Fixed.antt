-- No freedom: no two differing answers, with the state and the stores after them, can satisfy the contract of a public function. The contract is
-- the one that the compiler made of the function's own text, and is not written again here. Where the function takes and gives plain values it is
-- read as a plain claim (`Post`: of the arguments, the answer, and the arguments at the end); where it is lent a store, it is an assertion
-- (`clauses`), and two answers that both meet it are equal wherever it holds.
-- Assumes nothing.
use mathlib.Core.Path.{◌≡◌}
use seplogic.Ra.Ura.{Ura}
use base.Logic.{SProp, ent}
use prog.Memory.{Memory}
use prog.Routine.{Routine}
use types.Logic.{Logic}
use contract.Monad.{Fun, conj, fact}
use contract.Lifetimes.{Lfts}
use denote.Triple.Clauses.{AtExit}
use Rattle.ground.proofs.Fixed.{fixed, together}
use Rattle.commands.specs.declared.Answer.{Answer}
use Rattle.cycle.specs.contracts.cycle as cycles

module _ {M : Type 1} {𝓤 : Ura M} (𝓛 : Logic 𝓤) (mem : Memory → SProp 𝓤) (run : Routine → Fun 𝓤) where
  pub cycle_fixed : (κs : Lfts 2) (a : _) (r q : Answer) (e f : AtExit cycles.ended κs)
      → ent 𝓤 (conj 𝓤 ((cycles.clauses 𝓛 mem run κs a).ensures tt r e) ((cycles.clauses 𝓛 mem run κs a).ensures tt q f))
      (fact 𝓤 ((r ≡ q) × (e.1.1.0.now ≡ f.1.1.0.now) × (e.1.1.1.0.now ≡ f.1.1.1.0.now)))
  cycle_fixed κs a r q e f = together 𝓤 _ _ ((r ≡ q) × (e.1.1.0.now ≡ f.1.1.0.now) × (e.1.1.1.0.now ≡ f.1.1.1.0.now)) (λ x y. (fixed x.0 y.0, fixed x.1.0 y.1.0, fixed x.1.1 y.1.1))
