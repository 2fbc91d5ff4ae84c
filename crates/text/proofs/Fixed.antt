-- No freedom, of the contracts of the two functions that put a line, as the compiler made them: see crates/cycle/proofs/Fixed.antt. That a text is put at a place in one way is
-- `put_fixed` in crates/spelling/proofs/Puts.antt.
-- Assumes nothing.
use mathlib.Core.Path.{◌≡◌}
use Prim.Native.Nat.{ℕ}
use seplogic.Ra.Ura.{Ura}
use base.Logic.{SProp, ent}
use prog.Memory.{Memory}
use prog.Routine.{Routine}
use types.Logic.{Logic}
use contract.Monad.{Fun, conj, fact}
use contract.Lifetimes.{Lfts}
use denote.Triple.Clauses.{AtExit}
use Rattle.ground.proofs.Fixed.{together}
use Rattle.spelling.proofs.Puts.{put_fixed}
use Rattle.text.specs.contracts.echoes.echo_line as echoed
use Rattle.text.specs.contracts.echoes.office_line as printed

module _ {M : Type 1} {𝓤 : Ura M} (𝓛 : Logic 𝓤) (mem : Memory → SProp 𝓤) (run : Routine → Fun 𝓤) where
  pub echo_line_fixed : (κs : Lfts 1) (a : _) (r q : ℕ) (e f : AtExit echoed.ended κs)
      → ent 𝓤 (conj 𝓤 ((echoed.clauses 𝓛 mem run κs a).ensures tt r e) ((echoed.clauses 𝓛 mem run κs a).ensures tt q f)) (fact 𝓤 ((r ≡ q) × (e.0.now ≡ f.0.now)))
  echo_line_fixed κs a r q e f = together 𝓤 _ _ ((r ≡ q) × (e.0.now ≡ f.0.now)) (λ x y. put_fixed x y)

  pub office_line_fixed : (κs : Lfts 1) (a : _) (r q : ℕ) (e f : AtExit printed.ended κs)
      → ent 𝓤 (conj 𝓤 ((printed.clauses 𝓛 mem run κs a).ensures tt r e) ((printed.clauses 𝓛 mem run κs a).ensures tt q f)) (fact 𝓤 ((r ≡ q) × (e.0.now ≡ f.0.now)))
  office_line_fixed κs a r q e f = together 𝓤 _ _ ((r ≡ q) × (e.0.now ≡ f.0.now)) (λ x y. put_fixed x y)
