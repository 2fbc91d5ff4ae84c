-- No freedom, of the contracts of this crate as the compiler made them: see crates/cycle/proofs/Fixed.antt.
-- Assumes nothing.
use mathlib.Core.Path.{◌≡◌}
use Rattle.ground.proofs.Fixed.{fixed}
use Rattle.desk.specs.declared.Started.{Started}
use Rattle.desk.specs.declared.Served.{Served}
use Rattle.desk.proofs.fresh.Reads as fresh
use Rattle.desk.proofs.serve.Reads as serve

pub fresh_fixed : (a : _) (r q : Started) (e f : _) → fresh.Post tt a r e → fresh.Post tt a q f → r ≡ q
fresh_fixed a r q e f x y = fixed x y

pub serve_fixed : (a : _) (r q : Served) (e f : _) → serve.Post tt a r e → serve.Post tt a q f → r ≡ q
serve_fixed a r q e f x y = fixed x y
