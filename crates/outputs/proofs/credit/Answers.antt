-- One number of pulses after another is as their sum.
use Rattle.std.proofs.Common.{◌≡◌, ℕ, ◌+◌, ◌/◌, ◌%◌, ◌≤◌, sym, ap, ◌∙◌, arith}
use native.Mathlib.Nat.{add-mod}
use Rattle.outputs.specs.declared.Output.{Output}
use Rattle.outputs.specs.Outputs.{credited_by}
use Rattle.outputs.specs.Plan.{pushed, buffer_of, gained_of}
use Rattle.outputs.proofs.Wholes.{rest_is, wholes_parts}
use Rattle.outputs.proofs.Buffers.{push_twice}
use Rattle.outputs.proofs.Credited.{credited}
use Rattle.outputs.proofs.credit.Goals as goal

by_parts : (w x : ℕ) (o : Output) → 1 ≤ w
    → gained_of ((o.account.0 % w + x % w) % w) (pushed ((o.account.0 % w + x % w) / w) (pushed (x / w) (pushed (o.account.0 / w) (buffer_of o)))) ≡ credited_by w x o
by_parts w x o p =
    let a : ℕ = o.account.0 in
    let s : ℕ = a % w + x % w in
    ap (gained_of (s % w)) (push_twice (x / w) (s / w) (pushed (a / w) (buffer_of o)) ∙ push_twice (a / w) (x / w + s / w) (buffer_of o))
    ∙ ap (λ (n : ℕ). gained_of (s % w) (pushed n (buffer_of o))) (sym (wholes_parts w p a x))
    ∙ ap (λ (n : ℕ). gained_of n (pushed ((a + x) / w) (buffer_of o))) (sym (add-mod a x w) ∙ sym (rest_is w p (a + x)))
    ∙ credited w x o

pub returns : goal.returns
returns c =
    rw (c.gained-2.ensures, c.pushed-3.ensures, c.pushed-2.ensures, c.pushed.ensures, c.from-buffer.ensures)
    (by_parts c.args.weight.0 c.args.gain.0 c.args.o (omega arith))
