use Rattle.std.proofs.Common.{◌≡◌, ◌*◌, ◌++◌, length, take, drop}
use Rattle.text.specs.Hex.{unhexed}
use Rattle.text.proofs.hex.unhex.Given as goal

abbrev pub invariant-loop-i : goal.invariant-loop-i
invariant-loop-i l = (length l.out ≡ length l.initial.out) × (unhexed l.w ≡ take l.i l.out ++ unhexed (drop (2 * l.i) l.w)) × (drop l.i l.out ≡ drop l.i l.initial.out)
