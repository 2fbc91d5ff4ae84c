use Rattle.std.proofs.Common.{length, drop, ◌++◌, ◌≡◌}
use Rattle.spelling.specs.Spelling.{digits}
use Rattle.spelling.proofs.spell.Given as goal

-- the digits that stand already are the last ones of the number
abbrev pub invariant-loop-i : goal.invariant-loop-i
invariant-loop-i l = (length l.part ≡ length l.initial.part) × (digits l.base (length l.part) l.n ≡ digits l.base l.i l.rest ++ drop l.i l.part)
