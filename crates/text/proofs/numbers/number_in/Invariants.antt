use Rattle.std.proofs.Common.{◌≡◌, ◌≤◌, true}
use Rattle.ground.specs.Below.{all_below}
use Rattle.spelling.specs.Spelling.{spelled}
use Rattle.text.specs.Numbers.{digit_at, largest}
use Rattle.text.proofs.numbers.number_in.Given as goal

abbrev pub invariant-loop-b : goal.invariant-loop-b
invariant-loop-b l = (all_below (digit_at l.base l.w) l.b-index ≡ true) × (l.value ≡ spelled l.base l.w l.b-index) × (l.value ≤ largest)
