-- The test is that of the range, and x + x is exact, so the answer is that of `Doubled`. `of_bits` is unfolded to open the two constants.
-- Assumes nothing.
use Rattle.std.proofs.Common.{T, sym, ap, ◌∙◌, subst, w64, SFits, Some}
use Rattle.std.proofs.lemmas.Float.{T_from_true}
use lib.Ieee.{binary64, of_bits, fits}
use mir.ValLaws.{to_z-of_z}
use Rattle.temperature.proofs.Half.{half_away, sum_is, sum_fits}
use Rattle.temperature.proofs.Range.{tests, inside, outside}
use Rattle.temperature.proofs.Twice.{Doubled, doubled_of}
use Rattle.temperature.proofs.nearest_hundredth.Goals as goal

-- an f64 that the function is given is one of the format
held : (c : goal.Then-contains) → T (fits binary64 c.args.x)
held c = subst T (sym c.well_formed.0.1) tt

twice : (c : goal.Then-contains) → Doubled c.args.x
unfolding of_bits
twice c =
    let r = c.new.ensures in
    doubled_of c.args.x (held c) (inside c.args.x (T_from_true _ (tests c.args.x r.start r.end r.exhausted c.if-contains.ensures.value)))

pub truncating_f64_to_i64-t-requires-clause-lower_bound : goal.truncating_f64_to_i64-t-requires-clause-lower_bound
truncating_f64_to_i64-t-requires-clause-lower_bound c = (twice c).not_low

pub truncating_f64_to_i64-t-requires-clause-upper_bound : goal.truncating_f64_to_i64-t-requires-clause-upper_bound
truncating_f64_to_i64-t-requires-clause-upper_bound c = (twice c).not_high

pub returns-then-contains : goal.returns-then-contains
returns-then-contains c =
    let t = c.truncating_f64_to_i64-t in
    let f : SFits w64 t.result = record { sfits = t.type_inv } in
    ap Some (to_z-of_z w64 _ (sum_fits t.result f) ∙ sum_is t.result f ∙ ap half_away t.ensures) ∙ (twice c.before).answer

pub returns-else-contains : goal.returns-else-contains
unfolding of_bits
returns-else-contains c = let r = c.new.ensures in outside c.args.x (tests c.args.x r.start r.end r.exhausted c.if-contains.ensures.value)
