-- The two rows whose factory value is a float other than 0, which the checker computes; and past the table's end there is none.
use Rattle.std.proofs.Common.{◌≤◌, rules, sym, ◌∙◌, arith}
use lib.Ieee.{of_bits, neg}
use lib.ListN.{get_or-eq_default}
use Rattle.settings.specs.Settings.{rows, row_of, no_row}
use Rattle.settings.proofs.table.row_of.Goals as goal

pub returns-in-10 : goal.returns-in-10
unfolding row_of rows of_bits neg
returns-in-10 c = search rules

pub returns-in-11 : goal.returns-in-11
unfolding row_of rows of_bits neg
returns-in-11 c = search rules

pub returns-in_default : goal.returns-in_default
unfolding row_of rows
returns-in_default c = let past : 29 ≤ c.args.k = omega arith in c.whole-in_default.ensures ∙ sym (get_or-eq_default rows no_row {n = c.args.k} past)
