-- Each cell is tested at its place.
use Rattle.std.proofs.Common.{rules}
use Rattle.std.proofs.iter.runs.Made.{chains}
use Rattle.settings.specs.Settings.{setting_count}
use Rattle.state.specs.State.{cells_b, session_b}
use Rattle.state.proofs.Below.{all_is}
use Rattle.state.proofs.Session.is_whole.Goals as goal

pub returns : goal.returns
unfolding session_b cells_b
returns c = all_is (cells_b c.args.self.live c.args.self.cells) setting_count c.all.result (λ e k h. search (rules, chains)) (λ e. search (rules, chains))
