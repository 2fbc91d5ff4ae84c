use Rattle.text.specs.Echoes.{log_words}
use Rattle.text.proofs.echoes.LogLineWords.put.Goals as goal

pub returns : goal.returns
unfolding log_words
returns c = c.put_all.ensures
