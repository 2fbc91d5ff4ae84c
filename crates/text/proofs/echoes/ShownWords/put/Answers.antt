use Rattle.text.specs.Echoes.{output_words}
use Rattle.text.proofs.echoes.ShownWords.put.Goals as goal

pub returns : goal.returns
unfolding output_words
returns c = c.put_all.ensures
