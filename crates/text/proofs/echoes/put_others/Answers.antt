use Rattle.text.specs.Echoes.{other_words, number_words}
use Rattle.text.proofs.echoes.put_others.Goals as goal

pub returns : goal.returns
unfolding other_words number_words
returns c = c.put_all.ensures
