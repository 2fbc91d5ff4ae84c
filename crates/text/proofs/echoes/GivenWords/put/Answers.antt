use Rattle.text.specs.Echoes.{given_words}
use Rattle.text.proofs.Puts.{none_put}
use Rattle.text.proofs.echoes.GivenWords.put.Goals as goal

pub returns-in-Nothing : goal.returns-in-Nothing
unfolding given_words
returns-in-Nothing c = rw c.in-Nothing.is (none_put 401 c.args.cursor.now)
