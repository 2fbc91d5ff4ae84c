use Rattle.std.proofs.Common.{arith}
use Rattle.text.specs.Echoes.{joined, newest_words}
use Rattle.spelling.proofs.Appended.{looser}
use Rattle.text.proofs.echoes.OptionLogLineWords.put.Goals as goal

pub returns-in-Some : goal.returns-in-Some
unfolding newest_words
returns-in-Some c = rw c.in-Some.is c.put.ensures

pub returns-in-None : goal.returns-in-None
unfolding joined newest_words
returns-in-None c = rw c.in-None.is (looser 63 (omega arith) c.put_text.ensures)
