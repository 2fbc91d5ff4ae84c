use Rattle.text.specs.Echoes.{archive_words, number_words}
use Rattle.text.proofs.echoes.ArchiveLineWords.put.Goals as goal

pub returns : goal.returns
unfolding archive_words number_words
returns c = c.put_all.ensures
