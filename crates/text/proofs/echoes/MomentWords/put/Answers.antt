use Rattle.std.proofs.Common.{arith}
use Rattle.text.specs.Echoes.{counter_words, lamp_words, flag_words, number_words, moment_words}
use Rattle.text.proofs.Puts.{rows}
use Rattle.text.proofs.echoes.MomentWords.put.Goals as goal

pub returns : goal.returns
unfolding counter_words lamp_words flag_words number_words moment_words
returns c = rows _ _ 165 (omega arith) c.put_all.ensures c.put_all-2.ensures
