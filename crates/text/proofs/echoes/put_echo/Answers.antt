use Rattle.std.proofs.Common.{arith}
use Rattle.text.specs.Echoes.{echo_text, unknown_text}
use Rattle.spelling.proofs.Appended.{looser, nothing_put}
use Rattle.text.proofs.echoes.put_echo.Goals as goal

pub returns-in-Nothing : goal.returns-in-Nothing
unfolding echo_text
returns-in-Nothing c = rw c.in-Nothing.is (nothing_put 422 c.args.cursor.now)

pub returns-in-Unknown : goal.returns-in-Unknown
unfolding echo_text unknown_text
returns-in-Unknown c = rw c.in-Unknown.is (looser 422 (omega arith) c.put_text.ensures)

pub returns-in-Said : goal.returns-in-Said
unfolding echo_text
returns-in-Said c = rw c.in-Said.is c.said_line.ensures

pub returns-in-Parse : goal.returns-in-Parse
unfolding echo_text
returns-in-Parse c = rw c.in-Parse.is c.parsed_line.ensures
