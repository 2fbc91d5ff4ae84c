use Rattle.std.proofs.Common.{refl}
use Rattle.spelling.proofs.Lent.{text_at}
use Rattle.spelling.proofs.cursor.Cursor.put_text.Goals as goal

pub returns-then-text-self-clause-put : goal.returns-then-text-self-clause-put
returns-then-text-self-clause-put c =
    let old = c.args.self.now in
    λ room. record { same = refl; put = text_at old.out.now old.at c.args.text.now c.text_into.new.part room c.text_into.ensures }
