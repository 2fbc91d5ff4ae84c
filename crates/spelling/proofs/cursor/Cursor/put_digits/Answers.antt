use Rattle.std.proofs.Common.{refl}
use Rattle.spelling.proofs.Lent.{digits_at}
use Rattle.spelling.proofs.Spelled.{within}
use Rattle.spelling.proofs.cursor.Cursor.put_digits.Goals as goal

pub returns-then-k-self : goal.returns-then-k-self
returns-then-k-self c =
    let old = c.args.self.now in
    let base = c.args.base in
    record { put = λ room some few. record { same = refl; put = digits_at old.out.now old.at base c.args.k c.args.n c.digits_into.new.part (within base some few) room c.digits_into.ensures } }
