use Rattle.std.proofs.Common.{◌≡◌, nat_abs, arith, ap, ◌∙◌}
use mir.Facts.{to_z-of_z}
use Rattle.spelling.proofs.Appended.{two, retext}
use Rattle.text.proofs.Puts.{below_zero_lem, not_below}
use Rattle.text.proofs.echoes.put_signed.Goals as goal
use Rattle.text.proofs.echoes.put_signed.Goals.{then-n-lt0, else-n-lt0}

pub returns : goal.returns
returns c =
    let n = c.args.n in
    let size = c.unsigned_abs in
    let e : size.result ≡ nat_abs n = size.ensures.value ∙ ap nat_abs (to_z-of_z c.ranges.n) in
    elim c.if-n-lt0.branch [
      | then-n-lt0 w ↦
          let below = rw (to_z-of_z c.ranges.n) at w.if-n-lt0.true in
          retext (below_zero_lem n size.result e below) (two 22 (omega arith) c.put_byte.ensures (two 21 (omega arith) w.put_byte-then-n-lt0.ensures (rw w.cursor-is at c.put_decimal.ensures)))
      | else-n-lt0 w ↦
          let above = rw (to_z-of_z c.ranges.n) at w.if-n-lt0.false in
          retext (not_below n size.result e above) (two 22 (omega arith) c.put_byte.ensures (rw w.cursor-is at c.put_decimal.ensures))
    ]
