use Rattle.std.proofs.Common.{◌≡◌, ℤ, arith, rules, ap, to_z, of_z, w64}
use mir.Facts.{to_z-of_z}
use Rattle.text.specs.Echoes.{spaced, signed}
use Rattle.spelling.proofs.Appended.{two, retext}
use Rattle.text.proofs.Puts.{whole_text, coefficient_text}
use Rattle.text.proofs.echoes.ValueWords.put.Goals as goal

pub returns-in-Whole : goal.returns-in-Whole
returns-in-Whole c =
    let n = c.in-Whole.n in
    let back : to_z w64 (of_z w64 n) ≡ n = to_z-of_z {w = w64} (search rules) in
    retext (whole_text n c.args.self c.in-Whole.is) (two 24 (omega arith) c.put_text.ensures (retext (ap (λ (z : ℤ). spaced (signed z)) back) c.put_signed.ensures))

pub returns-in-Coefficient : goal.returns-in-Coefficient
returns-in-Coefficient c =
    retext (coefficient_text c.in-Coefficient.f c.args.self c.in-Coefficient.is) (two 24 (omega arith) c.put_text-in-Coefficient.ensures (rw c.bits_of.ensures at c.put_digits.ensures))
