use Rattle.std.proofs.Common.{◌≡◌, ℕ, suc, ◌-◌, ◌++◌, length, drop, length-set, ap, ◌∙◌, subst, arith}
use Rattle.spelling.specs.Spelling.{digits}
use Rattle.spelling.proofs.Spelled.{digit_more, digits_done}
use Rattle.spelling.proofs.spell.Goals as goal

pub loop-i-preserved : goal.loop-i-preserved
loop-i-preserved c =
    let l = c.loop-i in
    let j = l.i - 1 in
    let base = c.args.base in
    let s : l.i ≡ suc j = omega arith in
    let all = digits base (length l.part) c.args.n in
    let e = subst (λ (x : ℕ). all ≡ digits base x l.rest ++ drop x l.part) s l.invariant.1 in (
      omega (arith, length-set l.part j c.glyph_of.result),
      rw (length-set l.part j c.glyph_of.result, c.glyph_of.ensures) (digit_more base j l.rest all l.part (omega arith) e),
    )

pub returns : goal.returns
returns c =
    let l = c.loop-i in
    let base = c.args.base in
    let z : l.i ≡ 0 = omega arith in
    let all = digits base (length l.part) c.args.n in
    digits_done base l.rest all l.part (subst (λ (x : ℕ). all ≡ digits base x l.rest ++ drop x l.part) z l.invariant.1)
    ∙ ap (λ (k : ℕ). digits base k c.args.n) (omega arith)
