use Rattle.std.proofs.Common.{◌≡◌, ◌<◌, ◌∙◌, length, arith, rules}
use Rattle.text.proofs.Digits.{no_digit, no_digit_at, past_the_end, is_number_lem}
use Rattle.text.proofs.numbers.number_in.Goals as goal

pub returns-then-base-d : goal.returns-then-base-d
returns-then-base-d c =
    let a = c.args in
    let i = c.loop-b.b-index in
    no_digit a.base a.w.now i (omega arith) (no_digit_at a.base a.w.now i c.digit_of-d.ensures c.if-base-d.true)

pub returns-in_err-checked_mul : goal.returns-in_err-checked_mul
returns-in_err-checked_mul c =
    let a = c.args in
    let l = c.loop-b in
    c.from_residual.ensures ∙ past_the_end a.base a.w.now l.b-index (omega arith) c.loop-b-test.true c.digit_of-d.ensures l.invariant.1 (omega (arith, c.in_err-checked_mul.ensures))

pub returns-in_err-value : goal.returns-in_err-value
returns-in_err-value c =
    let a = c.args in
    let l = c.loop-b in
    c.from_residual-in_err-value.ensures
    ∙ past_the_end a.base a.w.now l.b-index (omega arith) c.loop-b-test.true c.digit_of-d.ensures l.invariant.1 (omega (arith, c.in_ok-checked_mul.ensures, c.in_err-value.ensures))

pub returns : goal.returns
returns c =
    let a = c.args in
    let l = c.loop-b in
    let e : l.b-index ≡ length a.w.now = omega arith in
    let n : 0 < length a.w.now = search rules in
    rw (l.invariant.1, e) (is_number_lem a.base a.w.now n (rw e at l.invariant.0) (rw (l.invariant.1, e) at l.invariant.2))
