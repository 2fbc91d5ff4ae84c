use Rattle.std.proofs.Common.{◌≡◌, ◌∙◌, ◌*◌, ◌+◌, ◌/◌, ◌<◌, refl, arith, get_or, length, length-set, add-one}
use Rattle.spelling.specs.Spelling.{digit_of}
use Rattle.text.proofs.Bytes.{rest_stays}
use Rattle.text.proofs.Unhexed.{each_digit, first_of_pair, second_of_pair, byte_put, all_put}
use Rattle.text.proofs.hex.unhex.Goals as goal

pub byte_of-requires : goal.byte_of-requires
byte_of-requires c =
    let w = c.args.w.now in
    let i = c.loop-i.i in
    let h : i < length w / 2 = omega (arith, c.as_chunks.ensures.front_len) in
    let first = first_of_pair w _ i _ c.as_chunks.ensures.front h in
    let second = second_of_pair w _ i _ c.as_chunks.ensures.front h in
    (rw first (each_digit w _ c.requires.0 (omega arith)), rw second (each_digit w _ c.requires.0 (omega arith)))

pub loop-i-preserved : goal.loop-i-preserved
loop-i-preserved c =
    let w = c.args.w.now in
    let l = c.loop-i in
    let x = c.byte_of.result in
    let h : l.i < length w / 2 = omega (arith, c.as_chunks.ensures.front_len) in
    let first = first_of_pair w _ l.i _ c.as_chunks.ensures.front h in
    let second = second_of_pair w _ l.i _ c.as_chunks.ensures.front h in
    let byte : x ≡ 16 * digit_of (get_or w (2 * l.i) 0) + digit_of (get_or w (2 * l.i + 1) 0) = c.byte_of.ensures ∙ rw (first, second) in (
      length-set l.out l.i x ∙ l.invariant.0,
      byte_put w l.out l.i x (omega (arith, l.invariant.0)) (omega arith) byte l.invariant.1,
      rw (add-one l.i) (rest_stays c.args.out.now l.out l.i x l.invariant.2),
    )

pub returns : goal.returns
returns c =
    let w = c.args.w.now in
    let l = c.loop-i in
    let e : l.i ≡ length w / 2 = omega (arith, c.as_chunks.ensures.front_len) in
    all_put w l.out c.args.out.now (length w / 2) refl (rw e at l.invariant.1) (rw e at l.invariant.2)
