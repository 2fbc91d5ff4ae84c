-- The bytes compared with the message that was written for their values.
-- Assumes nothing.
use Prim.Native.Nat.{ℕ, suc}
use mathlib.Core.Path.{◌≡◌, refl, sym, ap, ◌∙◌}
use mathlib.Core.Bool.{Bool, true, false, not}
use mathlib.Core.List.{List, [], ◌∷◌, append-nil}
use lib.Dec.{eqb}
use lib.ListN.{length, get_or, take, replicate}
use lib.Seq.{get_or_at}
use borrow.Author.Tests.{eq-eqb, ne_eqb}
use Rattle.std.specs.Cmp.Lexicographic.{pointwise}
use Rattle.spelling.proofs.Alike.{same_pointwise}
use Rattle.message.specs.declared.Values.{Values}
use Rattle.message.specs.Message.{stx, body, check, message, size, written}
use Rattle.message.proofs.Laws.{length_body}
use Rattle.std.specs.Prelude.{Ok, Err}
use Rattle.reader.specs.declared.Unread.TheVariants.{NotAMessage, WrongCheck}
use Rattle.reader.specs.Reader.{check_at, values_on, of_form, answer_by, parsed}

-- bytes that are not as many as a message has
pub other_length : (b : List ℕ) → (length b ≡ size → ⊥) → Err NotAMessage ≡ parsed b
unfolding parsed of_form answer_by
other_length b h = rw (ne_eqb (length b) size h)

-- the last byte of a message is its check
pub check_last : (v : Values) → get_or (message v) check_at 0 ≡ check v
unfolding message
check_last v = get_or_at (stx ∷ body v) (check v) [] 0 check_at (ap suc (length_body v))

-- a blank buffer with the message in it is the message
all_written : (v : Values) → written v (replicate size 0) ≡ message v
unfolding written
all_written v = append-nil (message v)

not_true : (t : Bool) → not t ≡ true → t ≡ false
not_true true e = sym e
not_true false e = refl

not_false : (t : Bool) → not t ≡ false → t ≡ true
not_false true e = refl
not_false false e = sym e

module _ (b new : List ℕ) (v : Values) (l : length b ≡ size) (e : v ≡ values_on b) (w : new ≡ written v (replicate size 0)) where
  is_written : new ≡ message (values_on b)
  is_written = w ∙ all_written v ∙ ap message e

  -- whether the bytes but the last are other ones
  module _ (ne : Bool) (f : ne ≡ not (pointwise eqb (take check_at b) (take check_at new))) where
    compared : ne ≡ not (of_form b)
    unfolding of_form
    compared = f ∙ ap not (sym (same_pointwise (take check_at b) (take check_at new))) ∙ rw (is_written, eq-eqb (length b) size l)

    pub other_form : ne ≡ true → Err NotAMessage ≡ parsed b
    unfolding parsed answer_by
    other_form n = rw (not_true (of_form b) (sym compared ∙ n))

    module _ (n : ne ≡ false) where
      formed : of_form b ≡ true
      formed = not_false (of_form b) (sym compared ∙ n)

      check_is : get_or new check_at 0 ≡ check (values_on b)
      check_is = rw is_written (check_last (values_on b))

      pub other_check : (get_or b check_at 0 ≡ get_or new check_at 0 → ⊥) → Err WrongCheck ≡ parsed b
      unfolding parsed answer_by
      other_check n = rw (formed, ← check_is, ne_eqb (get_or b check_at 0) (get_or new check_at 0) n)

      pub accepted : get_or b check_at 0 ≡ get_or new check_at 0 → Ok v ≡ parsed b
      unfolding parsed answer_by
      accepted n = rw (formed, ← check_is, eq-eqb (get_or b check_at 0) (get_or new check_at 0) n, e)
