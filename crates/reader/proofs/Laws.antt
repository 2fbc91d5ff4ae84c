-- What holds of the reader: it accepts exactly the messages, and gives back their values.
-- Assumes nothing.
use Prim.Native.Nat.{ℕ, ◌+◌, ◌<◌}
use native.Mathlib.Omega.{arith}
use mathlib.Core.Path.{◌≡◌, refl, sym, ap, ◌∙◌}
use mathlib.Core.Bool.{true, false, true≢false}
use mathlib.Core.List.{List, [], ◌∷◌, ◌++◌, append-nil}
use lib.Dec.{eqb, ltb}
use lib.ListN.{length, get_or, take, drop_of_length-le}
use lib.Seq.{take_all, take-suc, length-take-le}
use borrow.Author.Tests.{ltb-true, ltb-false, eq-eqb, ne_eqb, eqb-true, eqb-false}
use Rattle.ground.proofs.Flags.{Either, is_true, is_false, either_of, and_left, and_right}
use Rattle.spelling.specs.Spelling.{same_b}
use Rattle.spelling.proofs.Alike.{same_true, same_itself}
use Rattle.message.specs.declared.Values.{Values}
use Rattle.message.specs.Message.{message, check, size, written, Fits}
use Rattle.message.proofs.Laws.{length_message}
use Rattle.std.specs.Prelude.{Result, Ok, Err}
use Rattle.reader.specs.declared.Unread.{Unread}
use Rattle.reader.specs.declared.Unread.TheVariants.{NotAMessage, WrongCheck}
use Rattle.reader.specs.Reader.{check_at, Form, Reads, accepted, wrong_check, not_of_form, values_on, of_form, answer_by, parsed}
use Rattle.reader.proofs.Compared.{other_length, check_last}
use Rattle.reader.proofs.Back.{values_back, values_fit}

-- ---- one meaning of "of this form"

-- what the reader tests holds: then the values that it found have this form
pub form_tested : (b : List ℕ) → of_form b ≡ true → Form b (values_on b)
unfolding of_form
form_tested b e =
    let same = same_true (take check_at b) (take check_at (message (values_on b))) (and_right (eqb (length b) size) (same_b (take check_at b) (take check_at (message (values_on b)))) e) in
    record {
      fits = values_fit b (values_on b) same refl;
      long = eqb-true (length b) size (and_left (eqb (length b) size) (same_b (take check_at b) (take check_at (message (values_on b)))) e);
      same = same;
    }

-- WHATEVER VALUES HAVE THIS FORM, the reader finds them, and no others
pub form_found : (b : List ℕ) (v : Values) → Form b v → (of_form b ≡ true) × (values_on b ≡ v)
unfolding of_form
form_found b v f =
    let is = values_back b v f.same f.fits in
    (rw (is, eq-eqb (length b) size f.long, f.same) (same_itself (take check_at (message v))), is)

-- a message has one set of values
pub one_form : (b : List ℕ) (v w : Values) → Form b v → Form b w → v ≡ w
one_form b v w f g = sym (form_found b v f).1 ∙ (form_found b w g).1

-- ---- the rule and what is worked out

right_is : (b : List ℕ) (v : Values) → Form b v → get_or b check_at 0 ≡ check v → Ok v ≡ parsed b
unfolding parsed answer_by
right_is b v f c = let found = form_found b v f in rw (found.0, found.1, eq-eqb (get_or b check_at 0) (check v) c)

wrong_is : (b : List ℕ) (v : Values) → Form b v → (get_or b check_at 0 ≡ check v → ⊥) → Err WrongCheck ≡ parsed b
unfolding parsed answer_by
wrong_is b v f c = let found = form_found b v f in rw (found.0, found.1, ne_eqb (get_or b check_at 0) (check v) c)

none_is : (b : List ℕ) → of_form b ≡ false → Err NotAMessage ≡ parsed b
unfolding parsed answer_by
none_is b e = rw e

-- THE ANSWER IS BY THE RULE
pub by_the_rule : (b : List ℕ) → Reads b (parsed b)
by_the_rule b = by_form (either_of (of_form b))
  where
    by-check : Form b (values_on b) → Either (eqb (get_or b check_at 0) (check (values_on b))) → Reads b (parsed b)
    by-check f (is_true e) =
        let c = eqb-true (get_or b check_at 0) (check (values_on b)) e in
        rw (← right_is b (values_on b) f c) (accepted (values_on b) f c)
    by-check f (is_false e) =
        let c = eqb-false (get_or b check_at 0) (check (values_on b)) e in
        rw (← wrong_is b (values_on b) f c) (wrong_check (values_on b) f c)

    by_form : Either (of_form b) → Reads b (parsed b)
    by_form (is_true e) = by-check (form_tested b e) (either_of (eqb (get_or b check_at 0) (check (values_on b))))
    by_form (is_false e) = rw (← none_is b e) (not_of_form (λ v f. true≢false (sym (form_found b v f).0 ∙ e)))

-- AND THE RULE HAS NO OTHER ANSWER
pub only_answer : (b : List ℕ) (r : Result Values Unread) → Reads b r → r ≡ parsed b
only_answer b r (accepted v f c) = right_is b v f c
only_answer b r (wrong_check v f c) = wrong_is b v f c
only_answer b r (not_of_form n) = by_form (either_of (of_form b))
  where
    by_form : Either (of_form b) → Err NotAMessage ≡ parsed b
    by_form (is_true e) = absurd (n (values_on b) (form_tested b e))
    by_form (is_false e) = none_is b e

-- 17 EXACTLY WHERE no six values have this form
pub seventeen : (b : List ℕ) → parsed b ≡ Err NotAMessage → (v : Values) → Form b v → ⊥
seventeen b e = by-rule (parsed b) (by_the_rule b) e
  where
    by-rule : (r : Result Values Unread) → Reads b r → r ≡ Err NotAMessage → (v : Values) → Form b v → ⊥
    by-rule r (accepted w f c) q v g = cc
    by-rule r (wrong_check w f c) q v g = cc
    by-rule r (not_of_form n) q v g = n v g

pub otherwise_seventeen : (b : List ℕ) → ((v : Values) → Form b v → ⊥) → parsed b ≡ Err NotAMessage
otherwise_seventeen b n = sym (only_answer b (Err NotAMessage) (not_of_form n))

-- 18 EXACTLY WHERE some six values have this form, and the last byte is not their check
pub eighteen : (b : List ℕ) → parsed b ≡ Err WrongCheck → Form b (values_on b) × (get_or b check_at 0 ≡ check (values_on b) → ⊥)
eighteen b e = by-rule (parsed b) (by_the_rule b) e
  where
    by-rule : (r : Result Values Unread) → Reads b r → r ≡ Err WrongCheck → Form b (values_on b) × (get_or b check_at 0 ≡ check (values_on b) → ⊥)
    by-rule r (accepted v f c) q = cc
    by-rule r (wrong_check v f c) q = rw (form_found b v f).1 (f, c)
    by-rule r (not_of_form n) q = cc

pub otherwise_eighteen : (b : List ℕ) (v : Values) → Form b v → (get_or b check_at 0 ≡ check v → ⊥) → parsed b ≡ Err WrongCheck
otherwise_eighteen b v f c = sym (wrong_is b v f c)

-- ---- both round trips

-- WHAT IS WRITTEN READS BACK
pub reads_back : (v : Values) → Fits v → parsed (message v) ≡ Ok v
reads_back v f = sym (right_is (message v) v (record { fits = f; long = length_message v; same = refl }) (check_last v))

-- also from a buffer of 156 bytes that was lent for it
pub written_reads_back : (v : Values) (old : List ℕ) → Fits v → length old ≡ size → parsed (written v old) ≡ Ok v
unfolding written
written_reads_back v old f l =
    rw (l, drop_of_length-le old {i = size} (omega arith), append-nil (message v)) (reads_back v f)

-- a form whose last byte is the check is the message
whole : (b : List ℕ) (v : Values) → Form b v → get_or b check_at 0 ≡ check v → b ≡ message v
whole b v f c =
    let one : (l : List ℕ) → length l ≡ size → l ≡ take check_at l ++ (get_or l check_at 0 ∷ []) = λ l e. sym (take_all size l (omega arith)) ∙ take-suc l check_at 0 (omega arith) in
    one b f.long ∙ rw (f.same, c, ← check_last v) (sym (one (message v) (length_message v)))

-- WHAT IS ACCEPTED IS WHAT IS WRITTEN for its values, byte for byte, and its values have at most twelve digits
pub accepted_is_written : (b : List ℕ) (v : Values) → parsed b ≡ Ok v → (b ≡ message v) × Fits v
accepted_is_written b v e = by-rule (parsed b) (by_the_rule b) e
  where
    by-rule : (r : Result Values Unread) → Reads b r → r ≡ Ok v → (b ≡ message v) × Fits v
    by-rule r (accepted w f c) q = let is : w ≡ v = (cc) in rw (← is) (whole b w f c, f.fits)
    by-rule r (wrong_check w f c) q = cc
    by-rule r (not_of_form m) q = cc

-- ---- how much of the bytes decides

-- one byte more than a message has is enough to know that it is none
pub front_decides : (b : List ℕ) → parsed (take (size + 1) b) ≡ parsed b
front_decides b = by_length (either_of (ltb (size + 1) (length b)))
  where
    by_length : Either (ltb (size + 1) (length b)) → parsed (take (size + 1) b) ≡ parsed b
    by_length (is_true e) =
        let h : size + 1 < length b = ltb-true (size + 1) (length b) e in
        let long : length (take (size + 1) b) ≡ size + 1 = length-take-le (size + 1) b (omega arith) in
        sym (other_length (take (size + 1) b) (λ q. omega arith)) ∙ other_length b (λ q. omega arith)
    by_length (is_false e) = ap parsed (take_all (size + 1) b (ltb-false (size + 1) (length b) e))
