-- The readout read back. Document 02, Six: bytes of any number are read into six values in litres, or refused.
-- Assumes nothing.
use Rattle.std.specs.Prelude.{ℕ, ◌+◌, ◌*◌, ◌≡◌, Bool, cond, ◌&&◌, List, eqb, length, get_or, take, drop, Result, Ok, Err}
use Rattle.spelling.specs.Spelling.{same_b, spelled}
use Rattle.message.specs.declared.Values.{Values}
use Rattle.message.specs.Message.{message, check, size, Fits}
use Rattle.reader.specs.declared.Unread.{Unread}
use Rattle.reader.specs.declared.Unread.TheVariants.{NotAMessage, WrongCheck}

-- ---- the two refusals

-- the number that stands before each row of the card
abbrev pub number_of : Unread → ℕ
number_of NotAMessage = 17
number_of WrongCheck = 18

-- ---- the form

-- the check is the last byte of a message
abbrev pub check_at : ℕ
check_at = 155

-- "of this form (its last byte aside)", for these values: as many bytes as a message has, and all but the last are those that Five's rules write
pub record Form (b : List ℕ) (v : Values) : Type 0 where
  pub fits : Fits v
  pub long : length b ≡ size
  pub same : take check_at b ≡ take check_at (message v)

-- THE RULE: which answer is right. "17, not of this form (its last byte aside)": there are no six values of which it is the form. "18, form right and check character
-- wrong". "No values are returned" with either. Totals are not tested against their parts.
pub data Reads (b : List ℕ) : Result Values Unread → Type 0 where
  accepted : (v : Values) → Form b v → get_or b check_at 0 ≡ check v → Reads b (Ok v)
  wrong_check : (v : Values) → Form b v → (get_or b check_at 0 ≡ check v → ⊥) → Reads b (Err WrongCheck)
  not_of_form : ((v : Values) → Form b v → ⊥) → Reads b (Err NotAMessage)

-- ---- the six values

-- the number that the digits of a text spell, all of them
unfoldable pub decimal_in : List ℕ → ℕ
decimal_in w = spelled 10 w (length w)

-- what line k says, counted from 0. A line has 25 bytes; nine digits stand behind its address and bracket, and three behind the point
unfoldable pub litres_on : ℕ → List ℕ → ℕ
litres_on k b = 1000 * decimal_in (take 9 (drop (7 + 25 * k) b)) + decimal_in (take 3 (drop (17 + 25 * k) b))

-- "six values in litres", in the order of the lines
unfoldable pub values_on : List ℕ → Values
values_on b = record {
  vb = litres_on 0 b;
  vbd = litres_on 1 b;
  vbt = litres_on 2 b;
  vm = litres_on 3 b;
  vmd = litres_on 4 b;
  vmt = litres_on 5 b;
}

-- ---- what is answered, worked out. That this is the rule, and that the rule has no other answer, is proved in proofs/Laws.antt (`by_the_rule`, `only_answer`)

-- of the form of the values that the digits spell
unfoldable pub of_form : List ℕ → Bool
of_form b = eqb (length b) size && same_b (take check_at b) (take check_at (message (values_on b)))

-- "17 before 18"
unfoldable pub answer_by : Bool → Bool → Values → Result Values Unread
answer_by form right v = cond form (cond right (Ok v) (Err WrongCheck)) (Err NotAMessage)

unfoldable pub parsed : List ℕ → Result Values Unread
parsed b = answer_by (of_form b) (eqb (get_or b check_at 0) (check (values_on b))) (values_on b)

-- the number on the fault card: 0 where the message is accepted
abbrev pub parsed_number : Result Values Unread → ℕ
parsed_number (Ok v) = 0
parsed_number (Err e) = number_of e
