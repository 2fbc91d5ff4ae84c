-- A part that is lent in the middle of some bytes and comes back with a text, or with digits.
-- Assumes nothing.
use mathlib.Core.Path.{◌≡◌, refl, ◌∙◌}
use mathlib.Core.Bool.{true}
use mathlib.Core.List.{List, [], ◌∷◌, append-nil}
use Prim.Native.Nat.{ℕ, zero, suc, ◌+◌, ◌-◌, ◌/◌, ◌%◌, ◌≤◌}
use native.Mathlib.Numerals.{add-one}
use native.Mathlib.Omega.{arith}
use borrow.Rule.Slice.PartMut.{put_mid, mid_of, mid_len}
use lib.ListN.{length, length-append, drop_of_length-le}
use lib.Seq.{take_all}
use Rattle.spelling.specs.Spelling.{glyph, digits, spellable, digits_over, text_over, Put}
use Rattle.spelling.proofs.Puts.{part, looser}

pub length_digits : (base k n : ℕ) → length (digits base k n) ≡ k
unfolding digits
length_digits base zero n = refl
length_digits base (suc k) n = length-append (digits base k (n / base)) (glyph (n % base) ∷ []) ∙ rw (length_digits base k (n / base)) (add-one k)

-- a text over a part of its own length is that text
pub all_over : (old text : List ℕ) → length old ≡ length text → text_over old text ≡ text
unfolding text_over
all_over old text e = rw (take_all (length old) text (omega arith), drop_of_length-le old {i = length text} (omega arith), append-nil text)

module _ (l : List ℕ) (at : ℕ) where
  pub text_at : (text back : List ℕ) → at + length text ≤ length l → back ≡ text_over (mid_of at (at + length text - at) l) text
      → Put (length text) l (put_mid at (at + length text - at) l back) at (at + length text) text
  text_at text back h e =
      let next = at + length text in
      let long : length (mid_of at (next - at) l) ≡ length text = mid_len at next l h ∙ omega arith in
      rw (e ∙ all_over (mid_of at (next - at) l) text long) (looser (length text) (omega arith) (part l text at next (omega arith) h (omega arith)))

  pub digits_at : (base k n : ℕ) (back : List ℕ) → spellable base ≡ true → at + k ≤ length l → back ≡ digits_over (mid_of at (at + k - at) l) base n
      → Put k l (put_mid at (at + k - at) l back) at (at + k) (digits base k n)
  unfolding digits_over
  digits_at base k n back s h e =
      let next = at + k in
      let long : length (mid_of at (next - at) l) ≡ k = mid_len at next l h ∙ omega arith in
      let is : back ≡ digits base k n = e ∙ rw (s, long) in
      rw is (looser k (omega arith) (part l (digits base k n) at next (omega arith) h (length_digits base k n ∙ omega arith)))
