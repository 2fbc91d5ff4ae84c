-- Hexadecimal digits read as bytes, two at a time, and the bytes handed to the reader.
-- Assumes nothing.
use Prim.Native.Nat.{ℕ, zero, suc, ◌+◌, ◌-◌, ◌*◌, ◌/◌, ◌%◌, ◌≤◌, ◌<◌, suc-le-suc}
use native.Mathlib.Nat.{mod-lt}
use native.Mathlib.Numerals.{add-one}
use native.Mathlib.Omega.{arith}
use mathlib.Core.Path.{◌≡◌, refl, sym, ap, ◌∙◌}
use mathlib.Core.Bool.{true, ◌&&◌}
use mathlib.Core.List.{List, [], ◌∷◌, ◌++◌, append_assoc, append-nil}
use borrow.Author.Tests.{ltb-true, ne_eqb, lt-ltb, le-ltb}
use lib.Dec.{ltb, eqb}
use lib.ListN.{length, get_or, take, drop, set, length-drop, take-append-drop, length-append}
use Rattle.std.specs.Simd.{first_chunks}
use Rattle.std.proofs.lemmas.List.{get_or-take, get_or-drop}
use lib.Seq.{take_all, drop-cons, take-suc-set, take_at}
use Rattle.ground.specs.Below.{all_below}
use Rattle.ground.proofs.Every.{all_each}
use Rattle.ground.proofs.Flags.{and_right}
use Rattle.spelling.specs.Spelling.{bytes, same_b, glyph, digits, digit_of}
use Rattle.spelling.proofs.Spells.{digit_back}
use Rattle.std.specs.Prelude.{Err}
use Rattle.reader.specs.declared.Unread.TheVariants.{NotAMessage}
use Rattle.commands.specs.declared.Entry.TheVariants as entry
use Rattle.reader.specs.Reader.{parsed}
use Rattle.reader.proofs.Compared as reader
use Rattle.text.specs.Numbers.{digit_at}
use Rattle.text.specs.Echoes.{hexed, by_number}
use Rattle.text.specs.Words.{space, first_of, after_word, place, word_between, word, no_word}
use Rattle.text.specs.Hex.{is_hexed, unhexed, parse_asked}
use Rattle.text.specs.Entries.{longest, is_quiet, word_or, entry_in, entry_of}

-- ---- digits

pub each_digit : (w : List ℕ) (k : ℕ) → all_below (digit_at 16 w) (length w) ≡ true → k < length w → digit_of (get_or w k 0) < 16
unfolding digit_at
each_digit w k t h = ltb-true (digit_of (get_or w k 0)) 16 (all_each (digit_at 16 w) (length w) t k h)

pub hexed_digits : (w : List ℕ) → is_hexed w ≡ true → all_below (digit_at 16 w) (length w) ≡ true
unfolding is_hexed
hexed_digits w e =
    let all = all_below (digit_at 16 w) (length w) in
    let even = eqb (length w % 2) 0 in
    and_right even all (and_right (ltb 0 (length w)) (even && all) e)

-- ---- bytes

unhexed_more : (w : List ℕ) (i : ℕ) → 2 * i + 1 < length w
    → unhexed (drop (2 * i) w) ≡ (16 * digit_of (get_or w (2 * i) 0) + digit_of (get_or w (2 * i + 1) 0)) ∷ unhexed (drop (2 * (i + 1)) w)
unfolding unhexed
unhexed_more w i h =
    let next : suc (2 * i) ≡ 2 * i + 1 = omega arith in
    let last : suc (2 * i + 1) ≡ 2 * (i + 1) = omega arith in
    let both : drop (2 * i) w ≡ get_or w (2 * i) 0 ∷ get_or w (2 * i + 1) 0 ∷ drop (2 * (i + 1)) w =
    drop-cons w (2 * i) 0 (omega arith) ∙ ap (λ (l : List ℕ). get_or w (2 * i) 0 ∷ l) (rw next (drop-cons w (2 * i + 1) 0 h ∙ ap (λ (k : ℕ). get_or w (2 * i + 1) 0 ∷ drop k w) last)) in
    ap unhexed both

unhexed_short : (l : List ℕ) → length l < 2 → unhexed l ≡ []
unfolding unhexed
unhexed_short [] h = refl
unhexed_short (a ∷ []) h = refl
unhexed_short (a ∷ b ∷ l) h = absurd (omega arith)

pub length_unhexed : (w : List ℕ) → length (unhexed w) ≡ length w / 2
unfolding unhexed
length_unhexed [] = refl
length_unhexed (a ∷ []) = refl
length_unhexed (a ∷ b ∷ w) = omega (arith, length_unhexed w)

-- the pairs of digits, each as an array
pub pair_at : (n i j : ℕ) (w : List ℕ) → i < n → j < 2 → get_or (get_or (first_chunks 2 n w) i []) j 0 ≡ get_or w (2 * i + j) 0
pair_at zero i j w h k = absurd (omega arith)
pair_at (suc n) zero j w h k = let e : 2 * 0 + j ≡ j = omega arith in rw e (get_or-take 2 w j 0 k)
pair_at (suc n) (suc i) j w h k =
    let e : 2 + (2 * i + j) ≡ 2 * suc i + j = omega arith in
    pair_at n i j (drop 2 w) (omega arith) k ∙ get_or-drop 2 w (2 * i + j) 0 ∙ ap (λ (m : ℕ). get_or w m 0) e

module _ (w : List ℕ) (n i : ℕ) (p : List (List ℕ)) (e : p ≡ first_chunks 2 n w) (h : i < n) where
  pub first_of_pair : get_or (get_or p i []) 0 0 ≡ get_or w (2 * i) 0
  first_of_pair = let z : 2 * i + 0 ≡ 2 * i = omega arith in rw e (pair_at n i 0 w h (omega arith) ∙ ap (λ (m : ℕ). get_or w m 0) z)

  pub second_of_pair : get_or (get_or p i []) 1 0 ≡ get_or w (2 * i + 1) 0
  second_of_pair = rw e (pair_at n i 1 w h (omega arith))

-- none is put yet
pub none_put : (w out : List ℕ) → unhexed w ≡ take 0 out ++ unhexed (drop (2 * 0) w)
none_put w out = refl

-- one byte more is put
pub byte_put : (w out : List ℕ) (i x : ℕ) → i < length out → 2 * i + 1 < length w → x ≡ 16 * digit_of (get_or w (2 * i) 0) + digit_of (get_or w (2 * i + 1) 0)
    → unhexed w ≡ take i out ++ unhexed (drop (2 * i) w) → unhexed w ≡ take (i + 1) (set out i x) ++ unhexed (drop (2 * (i + 1)) w)
byte_put w out i x h k b e =
    let rest = unhexed (drop (2 * (i + 1)) w) in
    let front : take (i + 1) (set out i x) ≡ take i out ++ (x ∷ []) = rw (add-one i) (take-suc-set out i x h) in
    e ∙ ap (λ (l : List ℕ). take i out ++ l) (unhexed_more w i k ∙ ap (λ (y : ℕ). y ∷ rest) (sym b)) ∙ sym (append_assoc (take i out) (x ∷ []) rest) ∙ ap (λ (l : List ℕ). l ++ rest) (sym front)

pub all_put : (w out old : List ℕ) (n : ℕ) → n ≡ length w / 2 → unhexed w ≡ take n out ++ unhexed (drop (2 * n) w) → drop n out ≡ drop n old → out ≡ unhexed w ++ drop n old
all_put w out old n h e d =
    let none : unhexed (drop (2 * n) w) ≡ [] = unhexed_short (drop (2 * n) w) (omega (arith, length-drop (2 * n) w)) in
    sym (take-append-drop n out) ∙ rw (d, e, none, append-nil (take n out))

-- ---- the reader

pub too_many : (w : List ℕ) → longest / 2 < length w / 2 → Err NotAMessage ≡ parsed (unhexed w)
too_many w h = reader.other_length (unhexed w) (λ e. omega (arith, length_unhexed w))

-- what stands at the front of the buffer
pub at_front : (w rest new : List ℕ) → new ≡ unhexed w ++ rest → take (length w / 2 - 0) (drop 0 new) ≡ unhexed w
at_front w rest new e =
    let n : length w / 2 - 0 ≡ length w / 2 = omega arith in
    rw (n, e) (take_at (unhexed w) rest (length w / 2) (length_unhexed w))

-- ---- there and back

-- THE DIGITS OF BYTES ARE READ AS THESE BYTES
pub hexed_back : (l : List ℕ) → ((i : ℕ) → i < length l → get_or l i 0 < 256) → unhexed (hexed l) ≡ l
unfolding unhexed hexed digits
hexed_back [] h = refl
hexed_back (b ∷ l) h =
    let small : b < 256 = h 0 (omega arith) in
    let sixteen : 0 < 16 = omega arith in
    let first : digit_of (glyph (b / 16 % 16)) ≡ b / 16 % 16 = digit_back (b / 16 % 16) (mod-lt (b / 16) sixteen) in
    let second : digit_of (glyph (b % 16)) ≡ b % 16 = digit_back (b % 16) (mod-lt b sixteen) in
    let whole : 16 * (b / 16 % 16) + b % 16 ≡ b = omega arith in
    rw (first, second, whole, hexed_back l (λ i k. h (suc i) (suc-le-suc k)))

-- ---- the line

no_space : (w : List ℕ) → ((k : ℕ) → k < length w → digit_of (get_or w k 0) < 16) → first_of space w ≡ length w
unfolding first_of digit_of
no_space [] h = refl
no_space (x ∷ w) h =
    let other : x ≡ 32 → ⊥ = λ e. omega (arith, rw e at (h 0 (omega arith))) in
    rw (ne_eqb x 32 other) (ap suc (no_space w (λ k l. h (suc k) (suc-le-suc l))))

module _ (w : List ℕ) (t : is_hexed w ≡ true) (few : length w ≤ 494) where
  abbrev typed : List ℕ
  typed = bytes "parse " ++ w

  long : length typed ≡ 6 + length w
  long = length-append (bytes "parse ") w

  first : place typed 0 ≡ 0
  unfolding place
  first = refl

  second : place typed 1 ≡ 6
  unfolding place after_word first_of
  second = rw (le-ltb (length typed) 0 (omega arith))

  third : place typed 2 ≡ 6 + length w + 1
  unfolding place after_word first_of
  third =
      let none = no_space w (λ k h. each_digit w k (hexed_digits w t) h) in
      rw (le-ltb (length typed) 0 (omega arith), le-ltb (length typed) 6 (omega (arith, long)), none)

  -- THE LINE `parse HEX` is answered by what the reader says of the bytes that its digits spell, a refusal by its number
  pub parse_line : entry_of typed ≡ entry.Parse (by_number (parsed (unhexed w)))
  unfolding entry_of is_quiet entry_in word_or parse_asked same_b word word_between no_word
  parse_line =
      let some : length typed ≡ 0 → ⊥ = λ e. omega (arith, long) in
      let all : take (6 + length w + 1 - 1 - 6) w ≡ w = take_all (6 + length w + 1 - 1 - 6) w (omega arith) in
      rw (ne_eqb (length typed) 0 some, le-ltb longest (length typed) (omega (arith, long)), first, second, third, le-ltb (length typed) 6 (omega (arith, long)), lt-ltb (length typed) (6 + length w + 1) (omega (arith, long)), all, t)
