-- Texts and digits as bytes, and a text put at a place of lent bytes.
-- Assumes nothing.
use Rattle.std.specs.Prelude.{ℕ, zero, suc, ◌+◌, ◌-◌, ◌*◌, ◌/◌, ◌%◌, ◌≤◌, ◌≡◌, Bool, true, false, cond, ◌&&◌, List, [], ◌∷◌, ◌++◌, ltb, leb, eqb, length, get_or, take, drop}
use Prim.Native.Char.{code as byte}
use Prim.Native.String.{String, [] as empty, ◌∷◌ as ◌then◌}

-- the bytes of a text of plain characters, one byte each
abbrev pub bytes : String → List ℕ
bytes empty = []
bytes (c then s) = byte c ∷ bytes s

-- two texts are the same, byte by byte
unfoldable pub same_b : List ℕ → List ℕ → Bool
same_b [] [] = true
same_b [] (b ∷ bs) = false
same_b (a ∷ as₁) [] = false
same_b (a ∷ as₁) (b ∷ bs) = eqb a b && same_b as₁ bs

-- ---- digits

-- `0` to `9`, then `a` to `f`
unfoldable pub glyph : ℕ → ℕ
glyph d = cond (ltb d 10) (byte "0" + d) (byte "a" - 10 + d)

-- the last k digits of n in this base, in reading order, with leading zeros
unfoldable pub digits : ℕ → ℕ → ℕ → List ℕ
digits base zero n = []
digits base (suc k) n = digits base k (n / base) ++ (glyph (n % base) ∷ [])

-- the bases for which there are glyphs
unfoldable pub spellable : ℕ → Bool
spellable base = leb 2 base && leb base 16

-- the bytes that are lent become digits of n, all of them; in a base without glyphs they stay
unfoldable pub digits_over : List ℕ → ℕ → ℕ → List ℕ
digits_over old base n = cond (spellable base) (digits base (length old) n) old

-- ---- digits read

-- `0` to `9` are 0 to 9, `a` to `f` are 10 to 15, and any other byte is no digit: 16
unfoldable pub digit_of : ℕ → ℕ
digit_of b = cond (ltb b (byte "0")) 16 (cond (ltb b (byte "9" + 1)) (b - byte "0") (cond (ltb b (byte "a")) 16 (cond (ltb b (byte "f" + 1)) (b - (byte "a" - 10)) 16)))

-- the number that the first k digits of a text spell
unfoldable pub spelled : ℕ → List ℕ → ℕ → ℕ
spelled base w zero = 0
spelled base w (suc k) = base * spelled base w k + digit_of (get_or w k 0)

-- ---- a text put at a place

-- a text over the front of the bytes that are lent, as far as both go; what is past it stays
unfoldable pub text_over : List ℕ → List ℕ → List ℕ
text_over old text = take (length old) text ++ drop (length text) old

-- a text was put at a place: what stood before the place still does, the next place is right behind the text and at most n bytes on, what stands from there on is
-- as it was, and the length is the same
pub record Put (n : ℕ) (old new : List ℕ) (at next : ℕ) (text : List ℕ) : Type 0 where
  pub holds : take next new ≡ take at old ++ text
  pub least : at ≤ next
  pub ends : next ≡ at + length text
  pub most : next ≤ at + n
  pub past : drop next new ≡ drop next old
  pub room : length new ≡ length old
