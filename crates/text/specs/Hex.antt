-- A word of hexadecimal digits read as bytes. Document 02, Six; the line `parse HEX`.
-- Assumes nothing.
use Rattle.std.specs.Prelude.{ℕ, ◌+◌, ◌*◌, ◌%◌, Bool, cond, ◌&&◌, List, [], ◌∷◌, ltb, eqb, length}
use Rattle.ground.specs.Below.{all_below}
use Rattle.spelling.specs.Spelling.{digit_of}
use Rattle.reader.specs.Reader.{parsed}
use Rattle.commands.specs.declared.Entry.{Entry}
use Rattle.commands.specs.declared.Entry.TheVariants as entry
use Rattle.text.specs.Echoes.{by_number}
use Rattle.text.specs.Numbers.{digit_at}

-- "an even number of lower-case hexadecimal digits, at least two"
unfoldable pub is_hexed : List ℕ → Bool
is_hexed w = ltb 0 (length w) && (eqb (length w % 2) 0 && all_below (digit_at 16 w) (length w))

-- the bytes, two digits each
unfoldable pub unhexed : List ℕ → List ℕ
unhexed [] = []
unhexed (a ∷ []) = []
unhexed (a ∷ b ∷ w) = (16 * digit_of a + digit_of b) ∷ unhexed w

-- "answers `0 V1 V2 V3 V4 V5 V6`, or 17, or 18": what the reader says of these bytes. "It touches no device."
unfoldable pub parse_asked : List ℕ → Entry
parse_asked w = cond (is_hexed w) (entry.Parse (by_number (parsed (unhexed w)))) entry.Unknown
