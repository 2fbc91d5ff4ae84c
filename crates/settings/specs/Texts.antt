-- A text of the printed table by its bytes in UTF-8.
-- Assumes nothing.
use Rattle.std.specs.Prelude.{ℕ, ◌+◌, ◌/◌, ◌%◌, cond, List, [], ◌∷◌, ◌++◌, ltb}
use Prim.Native.Char.{code}
use Prim.Native.String.{String, [] as empty, ◌∷◌ as ◌then◌}

-- a character below 128 is one byte, one below 2,048 is two; the table has no other
abbrev pub utf8 : ℕ → List ℕ
utf8 c = cond (ltb c 128) (c ∷ []) ((192 + c / 64) ∷ (128 + c % 64) ∷ [])

abbrev pub bytes_of : String → List ℕ
bytes_of empty = []
bytes_of (c then s) = utf8 (code c) ++ bytes_of s
