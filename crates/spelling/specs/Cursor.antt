-- A place in bytes that are lent, and what was put there.
-- Assumes nothing.
use Rattle.std.specs.Prelude.{ℕ, ◌+◌, ◌≤◌, ◌≡◌, List, length}
use Rattle.spelling.specs.declared.cursor.Cursor.{Cursor}
use Rattle.spelling.specs.Spelling.{Put}

-- there is room for n bytes
abbrev pub HasRoom : ℕ → Cursor → Type 0
HasRoom n c = c.at + n ≤ length c.out.now

-- a text of at most n bytes was put at the place of a cursor. It stays a cursor of the same bytes
pub record Appends (n : ℕ) (old new : Cursor) (text : List ℕ) : Type 0 where
  pub same : new.out.ghost_name ≡ old.out.ghost_name
  pub put : Put n old.out.now new.out.now old.at new.at text
