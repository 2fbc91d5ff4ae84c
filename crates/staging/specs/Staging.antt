-- One session: what it has staged and read, what its commit would put in force, and the audit lines of that commit. Document 01, "Doors, sessions,
-- locks" and "Books".
-- Assumes nothing.
use Rattle.std.specs.Prelude.{ℕ, zero, suc, ◌+◌, ◌-◌, Bool, true, not, cond, ◌&&◌, ◌||◌, List, [], ◌∷◌, ◌++◌, get_or, set, replicate}
use Rattle.ground.specs.Below.{any_below}
use Rattle.settings.specs.declared.Value.{Value}
use Rattle.settings.specs.declared.Setting.{Setting}
use Rattle.settings.specs.Settings.{setting_count, no_setting, right_b}
use Rattle.ring.specs.declared.Book.{Book}
use Rattle.books.specs.declared.AuditLine.{AuditLine}
use Rattle.state.specs.declared.Locks.{Locks}
use Rattle.state.specs.declared.Cell.{Cell}
use Rattle.state.specs.declared.Session.{Session}
use Rattle.state.specs.State.{blank_cell}
use Rattle.notes.specs.Notes.{keep, numbered}

-- setting number `setting` of a session
unfoldable pub cell_at : Session → ℕ → Cell
cell_at x setting = get_or x.cells (setting - 1) blank_cell

unfoldable pub with_cell : Session → ℕ → Cell → Session
with_cell x setting c = record { live = x.live; cells = set x.cells (setting - 1) c }

-- ---- begin, read, write

-- a session as it begins: nothing staged, nothing read
unfoldable pub begun : Session
begun = record { live = true; cells = replicate setting_count blank_cell }

-- the session's own staged value if it has one, else the value in force; a are the settings in force
abbrev pub value_seen : Session → List Setting → ℕ → Value
value_seen x a setting = cond (cell_at x setting).staged (cell_at x setting).value (get_or a (setting - 1) no_setting).value

-- either way the setting then counts as read by this session
unfoldable pub marked_read : Cell → Cell
marked_read c = record { staged = c.staged; value = c.value; read = true; overtaken = c.overtaken }

-- a second write of the same setting replaces the first; what was read stays read
unfoldable pub staged_cell : Cell → Value → Cell
staged_cell c v = record { staged = true; value = v; read = c.read; overtaken = c.overtaken }

-- ---- commit

-- a lock is missing for a staged setting
unfoldable pub missing_at : Locks → List Cell → ℕ → Bool
missing_at l cells k = (get_or cells k blank_cell).staged && not (right_b k l.cal l.sup l.cust)

unfoldable pub lock_missing : Locks → List Cell → Bool
lock_missing l cells = any_below (missing_at l cells) setting_count

-- a setting counted as read was put in force through the other door after that
unfoldable pub overtaken_at : List Cell → ℕ → Bool
overtaken_at cells k = (get_or cells k blank_cell).overtaken

unfoldable pub stale_b : List Cell → Bool
stale_b cells = any_below (overtaken_at cells) setting_count

-- the settings as they would stand after the commit: a staged one at the value staged, any other as it is in force
unfoldable pub stands_at : Setting → Cell → Setting
stands_at x c = cond c.staged (record { value = c.value }) x

unfoldable pub as_stand : List Setting → List Cell → List Setting
as_stand [] cells = []
as_stand (x ∷ a) [] = x ∷ a
as_stand (x ∷ a) (c ∷ cells) = stands_at x c ∷ as_stand a cells

-- ---- its audit lines

-- a staged setting: its number, the value in force and the value staged
pub record Change : Type 0 where
  pub setting : ℕ
  pub old : Value
  pub new : Value

-- the staged settings among the first n, in order of setting number, also where old and new are equal
unfoldable pub changes_among : List Setting → List Cell → ℕ → List Change
changes_among a cells zero = []
changes_among a cells (suc k) =
    changes_among a cells k
    ++ keep (get_or cells k blank_cell).staged (record { setting = k + 1; old = (get_or a k no_setting).value; new = (get_or cells k blank_cell).value })

-- "Audit line: number, time, door, setting, old value, new value."
abbrev pub audit_line : ℕ → ℕ → ℕ → Change → AuditLine
audit_line time door number c = record { number = number; time = time; door = door; setting = c.setting; old = c.old; new = c.new }

-- one audit line each, numbered as the logbook's are
unfoldable pub audited : Book → ℕ → ℕ → List Change → List AuditLine
audited b time door cs = numbered (audit_line time door) b.number cs

-- ---- the other door's session

-- the other door's session is marked where it had read a setting that is now put in force
unfoldable pub marked_by : Cell → Cell → Cell
marked_by c d = record { staged = d.staged; value = d.value; read = d.read; overtaken = d.overtaken || (d.read && c.staged) }

unfoldable pub overtaken_by : List Cell → List Cell → List Cell
overtaken_by [] theirs = theirs
overtaken_by (c ∷ mine) [] = []
overtaken_by (c ∷ mine) (d ∷ theirs) = marked_by c d ∷ overtaken_by mine theirs

unfoldable pub overtaken_session : Session → Session → Session
overtaken_session mine theirs = record { live = theirs.live; cells = overtaken_by mine.cells theirs.cells }
