-- What the bench does between a read and a write: it answers the lines that are there and keeps an unfinished one, and nothing else. No contract can say which bytes
-- a read gives, or what becomes of those that are written.
-- Assumes nothing.
use Rattle.std.specs.Prelude.{ℕ, ◌+◌, ◌-◌, ◌≤◌, ◌≡◌, Bool, true, false, Result, Ok, List, [], ◌∷◌, ◌++◌, ltb, length, take, drop}
use Rattle.std.specs.Result.{result_unwrap_or}
use Rattle.text.specs.Words.{kept_part}
use Rattle.desk.specs.declared.Desk.{Desk}
use Rattle.lines.specs.Lines.{line_feed, answers_of, answer_text}
use Rattle.bench.specs.declared.window.Failure.{Failure}
use Rattle.bench.specs.declared.window.Window.{Window}

-- A read leaves the bytes that are there as they are, keeps the length of the buffer, and gives no more than there is room for behind them. If it failed, it gave none.
pub record ReadBehind {E : Type 0} (old new : Window) (r : Result ℕ E) : Type 0 where
  pub front : take old.have new.bytes ≡ take old.have old.bytes
  pub room : length new.bytes ≡ length old.bytes
  pub most : old.have + result_unwrap_or r 0 ≤ length new.bytes
  pub start : new.from ≡ old.from
  pub have : new.have ≡ old.have + result_unwrap_or r 0
  pub more : new.more ≡ old.more

-- the bytes still to be answered lie within the input
pub record Within (w : Window) : Type 0 where
  pub least : w.from ≤ w.have
  pub most : w.have ≤ length w.bytes

-- the unfinished line, cut to as much as decides its answer
abbrev pub kept : Window → List ℕ
kept w = kept_part w.bytes w.from w.have

-- it stands at the front; behind it what a read gave or, if the input has ended, a line feed
pub record Refilled (old new : Window) (r : Result Bool Failure) : Type 0 where
  pub front : take (length (kept old)) new.bytes ≡ kept old
  pub start : new.from ≡ 0
  pub least : length (kept old) ≤ new.have
  pub most : new.have ≤ length new.bytes
  pub ended : r ≡ Ok true → new.more ≡ false → take new.have new.bytes ≡ kept old ++ (line_feed ∷ [])

-- the bytes that are there
abbrev pub part : List ℕ → ℕ → ℕ → List ℕ
part input from to = take (to - from) (drop from input)

-- if lines were answered, the bytes behind them come next and the input is as it was; if there was none, more was read
unfoldable pub Next : Bool → Window → Window → ℕ → Result Bool Failure → Type 0
Next true old new at r = (new.bytes ≡ old.bytes) × (new.from ≡ old.from + at) × (new.have ≡ old.have) × (new.more ≡ old.more)
Next false old new at r = (old.more ≡ true) × Refilled old new r

-- what is answered next
abbrev pub there : Window → List ℕ
there w = part w.bytes w.from w.have

-- a step: the desk and the text are those of the lines that are there; and, if the bench goes on, what is next
pub record Stepped (d after : Desk) (old new : Window) (out said : List ℕ) (r : Result Bool Failure) : Type 0 where
  pub desk : after ≡ (answers_of d (there old) out).desk
  pub text : said ≡ answer_text d (there old) out ++ drop (answers_of d (there old) out).used out
  pub within : Within new
  pub next : r ≡ Ok true → Next (ltb 0 (answers_of d (there old) out).at) old new (answers_of d (there old) out).at r
