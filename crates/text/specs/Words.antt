-- A line and its words. Words are separated by single spaces, so a double space, or one at either end, makes an empty word.
-- Assumes nothing.
use Rattle.std.specs.Prelude.{ℕ, zero, suc, ◌+◌, ◌-◌, ◌≤◌, ◌≡◌, Bool, cond, List, [], ◌∷◌, ltb, eqb, length, take, drop}
use Prim.Native.Char.{code as byte}

abbrev pub space : ℕ
space = byte " "

-- how many bytes come before the first b; all of them if there is no b
unfoldable pub first_of : ℕ → List ℕ → ℕ
first_of b [] = 0
first_of b (x ∷ l) = cond (eqb x b) 0 (suc (first_of b l))

-- where the next word begins: after the word at this place and its space. Past the end of the line the place stays as it is
unfoldable pub after_word : List ℕ → ℕ → ℕ
after_word line at = cond (ltb (length line) at) at (at + first_of space (drop at line) + 1)

-- where word k begins, counted from 0
unfoldable pub place : List ℕ → ℕ → ℕ
place line zero = 0
place line (suc k) = after_word line (place line k)

-- the bytes from one place up to the space before the next place
unfoldable pub word_between : List ℕ → ℕ → ℕ → List ℕ
word_between line at next = take (next - 1 - at) (drop at line)

-- word k, counted from 0; empty if there is none
unfoldable pub word : List ℕ → ℕ → List ℕ
word line k = word_between line (place line k) (place line (suc k))

-- the line ends before word k
unfoldable pub no_word : List ℕ → ℕ → Bool
no_word line k = ltb (length line) (place line k)

-- ---- an unfinished line, kept until more of it is read

-- how many bytes of it decide its answer: one more than a command may have (proved in proofs/Cut.antt)
abbrev pub deciding : ℕ
deciding = 501

unfoldable pub kept_of : ℕ → ℕ
kept_of n = cond (ltb n deciding) n deciding

-- the bytes from one place up to another, but at most so many; none if the input ends before
unfoldable pub kept_part : List ℕ → ℕ → ℕ → List ℕ
kept_part input from to = cond (ltb (length input) to) [] (take deciding (take (to - from) (drop from input)))

-- those bytes now stand at the front
pub record Kept (old new : List ℕ) (from to n : ℕ) : Type 0 where
  pub front : take n new ≡ kept_part old from to
  pub most : n ≤ length new
  pub few : n ≤ deciding
