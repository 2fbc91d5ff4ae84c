-- Of an unfinished line at most 501 bytes are kept, one more than a command may have, so that memory does not grow. These laws say that nothing is lost: the kept
-- part gets the answer of the whole line, also after the rest of the line has come.
-- Assumes nothing.
use Prim.Native.Nat.{ℕ, suc, ◌<◌}
use native.Mathlib.Nat.{not-suc-le-zero}
use native.Mathlib.Omega.{arith}
use mathlib.Core.Path.{◌≡◌, refl, sym, ap, ◌∙◌}
use mathlib.Core.Bool.{Bool, true, false}
use mathlib.Core.List.{List, [], ◌∷◌, ◌++◌, append-nil}
use lib.Dec.{ltb}
use lib.ListN.{length, get_or, take, length-append}
use lib.Seq.{take_all, length-take-le}
use borrow.Author.Tests.{ltb-true, ltb-false, lt-ltb, ne_eqb}
use Rattle.text.specs.Words.{deciding}
use Rattle.text.specs.Entries.{longest, is_quiet, entry_of}

-- of a line that is too long only the first byte matters: with `#` it gets no answer, else `?`
by_first : (l m : List ℕ) → longest < length l → longest < length m → get_or l 0 0 ≡ get_or m 0 0 → entry_of l ≡ entry_of m
unfolding entry_of is_quiet
by_first l m h k e =
    let some : length l ≡ 0 → ⊥ = λ z. omega arith in
    let more : length m ≡ 0 → ⊥ = λ z. omega arith in
    rw (ne_eqb (length l) 0 some, lt-ltb longest (length l) h, ne_eqb (length m) 0 more, lt-ltb longest (length m) k, e)

first_kept : (n : ℕ) (a b : List ℕ) → 0 < length a → get_or (take (suc n) a ++ b) 0 0 ≡ get_or (a ++ b) 0 0
first_kept n [] b h = absurd (not-suc-le-zero h)
first_kept n (x ∷ a) b h = refl

-- The beginning of a line, cut and continued later, gets the answer of the whole line, whatever the rest is.
pub cut_continued : (a b : List ℕ) → entry_of (take deciding a ++ b) ≡ entry_of (a ++ b)
cut_continued a b = by_test (ltb deciding (length a)) refl
  where
    by_test : (t : Bool) → ltb deciding (length a) ≡ t → entry_of (take deciding a ++ b) ≡ entry_of (a ++ b)
    by_test true e =
        let h : deciding < length a = ltb-true deciding (length a) e in
        let size : length (take deciding a) ≡ deciding = length-take-le deciding a (omega arith) in
        by_first (take deciding a ++ b) (a ++ b) (omega (arith, length-append (take deciding a) b)) (omega (arith, length-append a b)) (first_kept longest a b (omega arith))
    by_test false e = ap (λ (l : List ℕ). entry_of (l ++ b)) (take_all deciding a (ltb-false deciding (length a) e))

-- A line cut to its first 501 bytes gets the answer of the whole line.
pub cut_decides : (line : List ℕ) → entry_of (take deciding line) ≡ entry_of line
cut_decides line = ap entry_of (sym (append-nil (take deciding line))) ∙ cut_continued line [] ∙ ap entry_of (append-nil line)
