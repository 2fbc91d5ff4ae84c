-- Of an unfinished line at the end of an input only so much is kept as decides its answer, and the input goes on behind it. What is served and said is as if all
-- of the line had been kept.
-- Assumes nothing.
use native.Mathlib.Nat.{le_antisymm}
use borrow.Author.Tests.{ltb-true, ltb-false}
use Prim.Native.Nat.{ℕ, zero, suc}
use native.Mathlib.Omega.{arith}
use mathlib.Core.Path.{◌≡◌, refl, ap, ◌∙◌}
use mathlib.Core.Bool.{Bool, true, false, cond}
use mathlib.Core.List.{List, [], ◌∷◌, ◌++◌}
use lib.Dec.{eqb, ltb}
use lib.ListN.{length, take}
use Rattle.text.specs.Words.{first_of, deciding}
use Rattle.text.specs.Entries.{entry_of}
use Rattle.text.proofs.Bytes.{within}
use Rattle.text.proofs.Cut.{cut_continued}
use Rattle.desk.specs.declared.Desk.{Desk}
use Rattle.desk.specs.Desk.{block, served}
use Rattle.lines.proofs.Cuts.{cut_first}
use Rattle.lines.specs.Lines.{line_feed, in_front, whole_lines, bytes_of, in_block, inputs_of, inputs_in, served_lines, said_lines}

-- bytes put before the first of these lines; if there is no line they are in no whole line
unfoldable pub ahead : List ℕ → List (List ℕ) → List (List ℕ)
ahead a [] = []
ahead a (line ∷ lines) = (a ++ line) ∷ lines

pub ahead_none : (ls : List (List ℕ)) → ls ≡ ahead [] ls
unfolding ahead
ahead_none [] = refl
ahead_none (l ∷ ls) = refl

pub ahead_more : (x : ℕ) (a : List ℕ) (ls : List (List ℕ)) → in_front x (ahead a ls) ≡ ahead (x ∷ a) ls
unfolding ahead in_front
ahead_more x a [] = refl
ahead_more x a (l ∷ ls) = refl

-- a line feed at the front is passed at once
not_passed : (t : Bool) (f n : ℕ) → cond t 0 (suc f) ≡ suc n → (t ≡ false) × (f ≡ n)
not_passed true f n e = absurd (omega arith)
not_passed false f n e = (refl, omega arith)

-- bytes without a line feed stand in front of the first line
lines_ahead : (a b : List ℕ) → first_of line_feed a ≡ length a → whole_lines (a ++ b) ≡ ahead a (whole_lines b)
unfolding first_of whole_lines
lines_ahead [] b h = ahead_none (whole_lines b)
lines_ahead (x ∷ a) b h =
    let q = not_passed (eqb x line_feed) (first_of line_feed a) (length a) h in
    rw q.0 (ap (in_front x) (lines_ahead a b q.1) ∙ ahead_more x a (whole_lines b))

-- what was cut has none either
cut_unfinished : (n : ℕ) (a : List ℕ) → first_of line_feed a ≡ length a → first_of line_feed (take n a) ≡ length (take n a)
unfolding first_of
cut_unfinished zero a h = refl
cut_unfinished (suc n) [] h = refl
cut_unfinished (suc n) (x ∷ a) h =
    let q = not_passed (eqb x line_feed) (first_of line_feed a) (length a) h in
    rw q.0 (ap suc (cut_unfinished n a q.1))

same_served : (d : Desk) (a c : List ℕ) (ls : List (List ℕ)) → ((l : List ℕ) → entry_of (a ++ l) ≡ entry_of (c ++ l))
    → served d (inputs_of (take block (ahead a ls))).inputs (inputs_of (take block (ahead a ls))).count
    ≡ served d (inputs_of (take block (ahead c ls))).inputs (inputs_of (take block (ahead c ls))).count
unfolding ahead inputs_of in_block
same_served d a c [] h = refl
same_served d a c (l ∷ ls) h = rw (h l)

same_count : (a c : List ℕ) (ls : List (List ℕ)) → (inputs_of (take block (ahead a ls))).count ≡ (inputs_of (take block (ahead c ls))).count
unfolding ahead inputs_of
same_count a c [] = refl
same_count a c (l ∷ ls) = refl

-- The beginning of a line, kept cut: the desk after the lines is the same, and so is what it says to each of them.
pub cut_served : (d : Desk) (a b : List ℕ) → first_of line_feed a ≡ length a → served_lines d (take deciding a ++ b) ≡ served_lines d (a ++ b)
unfolding served_lines inputs_in
cut_served d a b h =
    rw (lines_ahead (take deciding a) b (cut_unfinished deciding a h), lines_ahead a b h) (same_served d (take deciding a) a (whole_lines b) (cut_continued a))

cut_count : (a b : List ℕ) → first_of line_feed a ≡ length a → (inputs_in (take deciding a ++ b)).count ≡ (inputs_in (a ++ b)).count
unfolding inputs_in
cut_count a b h = rw (lines_ahead (take deciding a) b (cut_unfinished deciding a h), lines_ahead a b h) (same_count (take deciding a) a (whole_lines b))

-- And so is the text, byte for byte.
pub cut_said : (d : Desk) (a b : List ℕ) → first_of line_feed a ≡ length a → said_lines d (take deciding a ++ b) ≡ said_lines d (a ++ b)
unfolding said_lines
cut_said d a b h = rw (cut_served d a b h, cut_count a b h)

-- ---- where an input has no whole line

-- it has no line feed
pub unfinished : (l : List ℕ) → whole_lines l ≡ [] → first_of line_feed l ≡ length l
unfinished l e = by_test (ltb (first_of line_feed l) (length l)) refl
  where
    by_test : (t : Bool) → ltb (first_of line_feed l) (length l) ≡ t → first_of line_feed l ≡ length l
    by_test true q =
        let some = cut_first l (ltb-true (first_of line_feed l) (length l) q) in
        let never : ◌≡◌ {A = ℕ} 0 1 = cc in
        absurd (omega arith)
    by_test false q = le_antisymm (within line_feed l) (ltb-false (first_of line_feed l) (length l) q)

-- which is where no byte of it is taken
pub none_whole : (input : List ℕ) → (inputs_in input).at ≡ 0 → whole_lines input ≡ []
unfolding inputs_in inputs_of bytes_of
none_whole input e = by_lines (whole_lines input) e
  where
    by_lines : (ls : List (List ℕ)) → bytes_of (take block ls) ≡ 0 → ls ≡ []
    by_lines [] q = refl
    by_lines (l ∷ ls) q = absurd (omega arith)
