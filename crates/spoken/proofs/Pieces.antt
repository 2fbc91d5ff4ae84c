-- An input in two pieces: its lines are those of the first piece, then those of what is left of it together with the second. Of what is left, only so much need be kept
-- as decides its answer.
-- Assumes nothing.
use Prim.Native.Nat.{ℕ, zero, suc, ◌+◌}
use native.Mathlib.Omega.{arith}
use native.Mathlib.Nat.{le_refl}
use mathlib.Core.Path.{◌≡◌, refl, sym, ap, ◌∙◌}
use mathlib.Core.Bool.{Bool, true, false, cond}
use mathlib.Core.List.{List, [], ◌∷◌, ◌++◌}
use lib.Dec.{eqb}
use lib.ListN.{length, take, drop, take-append-drop}
use lib.Seq.{take_all}
use Rattle.text.specs.Words.{deciding}
use Rattle.text.proofs.Cut.{cut_continued}
use Rattle.lines.proofs.Kept.{ahead, ahead_none, ahead_more}
use Rattle.lines.specs.Lines.{line_feed, in_front, whole_lines, bytes_of}
use Rattle.spoken.specs.Spoken.{entries_of}

-- ---- two pieces

-- what is left behind the first k lines
abbrev pub behind : ℕ → List ℕ → List ℕ
behind k a = drop (bytes_of (take k (whole_lines a))) a

-- a byte more at the front, that is no line feed
byte_more : (x : ℕ) (k : ℕ) (a b : List ℕ) (ls : List (List ℕ)) → whole_lines (a ++ b) ≡ take (suc k) ls ++ whole_lines (drop (bytes_of (take (suc k) ls)) a ++ b)
    → cond (eqb x line_feed) ([] ∷ whole_lines (a ++ b)) (in_front x (whole_lines (a ++ b))) ≡ in_front x (whole_lines (a ++ b))
    → whole_lines (x ∷ (a ++ b)) ≡ take (suc k) (in_front x ls) ++ whole_lines (drop (bytes_of (take (suc k) (in_front x ls))) (x ∷ a) ++ b)
unfolding whole_lines in_front bytes_of
byte_more x k a b [] h e = refl
byte_more x k a b (l ∷ ls) h e =
    let n : ℕ = bytes_of (take k ls) in
    let m : suc (length l) + 1 + n ≡ suc (length l + 1 + n) = omega arith in
    e ∙ ap (in_front x) h
    ∙ ap (λ (j : ℕ). ((x ∷ l) ∷ take k ls) ++ whole_lines (drop j (x ∷ a) ++ b)) (sym m)

-- the lines of both are the first lines of the one, and those of what is left of it with the other
pub in_two : (k : ℕ) (a b : List ℕ) → whole_lines (a ++ b) ≡ take k (whole_lines a) ++ whole_lines (behind k a ++ b)
unfolding whole_lines bytes_of
in_two zero a b = refl
in_two (suc k) [] b = refl
in_two (suc k) (x ∷ a) b = by_test (eqb x line_feed) refl (in_two k a b) (in_two (suc k) a b)
  where
    by_test : (t : Bool) → eqb x line_feed ≡ t
        → whole_lines (a ++ b) ≡ take k (whole_lines a) ++ whole_lines (behind k a ++ b)
        → whole_lines (a ++ b) ≡ take (suc k) (whole_lines a) ++ whole_lines (behind (suc k) a ++ b)
        → whole_lines (x ∷ (a ++ b)) ≡ take (suc k) (cond t ([] ∷ whole_lines a) (in_front x (whole_lines a)))
        ++ whole_lines (drop (bytes_of (take (suc k) (cond t ([] ∷ whole_lines a) (in_front x (whole_lines a))))) (x ∷ a) ++ b)
    by_test true e fewer known =
        let n : ℕ = bytes_of (take k (whole_lines a)) in
        let m : 0 + 1 + n ≡ suc n = omega arith in
        rw e (ap (λ (l : List (List ℕ)). [] ∷ l) fewer ∙ ap (λ (j : ℕ). ([] ∷ take k (whole_lines a)) ++ whole_lines (drop j (x ∷ a) ++ b)) (sym m))
    by_test false e fewer known = byte_more x k a b (whole_lines a) known (rw e)

-- ---- a piece with no line feed

none_of : {A : Type 0} (l m : List A) → l ++ m ≡ [] → l ≡ []
none_of [] m e = refl
none_of (x ∷ l) m e = absurd (omega (arith, ap length e))

-- the beginning of a piece without a whole line has none either
pub cut_unfinished : (n : ℕ) (a : List ℕ) → whole_lines a ≡ [] → whole_lines (take n a) ≡ []
cut_unfinished n a h =
    let w : List (List ℕ) = whole_lines (take n a) in
    let e = in_two (length w) (take n a) (drop n a) in
    let all : take (length w) w ≡ w = take_all (length w) w (le_refl (length w)) in
    none_of w (whole_lines (behind (length w) (take n a) ++ drop n a))
    (ap (λ (l : List (List ℕ)). l ++ whole_lines (behind (length w) (take n a) ++ drop n a)) (sym all) ∙ sym e ∙ ap whole_lines (take-append-drop n a) ∙ h)

-- where a byte more makes no whole line, it is no line feed, and there was none before
not_passed : (x : ℕ) (ls : List (List ℕ)) (t : Bool) → cond t ([] ∷ ls) (in_front x ls) ≡ [] → (t ≡ false) × (ls ≡ [])
unfolding in_front
not_passed x ls true e = absurd (omega (arith, ap length e))
not_passed x [] false e = (refl, refl)
not_passed x (l ∷ ls) false e = absurd (omega (arith, ap length e))

lines_ahead : (a b : List ℕ) → whole_lines a ≡ [] → whole_lines (a ++ b) ≡ ahead a (whole_lines b)
unfolding whole_lines
lines_ahead [] b h = ahead_none (whole_lines b)
lines_ahead (x ∷ a) b h =
    let q = not_passed x (whole_lines a) (eqb x line_feed) h in
    rw q.0 (ap (in_front x) (lines_ahead a b q.1) ∙ ahead_more x a (whole_lines b))

-- as many whole lines as the second piece has
pub many_ahead : (a b : List ℕ) → whole_lines a ≡ [] → length (whole_lines (a ++ b)) ≡ length (whole_lines b)
unfolding ahead
many_ahead a b h = ap length (lines_ahead a b h) ∙ same (whole_lines b)
  where
    same : (ls : List (List ℕ)) → length (ahead a ls) ≡ length ls
    same [] = refl
    same (l ∷ ls) = refl

cut_entries : (a : List ℕ) (ls : List (List ℕ)) → entries_of (ahead (take deciding a) ls) ≡ entries_of (ahead a ls)
unfolding entries_of ahead
cut_entries a [] = refl
cut_entries a (l ∷ ls) = rw (cut_continued a l)

-- AN UNFINISHED LINE MAY BE KEPT CUT to 201 bytes: with whatever comes behind it, the entries are those of the lines as they would be whole
pub cut_lines_answered : (a b : List ℕ) → whole_lines a ≡ [] → entries_of (whole_lines (take deciding a ++ b)) ≡ entries_of (whole_lines (a ++ b))
cut_lines_answered a b h =
    ap entries_of (lines_ahead (take deciding a) b (cut_unfinished deciding a h)) ∙ cut_entries a (whole_lines b) ∙ ap entries_of (sym (lines_ahead a b h))
