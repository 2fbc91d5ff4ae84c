-- How the loop goes through an input: it cuts at the first line feed, and goes on with the rest.
-- Assumes nothing.
use Prim.Native.Nat.{ℕ, zero, suc, ◌+◌, ◌-◌, ◌≤◌, ◌<◌, zero-le}
use native.Mathlib.Nat.{le_trans, not-suc-le-zero, le_of_suc-le-suc}
use native.Mathlib.Omega.{arith}
use mathlib.Core.Path.{◌≡◌, refl, sym, ap, ◌∙◌}
use mathlib.Core.Bool.{Bool, true, false, cond}
use Rattle.std.specs.Prelude.{Option, Some, None}
use Rattle.std.specs.List.{position_or_len}
use Rattle.std.proofs.lemmas.List.Recursion.{is_position_or_len}
use mathlib.Core.List.{List, [], ◌∷◌, ◌++◌, map, map-append, append_assoc}
use lib.Dec.{eqb, ltb}
use borrow.Author.Tests.{ltb-true, ltb-false}
use lib.ListN.{length, take, drop, set, replicate, length-append, length-map, length-drop, length-take, drop_of_length-le}
use lib.Seq.{take-add, drop-drop, take_all, set_at, length-take-le}
use Rattle.text.specs.Words.{first_of}
use Rattle.commands.specs.declared.Entry.{Entry}
use Rattle.text.specs.Entries.{entry_of}
use Rattle.desk.specs.Desk.{block, no_input}
use Rattle.lines.specs.declared.Inputs.{Inputs}
use Rattle.lines.specs.Lines.{line_feed, line_end, in_front, whole_lines, bytes_of, in_block, inputs_of, inputs_in}

-- ---- the first line feed

-- the bytes before it are the first line, and the lines after it are the others
pub cut_first : (l : List ℕ) → first_of line_feed l < length l
    → whole_lines l ≡ take (first_of line_feed l) l ∷ whole_lines (drop (suc (first_of line_feed l)) l)
unfolding first_of whole_lines in_front
cut_first [] h = absurd (not-suc-le-zero h)
cut_first (b ∷ l) h = by_test (eqb b line_feed) (first_of line_feed l) h (cut_first l)
  where
    by_test : (t : Bool) (f : ℕ) → cond t 0 (suc f) < suc (length l)
        → (f < length l → whole_lines l ≡ take f l ∷ whole_lines (drop (suc f) l))
        → cond t ([] ∷ whole_lines l) (in_front b (whole_lines l)) ≡ take (cond t 0 (suc f)) (b ∷ l) ∷ whole_lines (drop (suc (cond t 0 (suc f))) (b ∷ l))
    by_test true f q known = refl
    by_test false f q known = ap (in_front b) (known (le_of_suc-le-suc q))

-- where there is none, there is no whole line
pub no_line : (l : List ℕ) → length l ≤ first_of line_feed l → whole_lines l ≡ []
unfolding first_of whole_lines in_front
no_line [] h = refl
no_line (b ∷ l) h = by_test (eqb b line_feed) (first_of line_feed l) h (no_line l)
  where
    by_test : (t : Bool) (f : ℕ) → suc (length l) ≤ cond t 0 (suc f) → (length l ≤ f → whole_lines l ≡ []) → cond t ([] ∷ whole_lines l) (in_front b (whole_lines l)) ≡ []
    by_test true f q known = absurd (not-suc-le-zero q)
    by_test false f q known = ap (in_front b) (known (le_of_suc-le-suc q))

-- ---- the bytes of lines

bytes_both : (ls ms : List (List ℕ)) → bytes_of (ls ++ ms) ≡ bytes_of ls + bytes_of ms
unfolding bytes_of
bytes_both [] ms = omega arith
bytes_both (l ∷ ls) ms = omega (arith, bytes_both ls ms)

bytes_in_front : (b : ℕ) (ls : List (List ℕ)) → bytes_of (in_front b ls) ≤ suc (bytes_of ls)
unfolding bytes_of in_front
bytes_in_front b [] = zero-le
bytes_in_front b (l ∷ ls) = omega arith

bytes_within : (l : List ℕ) → bytes_of (whole_lines l) ≤ length l
unfolding bytes_of whole_lines
bytes_within [] = zero-le
bytes_within (b ∷ l) = by_test (eqb b line_feed) (bytes_within l)
  where
    by_test : (t : Bool) → bytes_of (whole_lines l) ≤ length l → bytes_of (cond t ([] ∷ whole_lines l) (in_front b (whole_lines l))) ≤ suc (length l)
    by_test true h = omega arith
    by_test false h = omega (arith, bytes_in_front b (whole_lines l))

bytes_taken : (k : ℕ) (ls : List (List ℕ)) → bytes_of (take k ls) ≤ bytes_of ls
unfolding bytes_of
bytes_taken zero ls = zero-le
bytes_taken (suc k) [] = zero-le
bytes_taken (suc k) (l ∷ ls) = omega (arith, bytes_taken k ls)

-- what was taken lies within the input
pub inputs_within : (input : List ℕ) (r : Inputs) → r ≡ inputs_in input → r.at ≤ length input
unfolding inputs_in inputs_of
inputs_within input r e = rw e (le_trans (bytes_taken block (whole_lines input)) (bytes_within input))

-- and is a block at most
pub few_inputs : (input : List ℕ) → (inputs_in input).count ≤ block
unfolding inputs_in inputs_of
few_inputs input = omega (arith, length-take block (whole_lines input))

-- ---- what is left

-- behind the bytes of the first lines stand the others
others : (k : ℕ) (l : List ℕ) → whole_lines (drop (bytes_of (take k (whole_lines l))) l) ≡ drop k (whole_lines l)
unfolding bytes_of
others zero l = refl
others (suc k) l = by_test (ltb (first_of line_feed l) (length l)) refl (others k (drop (suc (first_of line_feed l)) l))
  where
    by_test : (t : Bool) → ltb (first_of line_feed l) (length l) ≡ t
        → whole_lines (drop (bytes_of (take k (whole_lines (drop (suc (first_of line_feed l)) l)))) (drop (suc (first_of line_feed l)) l))
        ≡ drop k (whole_lines (drop (suc (first_of line_feed l)) l))
        → whole_lines (drop (bytes_of (take (suc k) (whole_lines l))) l) ≡ drop (suc k) (whole_lines l)
    by_test true e known =
        let f = first_of line_feed l in
        let h : f < length l = ltb-true f (length l) e in
        let rest = drop (suc f) l in
        let size : length (take f l) ≡ f = length-take-le f l (omega arith) in
        let b = bytes_of (take k (whole_lines rest)) in
        let place : length (take f l) + 1 + b ≡ suc f + b = omega arith in
        let on : drop (length (take f l) + 1 + b) l ≡ drop b rest = ap (λ (m : ℕ). drop m l) place ∙ sym (drop-drop b (suc f) l) in
        rw (cut_first l h) (ap whole_lines on ∙ known)
    by_test false e known = let none : whole_lines l ≡ [] = no_line l (ltb-false (first_of line_feed l) (length l) e) in rw none none

pub others_left : (input : List ℕ) → whole_lines (drop (inputs_in input).at input) ≡ drop block (whole_lines input)
unfolding inputs_in inputs_of
others_left input = others block input

-- what is left holds no whole line unless the block is full
pub none_left : (input : List ℕ) → (inputs_in input).count < block → whole_lines (drop (inputs_in input).at input) ≡ []
unfolding inputs_in inputs_of
none_left input h =
    let few : length (whole_lines input) ≤ block = omega (arith, length-take block (whole_lines input)) in
    others block input ∙ drop_of_length-le (whole_lines input) few

-- ---- the loop after some turns

first_of_is : (l : List ℕ) → first_of line_feed l ≡ position_or_len (λ b. eqb b line_feed) l
unfolding first_of
first_of_is l =
    is_position_or_len (first_of line_feed) (λ b. eqb b line_feed) refl
    (λ x xs. let e : suc (first_of line_feed xs) ≡ 1 + first_of line_feed xs = omega arith in ap (λ (k : ℕ). cond (eqb x line_feed) 0 k) e) l

-- no line feed, no whole line
no_feed : (l : List ℕ) → line_end l ≡ None → whole_lines l ≡ []
no_feed l e =
    let h : length l ≤ first_of line_feed l = rw (first_of_is l) (by_test (ltb n (length l)) n refl e) in
    no_line l h
  where
    n : ℕ
    n = position_or_len (λ b. eqb b line_feed) l

    by_test : (t : Bool) (f : ℕ) → ltb f (length l) ≡ t → ◌≡◌ {A = Option ℕ} (cond t (Some f) None) None → length l ≤ f
    by_test true f q r = absurd cc
    by_test false f q r = ltb-false f (length l) q

-- the first line ends where the first line feed is
first_feed : (l : List ℕ) (n : ℕ) → line_end l ≡ Some n → (n < length l) × (whole_lines l ≡ take n l ∷ whole_lines (drop (suc n) l))
first_feed l n e =
    let found = by_test (ltb m (length l)) m refl e in
    let f : first_of line_feed l ≡ n = first_of_is l ∙ found.1 in
    let before : first_of line_feed l < length l = rw f found.0 in
    (found.0, rw f at (cut_first l before))
  where
    m : ℕ
    m = position_or_len (λ b. eqb b line_feed) l

    by_test : (t : Bool) (f : ℕ) → ltb f (length l) ≡ t → ◌≡◌ {A = Option ℕ} (cond t (Some f) None) (Some n) → (n < length l) × (f ≡ n)
    by_test true f q r = let same : f ≡ n = cc in (rw (sym same) (ltb-true f (length l) q), same)
    by_test false f q r = absurd cc

-- the first lines were taken
pub record Taken (input : List ℕ) (inputs : List Entry) (count at : ℕ) : Type 0 where
  pub found : length (take count (whole_lines input)) ≡ count
  pub filled : inputs ≡ in_block (take count (whole_lines input))
  pub bytes : at ≡ bytes_of (take count (whole_lines input))
  pub within : at ≤ length input

pub none_taken : (input : List ℕ) → Taken input (replicate block no_input) 0 0
unfolding in_block bytes_of
none_taken input = record { found = refl; filled = refl; bytes = refl; within = zero-le }

left_of : {input : List ℕ} {inputs : List Entry} {count at : ℕ} → Taken input inputs count at → whole_lines (drop at input) ≡ drop count (whole_lines input)
left_of {input} {inputs} {count} t = ap (λ (a : ℕ). whole_lines (drop a input)) t.bytes ∙ others count input

-- one entry more takes the place of a blank one
one_more : (ls : List (List ℕ)) (line : List ℕ) (k : ℕ) → length ls ≡ k → k < block → set (in_block ls) k (entry_of line) ≡ in_block (ls ++ (line ∷ []))
unfolding in_block
one_more ls line k e h =
    let m = block - suc k in
    let blank : block - length ls ≡ suc m = omega arith in
    let fewer : block - length (ls ++ (line ∷ [])) ≡ m = omega (arith, length-append ls (line ∷ [])) in
    ap (λ (j : ℕ). set (map entry_of ls ++ replicate j no_input) k (entry_of line)) blank
    ∙ set_at (map entry_of ls) no_input (replicate m no_input) (entry_of line) k (length-map ls entry_of ∙ e)
    ∙ sym (append_assoc (map entry_of ls) (entry_of line ∷ []) (replicate m no_input))
    ∙ ap (λ (os : List Entry). os ++ replicate m no_input) (sym (map-append entry_of ls (line ∷ [])))
    ∙ ap (λ (j : ℕ). map entry_of (ls ++ (line ∷ [])) ++ replicate j no_input) (sym fewer)

pub line_more : (input : List ℕ) (inputs : List Entry) (count at n : ℕ) → Taken input inputs count at → count < block
    → line_end (drop at input) ≡ Some n
    → Taken input (set inputs count (entry_of (take n (drop at input)))) (count + 1) (at + (n + 1))
unfolding bytes_of
line_more input inputs count at n t q e =
    let w = whole_lines input in
    let rest = drop at input in
    let line = take n rest in
    let feed = first_feed rest n e in
    let size : length line ≡ n = length-take-le n rest (omega (arith, feed.0)) in
    let ahead : drop count w ≡ line ∷ whole_lines (drop (suc n) rest) = sym (left_of t) ∙ feed.1 in
    let taken : take (count + 1) w ≡ take count w ++ (line ∷ []) = take-add count 1 w ∙ ap (λ (x : List (List ℕ)). take count w ++ take 1 x) ahead in
    record {
      found = ap length taken ∙ length-append (take count w) (line ∷ []) ∙ ap (λ (k : ℕ). k + 1) t.found;
      filled =
          ap (λ (os : List Entry). set os count (entry_of line)) t.filled
          ∙ one_more (take count w) line count t.found q
          ∙ ap in_block (sym taken);
      bytes = omega (arith, ap bytes_of taken, bytes_both (take count w) (line ∷ []), t.bytes);
      within = omega (arith, feed.0, length-drop at input);
    }

-- the inputs of the lines taken are those of the input, where these lines are the block's
taken_whole : (input : List ℕ) (inputs : List Entry) (count at : ℕ) → Taken input inputs count at → take count (whole_lines input) ≡ take block (whole_lines input)
    → record { count = count; inputs = inputs; at = at } ≡ inputs_in input
unfolding inputs_in inputs_of
taken_whole input inputs count at t e =
    ap (λ (k : ℕ). made k inputs at) (sym t.found)
    ∙ ap (λ (os : List Entry). made (length ls) os at) t.filled
    ∙ ap (λ (a : ℕ). made (length ls) (in_block ls) a) t.bytes
    ∙ ap (λ (x : List (List ℕ)). made (length x) (in_block x) (bytes_of x)) e
  where
    ls : List (List ℕ)
    ls = take count (whole_lines input)

    made : ℕ → List Entry → ℕ → Inputs
    made k os a = record { count = k; inputs = os; at = a }

-- no whole line is left
pub no_more : (input : List ℕ) (inputs : List Entry) (count at : ℕ) → Taken input inputs count at → count ≤ block
    → line_end (drop at input) ≡ None
    → record { count = count; inputs = inputs; at = at } ≡ inputs_in input
no_more input inputs count at t q e =
    let w = whole_lines input in
    let none : drop count w ≡ [] = sym (left_of t) ∙ no_feed (drop at input) e in
    let few : length w ≤ count = omega (arith, length-drop count w, ap length none) in
    taken_whole input inputs count at t (take_all count w few ∙ sym (take_all block w (omega arith)))

-- the block is full
pub full : (input : List ℕ) (inputs : List Entry) (count at : ℕ) → Taken input inputs count at → count ≡ block
    → record { count = block; inputs = inputs; at = at } ≡ inputs_in input
full input inputs count at t e =
    ap (λ (k : ℕ). record { count = k; inputs = inputs; at = at }) (sym e) ∙ taken_whole input inputs count at t (ap (λ (k : ℕ). take k (whole_lines input)) e)
