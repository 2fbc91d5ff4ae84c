-- An input that is read in pieces of any sizes: what is put out is what the runs among its lines say. By induction on the number of reads.
-- Assumes nothing.
use Prim.Native.Nat.{ℕ, ◌+◌, ◌*◌, ◌≤◌}
use native.Mathlib.Omega.{arith}
use mathlib.Core.Path.{◌≡◌, refl, sym, ap, ◌∙◌}
use mathlib.Core.List.{List, [], ◌∷◌, ◌++◌, append_assoc, append-nil}
use lib.ListN.{length, take, drop, length-append}
use lib.Seq.{take-add, take_all}
use Rattle.text.specs.Words.{deciding}
use Rattle.desk.specs.declared.Desk.{Desk}
use Rattle.desk.specs.Desk.{block}
use Rattle.lines.specs.Lines.{whole_lines, room}
use Rattle.spoken.specs.Spoken.{entries_of, spoken, answers_to, and_then, left_by, Roomy, Enough, Read, held_after, in_reads, all_read, EnoughAfter}
use Rattle.spoken.proofs.Answered.{lines_answered}
use Rattle.spoken.proofs.Spoken.{left_lines, nothing_spoken, spoken_join, spoken_is_run}
use Rattle.spoken.proofs.Pieces.{behind, in_two, cut_unfinished, many_ahead, cut_lines_answered}

-- ---- what turns leave

one_left : (out : List ℕ) (outs : List (List ℕ)) (input : List ℕ) (d : Desk) → room ≤ length out
    → left_by (out ∷ outs) input d ≡ left_by outs (behind block input) (spoken (take block (whole_lines input)) d).desk
unfolding left_by answers_to
one_left out outs input d h = rw (lines_answered d input out h).1

left_more : (out : List ℕ) (outs : List (List ℕ)) (input more : List ℕ) (d : Desk) (n : ℕ) → room ≤ length out
    → ((rest : List ℕ) (c : Desk) → whole_lines (rest ++ more) ≡ take n (whole_lines rest) ++ whole_lines (left_by outs rest c ++ more))
    → whole_lines (input ++ more) ≡ take (block + n) (whole_lines input) ++ whole_lines (left_by (out ∷ outs) input d ++ more)
left_more out outs input more d n h known =
    let all : List (List ℕ) = whole_lines input in
    let lines : List (List ℕ) = take block all in
    let c : Desk = (spoken lines d).desk in
    let last : List (List ℕ) = whole_lines (left_by outs (behind block input) c ++ more) in
    in_two block input more
    ∙ ap (λ (l : List (List ℕ)). lines ++ l) (known (behind block input) c ∙ ap (λ (l : List (List ℕ)). take n l ++ last) (left_lines input))
    ∙ sym (append_assoc lines (take n (drop block all)) last)
    ∙ ap (λ (l : List (List ℕ)). l ++ last) (sym (take-add block n all))
    ∙ ap (λ (l : List ℕ). take (block + n) all ++ whole_lines (l ++ more)) (sym (one_left out outs input d h))

-- the lines of an input that goes on: those that the turns answered, and those of what is left with what comes
left_by_lem : (outs : List (List ℕ)) (input more : List ℕ) (d : Desk) → Roomy outs
    → whole_lines (input ++ more) ≡ take (length outs * block) (whole_lines input) ++ whole_lines (left_by outs input d ++ more)
unfolding Roomy left_by
left_by_lem [] input more d r = refl
left_by_lem (out ∷ outs) input more d r =
    let n : block + length outs * block ≡ length (out ∷ outs) * block = omega arith in
    left_more out outs input more d (length outs * block) r.0 (λ rest c. left_by_lem outs rest more c r.1)
    ∙ ap (λ (k : ℕ). take k (whole_lines input) ++ whole_lines (left_by (out ∷ outs) input d ++ more)) n

all_answered : (outs : List (List ℕ)) (input more : List ℕ) (d : Desk) → Enough outs input
    → whole_lines (input ++ more) ≡ whole_lines input ++ whole_lines (left_by outs input d ++ more)
unfolding Enough
all_answered outs input more d h =
    left_by_lem outs input more d h.0
    ∙ ap (λ (l : List (List ℕ)). l ++ whole_lines (left_by outs input d ++ more)) (take_all (length outs * block) (whole_lines input) h.1)

none_more : {A : Type 0} (l m : List A) → l ≡ l ++ m → m ≡ []
none_more l [] e = refl
none_more l (x ∷ m) e = absurd (omega (arith, ap length e, length-append l (x ∷ m)))

-- what is left is an unfinished line
left_unfinished : (outs : List (List ℕ)) (input : List ℕ) (d : Desk) → Enough outs input → whole_lines (left_by outs input d) ≡ []
left_unfinished outs input d h =
    let left : List ℕ = left_by outs input d in
    none_more (whole_lines input) (whole_lines left)
    (sym (ap whole_lines (append-nil input)) ∙ all_answered outs input [] d h ∙ ap (λ (l : List ℕ). whole_lines input ++ whole_lines l) (append-nil left))

-- ---- read after read

-- only the entries of the lines matter
same_spoken : (a b : List (List ℕ)) (d : Desk) → entries_of a ≡ entries_of b → spoken a d ≡ spoken b d
unfolding spoken
same_spoken a b d e = rw e

no_read : (held : List ℕ) (d : Desk) → whole_lines held ≡ [] → in_reads [] held d ≡ spoken (whole_lines (held ++ all_read [])) d
unfolding in_reads all_read
no_read held d h = sym (ap (λ (l : List ℕ). spoken (whole_lines l) d) (append-nil held) ∙ ap (λ (l : List (List ℕ)). spoken l d) h ∙ nothing_spoken d)

enough_held : (r : Read) (held : List ℕ) → whole_lines held ≡ [] → Enough r.outs r.bytes → Enough r.outs (held ++ r.bytes)
unfolding Enough
enough_held r held u h = (h.0, omega (arith, many_ahead held r.bytes u, h.1))

-- one read, and those after it
one_read : (r : Read) (rs : List Read) (held : List ℕ) (d : Desk) → Enough r.outs (held ++ r.bytes) → let input = held ++ r.bytes in
    in_reads (r ∷ rs) held d
    ≡ and_then (spoken (whole_lines input) d).text (in_reads rs (held_after r.outs input d) (spoken (whole_lines input) d).desk)
unfolding in_reads
one_read r rs held d h = rw (spoken_is_run r.outs (held ++ r.bytes) d h)

read_more : (r : Read) (rs : List Read) (held : List ℕ) (d : Desk) → Enough r.outs (held ++ r.bytes)
    → ((kept : List ℕ) (c : Desk) → whole_lines kept ≡ [] → in_reads rs kept c ≡ spoken (whole_lines (kept ++ all_read rs)) c)
    → in_reads (r ∷ rs) held d ≡ spoken (whole_lines (held ++ all_read (r ∷ rs))) d
unfolding all_read held_after
read_more r rs held d h known =
    let input : List ℕ = held ++ r.bytes in
    let more : List ℕ = all_read rs in
    let lines : List (List ℕ) = whole_lines input in
    let left : List ℕ = left_by r.outs input d in
    let c : Desk = (spoken lines d).desk in
    let u : whole_lines left ≡ [] = left_unfinished r.outs input d h in
    one_read r rs held d h
    ∙ ap (and_then (spoken lines d).text)
    (known (take deciding left) c (cut_unfinished deciding left u)
    ∙ same_spoken (whole_lines (take deciding left ++ more)) (whole_lines (left ++ more)) c (cut_lines_answered left more u))
    ∙ sym (spoken_join lines (whole_lines (left ++ more)) d)
    ∙ ap (λ (l : List (List ℕ)). spoken l d) (sym (all_answered r.outs input more d h))
    ∙ ap (λ (l : List ℕ). spoken (whole_lines l) d) (append_assoc held r.bytes more)

behind_held : (rs : List Read) (held : List ℕ) (d : Desk) → whole_lines held ≡ [] → EnoughAfter rs → in_reads rs held d ≡ spoken (whole_lines (held ++ all_read rs)) d
unfolding EnoughAfter
behind_held [] held d u h = no_read held d u
behind_held (r ∷ rs) held d u h = read_more r rs held d (enough_held r held u h.0) (λ kept c v. behind_held rs kept c v h.1)

no_lines_lem : whole_lines [] ≡ []
unfolding whole_lines
no_lines_lem = refl

-- READ BY READ: in whatever pieces an input is read, what is put out, all together, is the text of what the runs among all its whole lines say, and the
-- desk is that of the last of these runs
pub read_by_read : (rs : List Read) (d : Desk) → EnoughAfter rs → in_reads rs [] d ≡ spoken (whole_lines (all_read rs)) d
read_by_read rs d h = behind_held rs [] d no_lines_lem h
