-- Laws for the loops that go through a line byte by byte.
-- Assumes nothing.
use mathlib.Core.Path.{◌≡◌, refl, sym, ap, ◌∙◌, subst, subst⁻¹}
use mathlib.Core.Bool.{Bool, true, false, cond, not}
use mathlib.Core.List.{List, [], ◌∷◌}
use Prim.Native.Nat.{ℕ, suc, ◌+◌, ◌-◌, ◌≤◌, ◌<◌, zero-le, suc-le-suc}
use native.Mathlib.Nat.{le_refl}
use native.Mathlib.Numerals.{add-one}
use native.Mathlib.Omega.{arith}
use lib.Dec.{eqb, ltb}
use Rattle.std.specs.Prelude.{Some, None}
use Rattle.std.specs.Option.{unwrap_or}
use Rattle.std.specs.List.{position_or_len, copy_within}
use Rattle.std.proofs.Math.Seq.{paste}
use Rattle.std.proofs.lemmas.List.Edits.{take-paste}
use lib.ListN.{length, take, drop, set, length-drop}
use lib.Seq.{take_all, take-take, length-take-le, drop-set-lt, drop-drop}
use borrow.Author.Tests.{ltb-true, ltb-false, lt-ltb, le-ltb}
use Rattle.text.specs.Words.{first_of, deciding, kept_of, kept_part, Kept}

-- what is left from a place on, taken as a part of the slice
pub the_rest : (l : List ℕ) (at : ℕ) → take (length l - at) (drop at l) ≡ drop at l
the_rest l at = take_all (length l - at) (drop at l) (omega (arith, length-drop at l))

few_more : (b : Bool) (m n : ℕ) → m ≤ n → cond b 0 (suc m) ≤ suc n
few_more true m n h = zero-le
few_more false m n h = suc-le-suc h

pub within : (b : ℕ) (l : List ℕ) → first_of b l ≤ length l
unfolding first_of
within b [] = zero-le
within b (x ∷ l) = few_more (eqb x b) (first_of b l) (length l) (within b l)

-- the first place of a byte, as the library says it
pub first_found : (b : ℕ) (l : List ℕ) → position_or_len (λ x. eqb x b) l ≡ first_of b l
unfolding first_of
first_found b [] = refl
first_found b (x ∷ l) = by_byte (eqb x b) (first_found b l)
  where
    by_byte : (t : Bool) {m n : ℕ} → m ≡ n → cond (not t) (1 + m) 0 ≡ cond t 0 (suc n)
    by_byte true e = refl
    by_byte false e = rw e (omega arith)

-- the place of that byte, or the length where there is none
pub first_or : (b : ℕ) (l : List ℕ) → unwrap_or (cond (ltb (position_or_len (λ x. eqb x b) l) (length l)) (Some (position_or_len (λ x. eqb x b) l)) None) (length l) ≡ first_of b l
first_or b l = rw (first_found b l) (by_test (ltb (first_of b l) (length l)) refl)
  where
    by_test : (t : Bool) → ltb (first_of b l) (length l) ≡ t → unwrap_or (cond t (Some (first_of b l)) None) (length l) ≡ first_of b l
    by_test true e = refl
    by_test false e = let h : length l ≤ first_of b l = ltb-false (first_of b l) (length l) e in omega (arith, within b l)

-- ---- an unfinished line

pub kept_few : (n : ℕ) → (kept_of n ≤ n) × (kept_of n ≤ deciding)
unfolding kept_of
kept_few n = by_cases (ltb n deciding) refl
  where
    by_cases : (b : Bool) → ltb n deciding ≡ b → (cond b n deciding ≤ n) × (cond b n deciding ≤ deciding)
    by_cases true e = let h : n < deciding = ltb-true n deciding e in (omega arith, omega arith)
    by_cases false e = let h : deciding ≤ n = ltb-false n deciding e in (omega arith, omega arith)

kept_taken : (n : ℕ) (l : List ℕ) → n ≤ length l → take (kept_of n) l ≡ take deciding (take n l)
unfolding kept_of
kept_taken n l q = by_cases (ltb n deciding) refl
  where
    by_cases : (b : Bool) → ltb n deciding ≡ b → take (cond b n deciding) l ≡ take deciding (take n l)
    by_cases true e =
        let h : n < deciding = ltb-true n deciding e in
        sym (take_all deciding (take n l) (omega (arith, length-take-le n l q)))
    by_cases false e = let h : deciding ≤ n = ltb-false n deciding e in sym (take-take deciding n l h)

pub too_short : (l : List ℕ) (from to : ℕ) → length l < to → [] ≡ kept_part l from to
unfolding kept_part
too_short l from to h = rw (lt-ltb (length l) to h)

pub none_left : (l : List ℕ) (from to : ℕ) → to ≤ length l → to < from → [] ≡ kept_part l from to
unfolding kept_part
none_left l from to h k = let e : to - from ≡ 0 = omega arith in rw (le-ltb (length l) to h, e)

pub rest_stays : (old l : List ℕ) (i x : ℕ) → drop i l ≡ drop i old → drop (suc i) (set l i x) ≡ drop (suc i) old
rest_stays old l i x d =
    drop-set-lt (suc i) l i x (le_refl (suc i))
    ∙ ap (λ (k : ℕ). drop k l) (sym (add-one i))
    ∙ sym (drop-drop 1 i l)
    ∙ ap (drop 1) d
    ∙ drop-drop 1 i old
    ∙ ap (λ (k : ℕ). drop k old) (add-one i)

pub all_moved : (old l : List ℕ) (from to : ℕ) → length l ≡ length old → to ≤ length old → from ≤ to
    → take (kept_of (to - from)) l ≡ take (kept_of (to - from)) (drop from old) → Kept old l from to (kept_of (to - from))
unfolding kept_part
all_moved old l from to r h k e =
    record {
      front = e ∙ kept_taken (to - from) (drop from old) (omega (arith, length-drop from old)) ∙ rw (le-ltb (length old) to h);
      most = omega (arith, (kept_few (to - from)).0, r);
      few = (kept_few (to - from)).1;
    }

-- the part is copied to the front
pub all_copied : (old new : List ℕ) (from to n : ℕ) → to ≤ length old → from ≤ to → n ≡ kept_of (to - from) → length new ≡ length old
    → new ≡ copy_within old from (from + n) 0 → Kept old new from to n
all_copied old new from to n h k e r c =
    let m : n ≤ to - from = rw e (kept_few (to - from)).0 in
    let i : from + n - from ≡ n = omega arith in
    let z : 0 + n ≡ n = omega arith in
    let t : take n new ≡ take n (drop from old) =
    ap (take n) (c ∙ ap (paste old 0 (drop from old)) i)
    ∙ subst (λ (x : ℕ). take x (paste old 0 (drop from old) n) ≡ take n (drop from old)) z (take-paste old 0 (drop from old) n zero-le (omega (arith, length-drop from old, m, h))) in
    subst⁻¹ (λ (x : ℕ). Kept old new from to x) e (all_moved old new from to r h k (subst (λ (x : ℕ). take x new ≡ take x (drop from old)) e t))
