-- Digits put from the last to the first, and a text copied from its front.
-- Assumes nothing.
use mathlib.Core.Path.{◌≡◌, refl, sym, ap, ◌∙◌}
use mathlib.Core.Bool.{Bool, true, false}
use mathlib.Core.List.{List, [], ◌∷◌, ◌++◌, append_assoc}
use Prim.Native.Nat.{ℕ, suc, ◌/◌, ◌%◌, ◌≤◌, ◌<◌, min}
use native.Mathlib.Nat.{le_refl}
use native.Mathlib.Omega.{arith}
use borrow.Author.Tests.{ltb-true, ltb-false, leb-true, le-leb}
use lib.Dec.{ltb, leb}
use lib.ListN.{length, take, drop, set, length-set, drop_of_length-le}
use lib.Seq.{take_all, drop-cons, drop-set-lt, get_or-set_same}
use Rattle.ground.proofs.Flags.{and_left, and_right}
use Rattle.spelling.specs.Spelling.{glyph, digits, spellable, digits_over, text_over}

pub within : (base : ℕ) → 1 < base → base ≤ 16 → spellable base ≡ true
unfolding spellable
within base h k = rw (le-leb 2 base h, le-leb base 16 k)

pub bounds : (base : ℕ) → spellable base ≡ true → (1 < base) × (base < 17)
unfolding spellable
bounds base e =
    let most : base ≤ 16 = leb-true base 16 (and_right (leb 2 base) (leb base 16) e) in
    (leb-true 2 base (and_left (leb 2 base) (leb base 16) e), omega arith)

pub in_base : (old : List ℕ) (base n : ℕ) → spellable base ≡ true → digits base (length old) n ≡ digits_over old base n
unfolding digits_over
in_base old base n e = rw e

pub not_in_base : (old : List ℕ) (base n : ℕ) → spellable base ≡ false → old ≡ digits_over old base n
unfolding digits_over
not_in_base old base n e = rw e

-- what stands from a place on after a store there
stored : (l : List ℕ) (p g : ℕ) → p < length l → drop p (set l p g) ≡ g ∷ drop (suc p) l
stored l p g h =
    drop-cons (set l p g) p 0 (rw (length-set l p g) h)
    ∙ ap (λ (x : ℕ). x ∷ drop (suc p) (set l p g)) (get_or-set_same l p g 0 h)
    ∙ ap (λ (r : List ℕ). g ∷ r) (drop-set-lt (suc p) l p g (le_refl (suc p)))

-- one digit more, before those that stand already
pub digit_more : (base j rest : ℕ) (all l : List ℕ) → j < length l → all ≡ digits base (suc j) rest ++ drop (suc j) l
    → all ≡ digits base j (rest / base) ++ drop j (set l j (glyph (rest % base)))
unfolding digits
digit_more base j rest all l h e =
    let g = glyph (rest % base) in
    e
    ∙ append_assoc (digits base j (rest / base)) (g ∷ []) (drop (suc j) l)
    ∙ ap (λ (r : List ℕ). digits base j (rest / base) ++ r) (sym (stored l j g h))

-- all of them stand
pub digits_done : (base rest : ℕ) (all l : List ℕ) → all ≡ digits base 0 rest ++ drop 0 l → l ≡ all
unfolding digits
digits_done base rest all l e = sym e

-- ---- a text

-- as far as both go
pub copied : (old text : List ℕ) (n : ℕ) → n ≡ min (length text) (length old) → take n text ++ drop n old ≡ text_over old text
unfolding text_over
copied old text n m = by_test (ltb (length text) (length old)) refl
  where
    by_test : (t : Bool) → ltb (length text) (length old) ≡ t → take n text ++ drop n old ≡ take (length old) text ++ drop (length text) old
    by_test true t =
        let h : length text < length old = ltb-true (length text) (length old) t in
        let k : n ≡ length text = omega arith in
        rw (k, take_all (length text) text (omega arith), take_all (length old) text (omega arith))
    by_test false t =
        let h : length old ≤ length text = ltb-false (length text) (length old) t in
        let k : n ≡ length old = omega arith in
        rw (k, drop_of_length-le old {i = length old} (omega arith), drop_of_length-le old {i = length text} (omega arith))
