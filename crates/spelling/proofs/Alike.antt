-- Two texts compared.
-- Assumes nothing.
use mathlib.Core.Path.{◌≡◌, refl, sym}
use mathlib.Core.Bool.{true, true≢false}
use mathlib.Core.List.{List, [], ◌∷◌}
use Prim.Native.Nat.{ℕ}
use lib.Dec.{eqb}
use borrow.Author.Tests.{eq-eqb, eqb-true}
use Rattle.ground.proofs.Flags.{and_left, and_right}
use Rattle.std.specs.Cmp.Lexicographic.{pointwise}
use Rattle.spelling.specs.Spelling.{same_b}

-- the comparison of the library
pub same_pointwise : (a b : List ℕ) → same_b a b ≡ pointwise eqb a b
unfolding same_b
same_pointwise [] [] = refl
same_pointwise [] (y ∷ b) = refl
same_pointwise (x ∷ a) [] = refl
same_pointwise (x ∷ a) (y ∷ b) = rw (same_pointwise a b)

-- ---- what the comparison says

pub same_itself : (a : List ℕ) → same_b a a ≡ true
unfolding same_b
same_itself [] = refl
same_itself (x ∷ a) = rw (eq-eqb x x refl) (same_itself a)

pub same_true : (a b : List ℕ) → same_b a b ≡ true → a ≡ b
unfolding same_b
same_true [] [] e = refl
same_true [] (y ∷ b) e = absurd (true≢false (sym e))
same_true (x ∷ a) [] e = absurd (true≢false (sym e))
same_true (x ∷ a) (y ∷ b) e =
    let head : x ≡ y = eqb-true x y (and_left (eqb x y) (same_b a b) e) in
    rw (head, same_true a b (and_right (eqb x y) (same_b a b) e))
