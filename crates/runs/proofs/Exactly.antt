-- The number of a command's rows, said exactly: it is n where the row n applies and none before it does, and 0 where none applies. By the
-- length of the rows.
-- Assumes nothing.
use Prim.Native.Nat.{ℕ, ◌<◌}
use native.Mathlib.Omega.{arith}
use mathlib.Core.Path.{◌≡◌, refl, sym, ◌∙◌}
use mathlib.Core.Bool.{Bool, true, false, not, cond, ◌||◌, false≢true}
use mathlib.Core.Logic.{◌↔◌}
use mathlib.Core.List.{[], ◌∷◌}
use lib.Dec.{ltb, eqb}
use borrow.Author.Tests.{ltb-true, eqb-true, eq-eqb, not-true}
use Rattle.ground.proofs.Flags.{and_left, and_right, or_false_left, or_false_right}
use Rattle.state.specs.Card.{first_of}
use Rattle.runs.specs.Exactly.{Rows, applies, earlier, lists_number, orderly_b, Given}

module _ (x : ℕ × Bool) (xs : Rows) (o : orderly_b (x ∷ xs) ≡ true) where
  above_zero : 0 < x.0
  above_zero = ltb-true 0 x.0 (and_left (ltb 0 x.0) _ o)

  alone : lists_number x.0 xs ≡ false
  alone = not-true (lists_number x.0 xs) (and_left (not (lists_number x.0 xs)) (orderly_b xs) (and_right (ltb 0 x.0) _ o))

  others : orderly_b xs ≡ true
  others = and_right (not (lists_number x.0 xs)) (orderly_b xs) (and_right (ltb 0 x.0) _ o)

-- ---- done: no row applies

silent_by : (x : ℕ × Bool) (xs : Rows) (n : ℕ) (t e : Bool) → x.1 ≡ t → eqb x.0 n ≡ e → 0 < x.0
    → (first_of xs ≡ 0 → applies n xs ≡ false) → cond x.1 x.0 (first_of xs) ≡ 0 → applies n (x ∷ xs) ≡ false
silent_by x xs n true e p q l h z = let d : x.0 ≡ 0 = rw p at z in absurd (omega arith)
silent_by x xs n false true p q l h z = rw (q, p)
silent_by x xs n false false p q l h z = rw q (h (rw p at z))

-- where the number is 0, no row applies
pub silent : (xs : Rows) → orderly_b xs ≡ true → first_of xs ≡ 0 → (n : ℕ) → applies n xs ≡ false
silent [] o z n = refl
silent (x ∷ xs) o z n = silent_by x xs n x.1 (eqb x.0 n) refl refl (above_zero x xs o) (λ e. silent xs (others x xs o) e n) z

-- ---- refused: the row applies, and none before it does

given_first : (x : ℕ × Bool) (xs : Rows) (n : ℕ) (e : Bool) → eqb x.0 n ≡ e → (Given n xs → first_of xs ≡ n) → Given n (x ∷ xs)
    → cond x.1 x.0 (first_of xs) ≡ n
given_first x xs n true q h g = let a : x.1 ≡ true = rw q at g.here in rw a (eqb-true x.0 n q)
given_first x xs n false q h g =
    let a : applies n xs ≡ true = rw q at g.here in
    let b : (x.1 || earlier n xs) ≡ false = rw q at g.before in
    rw (or_false_left x.1 (earlier n xs) b) (h (record { here = a; before = or_false_right x.1 (earlier n xs) b }))

first : (xs : Rows) (n : ℕ) → Given n xs → first_of xs ≡ n
first [] n g = absurd (false≢true g.here)
first (x ∷ xs) n g = given_first x xs n (eqb x.0 n) refl (first xs n) g

-- a number other than 0 is one of the rows'
listed_by : (x : ℕ × Bool) (xs : Rows) (n : ℕ) (t e : Bool) → x.1 ≡ t → eqb x.0 n ≡ e → (first_of xs ≡ n → lists_number n xs ≡ true)
    → cond x.1 x.0 (first_of xs) ≡ n → lists_number n (x ∷ xs) ≡ true
listed_by x xs n t true p q h z = rw q
listed_by x xs n true false p q h z = let d : x.0 ≡ n = rw p at z in absurd (false≢true (sym q ∙ eq-eqb x.0 n d))
listed_by x xs n false false p q h z = rw q (h (rw p at z))

pub listed : (xs : Rows) (n : ℕ) → 0 < n → first_of xs ≡ n → lists_number n xs ≡ true
listed [] n l z = absurd (omega arith)
listed (x ∷ xs) n l z = listed_by x xs n x.1 (eqb x.0 n) refl refl (listed xs n l) z

first_given : (x : ℕ × Bool) (xs : Rows) (n : ℕ) → 0 < n → (t e : Bool) → x.1 ≡ t → eqb x.0 n ≡ e → lists_number x.0 xs ≡ false
    → (first_of xs ≡ n → Given n xs) → cond x.1 x.0 (first_of xs) ≡ n → Given n (x ∷ xs)
first_given x xs n l true true p q a h z = record { here = rw (q, p); before = rw q }
first_given x xs n l true false p q a h z = let d : x.0 ≡ n = rw p at z in absurd (false≢true (sym q ∙ eq-eqb x.0 n d))
first_given x xs n l false true p q a h z =
    absurd (false≢true (sym (rw (eqb-true x.0 n q) at a) ∙ listed xs n l (rw p at z)))
first_given x xs n l false false p q a h z = let g = h (rw p at z) in record { here = rw q g.here; before = rw (q, p) g.before }

given : (xs : Rows) → orderly_b xs ≡ true → (n : ℕ) → 0 < n → first_of xs ≡ n → Given n xs
given [] o n l z = absurd (omega arith)
given (x ∷ xs) o n l z =
    first_given x xs n l x.1 (eqb x.0 n) refl refl (alone x xs o) (given xs (others x xs o) n l) z

-- EXACTLY WHEN: the answer is n where its row applies and no row before it does
pub exactly : (xs : Rows) → orderly_b xs ≡ true → (n : ℕ) → 0 < n → (first_of xs ≡ n) ↔ Given n xs
exactly xs o n l = (given xs o n l, first xs n)

-- ---- done, the other way

nothing_by : (x : ℕ × Bool) (xs : Rows) (t : Bool) → x.1 ≡ t → ((n : ℕ) → applies n (x ∷ xs) ≡ false) → first_of xs ≡ 0
    → cond x.1 x.0 (first_of xs) ≡ 0
nothing_by x xs true p h z = absurd (false≢true (sym (rw (eq-eqb x.0 x.0 refl) at (h x.0)) ∙ p))
nothing_by x xs false p h z = rw p z

passed_over : (x : ℕ × Bool) (xs : Rows) (n : ℕ) (e : Bool) → eqb x.0 n ≡ e → lists_number x.0 xs ≡ false → applies n (x ∷ xs) ≡ false → applies n xs ≡ false
passed_over x xs n true q a h = unlisted xs n (rw (eqb-true x.0 n q) at a)
  where
    unlisted-by : (y : ℕ × Bool) (ys : Rows) (m : ℕ) → (lists_number m ys ≡ false → applies m ys ≡ false) → lists_number m (y ∷ ys) ≡ false → applies m (y ∷ ys) ≡ false
    unlisted-by y ys m h e = rw (or_false_left (eqb y.0 m) (lists_number m ys) e) (h (or_false_right (eqb y.0 m) (lists_number m ys) e))

    unlisted : (ys : Rows) (m : ℕ) → lists_number m ys ≡ false → applies m ys ≡ false
    unlisted [] m e = refl
    unlisted (y ∷ ys) m e = unlisted-by y ys m (unlisted ys m) e
passed_over x xs n false q a h = rw q at h

nothing : (xs : Rows) → orderly_b xs ≡ true → ((n : ℕ) → applies n xs ≡ false) → first_of xs ≡ 0
nothing [] o h = refl
nothing (x ∷ xs) o h =
    nothing_by x xs x.1 refl h (nothing xs (others x xs o) (λ n. passed_over x xs n (eqb x.0 n) refl (alone x xs o) (h n)))

-- DONE exactly when no row applies
pub done_exactly : (xs : Rows) → orderly_b xs ≡ true → (first_of xs ≡ 0) ↔ ((n : ℕ) → applies n xs ≡ false)
done_exactly xs o = (silent xs o, nothing xs o)
