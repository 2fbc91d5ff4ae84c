-- "Given exactly when": the rows of a command's fault card, each a number and whether it applies, in the printed order.
-- Assumes nothing.
use Rattle.std.specs.Prelude.{ℕ, ◌≡◌, Bool, true, false, not, cond, ◌&&◌, ◌||◌, List, [], ◌∷◌, ltb, eqb}

abbrev pub Rows : Type 0
Rows = List (ℕ × Bool)

-- whether the row with the number n applies
abbrev pub applies : ℕ → Rows → Bool
applies n [] = false
applies n (x ∷ xs) = cond (eqb x.0 n) x.1 (applies n xs)

-- whether some row before it applies
abbrev pub earlier : ℕ → Rows → Bool
earlier n [] = false
earlier n (x ∷ xs) = cond (eqb x.0 n) false (x.1 || earlier n xs)

-- whether the rows have the number n
abbrev pub lists_number : ℕ → Rows → Bool
lists_number n [] = false
lists_number n (x ∷ xs) = eqb x.0 n || lists_number n xs

-- no number is 0, and none stands twice
abbrev pub orderly_b : Rows → Bool
orderly_b [] = true
orderly_b (x ∷ xs) = ltb 0 x.0 && (not (lists_number x.0 xs) && orderly_b xs)

-- the row n applies, and no row before it does
pub record Given (n : ℕ) (xs : Rows) : Type 0 where
  pub here : applies n xs ≡ true
  pub before : earlier n xs ≡ false
