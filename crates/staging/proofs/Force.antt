-- A commit changes exactly the staged settings, and marks the other door exactly where it had read one of them.
-- Assumes nothing.
use mathlib.Core.Path.{◌≡◌, refl, sym, ap, ◌∙◌}
use mathlib.Core.Bool.{true, false, and-false, or-false}
use mathlib.Core.List.{List, [], ◌∷◌}
use Prim.Native.Nat.{ℕ, zero, suc, ◌≤◌, ◌<◌}
use native.Mathlib.Nat.{not-suc-le-zero, le_of_suc-le-suc}
use lib.Dec.{ltb}
use lib.ListN.{length, get_or, get_or-eq_default}
use borrow.Author.Tests.{ltb-true, ltb-false}
use Rattle.ground.proofs.Flags.{Either, is_true, is_false, either_of}
use Rattle.settings.specs.declared.Setting.{Setting}
use Rattle.settings.specs.Settings.{setting_count, no_setting, value_at, fits_b, fits_at, settings_fit_b}
use Rattle.ground.proofs.Every.{all_each, each_all}
use Rattle.state.specs.declared.Cell.{Cell}
use Rattle.state.specs.State.{blank_cell}
use Rattle.staging.specs.Staging.{stands_at, as_stand, marked_by, overtaken_by}

pub stand_length : (a : List Setting) (cells : List Cell) → length (as_stand a cells) ≡ length a
unfolding as_stand
stand_length [] cells = refl
stand_length (x ∷ a) [] = refl
stand_length (x ∷ a) (c ∷ cells) = ap suc (stand_length a cells)

pub stand_at : (a : List Setting) (cells : List Cell) (k : ℕ) → k < length a →
    get_or (as_stand a cells) k no_setting ≡ stands_at (get_or a k no_setting) (get_or cells k blank_cell)
unfolding as_stand stands_at
stand_at [] cells k h = absurd (not-suc-le-zero h)
stand_at (x ∷ a) [] k h = refl
stand_at (x ∷ a) (c ∷ cells) zero h = refl
stand_at (x ∷ a) (c ∷ cells) (suc k) h = stand_at a cells k (le_of_suc-le-suc h)

-- a staged setting stands at the value staged ..
pub staged_stands : (a : List Setting) (cells : List Cell) (k : ℕ) → k < length a → (get_or cells k blank_cell).staged ≡ true →
    value_at (as_stand a cells) k ≡ (get_or cells k blank_cell).value
unfolding stands_at
staged_stands a cells k h e = ap (λ (x : Setting). x.value) (stand_at a cells k h) ∙ rw e

past_stands : (a : List Setting) (cells : List Cell) (k : ℕ) → ltb k (length a) ≡ false → value_at (as_stand a cells) k ≡ value_at a k
past_stands a cells k f =
    let out : length a ≤ k = ltb-false k (length a) f in
    let past : length (as_stand a cells) ≤ k = rw stand_length out in
    ap (λ (x : Setting). x.value) (get_or-eq_default (as_stand a cells) no_setting past ∙ sym (get_or-eq_default a no_setting out))

-- .. and any other as it was in force
pub unstaged_stands : (a : List Setting) (cells : List Cell) (k : ℕ) → (get_or cells k blank_cell).staged ≡ false →
    value_at (as_stand a cells) k ≡ value_at a k
unfolding stands_at
unstaged_stands a cells k e = by_length (either_of (ltb k (length a)))
  where
    by_length : Either (ltb k (length a)) → value_at (as_stand a cells) k ≡ value_at a k
    by_length (is_true t) = ap (λ (x : Setting). x.value) (stand_at a cells k (ltb-true k (length a) t)) ∙ rw e
    by_length (is_false f) = past_stands a cells k f

-- settings in range stay in range, where what is staged is
pub stand_fits : (a : List Setting) (cells : List Cell) → settings_fit_b a ≡ true →
    ((k : ℕ) → k < setting_count → (get_or cells k blank_cell).staged ≡ true → fits_b k (get_or cells k blank_cell).value ≡ true) →
    settings_fit_b (as_stand a cells) ≡ true
unfolding settings_fit_b fits_at
stand_fits a cells e g = each_all (fits_at (as_stand a cells)) setting_count (λ k l. by-staged k l (either_of (get_or cells k blank_cell).staged) (either_of (ltb k (length a))))
  where
    old : (k : ℕ) → k < setting_count → fits_b k (value_at a k) ≡ true
    old k l = all_each (fits_at a) setting_count e k l

    by-staged : (k : ℕ) → k < setting_count → Either (get_or cells k blank_cell).staged → Either (ltb k (length a)) → fits_b k (value_at (as_stand a cells) k) ≡ true
    by-staged k l (is_false f) i = rw (unstaged_stands a cells k f) (old k l)
    by-staged k l (is_true t) (is_true i) = rw (staged_stands a cells k (ltb-true k (length a) i) t) (g k l t)
    by-staged k l (is_true t) (is_false o) = rw (past_stands a cells k o) (old k l)

-- ---- the other door's marks

blank_marks : (d : Cell) → d ≡ marked_by blank_cell d
unfolding marked_by
blank_marks d = rw (and-false, or-false)

nothing_read : (c : Cell) → blank_cell ≡ marked_by c blank_cell
unfolding marked_by
nothing_read c = refl

pub marks_at : (mine theirs : List Cell) (k : ℕ) →
    get_or (overtaken_by mine theirs) k blank_cell ≡ marked_by (get_or mine k blank_cell) (get_or theirs k blank_cell)
unfolding overtaken_by
marks_at [] theirs k = blank_marks (get_or theirs k blank_cell)
marks_at (c ∷ mine) [] k = nothing_read (get_or (c ∷ mine) k blank_cell)
marks_at (c ∷ mine) (d ∷ theirs) zero = refl
marks_at (c ∷ mine) (d ∷ theirs) (suc k) = marks_at mine theirs k
