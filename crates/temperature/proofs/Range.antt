-- For a finite float the program's two tests against -10,000 and 20,000 agree with `in_range`, which goes by whole numbers. A float that fails one of them counts
-- as failed.
-- Assumes nothing.
use Rattle.std.proofs.Common.{◌≡◌, ℕ, ◌+◌, ◌*◌, ◌<◌, ◌≤◌, Bool, true, false, cond, not, ◌&&◌, ◌||◌, T, eqb, ltb, leb, pos, sym, refl, arith, le→leb, eqb→eq, ltb→lt, lt→ltb, leb→le, nltb→le, T_not, ℤ, Option, Some, None, Less, Equal, Greater}
use Rattle.std.specs.Ordering.{is_some_and, is_le, partial_le, partial_lt, float_partial_cmp}
use mathlib.Core.Bool.{true≢false}
use lib.Ieee.{Float, nan, inf, fin, up, down, lt, eq, le}
use lib.Ieee.Fits.{eq→eqb, down_pos, and_l, and_r}
use Rattle.temperature.specs.Nearest.{in_range, nearest_of}

-- -10,000 and 20,000 as floats
abbrev pub low_end : Float
low_end = fin true 625 (pos 4)

abbrev pub high_end : Float
high_end = fin false 625 (pos 5)

-- on floats, "at most" is "less" or "equal"; "equal" may have its two numbers in either order
at_most : (a b : ℕ) (same : Bool) → (T same → a * 1 ≡ b) → T (ltb (a * 1) b || (same && true)) → T (leb a b)
at_most a b same is h = by-case (ltb (a * 1) b) same (ltb→lt (a * 1) b) is h
  where
    by-case : (less same : Bool) → (T less → a * 1 < b) → (T same → a * 1 ≡ b) → T (less || (same && true)) → T (leb a b)
    by-case true same f g h = le→leb a b (omega (arith, f tt))
    by-case false true f g h = le→leb a b (omega (arith, g tt))
    by-case false false f g h = elim h [ ]

not_at_most : (a b : ℕ) (same : Bool) (w : Option ℤ) → (a * 1 ≡ b → T same) → T (not (ltb (a * 1) b || (same && true))) → None ≡ cond (leb a b) w None
not_at_most a b same w is h = by-case (ltb (a * 1) b) same (leb a b) (nltb→le (a * 1) b) is (leb→le a b) h
  where
    clash : b ≤ a * 1 → (a * 1 ≡ b → ⊥) → a ≤ b → ⊥
    clash f g k = g (omega arith)

    by-case : (less same most : Bool) → (T (not less) → b ≤ a * 1) → (a * 1 ≡ b → T same) → (T most → a ≤ b) → T (not (less || (same && true))) → None ≡ cond most w None
    by-case less same false f g k h = refl
    by-case false false true f g k h = absurd (clash (f tt) g (k tt))
    by-case false true true f g k h = elim h [ ]
    by-case true same true f g k h = elim h [ ]

pub first_holds : (p q : Bool) → T p → T (p || q)
first_holds true q t = tt
first_holds false q t = elim t [ ]

-- a number with a minus is below one without, if they are not both 0
pub apart : (a b : ℕ) (q : Bool) → 0 < a + b → T (ltb 0 (a + b) || q)
apart a b q h = first_holds (ltb 0 (a + b)) q (lt→ltb 0 (a + b) h)

-- finite, and within -10,000..20,000
abbrev pub Within : Float → Type 0
Within nan = ⊥
Within (inf s) = ⊥
Within (fin s m e) = T (in_range s (m * up e) (down e))

pub within : (x : Float) → T (le low_end x) → T (le x high_end) → Within x
unfolding le lt eq
within nan a b = elim a [ ]
within (inf true) a b = absurd a
within (inf false) a b = absurd b
within (fin false m e) a b = at_most (m * up e) (20000 * down e) (eqb (m * up e * 1) (20000 * down e)) (eqb→eq (m * up e * 1) (20000 * down e)) b
within (fin true m e) a b = at_most (m * up e) (10000 * down e) (eqb (10000 * down e) (m * up e * 1)) (λ t. sym (eqb→eq (10000 * down e) (m * up e * 1) t)) a

pub too_low : (x : Float) → T (not (le low_end x)) → None ≡ nearest_of x
unfolding le lt eq nearest_of
too_low nan h = refl
too_low (inf s) h = refl
too_low (fin false m e) h = absurd (T_not (le low_end (fin false m e)) h (apart (10000 * down e) (m * up e * 1) _ (omega (arith, down_pos e))))
too_low (fin true m e) h = not_at_most (m * up e) (10000 * down e) (eqb (10000 * down e) (m * up e * 1)) _ (λ i. eq→eqb (sym i)) h

pub too_high : (x : Float) → T (not (le x high_end)) → None ≡ nearest_of x
unfolding le lt eq nearest_of
too_high nan h = refl
too_high (inf s) h = refl
too_high (fin false m e) h = not_at_most (m * up e) (20000 * down e) (eqb (m * up e * 1) (20000 * down e)) _ eq→eqb h
too_high (fin true m e) h = absurd (T_not (le (fin true m e) high_end) h (apart (m * up e * 1) (20000 * down e) _ (omega (arith, down_pos e))))

-- the library's order on floats tests the same
chosen : (less same more : Bool) → is_some_and is_le (cond less (Some Less) (cond same (Some Equal) (cond more (Some Greater) None))) ≡ (less || same)
chosen true same more = refl
chosen false true more = refl
chosen false false true = refl
chosen false false false = refl

pub at_most_is : (x y : Float) → partial_le float_partial_cmp x y ≡ le x y
unfolding le
at_most_is x y = chosen (lt x y) (eq x y) (lt y x)

-- the code's test, by the range's two ends and whether it is spent, which it is not
pub tests : (x : Float) {a b : Float} {spent r : Bool} → a ≡ low_end → b ≡ high_end → spent ≡ false
    → r ≡ (partial_le float_partial_cmp a x && cond spent (partial_lt float_partial_cmp x b) (partial_le float_partial_cmp x b)) → (le low_end x && le x high_end) ≡ r
tests x e f g h = sym (rw (e, f, g, at_most_is low_end x, at_most_is x high_end) at h)

pub inside : (x : Float) → T (le low_end x && le x high_end) → Within x
inside x t = within x (and_l (le low_end x) (le x high_end) t) (and_r (le low_end x) (le x high_end) t)

pub outside : (x : Float) → (le low_end x && le x high_end) ≡ false → None ≡ nearest_of x
outside x e = by-case (le low_end x) (le x high_end) (too_low x) (too_high x) e
  where
    by-case : (p q : Bool) → (T (not p) → None ≡ nearest_of x) → (T (not q) → None ≡ nearest_of x) → (p && q) ≡ false → None ≡ nearest_of x
    by-case true true f g e = absurd (true≢false e)
    by-case true false f g e = g tt
    by-case false q f g e = f tt
