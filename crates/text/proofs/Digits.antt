-- The number that digits spell: it grows with each digit, and testing before multiplying is as good as testing the result.
-- Assumes nothing.
use mathlib.Core.Path.{◌≡◌, refl, sym, ◌∙◌, subst}
use mathlib.Core.Bool.{Bool, true, false, cond, ◌&&◌, true≢false}
use mathlib.Core.List.{List, [], ◌∷◌}
use Prim.Native.Nat.{ℕ, zero, suc, ◌+◌, ◌-◌, ◌*◌, ◌≤◌, ◌<◌}
use native.Mathlib.Nat.{add-zero, add-suc, add-sub_of_le, le_refl, le_trans, lt_of_lt_of_le, mul-le-mul_right, one-mul}
use native.Mathlib.Omega.{arith}
use lib.Dec.{ltb}
use Rattle.std.specs.List.{list_all}
use Rattle.ground.proofs.Chains.{all_items}
use lib.ListN.{length, get_or}
use borrow.Author.Tests.{lt-leb, le-leb, lt-ltb, le-ltb}
use Rattle.ground.specs.Below.{all_below}
use Rattle.ground.proofs.Every.{all_each}
use Rattle.ground.proofs.Flags.{Either, is_true, is_false, either_of}
use Rattle.spelling.specs.Spelling.{digit_of, spelled}
use Rattle.spelling.proofs.Spells.{one_more}
use Rattle.std.specs.Prelude.{Option, Some, None}
use Rattle.text.specs.Numbers.{whole_of, digit_at, largest, is_number, number_in}

grows : (base : ℕ) (w : List ℕ) (k : ℕ) → 0 < base → spelled base w k ≤ spelled base w (suc k)
unfolding spelled
grows base w k p =
    let e : 1 * spelled base w k ≤ base * spelled base w k = mul-le-mul_right (spelled base w k) p in
    omega (arith, one-mul (spelled base w k))

pub grows_to : (base : ℕ) (w : List ℕ) (k n : ℕ) → 0 < base → spelled base w k ≤ spelled base w (k + n)
grows_to base w k zero p = rw (add-zero k) (le_refl (spelled base w k))
grows_to base w k (suc n) p = rw (add-suc k n) (le_trans (grows_to base w k n p) (grows base w (k + n) p))

refused : (x : Option ℕ) (a : Bool) {b : Bool} → b ≡ false → None ≡ cond (a && b) x None
refused x true e = rw e
refused x false e = refl

and_false : (a : Bool) → (a && false) ≡ false
and_false true = refl
and_false false = refl

pub empty : (base : ℕ) (w : List ℕ) → length w ≡ 0 → None ≡ number_in base w
unfolding number_in is_number
empty base w e = rw (le-ltb 0 (length w) (omega arith))

pub no_digit_at : (base : ℕ) (w : List ℕ) (k : ℕ) {d : ℕ} → d ≡ digit_of (get_or w k 0) → base ≤ d → digit_at base w k ≡ false
unfolding digit_at
no_digit_at base w k e h = le-ltb (digit_of (get_or w k 0)) base (omega arith)

pub digit_at_lem : (base : ℕ) (w : List ℕ) (k : ℕ) {d : ℕ} → d ≡ digit_of (get_or w k 0) → d < base → digit_at base w k ≡ true
unfolding digit_at
digit_at_lem base w k e h = lt-ltb (digit_of (get_or w k 0)) base (omega arith)

-- one byte that is no digit, and not all are
pub not_all : (base : ℕ) (w : List ℕ) (k : ℕ) → k < length w → digit_at base w k ≡ false → all_below (digit_at base w) (length w) ≡ false
not_all base w k h e = by_cases (either_of (all_below (digit_at base w) (length w)))
  where
    by_cases : Either (all_below (digit_at base w) (length w)) → all_below (digit_at base w) (length w) ≡ false
    by_cases (is_true t) = absurd (true≢false (sym (all_each (digit_at base w) (length w) t k h) ∙ e))
    by_cases (is_false f) = f

-- so the word is no number
pub no_digit : (base : ℕ) (w : List ℕ) (k : ℕ) → k < length w → digit_at base w k ≡ false → None ≡ number_in base w
unfolding number_in is_number
no_digit base w k h e = refused (Some (spelled base w (length w))) (ltb 0 (length w)) (rw (not_all base w k h e))

-- if some of the digits spell too much already, so do all of them
pub too_much : (base : ℕ) (w : List ℕ) (k : ℕ) → 0 < base → k ≤ length w → largest < spelled base w k → None ≡ number_in base w
unfolding number_in is_number
too_much base w k p h o =
    let m : largest < spelled base w (length w) = lt_of_lt_of_le o (subst (λ (n : ℕ). spelled base w k ≤ spelled base w n) (add-sub_of_le h) (grows_to base w k (length w - k) p)) in
    refused (Some (spelled base w (length w))) (ltb 0 (length w)) (rw (lt-leb (spelled base w (length w)) largest m, and_false (all_below (digit_at base w) (length w))))

-- one digit more, and so too much
pub past_the_end : (base : ℕ) (w : List ℕ) (k : ℕ) {d v : ℕ} → 0 < base → k < length w → d ≡ digit_of (get_or w k 0) → v ≡ spelled base w k → largest < base * v + d → None ≡ number_in base w
past_the_end base w k p h e f o = too_much base w (suc k) p h (rw (one_more base w k e f) at o)

pub is_number_lem : (base : ℕ) (w : List ℕ) → 0 < length w → all_below (digit_at base w) (length w) ≡ true → spelled base w (length w) ≤ largest
    → Some (spelled base w (length w)) ≡ number_in base w
unfolding number_in is_number
is_number_lem base w p a h = rw (lt-ltb 0 (length w) p, a, le-leb (spelled base w (length w)) largest h)

pub no_bytes : (w : List ℕ) → length w ≡ 0 → None ≡ whole_of w
unfolding whole_of number_in is_number
no_bytes [] e = refl
no_bytes (b ∷ w) e = let f : 0 ≡ suc (length w) = sym e in absurd (omega arith)

pub digits_all : (w : List ℕ) → list_all (λ b. ltb (digit_of b) 16) w ≡ all_below (digit_at 16 w) (length w)
unfolding digit_at
digits_all w = all_items (λ b. ltb (digit_of b) 16) 0 w
