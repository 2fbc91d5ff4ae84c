-- What digits spell: the number that was put in them, as far as they go.
-- Assumes nothing.
use mathlib.Core.Path.{◌≡◌, refl, sym, ap, ◌∙◌}
use mathlib.Core.Bool.{Bool, true, false, cond}
use mathlib.Core.List.{List, [], ◌∷◌, ◌++◌}
use Prim.Native.Nat.{ℕ, zero, suc, ◌+◌, ◌-◌, ◌*◌, ◌/◌, ◌%◌, ◌^◌, ◌≤◌, ◌<◌}
use native.Mathlib.Nat.{pow-suc, mod-lt, mod-one, mul_comm, mul-pos, lt_of_lt_of_le}
use native.Mathlib.Numerals.{unary_clauses}
use native.Mathlib.Omega.{arith}
use borrow.Author.Tests.{lt-ltb, le-ltb, ltb-true, ltb-false}
use lib.Arith.{mod-mul}
use lib.Dec.{ltb}
use lib.ListN.{length, get_or, get_or-append}
use lib.Seq.{get_or_at}
use Rattle.spelling.specs.Spelling.{glyph, digits, digit_of, spelled}
use Rattle.spelling.proofs.Lent.{length_digits}

-- ---- one digit more

pub one_more : (base : ℕ) (w : List ℕ) (k : ℕ) {d v : ℕ} → d ≡ digit_of (get_or w k 0) → v ≡ spelled base w k → base * v + d ≡ spelled base w (suc k)
unfolding spelled
one_more base w k e h = rw (e, h)

pub no_more_than : (b : ℕ) → digit_of b ≤ 16
unfolding digit_of
no_more_than b = first (ltb b 48) refl
  where
    last : (t : Bool) → ltb b 103 ≡ t → cond t (b - 87) 16 ≤ 16
    last true e = let h : b < 103 = ltb-true b 103 e in omega arith
    last false e = omega arith

    letter : (t : Bool) → ltb b 97 ≡ t → cond t 16 (cond (ltb b 103) (b - 87) 16) ≤ 16
    letter true e = omega arith
    letter false e = last (ltb b 103) refl

    nine : (t : Bool) → ltb b 58 ≡ t → cond t (b - 48) (cond (ltb b 97) 16 (cond (ltb b 103) (b - 87) 16)) ≤ 16
    nine true e = let h : b < 58 = ltb-true b 58 e in omega arith
    nine false e = letter (ltb b 97) refl

    first : (t : Bool) → ltb b 48 ≡ t → cond t 16 (cond (ltb b 58) (b - 48) (cond (ltb b 97) 16 (cond (ltb b 103) (b - 87) 16))) ≤ 16
    first true e = omega arith
    first false e = nine (ltb b 58) refl

-- ---- what was put

pub digit_back : (d : ℕ) → d < 16 → digit_of (glyph d) ≡ d
unfolding digit_of glyph
digit_back d h = by_test (ltb d 10) refl
  where
    by_test : (t : Bool) → ltb d 10 ≡ t → digit_of (glyph d) ≡ d
    by_test true e =
        let k : d < 10 = ltb-true d 10 e in
        rw (e, le-ltb (48 + d) 48 (omega arith), lt-ltb (48 + d) 58 (omega arith)) (omega arith)
    by_test false e =
        let k : 10 ≤ d = ltb-false d 10 e in
        rw (e, le-ltb (87 + d) 48 (omega arith), le-ltb (87 + d) 58 (omega arith), le-ltb (87 + d) 97 (omega arith), lt-ltb (87 + d) 103 (omega arith)) (omega arith)

-- only the digits that are read count
pub spelled_front : (base : ℕ) (a b : List ℕ) (k : ℕ) → k ≤ length a → spelled base (a ++ b) k ≡ spelled base a k
unfolding spelled
spelled_front base a b zero h = refl
spelled_front base a b (suc k) h = rw (spelled_front base a b k (omega arith), get_or-append a b 0 k h)

-- DIGITS SPELL THE NUMBER that was put in them, as far as they go
pub digits_spell : (base k n : ℕ) → 1 < base → base ≤ 16 → spelled base (digits base k n) k ≡ n % base ^ k
unfolding spelled digits
digits_spell base zero n h m = simp unary_clauses (sym (mod-one n))
digits_spell base (suc k) n h m =
    let some : 0 < base = omega arith in
    let front = digits base k (n / base) in
    let long = length_digits base k (n / base) in
    let d = n % base in
    let last : digit_of (get_or (front ++ (glyph d ∷ [])) k 0) ≡ d = ap digit_of (get_or_at front (glyph d) [] 0 k long) ∙ digit_back d (lt_of_lt_of_le (mod-lt n some) m) in
    let before : spelled base (front ++ (glyph d ∷ [])) k ≡ n / base % base ^ k = spelled_front base front (glyph d ∷ []) k (omega (arith, long)) ∙ digits_spell base k (n / base) h m in
    rw (last, before, pow-suc base k, mod-mul n {m = base ^ k} {c = base} (power k some) some, mul_comm base (n / base % base ^ k))
  where
    power : (j : ℕ) → 0 < base → 0 < base ^ j
    power zero s = simp unary_clauses (omega arith)
    power (suc j) s = rw (pow-suc base j) (mul-pos (power j s) s)
