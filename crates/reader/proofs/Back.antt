-- The digits of a message say its values: whatever bytes have the form of these values' message, their digits spell these values.
-- Assumes nothing.
use Prim.Native.Nat.{ℕ, zero, suc, ◌+◌, ◌*◌, ◌/◌, ◌%◌, ◌^◌, ◌≤◌, ◌<◌}
use native.Mathlib.Omega.{arith}
use mathlib.Core.Path.{◌≡◌, refl, sym, ap, ◌∙◌}
use mathlib.Core.List.{List, [], ◌∷◌}
use lib.ListN.{take, drop}
use lib.Seq.{take-take}
use Rattle.spelling.specs.Spelling.{digits}
use Rattle.spelling.proofs.Lent.{length_digits}
use Rattle.spelling.proofs.Spells.{digits_spell}
use Rattle.message.specs.declared.Values.{Values}
use Rattle.message.specs.Message.{cubic_metres, line, body, message, sayable, Fits}
use Rattle.reader.specs.Reader.{check_at, decimal_in, litres_on, values_on}

-- ---- parts

-- where the fronts of two lists are the same, so are the parts within them
part_same : (n a k : ℕ) (l m : List ℕ) → a + k ≤ n → take n l ≡ take n m → take k (drop a l) ≡ take k (drop a m)
part_same n a k l m h e = sym (within n a k l h) ∙ ap (λ (x : List ℕ). take k (drop a x)) e ∙ within n a k m h
  where
    within : (n a k : ℕ) (l : List ℕ) → a + k ≤ n → take k (drop a (take n l)) ≡ take k (drop a l)
    within n zero k l h = take-take k n l (omega arith)
    within zero (suc a) k l h = absurd (omega arith)
    within (suc n) (suc a) k [] h = refl
    within (suc n) (suc a) k (x ∷ l) h = within n a k l (omega arith)

-- ---- digits

digits_spelled : (k n : ℕ) → decimal_in (digits 10 k n) ≡ n % 10 ^ k
unfolding decimal_in
digits_spelled k n = rw (length_digits 10 k n) (digits_spell 10 k n (omega arith) (omega arith))

-- the last twelve digits of a number
abbrev pub twelve : ℕ → ℕ
twelve n = 1000 * (n / 1000 % 10 ^ 9) + n % 10 ^ 3

-- ---- the lines of a message

-- at the places of line k stand the digits of this value
record Stands (m : List ℕ) (k n : ℕ) : Type 0 where
  nine : take 9 (drop (7 + 25 * k) m) ≡ digits 10 9 (n / 1000)
  three : take 3 (drop (17 + 25 * k) m) ≡ digits 10 3 n

record Lines (m : List ℕ) (v : Values) : Type 0 where
  vb : Stands m 0 v.vb
  vbd : Stands m 1 v.vbd
  vbt : Stands m 2 v.vbt
  vm : Stands m 3 v.vm
  vmd : Stands m 4 v.vmd
  vmt : Stands m 5 v.vmt

lines : (v : Values) → Lines (message v) v
unfolding message body line cubic_metres digits
lines v =
    record {
      vb = record { nine = refl; three = refl };
      vbd = record { nine = refl; three = refl };
      vbt = record { nine = refl; three = refl };
      vm = record { nine = refl; three = refl };
      vmd = record { nine = refl; three = refl };
      vmt = record { nine = refl; three = refl };
    }

module _ (b : List ℕ) (v : Values) (same : take check_at b ≡ take check_at (message v)) where
  line_says : (k n : ℕ) → k < 6 → Stands (message v) k n → litres_on k b ≡ twelve n
  unfolding litres_on
  line_says k n h s =
      let nine = part_same check_at (7 + 25 * k) 9 b (message v) (omega arith) same ∙ s.nine in
      let three = part_same check_at (17 + 25 * k) 3 b (message v) (omega arith) same ∙ s.three in
      rw (nine, three, digits_spelled 9 (n / 1000), digits_spelled 3 n)

  -- THE DIGITS SAY THE VALUES
  pub values_back : Fits v → values_on b ≡ v
  unfolding values_on
  values_back f =
      let l = lines v in
      rw (
        all 0 v.vb (omega arith) f.vb l.vb,
        all 1 v.vbd (omega arith) f.vbd l.vbd,
        all 2 v.vbt (omega arith) f.vbt l.vbt,
        all 3 v.vm (omega arith) f.vm l.vm,
        all 4 v.vmd (omega arith) f.vmd l.vmd,
        all 5 v.vmt (omega arith) f.vmt l.vmt,
      )
    where
      all : (k n : ℕ) → k < 6 → sayable n → Stands (message v) k n → litres_on k b ≡ n
      all k n h f s = line_says k n h s ∙ omega arith

  -- values whose message this is, and which the digits spell, have no more than twelve digits
  pub values_fit : values_on b ≡ v → Fits v
  unfolding values_on
  values_fit e =
      let l = lines v in
      record {
        vb = few 0 v.vb (omega arith) (ap (λ (x : Values). x.vb) e) l.vb;
        vbd = few 1 v.vbd (omega arith) (ap (λ (x : Values). x.vbd) e) l.vbd;
        vbt = few 2 v.vbt (omega arith) (ap (λ (x : Values). x.vbt) e) l.vbt;
        vm = few 3 v.vm (omega arith) (ap (λ (x : Values). x.vm) e) l.vm;
        vmd = few 4 v.vmd (omega arith) (ap (λ (x : Values). x.vmd) e) l.vmd;
        vmt = few 5 v.vmt (omega arith) (ap (λ (x : Values). x.vmt) e) l.vmt;
      }
    where
      few : (k n : ℕ) → k < 6 → litres_on k b ≡ n → Stands (message v) k n → sayable n
      few k n h e s = let t : n ≡ twelve n = sym e ∙ line_says k n h s in omega arith
