-- Where the digits of a message stand.
-- Assumes nothing.
use Prim.Native.Nat.{ℕ, ◌+◌, ◌-◌, ◌*◌, ◌^◌, ◌≤◌}
use native.Mathlib.Omega.{arith}
use mathlib.Core.Path.{◌≡◌}
use mathlib.Core.List.{List}
use lib.ListN.{length, take, drop, length-take}
use Rattle.reader.specs.Reader.{decimal_in, litres_on}
use Rattle.reader.proofs.Digits.{small}

-- so many digits say no more than this
digits_small : (m n : ℕ) (l : List ℕ) → n ≤ m → 9 * decimal_in (take n l) + 16 ≤ 16 * 10 ^ m
unfolding decimal_in
digits_small m n l h = small (take n l) (length (take n l)) m (omega (arith, h, length-take n l))

-- the digits of line k, before and behind its point
module _ (b : List ℕ) (k x : ℕ) (e : x ≡ decimal_in (take (7 + 25 * k + 9 - (7 + 25 * k)) (drop (7 + 25 * k) b))) where
  pub nine_small : 9 * x + 16 ≤ 16 * 10 ^ 9
  nine_small = rw e (digits_small 9 (7 + 25 * k + 9 - (7 + 25 * k)) (drop (7 + 25 * k) b) (omega arith))

  module _ (y : ℕ) (f : y ≡ decimal_in (take (7 + 25 * k + 9 + 1 + 3 - (7 + 25 * k + 9 + 1)) (drop (7 + 25 * k + 9 + 1) b))) where
    pub three_small : 9 * y + 16 ≤ 16 * 10 ^ 3
    three_small = rw f (digits_small 3 (7 + 25 * k + 9 + 1 + 3 - (7 + 25 * k + 9 + 1)) (drop (7 + 25 * k + 9 + 1) b) (omega arith))

    pub litres_is : 1000 * x + y ≡ litres_on k b
    unfolding litres_on
    litres_is =
        let nine : 7 + 25 * k + 9 - (7 + 25 * k) ≡ 9 = omega arith in
        let three : 7 + 25 * k + 9 + 1 + 3 - (7 + 25 * k + 9 + 1) ≡ 3 = omega arith in
        let at : 7 + 25 * k + 9 + 1 ≡ 17 + 25 * k = omega arith in
        rw (e, f, nine, three, at)
