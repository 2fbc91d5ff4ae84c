-- The digits of a part, read one after another.
-- Assumes nothing.
use Prim.Native.Nat.{ℕ, zero, suc, ◌+◌, ◌*◌, ◌^◌, ◌≤◌}
use native.Mathlib.Nat.{pow-suc, pow-le-pow_right}
use native.Mathlib.Numerals.{add-one}
use native.Mathlib.Omega.{arith}
use mathlib.Core.Path.{◌≡◌, refl}
use mathlib.Core.List.{List}
use lib.ListN.{length, get_or}
use Rattle.spelling.specs.Spelling.{digit_of, spelled}
use Rattle.spelling.proofs.Spells.{one_more, no_more_than}
use Rattle.reader.specs.Reader.{decimal_in}

pub none_yet : (w : List ℕ) → 0 ≡ spelled 10 w 0
unfolding spelled
none_yet w = refl

pub digit_more : (w : List ℕ) (k v : ℕ) {d : ℕ} → d ≡ digit_of (get_or w k 0) → v ≡ spelled 10 w k → 10 * v + d ≡ spelled 10 w (k + 1)
digit_more w k v e h = rw (add-one k) (one_more 10 w k e h)

pub all_read_lem : (w : List ℕ) (k : ℕ) → k ≡ length w → spelled 10 w k ≡ decimal_in w
unfolding decimal_in
all_read_lem w k e = rw e

-- ---- no digit counts more than 16, so so many of them fit a word of 64 bits

few : (w : List ℕ) (k : ℕ) → 9 * spelled 10 w k + 16 ≤ 16 * 10 ^ k
unfolding spelled
few w zero = omega arith
few w (suc k) = omega (arith, few w k, pow-suc 10 k, no_more_than (get_or w k 0))

pub small : (w : List ℕ) (k m : ℕ) → k ≤ m → 9 * spelled 10 w k + 16 ≤ 16 * 10 ^ m
small w k m h = omega (arith, few w k, pow-le-pow_right {n = 10} (omega arith) h)
