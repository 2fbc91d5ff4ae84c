-- A float is finite exactly when it less itself is 0.
-- Assumes nothing.
use mathlib.Core.Path.{◌≡◌, refl, sym, ◌∙◌}
use mathlib.Core.Bool.{Bool, true, false, not}
use Prim.Native.Nat.{ℕ, ◌*◌, ◌<◌}
use native.Mathlib.Nat.{zero-mul, sub_self, mul-pos, le_refl}
use native.Mathlib.Omega.{arith}
use lib.IntN.{pos}
use lib.Ieee.{Float, nan, inf, fin, binary64, up, down, round, sum, add, sub, neg, eq, of_bits}
use lib.Ieee.Fits.{down_pos}
use lib.Ieee.Scale.{round_same}
use borrow.Author.Tests.{le-ltb}
use Rattle.settings.specs.Settings.{is_finite}

zero_one : round binary64 false 0 1 ≡ fin false 0 (pos 0)
unfolding round
zero_one = refl

-- a fraction of 0 rounds to 0
zero_round : (d : ℕ) → 0 < d → round binary64 false 0 d ≡ fin false 0 (pos 0)
zero_round d p = round_same binary64 false 0 d 0 1 p (omega arith) (zero-mul 1 ∙ sym (zero-mul d)) ∙ zero_one

-- a number and the same with the other sign add up to 0
opposite : (s : Bool) (a d : ℕ) → 0 < d → sum binary64 s a (not s) a d ≡ fin false 0 (pos 0)
unfolding sum
opposite true a d p = simp (le-ltb a a (le_refl a), sub_self a, zero_round d p)
opposite false a d p = simp (le-ltb a a (le_refl a), sub_self a, zero_round d p)

zero_is_zero : {z : Float} → z ≡ fin false 0 (pos 0) → eq z (of_bits binary64 0) ≡ true
unfolding eq of_bits
zero_is_zero e = rw e

pub less_itself : (x : Float) → eq (sub binary64 x x) (of_bits binary64 0) ≡ is_finite x
unfolding is_finite eq sub add neg of_bits
less_itself nan = refl
less_itself (inf true) = refl
less_itself (inf false) = refl
less_itself (fin s m e) = zero_is_zero (opposite s (m * up e * down e) (down e * down e) (mul-pos (down_pos e) (down_pos e)))
