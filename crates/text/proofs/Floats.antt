-- Which bit patterns of 64 bits are a NaN's, and that 0 by 0 is the one NaN.
-- Assumes nothing.
use mathlib.Core.Path.{◌≡◌, refl, sym, ◌∙◌, subst}
use mathlib.Core.Bool.{Bool, true, not}
use Prim.Native.Nat.{ℕ, ◌%◌, ◌<◌, ◌≤◌}
use lib.Dec.{T}
use lib.Ieee.{Float, nan, inf, fin, binary64, of_bits, nan_bits, is_nan, div}
use lib.Ieee.Bits.{nan_bits_is, nan_bits_above}
use borrow.Author.Tests.{lt-ltb, le-ltb}

-- the pattern of an infinity without its sign, and the sign's weight
abbrev pub infinite : ℕ
infinite = 9218868437227405312

abbrev pub sign : ℕ
sign = 9223372036854775808

one_nan : (x : Float) → is_nan x ≡ true → nan ≡ x
unfolding is_nan
one_nan nan e = refl
one_nan (inf s) e = absurd (subst T (sym e) tt)
one_nan (fin s m d) e = absurd (subst T (sym e) tt)

zero_by_zero : div binary64 (of_bits binary64 0) (of_bits binary64 0) ≡ nan
unfolding div of_bits
zero_by_zero = refl

pub nan_made : (bits : ℕ) → infinite < bits % sign → div binary64 (of_bits binary64 0) (of_bits binary64 0) ≡ of_bits binary64 bits
nan_made bits h = zero_by_zero ∙ one_nan (of_bits binary64 bits) (sym (nan_bits_is binary64 bits) ∙ nan_bits_above binary64 bits ∙ lt-ltb infinite (bits % sign) h)

pub no_nan : (bits : ℕ) → bits % sign ≤ infinite → T (not (nan_bits binary64 bits))
no_nan bits h = subst (λ (b : Bool). T (not b)) (sym (nan_bits_above binary64 bits ∙ le-ltb infinite (bits % sign) h)) tt
