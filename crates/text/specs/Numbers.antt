-- A word read as a number, a reading or a value.
-- Assumes nothing.
use Rattle.std.specs.Prelude.{ℕ, Bool, true, false, cond, ◌&&◌, List, ltb, leb, eqb, length, get_or, drop, Option, Some, None, ℤ, pos, neg_ℤ}
use Prim.Native.Char.{code as byte}
use Rattle.std.specs.Float.Ieee.{of_bits}
use Rattle.std.specs.Float.{binary64}
use Rattle.ground.specs.Below.{all_below}
use Rattle.settings.specs.declared.Value.TheVariants.{Whole, Coefficient}
use Rattle.settings.specs.declared.Value.{Value}
use Rattle.spelling.specs.Spelling.{bytes, same_b, digit_of, spelled}

-- ---- numbers

-- byte k of a word is a digit of this base
unfoldable pub digit_at : ℕ → List ℕ → ℕ → Bool
digit_at base w k = ltb (digit_of (get_or w k 0)) base

-- the largest number of 64 bits
abbrev pub largest : ℕ
largest = 18446744073709551615

-- at least one digit, nothing but digits, and a number that fits 64 bits
unfoldable pub is_number : ℕ → List ℕ → Bool
is_number base w = ltb 0 (length w) && (all_below (digit_at base w) (length w) && leb (spelled base w (length w)) largest)

unfoldable pub number_in : ℕ → List ℕ → Option ℕ
number_in base w = cond (is_number base w) (Some (spelled base w (length w))) None

-- exactly 16 hexadecimal digits
unfoldable pub hex_of : List ℕ → Option ℕ
hex_of w = cond (eqb (length w) 16) (number_in 16 w) None

-- a code has 32 bits
unfoldable pub code_of : ℕ → Option ℕ
code_of n = cond (ltb n 4294967296) (Some n) None

-- ---- readings: `-`, here `Some None`, stands for a failed sensor or a K that was not computed

abbrev pub reading_by : Option ℕ → Option (Option ℕ)
reading_by None = None
reading_by (Some n) = Some (Some n)

unfoldable pub reading_of : List ℕ → Option (Option ℕ)
reading_of w = cond (same_b w (bytes "-")) (Some None) (reading_by (number_in 10 w))

abbrev pub raw_by : Option (Option ℕ) → Option (Option ℕ)
raw_by None = None
raw_by (Some None) = Some None
raw_by (Some (Some n)) = cond (ltb n 65536) (Some (Some n)) None

abbrev pub pressure_by : Option (Option ℕ) → Option (Option ℕ)
pressure_by r = r

abbrev pub computed_by : Option (Option ℕ) → Option (Option ℕ)
computed_by r = r

-- ---- values

abbrev pub below_zero : ℕ → ℤ
below_zero n = neg_ℤ (pos n)

-- a signed number of 64 bits: -2^63 is the lowest, 2^63 - 1 the highest
abbrev pub whole_by : Bool → Option ℕ → Option Value
whole_by negative None = None
whole_by true (Some n) = cond (leb n 9223372036854775808) (Some (Whole (below_zero n))) None
whole_by false (Some n) = cond (ltb n 9223372036854775808) (Some (Whole (pos n))) None

-- a number below zero has `-` before its digits
unfoldable pub whole_of : List ℕ → Option Value
whole_of w = cond (eqb (get_or w 0 0) (byte "-")) (whole_by true (number_in 10 (drop 1 w))) (whole_by false (number_in 10 w))

-- the float of these bits, a NaN's and an infinity's too
abbrev pub coefficient_by : Option ℕ → Option Value
coefficient_by None = None
coefficient_by (Some n) = Some (Coefficient (of_bits binary64 n))

-- `w` and a whole number, or `c` and the bits of a coefficient
unfoldable pub value_in : List ℕ → List ℕ → Option Value
value_in kind w = cond (same_b kind (bytes "w")) (whole_of w) (cond (same_b kind (bytes "c")) (coefficient_by (hex_of w)) None)
