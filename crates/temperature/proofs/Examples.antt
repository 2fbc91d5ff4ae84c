-- Cases computed from the definitions: the ends of the range, the slip "adding 0.5 in floats", and a case in which results are rounded. H4 and
-- H6 of document 01 are rows of the table in the crate cases.
-- A float is `fin s m e`, which is ± m · 2^e, or `of_bits binary64` of its bits.
-- Assumes nothing.
use Rattle.std.proofs.Common.{◌≡◌, true, false, pos, negsuc, refl, Some, None}
use lib.Ieee.{nan, inf, fin, binary64, of_bits, mul, add, of_int}
use Rattle.temperature.specs.declared.Coefficients.{Coefficients}
use Rattle.temperature.specs.Equation.{hundred, equation_of}
use Rattle.temperature.specs.Nearest.{nearest_of}

-- the bits of 100 are those of 25 · 2^2
hundred_is : hundred ≡ fin false 25 (pos 2)
unfolding of_bits
hundred_is = refl

-- the upper end
pub highest : nearest_of (fin false 625 (pos 5)) ≡ Some (pos 20000)
unfolding nearest_of
highest = refl

-- the next float above 20,000
pub past_highest : nearest_of (of_bits binary64 0x40d3_8800_0000_0001) ≡ None
unfolding nearest_of of_bits
past_highest = refl

-- the other end, and the next float below it
lowest : nearest_of (fin true 625 (pos 4)) ≡ Some (negsuc 9999)
unfolding nearest_of
lowest = refl

past_lowest : nearest_of (of_bits binary64 0xc0c3_8800_0000_0001) ≡ None
unfolding nearest_of of_bits
past_lowest = refl

-- -2,000.5, and the float below a half: adding a half in floats goes wrong at both
half_below_2000 : nearest_of (fin true 4001 (negsuc 0)) ≡ Some (negsuc 2000)
unfolding nearest_of
half_below_2000 = refl

under_half : nearest_of (of_bits binary64 0x3fdf_ffff_ffff_ffff) ≡ Some (pos 0)
unfolding nearest_of of_bits
under_half = refl

no_number : nearest_of nan ≡ None
unfolding nearest_of
no_number = refl

infinite : nearest_of (inf true) ≡ None
unfolding nearest_of
infinite = refl

-- coefficients at which four of the six results are rounded: -40.1, 0.0078 and 10^-9, and raw 7,731
abbrev uneven : Coefficients
uneven = record { eq1 = of_bits binary64 0xc044_0ccc_cccc_cccd; eq2 = of_bits binary64 0x3f7f_f2e4_8e8a_71de; eq3 = of_bits binary64 0x3e11_2e0b_e826_d695 }

rounded : equation_of uneven 7731 ≡ of_bits binary64 0x409f_a8a0_99a4_8153
unfolding equation_of add mul of_int of_bits
rounded = refl
