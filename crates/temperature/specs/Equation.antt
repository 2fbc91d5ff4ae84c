-- The temperature equation, operation by operation. `mul` and `add` of binary64 are the exact product and the exact sum, rounded once.
-- Assumes nothing.
use Rattle.std.specs.Prelude.{ℕ, pos, from_bits, Float}
use Rattle.std.specs.Float.{binary64}
use Rattle.std.specs.Float.Ieee.{mul, add, of_int}
use Rattle.temperature.specs.declared.Coefficients.{Coefficients}

-- 100, given by its bits
abbrev pub hundred : Float
hundred = from_bits binary64 0x4059_0000_0000_0000

-- the program forms b×b, Eq2×b, Eq3×(b×b), Eq1+(Eq2×b), the sum of the last two, and that times 100
unfoldable pub equation_of : Coefficients → ℕ → Float
equation_of c raw =
    let b = of_int binary64 (pos raw) in
    let square = mul binary64 b b in
    let linear = mul binary64 c.eq2 b in
    let quadratic = mul binary64 c.eq3 square in
    let start = add binary64 c.eq1 linear in
    let degrees = add binary64 start quadratic in
    mul binary64 degrees hundred
