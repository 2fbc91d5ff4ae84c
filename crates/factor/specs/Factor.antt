-- The conversion factor of a measuring cycle (document 01, "One measuring cycle", 5).
-- Assumes nothing.
use Rattle.std.specs.Prelude.{ℕ, ◌+◌, ◌*◌, ◌/◌}
use Rattle.ground.specs.Ranges.{k_scale}

-- the whole number nearest to n / d, halves up
unfoldable pub nearest_fraction : ℕ → ℕ → ℕ
nearest_fraction n d = (2 * n + d) / (2 * d)

-- C = (p/pb)·(Tb/T)·(1/K) in hundred-thousandths is p·Tb·10^9 / (pb·T·K)
abbrev pub numerator : ℕ → ℕ → ℕ
numerator p tb = p * tb * (100000 * k_scale)

abbrev pub denominator : ℕ → ℕ → ℕ → ℕ
denominator pb t k = pb * t * k

-- the factor, from p, Tb, pb, T in hundredths of a kelvin, and K
unfoldable pub factor_of : ℕ → ℕ → ℕ → ℕ → ℕ → ℕ
factor_of p tb pb t k = nearest_fraction (numerator p tb) (denominator pb t k)
