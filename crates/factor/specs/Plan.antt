-- What the code works out. Its numbers have 64 bits, so it works the factor out where its five inputs are in their ranges, and gives 0
-- elsewhere. No whole device asks elsewhere. The law that both are the same inside the ranges is `guarded` in proofs/Laws.antt.
-- Assumes nothing.
use Rattle.std.specs.Prelude.{Bool, cond, ◌&&◌, ℕ, leb}
use Rattle.ground.specs.Ranges.{least_k, most_k, least_p, most_p, least_pb, most_pb, least_tb, most_tb, least_kelvin, most_kelvin}
use Rattle.factor.specs.Factor.{factor_of}

-- the ends of a range belong to it
unfoldable pub in_range : ℕ → ℕ → ℕ → Bool
in_range low high x = leb low x && leb x high

-- p and pb in pascals, Tb and T in hundredths of a kelvin, K
unfoldable pub in_ranges : ℕ → ℕ → ℕ → ℕ → ℕ → Bool
in_ranges p tb pb t k =
    in_range least_p most_p p && (in_range least_tb most_tb tb && (in_range least_pb most_pb pb && (in_range least_kelvin most_kelvin t && in_range least_k most_k k)))

unfoldable pub factor_guarded : ℕ → ℕ → ℕ → ℕ → ℕ → ℕ
factor_guarded p tb pb t k = cond (in_ranges p tb pb t k) (factor_of p tb pb t k) 0
