-- The whole number nearest the exact value of a float, halves away from zero, for a float within -10,000..20,000.
-- A finite float is `fin s m e`: ± m · 2^e, with a minus where s is true. Its size m · 2^e is written n / d in whole numbers: n is
-- m · up e and d is down e, and one of up e and down e is 1.
-- Assumes nothing.
use Rattle.std.specs.Prelude.{ℕ, ◌+◌, ◌*◌, ◌/◌, Bool, true, false, cond, ℤ, pos, neg_ℤ, nat_le, unsigned_abs, Option, Some, None, Float}
use Rattle.std.specs.Float.{nan, inf, fin}
use Rattle.std.specs.Float.Ieee.{up, down}
use Rattle.ground.specs.Ranges.{coldest, hottest}

-- n / d with the sign s is within -10,000..20,000, after multiplying out
abbrev pub in_range : Bool → ℕ → ℕ → Bool
in_range false n d = nat_le n (unsigned_abs hottest * d)
in_range true n d = nat_le n (unsigned_abs coldest * d)

-- the whole number nearest n / d, the larger of two equally near: the whole part of n / d + 1 / 2
abbrev pub nearest_size : ℕ → ℕ → ℕ
nearest_size n d = (2 * n + d) / (2 * d)

-- halves away from zero: the size is rounded, and the sign put back
abbrev pub signed : Bool → ℕ → ℤ
signed false r = pos r
signed true r = neg_ℤ (pos r)

-- T.Mes in hundredths of a degree; None: the measurement failed. An x that is not a number, or not within -10,000..20,000, counts as failed
unfoldable pub nearest_of : Float → Option ℤ
nearest_of nan = None
nearest_of (inf s) = None
nearest_of (fin s m e) = cond (in_range s (m * up e) (down e)) (Some (signed s (nearest_size (m * up e) (down e)))) None
