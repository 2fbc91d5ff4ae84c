-- Signed numbers: a local holds bits.
-- Assumes nothing.
use mathlib.Core.Path.{◌≡◌}
use lib.IntN.{ℤ}
use mir.Syntax.{w64}
use mir.Val.{to_z, of_z, SFits}
use mir.Facts.{to_z-of_z}

-- the bits of a number stand for that number, where it fits
pub back : {z : ℤ} → SFits w64 z → to_z w64 (of_z w64 z) ≡ z
back f = to_z-of_z f
