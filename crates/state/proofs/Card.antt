-- The fault card: a row passes exactly where it does not apply and the rows after it pass.
-- Assumes nothing.
use mathlib.Core.Path.{◌≡◌, refl}
use mathlib.Core.Bool.{Bool, true, false, not, cond, true≢false}
use Prim.Native.Nat.{ℕ, ◌<◌}
use native.Mathlib.Omega.{arith}

pub record Passes (b : Bool) (rest : ℕ) : Type 0 where
  pub here : b ≡ false
  pub later : rest ≡ 0

-- the answer is 0, so this row, whose number is not 0, does not apply
pub passes : (n : ℕ) (b : Bool) (rest : ℕ) → 0 < n → cond b n rest ≡ 0 → Passes b rest
passes n true rest p e = absurd (omega arith)
passes n false rest p e = record { here = refl; later = e }

pub not_false : (b : Bool) → not b ≡ false → b ≡ true
not_false true e = refl
not_false false e = absurd (true≢false e)
