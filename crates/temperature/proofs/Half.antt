-- Half of a whole number t, rounded away from zero, is t / 2 + t % 2 on machine numbers: t, its half, the remainder and their sum all fit.
-- A local holds bits; `to_z-of_z` reads back the number that was written.
-- Assumes nothing.
use Rattle.std.proofs.Common.{◌≡◌, ℕ, zero, suc, ◌+◌, ◌/◌, ◌%◌, ◌^◌, ◌<◌, ◌≤◌, ℤ, pos, negsuc, ◌+ℤ◌, neg_ℤ, sym, ap, ◌∙◌, subst, zero-le, lt_of_le_of_lt, arith, w64, SFits, to_z, of_z}
use lib.IntN.{neg_ℤ-+ℤ}
use lib.Signed.{mag, quot_z, rem_z, mag_rem}
use mir.ValLaws.{to_z-of_z, sfits_le}

abbrev pub half_away : ℤ → ℤ
half_away (pos n) = pos ((n + 1) / 2)
half_away (negsuc n) = neg_ℤ (pos ((n + 2) / 2))

mag_minus : (r a : ℕ) → r ≤ suc a → mag (neg_ℤ (pos r)) ≤ a
mag_minus zero a h = zero-le
mag_minus (suc r) a h = omega arith

mag_half : (z : ℤ) → mag (quot_z z (pos 2)) ≤ mag z
mag_half (pos a) = omega arith
mag_half (negsuc a) = mag_minus (suc a / 2) a (omega arith)

half_and_rest : (z : ℤ) → quot_z z (pos 2) +ℤ rem_z z (pos 2) ≡ half_away z
half_and_rest (pos a) = ap pos (omega arith)
half_and_rest (negsuc a) =
    let h : suc a / 2 + suc a % 2 ≡ (a + 2) / 2 = omega arith in
    sym (neg_ℤ-+ℤ (pos (suc a / 2)) (pos (suc a % 2))) ∙ ap (λ (k : ℕ). neg_ℤ (pos k)) h

half_away_fits : (z : ℤ) → SFits w64 z → SFits w64 (half_away z)
half_away_fits (pos a) f = record { sfits = smaller a f.sfits }
  where
    smaller : (a : ℕ) → a < 2 ^ 63 → (a + 1) / 2 < 2 ^ 63
    smaller a h = omega arith
half_away_fits (negsuc a) f = record { sfits = lt_of_le_of_lt (mag_minus ((a + 2) / 2) a (omega arith)) f.sfits }

-- for a t that fits, as the machine reads it back from its bits
module _ (t : ℤ) (f : SFits w64 t) where
  abbrev pub held : ℤ
  held = to_z w64 (of_z w64 t)

  pub half_fits : SFits w64 (quot_z held (pos 2))
  half_fits = subst (λ (z : ℤ). SFits w64 (quot_z z (pos 2))) (sym (to_z-of_z w64 t f)) (sfits_le (mag_half t) f)

  rest_fits : SFits w64 (rem_z held (pos 2))
  rest_fits = subst (λ (z : ℤ). SFits w64 (rem_z z (pos 2))) (sym (to_z-of_z w64 t f)) (sfits_le (mag_rem t (pos 2)) f)

  pub sum_is : to_z w64 (of_z w64 (quot_z held (pos 2))) +ℤ to_z w64 (of_z w64 (rem_z held (pos 2))) ≡ half_away t
  sum_is =
      ap (λ (z : ℤ). z +ℤ to_z w64 (of_z w64 (rem_z held (pos 2)))) (to_z-of_z w64 (quot_z held (pos 2)) half_fits)
      ∙ ap (λ (z : ℤ). quot_z held (pos 2) +ℤ z) (to_z-of_z w64 (rem_z held (pos 2)) rest_fits)
      ∙ ap (λ (z : ℤ). quot_z z (pos 2) +ℤ rem_z z (pos 2)) (to_z-of_z w64 t f)
      ∙ half_and_rest t

  pub sum_fits : SFits w64 (to_z w64 (of_z w64 (quot_z held (pos 2))) +ℤ to_z w64 (of_z w64 (rem_z held (pos 2))))
  sum_fits = subst (λ (z : ℤ). SFits w64 z) (sym sum_is) (half_away_fits t f)
