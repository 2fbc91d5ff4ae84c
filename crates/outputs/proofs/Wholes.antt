-- Whole weights and what they leave, for a weight in any unit. Where the weight is 0 there is no pulse, and nothing is left.
-- Assumes nothing.
use Rattle.std.proofs.Common.{◌≡◌, ℕ, zero, suc, ◌+◌, ◌*◌, ◌/◌, ◌%◌, ◌<◌, sym, refl, ap, ◌∙◌, mod-lt, div-add-mod', arith, ne_eqb}
use native.Mathlib.Nat.{mul-add-div_right, div-zero, zero-div, zero-mod, mod-add-mod}
use Rattle.outputs.specs.Outputs.{wholes, rest_of}

-- ---- a weight that is not 0

module _ (w : ℕ) (p : 0 < w) where
  pub rest_is : (s : ℕ) → rest_of w s ≡ s % w
  unfolding rest_of
  rest_is s = rw (ne_eqb w 0 (λ e. omega arith))

  pub rest_below : (s : ℕ) → rest_of w s < w
  rest_below s = rw (rest_is s) (mod-lt s p)

  -- the whole weights of a sum: those of the first, and those of what it leaves with the second
  wholes_on : (s y : ℕ) → wholes w (s + y) ≡ wholes w s + wholes w (s % w + y)
  wholes_on s y =
      let e : s + y ≡ s / w * w + (s % w + y) = omega (arith, div-add-mod' s w) in
      ap (wholes w) e ∙ mul-add-div_right p (s / w) (s % w + y)

  -- those of the first, of the second, and of what both leave
  pub wholes_parts : (s y : ℕ) → wholes w (s + y) ≡ wholes w s + (wholes w y + wholes w (s % w + y % w))
  wholes_parts s y =
      let e : s % w + y ≡ y / w * w + (s % w + y % w) = omega (arith, div-add-mod' y w) in
      wholes_on s y ∙ ap (λ (n : ℕ). wholes w s + n) (ap (wholes w) e ∙ mul-add-div_right p (y / w) (s % w + y % w))

-- ---- any weight

pub rest_zero : (w : ℕ) → rest_of w 0 ≡ 0
unfolding rest_of
rest_zero zero = refl
rest_zero (suc w) = rest_is (suc w) (omega arith) 0 ∙ zero-mod (suc w)

-- two amounts one after the other leave what their sum leaves, and have as many whole weights
pub rest_twice : (w s y : ℕ) → rest_of w (rest_of w s + y) ≡ rest_of w (s + y)
unfolding rest_of
rest_twice zero s y = refl
rest_twice (suc w) s y =
    let p : 0 < suc w = omega arith in
    rest_is (suc w) p (rest_of (suc w) s + y) ∙ ap (λ (n : ℕ). (n + y) % suc w) (rest_is (suc w) p s) ∙ mod-add-mod s (suc w) y ∙ sym (rest_is (suc w) p (s + y))

pub wholes_twice : (w s y : ℕ) → wholes w (s + y) ≡ wholes w s + wholes w (rest_of w s + y)
wholes_twice zero s y = omega (arith, div-zero (s + y), div-zero s, div-zero (rest_of 0 s + y))
wholes_twice (suc w) s y =
    let p : 0 < suc w = omega arith in
    wholes_on (suc w) p s y ∙ ap (λ (n : ℕ). wholes (suc w) s + wholes (suc w) (n + y)) (sym (rest_is (suc w) p s))

pub wholes_zero : (w : ℕ) → wholes w 0 ≡ 0
wholes_zero w = zero-div w
