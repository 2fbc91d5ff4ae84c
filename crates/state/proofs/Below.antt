-- What a chain that tests each place says of `all_below` and `any_below`.
-- Assumes nothing.
use mathlib.Core.Path.{◌≡◌, refl, sym, ◌∙◌}
use mathlib.Core.Bool.{Bool, true, false, true≢false}
use Prim.Native.Nat.{ℕ, zero, suc, ◌<◌}
use native.Mathlib.Omega.{arith}
use Rattle.ground.specs.Below.{all_below, any_below}
use Rattle.ground.proofs.Every.{all_each, each_all, none_each}
use Rattle.ground.proofs.Flags.{Either, is_true, is_false, either_of}

-- some place below n fails
pub record Fails (f : ℕ → Bool) (n : ℕ) : Type 0 where
  pub at : ℕ
  pub below : at < n
  pub fails : f at ≡ false

pub all_is : (f : ℕ → Bool) (n : ℕ) (b : Bool) → (b ≡ true → (k : ℕ) → k < n → f k ≡ true) → (b ≡ false → Fails f n) → b ≡ all_below f n
all_is f n true g h = sym (each_all f n (g refl))
all_is f n false g h = by_test (either_of (all_below f n))
  where
    by_test : Either (all_below f n) → false ≡ all_below f n
    by_test (is_true t) = absurd (true≢false (sym (all_each f n t (h refl).at (h refl).below) ∙ (h refl).fails))
    by_test (is_false e) = sym e

-- some place below n passes
pub record Holds (f : ℕ → Bool) (n : ℕ) : Type 0 where
  pub at : ℕ
  pub below : at < n
  pub holds : f at ≡ true

each_none : (f : ℕ → Bool) (n : ℕ) → ((k : ℕ) → k < n → f k ≡ false) → any_below f n ≡ false
unfolding any_below
each_none f zero g = refl
each_none f (suc n) g = rw (g n (omega arith), each_none f n (λ k l. g k (omega arith)))

pub any_is : (f : ℕ → Bool) (n : ℕ) (b : Bool) → (b ≡ false → (k : ℕ) → k < n → f k ≡ false) → (b ≡ true → Holds f n) → b ≡ any_below f n
any_is f n true g h = by_test (either_of (any_below f n))
  where
    by_test : Either (any_below f n) → true ≡ any_below f n
    by_test (is_true t) = sym t
    by_test (is_false e) = absurd (true≢false (sym (h refl).holds ∙ none_each f n e (h refl).at (h refl).below))
any_is f n false g h = sym (each_none f n (g refl))
