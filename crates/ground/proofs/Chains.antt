-- What a chain of iterators comes to, in the words of `Below`: over the numbers below n, and over a list with its places.
-- Assumes nothing.
use mathlib.Core.Path.{◌≡◌, refl, sym, ap, ◌∙◌}
use mathlib.Core.Bool.{Bool, true, false, ◌&&◌, ◌||◌}
use mathlib.Core.List.{List, [], ◌∷◌, map}
use Prim.Native.Nat.{ℕ, zero, suc, ◌+◌, ◌<◌}
use native.Mathlib.Nat.{add-zero, zero-add}
use native.Mathlib.Omega.{arith}
use lib.ListN.{length, get_or}
use Rattle.std.specs.List.{list_all, list_any, range_with_len, enumerate_from}
use lib.Seq.{take_all}
use Rattle.ground.specs.Below.{all_below, any_below, listed}
use Rattle.ground.proofs.Listed.{listed_take, listed_same}

-- ---- from the first on, and from the last on

and_swap : (a b c : Bool) → (a && (b && c)) ≡ (b && (a && c))
and_swap true b c = refl
and_swap false true c = refl
and_swap false false c = refl

or_swap : (a b c : Bool) → (a || (b || c)) ≡ (b || (a || c))
or_swap false b c = refl
or_swap true true c = refl
or_swap true false c = refl

first_all : (f : ℕ → Bool) (n : ℕ) → (f 0 && all_below (λ k. f (suc k)) n) ≡ all_below f (suc n)
unfolding all_below
first_all f zero = refl
first_all f (suc n) = and_swap (f 0) (f (suc n)) (all_below (λ k. f (suc k)) n) ∙ ap (λ (b : Bool). f (suc n) && b) (first_all f n)

first_any : (f : ℕ → Bool) (n : ℕ) → (f 0 || any_below (λ k. f (suc k)) n) ≡ any_below f (suc n)
unfolding any_below
first_any f zero = refl
first_any f (suc n) = or_swap (f 0) (f (suc n)) (any_below (λ k. f (suc k)) n) ∙ ap (λ (b : Bool). f (suc n) || b) (first_any f n)

-- ---- over the numbers below n

all_from : (f g : ℕ → Bool) (m n : ℕ) → ((k : ℕ) → f (m + k) ≡ g k) → list_all f (range_with_len m n) ≡ all_below g n
unfolding all_below
all_from f g m zero h = refl
all_from f g m (suc n) h =
    let one : f m ≡ g 0 = rw add-zero at (h 0) in
    let more = all_from f (λ k. g (suc k)) (m + 1) n (λ k. let e : m + 1 + k ≡ m + suc k = omega arith in rw e (h (suc k))) in
    rw (one, more) (first_all g n)

pub all_range : (f : ℕ → Bool) (n : ℕ) → list_all f (range_with_len 0 n) ≡ all_below f n
all_range f n = all_from f f 0 n (λ k. ap f (zero-add k))

any_from : (f g : ℕ → Bool) (m n : ℕ) → ((k : ℕ) → f (m + k) ≡ g k) → list_any f (range_with_len m n) ≡ any_below g n
unfolding any_below
any_from f g m zero h = refl
any_from f g m (suc n) h =
    let one : f m ≡ g 0 = rw add-zero at (h 0) in
    let more = any_from f (λ k. g (suc k)) (m + 1) n (λ k. let e : m + 1 + k ≡ m + suc k = omega arith in rw e (h (suc k))) in
    rw (one, more) (first_any g n)

pub any_range : (f : ℕ → Bool) (n : ℕ) → list_any f (range_with_len 0 n) ≡ any_below f n
any_range f n = any_from f f 0 n (λ k. ap f (zero-add k))

module _ {A : Type 0} where
  map_from : (f g : ℕ → A) (m n : ℕ) → ((k : ℕ) → f (m + k) ≡ g k) → map f (range_with_len m n) ≡ listed g n
  unfolding listed
  map_from f g m zero h = refl
  map_from f g m (suc n) h =
      let one : f m ≡ g 0 = rw add-zero at (h 0) in
      let more = map_from f (λ k. g (suc k)) (m + 1) n (λ k. let e : m + 1 + k ≡ m + suc k = omega arith in rw e (h (suc k))) in
      rw (one, more)

  pub map_range : (f : ℕ → A) (n : ℕ) → map f (range_with_len 0 n) ≡ listed f n
  map_range f n = map_from f f 0 n (λ k. ap f (zero-add k))

  -- ---- over a list with its places

  all_placed : (f : ℕ × A → Bool) (g : ℕ → Bool) (d : A) (m : ℕ) (xs : List A) → ((k : ℕ) → f (m + k, get_or xs k d) ≡ g k) → list_all f (enumerate_from m xs) ≡ all_below g (length xs)
  unfolding all_below
  all_placed f g d m [] h = refl
  all_placed f g d m (x ∷ xs) h =
      let one : f (m, x) ≡ g 0 = rw add-zero at (h 0) in
      let more = all_placed f (λ k. g (suc k)) d (m + 1) xs (λ k. let e : m + 1 + k ≡ m + suc k = omega arith in rw e (h (suc k))) in
      rw (one, more) (first_all g (length xs))

  pub all_places : (f : ℕ × A → Bool) (d : A) (xs : List A) (n : ℕ) → length xs ≡ n → list_all f (enumerate_from 0 xs) ≡ all_below (λ k. f (k, get_or xs k d)) n
  all_places f d xs n e = rw (← e) (all_placed f (λ k. f (k, get_or xs k d)) d 0 xs (λ k. ap (λ (j : ℕ). f (j, get_or xs k d)) (zero-add k)))

  -- ---- over a list

  all_listed : (f : A → Bool) (g : ℕ → Bool) (d : A) (xs : List A) → ((k : ℕ) → f (get_or xs k d) ≡ g k) → list_all f xs ≡ all_below g (length xs)
  unfolding all_below
  all_listed f g d [] h = refl
  all_listed f g d (x ∷ xs) h =
      let one : f x ≡ g 0 = h 0 in
      let more = all_listed f (λ k. g (suc k)) d xs (λ k. h (suc k)) in
      rw (one, more) (first_all g (length xs))

  pub all_items : (f : A → Bool) (d : A) (xs : List A) → list_all f xs ≡ all_below (λ k. f (get_or xs k d)) (length xs)
  all_items f d xs = all_listed f (λ k. f (get_or xs k d)) d xs (λ k. refl)

  -- a list each of whose entries f gives
  pub listed_by : (f : ℕ → A) (d : A) (n : ℕ) (xs : List A) → length xs ≡ n → ((k : ℕ) → k < n → get_or xs k d ≡ f k) → xs ≡ listed f n
  listed_by f d n xs e h = sym (take_all n xs (omega arith)) ∙ sym (listed_take xs d n (omega arith)) ∙ listed_same (λ k. get_or xs k d) f n h
