-- The code tests a range by the library's order, and the definitions by which of two numbers is less. Both take the same.
-- Assumes nothing.
use Rattle.std.proofs.Common.{◌≡◌, ℕ, Bool, true, false, not, ◌&&◌, ◌||◌, cond, ℤ, Some, refl, ap, ◌∙◌, ltb, Ordering, Less, Equal, Greater}
use Rattle.std.specs.Ordering.{is_lt, is_le, ordering_reverse, nat_cmp, int_cmp, partial_le}
use Rattle.std.specs.Cmp.{IsTotalOrder}
use Rattle.std.proofs.lemmas.Cmp.{nat_cmp_total, int_cmp_total}
use lib.Dec.{eqb}
use lib.Signed.{lt_z}
use Rattle.readings.specs.Taken.{taken_by}
use Rattle.readings.specs.Plan.{kept_by}

-- what is chosen is `Less` only where the test passes
chosen : (b c : Bool) (x y : Ordering) → is_lt x ≡ false → is_lt y ≡ false → is_lt (cond b Less (cond c x y)) ≡ b
chosen true c x y f g = refl
chosen false true x y f g = f
chosen false false x y f g = g

reversed : (o : Ordering) → is_le (ordering_reverse o) ≡ not (is_lt o)
reversed Less = refl
reversed Equal = refl
reversed Greater = refl

inside : {A : Type 0} (p q : Bool) (u v : A) → cond (not p && not q) u v ≡ cond (p || q) v u
inside true q u v = refl
inside false true u v = refl
inside false false u v = refl

module _ {V : Type 0} (order : V → V → Ordering) (total : IsTotalOrder order) (less : V → V → Bool) (same : (a b : V) → is_lt (order a b) ≡ less a b) where
  at_most : (a b : V) → is_le (order a b) ≡ not (less b a)
  at_most a b = ap is_le (total.antisymm a b) ∙ reversed (order b a) ∙ ap not (same b a)

  pub kept_is : (lowest highest fixed x : V) → kept_by (partial_le (λ (a b : V). Some (order a b))) lowest highest fixed x ≡ taken_by less lowest highest fixed x
  kept_is lowest highest fixed x = rw (at_most lowest x, at_most x highest) (inside (less x lowest) (less highest x) _ _)

pub nat_kept : (lowest highest fixed x : ℕ) → kept_by (partial_le (λ (a b : ℕ). Some (nat_cmp a b))) lowest highest fixed x ≡ taken_by ltb lowest highest fixed x
nat_kept = kept_is nat_cmp nat_cmp_total ltb (λ a b. chosen (ltb a b) (eqb a b) Equal Greater refl refl)

pub int_kept : (lowest highest fixed x : ℤ) → kept_by (partial_le (λ (a b : ℤ). Some (int_cmp a b))) lowest highest fixed x ≡ taken_by lt_z lowest highest fixed x
int_kept = kept_is int_cmp int_cmp_total lt_z (λ a b. chosen (lt_z a b) (lt_z b a) Greater Equal refl refl)
