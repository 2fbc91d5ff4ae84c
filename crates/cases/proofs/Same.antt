-- An answer that passes a row's test equals the answer that the row gives.
-- Assumes nothing.
use mathlib.Core.Path.{◌≡◌, refl, ap}
use mathlib.Core.Bool.{Bool, true, false, ◌&&◌}
use mathlib.Core.List.{List, [], ◌∷◌}
use Prim.Native.Nat.{ℕ}
use lib.Dec.{T, eqb, eqb→eq}
use lib.IntN.{ℤ, pos, negsuc}
use Rattle.std.proofs.Common.{Option, Some, None}
use lib.ListN.{get_or}
use Rattle.ground.proofs.Flags.{and_left, and_right, to_t, of_T}
use Rattle.units.specs.Units.{litres_of, base_of}
use Rattle.state.specs.declared.Alarms.{Alarms}
use Rattle.state.specs.declared.Counters.{Counters}
use Rattle.cases.specs.Cases.{same_whole, same_measured, same_numbers, same_flag, same_alarms, six_of, same_counters}

pub same_whole_lem : (a b : ℤ) → T (same_whole a b) → a ≡ b
unfolding same_whole
same_whole_lem (pos a) (pos b) t = ap pos (eqb→eq a b t)
same_whole_lem (pos a) (negsuc b) t = absurd t
same_whole_lem (negsuc a) (pos b) t = absurd t
same_whole_lem (negsuc a) (negsuc b) t = ap negsuc (eqb→eq a b t)

pub same_measured_lem : (a b : Option ℤ) → T (same_measured a b) → a ≡ b
unfolding same_measured
same_measured_lem None None t = refl
same_measured_lem None (Some b) t = absurd t
same_measured_lem (Some a) None t = absurd t
same_measured_lem (Some a) (Some b) t = ap Some (same_whole_lem a b t)

-- both tests of a pair
left : (a b : Bool) → T (a && b) → T a
left a b t = to_t (and_left a b (of_T (a && b) t))

right : (a b : Bool) → T (a && b) → T b
right a b t = to_t (and_right a b (of_T (a && b) t))

pub same_numbers_lem : (xs ys : List ℕ) → T (same_numbers xs ys) → xs ≡ ys
unfolding same_numbers
same_numbers_lem [] [] t = refl
same_numbers_lem [] (y ∷ ys) t = absurd t
same_numbers_lem (x ∷ xs) [] t = absurd t
same_numbers_lem (x ∷ xs) (y ∷ ys) t =
    let e : x ≡ y = eqb→eq x y (left (eqb x y) (same_numbers xs ys) t) in
    let f : xs ≡ ys = same_numbers_lem xs ys (right (eqb x y) (same_numbers xs ys) t) in
    rw (e, f)

pub same_flag_lem : (a b : Bool) → T (same_flag a b) → a ≡ b
unfolding same_flag
same_flag_lem true true t = refl
same_flag_lem true false t = absurd t
same_flag_lem false true t = absurd t
same_flag_lem false false t = refl

pub same_alarms_lem : (a : Alarms) (p t k : Bool) → T (same_alarms a p t k) → a ≡ record { p = p; t = t; k = k }
unfolding same_alarms
same_alarms_lem a p t k h =
    let one : Bool = same_flag a.p p in
    let two : Bool = same_flag a.t t in
    let three : Bool = same_flag a.k k in
    let both : T (one && two) = left (one && two) three h in
    let e : a.p ≡ p = same_flag_lem a.p p (left one two both) in
    let f : a.t ≡ t = same_flag_lem a.t t (right one two both) in
    let g : a.k ≡ k = same_flag_lem a.k k (right (one && two) three h) in
    rw (e, f, g)

-- the counters that six numbers give
unfoldable given : List ℕ → Counters
given xs = record {
  vm = litres_of (get_or xs 0 0);
  vmd = litres_of (get_or xs 1 0);
  vmt = litres_of (get_or xs 2 0);
  vb = base_of (get_or xs 3 0);
  vbd = base_of (get_or xs 4 0);
  vbt = base_of (get_or xs 5 0);
}

pub same_counters_lem : (c d : Counters) → T (same_counters c d) → c ≡ d
unfolding same_counters six_of given
same_counters_lem c d t = ap given (same_numbers_lem (six_of c) (six_of d) t)
