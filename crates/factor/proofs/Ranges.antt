-- What the ranges of the five inputs say of each input and of their products.
-- Assumes nothing.
use mathlib.Core.Path.{◌≡◌}
use mathlib.Core.Bool.{true}
use Prim.Native.Nat.{ℕ, ◌*◌, ◌≤◌}
use native.Mathlib.Nat.{mul-le-mul}
use lib.Dec.{leb}
use borrow.Author.Tests.{leb-true}
use Rattle.ground.proofs.Flags.{and_left, and_right}
use Rattle.ground.specs.Ranges.{least_k, most_k, least_p, most_p, least_pb, most_pb, least_tb, most_tb, least_kelvin, most_kelvin}
use Rattle.factor.specs.Factor.{denominator}
use Rattle.factor.specs.Plan.{in_range, in_ranges}

pub record Ends (low high x : ℕ) : Type 0 where
  pub least : low ≤ x
  pub most : x ≤ high

pub ends : (low high x : ℕ) → in_range low high x ≡ true → Ends low high x
unfolding in_range
ends low high x e =
    record {
      least = leb-true low x (and_left (leb low x) (leb x high) e);
      most = leb-true x high (and_right (leb low x) (leb x high) e);
    }

pub record Ranges (p tb pb t k : ℕ) : Type 0 where
  pub of_p : Ends least_p most_p p
  pub of_tb : Ends least_tb most_tb tb
  pub of_pb : Ends least_pb most_pb pb
  pub of_t : Ends least_kelvin most_kelvin t
  pub of_k : Ends least_k most_k k

pub ranges : (p tb pb t k : ℕ) → in_ranges p tb pb t k ≡ true → Ranges p tb pb t k
unfolding in_ranges
ranges p tb pb t k e =
    let e2 = and_right (in_range least_p most_p p) _ e in
    let e3 = and_right (in_range least_tb most_tb tb) _ e2 in
    let e4 = and_right (in_range least_pb most_pb pb) _ e3 in
    record {
      of_p = ends least_p most_p p (and_left _ _ e);
      of_tb = ends least_tb most_tb tb (and_left _ _ e2);
      of_pb = ends least_pb most_pb pb (and_left _ _ e3);
      of_t = ends least_kelvin most_kelvin t (and_left _ _ e4);
      of_k = ends least_k most_k k (and_right (in_range least_kelvin most_kelvin t) _ e4);
    }

pub record Products (p tb pb t k : ℕ) : Type 0 where
  pub top : Ends (least_p * least_tb) (most_p * most_tb) (p * tb)
  pub pair : pb * t ≤ most_pb * most_kelvin
  pub bottom : Ends (least_pb * least_kelvin * least_k) (most_pb * most_kelvin * most_k) (denominator pb t k)

pub products : (p tb pb t k : ℕ) → in_ranges p tb pb t k ≡ true → Products p tb pb t k
products p tb pb t k e =
    let r = ranges p tb pb t k e in
    record {
      top = record { least = mul-le-mul r.of_p.least r.of_tb.least; most = mul-le-mul r.of_p.most r.of_tb.most };
      pair = mul-le-mul r.of_pb.most r.of_t.most;
      bottom = record {
        least = mul-le-mul (mul-le-mul r.of_pb.least r.of_t.least) r.of_k.least;
        most = mul-le-mul (mul-le-mul r.of_pb.most r.of_t.most) r.of_k.most;
      };
    }
