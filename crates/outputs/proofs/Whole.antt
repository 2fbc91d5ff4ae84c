-- What the test of one output says; and a gain, a tick and a commit leave a whole output whole.
-- Assumes nothing.
use Rattle.std.proofs.Common.{◌≡◌, ℕ, ◌+◌, ◌*◌, ◌/◌, ◌<◌, ◌≤◌, true, false, cond, ◌&&◌, eqb, ltb, leb, refl, mod-lt, zero-mul, mul-le-mul, arith, ltb-true, ltb-false, lt-ltb, le-ltb, eq-eqb, ne_eqb, eqb-true, le-leb, leb-true, Some, None}
use Rattle.std.proofs.Math.Nat.{div-lt_iff_lt-mul, div-mul-le_self, le_refl, mul_comm}
use borrow.Author.Tests.{eqb-false}
use Rattle.ground.specs.Ranges.{least_weight}
use Rattle.ground.proofs.Flags.{and_left, and_right, and_both, Either, is_true, is_false, either_of}
use Rattle.settings.specs.Settings.{most_choice}
use Rattle.units.specs.declared.Counter.{Counter}
use Rattle.outputs.specs.declared.Rule.{Rule}
use Rattle.outputs.specs.declared.Gain.{Gain}
use Rattle.outputs.specs.declared.Output.{Output}
use Rattle.outputs.specs.Outputs.{choices, followed, litre_on, litre_in, weight_in, gain_in, rest_of, most_waiting, lost_rollover, credited_by, gained_by, ticked_by, same_rule, emptied, committed_by, account_b, output_b}
use Rattle.outputs.proofs.Choices.{not_off, weight_on, none_weighs, litre_on_lem, weight_some}
use Rattle.outputs.proofs.Wholes.{rest_below}

-- ---- what the test says

pub record Whole (r : Rule) (o : Output) : Type 0 where
  pub off : r.choice ≡ 0 → o.account.0 ≡ 0
  pub below : (r.choice ≡ 0 → ⊥) → o.account.0 < weight_in r
  pub waits : o.waiting ≤ most_waiting
  pub loses : o.lost < lost_rollover

pub whole_is : (r : Rule) (o : Output) → output_b r o ≡ true → Whole r o
unfolding output_b account_b
whole_is r o e =
    let w = and_left (account_b r o && leb o.waiting most_waiting) (ltb o.lost lost_rollover) e in
    let a : account_b r o ≡ true = and_left (account_b r o) (leb o.waiting most_waiting) w in
    record {
      off = λ z. eqb-true o.account.0 0 (rw (eq-eqb r.choice 0 z) at a);
      below = λ z. ltb-true o.account.0 (weight_in r) (rw (ne_eqb r.choice 0 z) at a);
      waits = leb-true o.waiting most_waiting (and_right (account_b r o) (leb o.waiting most_waiting) w);
      loses = ltb-true o.lost lost_rollover (and_right (account_b r o && leb o.waiting most_waiting) (ltb o.lost lost_rollover) e);
    }

pub is_whole : (r : Rule) (o : Output) → Whole r o → output_b r o ≡ true
unfolding output_b account_b
is_whole r o h = and_both (and_both {a = account_b r o} (by (either_of (eqb r.choice 0))) (le-leb o.waiting most_waiting h.waits)) (lt-ltb o.lost lost_rollover h.loses)
  where
    by : Either (eqb r.choice 0) → account_b r o ≡ true
    by (is_true e) = rw e (eq-eqb o.account.0 0 (h.off (eqb-true r.choice 0 e)))
    by (is_false e) = rw e (lt-ltb o.account.0 (weight_in r) (h.below (eqb-false r.choice 0 e)))

-- the test in whole litres, where a counter is followed
pub whole_on : (r : Rule) (o : Output) (c : Counter) → followed r.choice ≡ Some c → o.waiting ≤ most_waiting → o.lost < lost_rollover → ltb (o.account.0 / litre_on c) r.weight ≡ output_b r o
unfolding output_b account_b
whole_on r o c e w l =
    let some : 0 < litre_on c = omega (arith, litre_on_lem c) in
    rw (ne_eqb r.choice 0 (not_off r c e), weight_on r c e, le-leb o.waiting most_waiting w, lt-ltb o.lost lost_rollover l) (by some (either_of (ltb (o.account.0 / litre_on c) r.weight)))
  where
    by : 0 < litre_on c → Either (ltb (o.account.0 / litre_on c) r.weight) → ltb (o.account.0 / litre_on c) r.weight ≡ (ltb o.account.0 (litre_on c * r.weight) && true && true)
    by some (is_true t) =
        let h = (div-lt_iff_lt-mul some).0 (ltb-true (o.account.0 / litre_on c) r.weight t) in
        simp (t, lt-ltb o.account.0 (litre_on c * r.weight) (omega (arith, mul_comm (litre_on c) r.weight)))
    by some (is_false t) =
        let h : r.weight ≤ o.account.0 / litre_on c = ltb-false (o.account.0 / litre_on c) r.weight t in
        let u = mul-le-mul h (le_refl (litre_on c)) in
        simp (t, le-ltb o.account.0 (litre_on c * r.weight) (omega (arith, u, mul_comm (litre_on c) r.weight, div-mul-le_self o.account.0 (litre_on c))))

-- and where a choice is none
pub none_whole : (r : Rule) (o : Output) → followed r.choice ≡ None → (r.choice ≡ 0 → ⊥) → output_b r o ≡ false
unfolding output_b account_b
none_whole r o e z = simp (ne_eqb r.choice 0 z, none_weighs r e, le-ltb o.account.0 0 (omega arith))

-- ---- a gain

pub off_weight : (r : Rule) → r.choice ≡ 0 → weight_in r ≡ 0
unfolding weight_in followed choices litre_in
off_weight r e = rw e (zero-mul r.weight)

-- nothing is left in an output that is off
rest_off : (r : Rule) (s : ℕ) → r.choice ≡ 0 → rest_of (weight_in r) s ≡ 0
unfolding rest_of
rest_off r s e = rw (off_weight r e)

pub gain_keeps : (r : Rule) (g : Gain) (o : Output) → output_b r o ≡ true → output_b r (gained_by r g o).output ≡ true
unfolding gained_by credited_by
gain_keeps r g o e =
    let h = whole_is r o e in
    let s : ℕ = o.account.0 + gain_in r.choice g in
    is_whole r (gained_by r g o).output record {
      off = λ z. rest_off r s z;
      below = λ z. let p = h.below z in rest_below (weight_in r) (omega arith) s;
      waits = omega arith;
      loses = mod-lt _ (omega arith);
    }

-- ---- a tick

pub tick_keeps : (r : Rule) (n : ℕ) (o : Output) → output_b r o ≡ true → output_b r (ticked_by n o).output ≡ true
unfolding ticked_by
tick_keeps r n o e =
    let h = whole_is r o e in
    is_whole r (ticked_by n o).output record { off = h.off; below = h.below; waits = omega (arith, h.waits); loses = h.loses }

-- ---- a commit

pub rules_same : (p q : Rule) → same_rule p q ≡ true → p ≡ q
unfolding same_rule
rules_same p q e =
    let c = eqb-true p.choice q.choice (and_left (eqb p.choice q.choice) (eqb p.weight q.weight) e) in
    let w = eqb-true p.weight q.weight (and_right (eqb p.choice q.choice) (eqb p.weight q.weight) e) in
    made c w
  where
    made : {c d v w : ℕ} → c ≡ d → v ≡ w → ◌≡◌ {A = Rule} (record { choice = c; weight = v }) (record { choice = d; weight = w })
    made e f = cc

-- the new choice and weight are settings
pub commit_keeps : (p q : Rule) (o : Output) → q.choice ≤ most_choice → least_weight ≤ q.weight → output_b p o ≡ true → output_b q (committed_by p q o) ≡ true
unfolding committed_by
commit_keeps p q o c w e = by (either_of (same_rule p q))
  where
    by : Either (same_rule p q) → output_b q (cond (same_rule p q) o (emptied o)) ≡ true
    by (is_true t) = rw t (rw (rules_same p q t) at e)
    by (is_false t) =
        let h = whole_is p o e in
        rw t (is_whole q (emptied o) record { off = λ z. refl; below = λ z. weight_some q c w z; waits = h.waits; loses = h.loses })
