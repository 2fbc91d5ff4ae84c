-- The choices and the weights: what a litre and a gain are by the number of a choice, and how large a weight can be.
-- Assumes nothing.
use Rattle.std.proofs.Common.{◌≡◌, ℕ, zero, suc, ◌*◌, ◌/◌, ◌<◌, ◌≤◌, refl, zero-mul, mul-le-mul, arith, Some, None}
use native.Mathlib.Nat.{div-zero}
use lib.ListN.{get_or-eq_default}
use Rattle.ground.specs.Ranges.{most_weight}
use Rattle.ground.proofs.Table.{NoneFrom, past}
use Rattle.units.specs.declared.Counter.{Counter}
use Rattle.units.specs.declared.Counter.TheVariants.{Vm, VmD, VmT, Vb, VbD, VbT}
use Rattle.units.specs.Units.{litre_at_base, put_by}
use Rattle.settings.specs.Settings.{most_choice}
use Rattle.outputs.specs.declared.Rule.{Rule}
use Rattle.outputs.specs.declared.Gain.{Gain}
use Rattle.outputs.specs.declared.Output.{Output}
use Rattle.outputs.specs.Outputs.{Followed, choices, followed, litre_on, litre_in, weight_in, gain_by, credited_by, gained_by, account_shown}
use Rattle.outputs.specs.Plan.{most_account}

-- ---- no choice

-- past the last choice nothing is followed
pub past_choices : (c : ℕ) → most_choice < c → followed c ≡ None
unfolding followed choices
past_choices c h = get_or-eq_default choices None {n = c} (omega arith)

-- nor by any other number that is no choice
pub none_is : (c : ℕ) → NoneFrom 1 c most_choice → followed c ≡ None
unfolding followed choices
none_is zero h = refl
none_is (suc c) h = past_choices (suc c) (past 1 (suc c) most_choice (omega arith) h)

-- ---- a counter that is followed

module _ (r : Rule) (c : Counter) (e : followed r.choice ≡ Some c) where
  -- so the output is not off
  pub not_off : r.choice ≡ 0 → ⊥
  unfolding followed choices
  not_off z = let h : followed 0 ≡ Some c = rw z at e in cc

  pub weight_on : weight_in r ≡ litre_on c * r.weight
  unfolding weight_in litre_in
  weight_on = rw e

  pub gained_on : (g : Gain) (o : Output) → credited_by (litre_on c * r.weight) (put_by c g.disturbed g.litres.0 g.base.0) o ≡ gained_by r g o
  unfolding gained_by weight_in litre_in gain_by
  gained_on g o = rw e

pub shown_on : (choice account : ℕ) (c : Counter) → followed choice ≡ Some c → account * litre_at_base / litre_on c ≡ account_shown choice account
unfolding account_shown litre_in
shown_on choice account c e = rw e

-- ---- nothing followed

pub none_weighs : (r : Rule) → followed r.choice ≡ None → weight_in r ≡ 0
unfolding weight_in litre_in
none_weighs r e = rw e (zero-mul r.weight)

pub none_shown_lem : (choice account : ℕ) → followed choice ≡ None → account_shown choice account ≡ 0
unfolding account_shown litre_in
none_shown_lem choice account e = rw e (div-zero (account * litre_at_base))

-- ---- how large a litre and a weight are

pub litre_on_lem : (c : Counter) → (1 ≤ litre_on c) × (litre_on c ≤ litre_at_base)
unfolding litre_on
litre_on_lem Vm = omega arith
litre_on_lem VmD = omega arith
litre_on_lem VmT = omega arith
litre_on_lem Vb = omega arith
litre_on_lem VbD = omega arith
litre_on_lem VbT = omega arith

pub litre_most : (f : Followed) → litre_in f ≤ litre_at_base
unfolding litre_in
litre_most None = omega arith
litre_most (Some c) = (litre_on_lem c).1

pub most_on : (c : Counter) (w : ℕ) → w ≤ most_weight → litre_on c * w ≤ most_account
most_on c w h = mul-le-mul (litre_on_lem c).1 h

pub weight_most : (r : Rule) → r.weight ≤ most_weight → weight_in r ≤ most_account
unfolding weight_in
weight_most r h = mul-le-mul (litre_most (followed r.choice)) h

-- each of the choices 1 to 6 follows a counter
litre_some : (c : ℕ) → c ≤ most_choice → (c ≡ 0 → ⊥) → 1 ≤ litre_in (followed c)
unfolding followed choices litre_in
litre_some zero l e = absurd (e refl)
litre_some (suc zero) l e = (litre_on_lem Vm).0
litre_some (suc (suc zero)) l e = (litre_on_lem VmD).0
litre_some (suc (suc (suc zero))) l e = (litre_on_lem VmT).0
litre_some (suc (suc (suc (suc zero)))) l e = (litre_on_lem Vb).0
litre_some (suc (suc (suc (suc (suc zero))))) l e = (litre_on_lem VbD).0
litre_some (suc (suc (suc (suc (suc (suc zero)))))) l e = (litre_on_lem VbT).0
litre_some (suc (suc (suc (suc (suc (suc (suc c))))))) l e = absurd (omega arith)

-- a choice and a weight that are settings weigh something, unless the output is off
pub weight_some : (r : Rule) → r.choice ≤ most_choice → 1 ≤ r.weight → (r.choice ≡ 0 → ⊥) → 1 ≤ weight_in r
unfolding weight_in
weight_some r c w e = mul-le-mul (litre_some r.choice c e) w
