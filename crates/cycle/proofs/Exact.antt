-- What the code of a cycle works out is the paper's, in every whole state. The p, T and K that a whole state takes, and its pb and Tb, lie in
-- the ranges for which the code works the factor out. So its factor is p·Tb·10^9 / (pb·T·K), nearest, halves up, and its amounts are the
-- paper's up to 600 pulses.
-- Settings 17 to 21 enter no formula: a cycle works with 1 to 16, and for the outputs with 22 to 29.
-- Assumes nothing.
use mathlib.Core.Path.{◌≡◌, refl, ap}
use Rattle.std.proofs.Common.{Option, Some, None}
use mathlib.Core.Bool.{Bool, true, false, cond}
use mathlib.Core.List.{List}
use Prim.Native.Nat.{ℕ, ◌+◌, ◌*◌, ◌≤◌, ◌<◌}
use native.Mathlib.Omega.{arith}
use lib.Dec.{eqb}
use lib.ListN.{length}
use lib.IntN.{pos, ◌+ℤ◌}
use borrow.Author.Tests.{le-leb}
use Rattle.settings.specs.declared.Setting.{Setting}
use Rattle.settings.specs.Settings.{value_at, settings_fit_b, cp, pb, tb, md_p, md_t, md_k, p_min, p_max, t_min, t_max, eq1, eq2, eq3, p_f, t_f, k_f, first_choice, first_weight}
use Rattle.settings.proofs.Laws.{cp_in, pb_in, tb_in, p_min_in, p_max_in, p_f_in, t_f_in, k_f_in}
use Rattle.temperature.proofs.Nearest.{InRange}
use Rattle.ground.specs.Ranges.{least_k, most_k, least_p, most_p, least_pb, most_pb, least_tb, most_tb, zero_celsius}
use Rattle.readings.proofs.Bounds.{Between, pressure_bounds, k_bounds, temperature_in_range, kelvin_bounds, kelvin_is, guarded as kelvin-guarded}
use Rattle.factor.specs.Factor.{numerator, denominator}
use Rattle.factor.specs.Plan.{in_range, in_ranges}
use Rattle.factor.proofs.Laws.{within_half, half_goes_up, guarded as factor-guarded}
use Rattle.units.specs.declared.Amounts.{Amounts}
use Rattle.units.specs.Units.{most_pulses}
use Rattle.units.proofs.Counted.{guarded as amounts-guarded}
use Rattle.outputs.specs.declared.Rule.{Rule}
use Rattle.outputs.specs.declared.Output.{Output}
use Rattle.outputs.specs.Four.{rule_at, all_gained}
use Rattle.outputs.specs.Plan.{rule_guarded}
use Rattle.outputs.proofs.Guarded.{gains_guarded}
use Rattle.books.specs.declared.ArchiveLine.{ArchiveLine}
use Rattle.books.specs.declared.LogLine.{LogLine}
use Rattle.state.specs.declared.State.{State}
use Rattle.state.specs.State.{whole_b, with_core}
use Rattle.state.proofs.Sound.{whole_sound}
use Rattle.commands.specs.declared.Brought.{Brought}
use Rattle.commands.specs.Answers.{plain, Outcome, with_both}
use Rattle.cycle.specs.Cycle.{natural_at, whole_at, coefficients_in, temperature_for, pressure_for, k_for, kelvin_for, alarms_for, factor_for, amounts_for, any_alarm, outputs_gained, gained_for, cycle_refusal, cycled_core, cycled, cycle_of}
use Rattle.measuring.specs.Plan.{factor_planned, amounts_planned, gained_planned}

-- ---- what the settings let a cycle take

module _ (a : List Setting) (e : settings_fit_b a ≡ true) (r : Brought) where
  p_within : Between least_p most_p (pressure_for a r).value
  unfolding pressure_for
  p_within =
      let f = p_f_in a e in
      pressure_bounds least_p most_p (natural_at a md_p) (natural_at a p_min) (natural_at a p_max) (natural_at a p_f) r.pressure (p_min_in a e).from (p_max_in a e).upto
      (record { not_below = f.from; not_above = f.upto })

  t_within : InRange (temperature_for a r).value
  unfolding temperature_for
  t_within =
      let f = t_f_in a e in
      temperature_in_range (natural_at a md_t) (whole_at a t_min) (whole_at a t_max) (whole_at a t_f) (coefficients_in a) r.raw (record { not_colder = f.from; not_hotter = f.upto })

  k_within : Between least_k most_k (k_for a r).value
  unfolding k_for
  k_within =
      let f = k_f_in a e in
      k_bounds (natural_at a md_k) (natural_at a k_f) r.k (record { not_below = f.from; not_above = f.upto })

range_held : (low high x : ℕ) → Between low high x → in_range low high x ≡ true
unfolding in_range
range_held low high x b = rw (le-leb low x b.not_below, le-leb x high b.not_above)

-- ---- the factor and the amounts

-- the fraction that the factor is the nearest whole number to: p·Tb·10^9 over pb·T·K
abbrev pub numerator_for : List Setting → Brought → ℕ
numerator_for a r = numerator (pressure_for a r).value (natural_at a tb)

abbrev pub denominator_for : List Setting → Brought → ℕ
denominator_for a r = denominator (natural_at a pb) (kelvin_for a r) (k_for a r).value

-- the outputs: a weight in range is taken as it is
gained_guarded : (a : List Setting) → settings_fit_b a ≡ true → (disturbed : Bool) (amounts : Option Amounts) (o : List Output) → outputs_gained (rule_guarded a) disturbed amounts o ≡ outputs_gained (rule_at a) disturbed amounts o
unfolding outputs_gained
gained_guarded a e disturbed None o = refl
gained_guarded a e disturbed (Some x) o = gains_guarded a e (record { disturbed = disturbed; litres = x.litres; base = x.base }) o

module _ (s : State) (w : whole_b s ≡ true) (r : Brought) where
  -- in a whole state what the factor is worked out from lies in the ranges of the code
  pub asked_in_ranges : let a = s.core.settings in in_ranges (pressure_for a r).value (natural_at a tb) (natural_at a pb) (kelvin_for a r) (k_for a r).value ≡ true
  unfolding in_ranges
  asked_in_ranges =
      let a = s.core.settings in
      let e = (whole_sound s w).core.fit in
      let x = tb_in a e in
      let y = pb_in a e in
      rw (range_held _ _ _ (p_within a e r), range_held least_tb most_tb (natural_at a tb) (record { not_below = x.from; not_above = x.upto }), range_held least_pb most_pb (natural_at a pb) (record { not_below = y.from; not_above = y.upto }), range_held _ _ _ (kelvin_bounds (temperature_for a r).value (t_within a e r)), range_held _ _ _ (k_within a e r))

  -- T in kelvin is the T taken plus 27,315, as whole numbers with their signs
  pub kelvin_exact : let a = s.core.settings in pos (kelvin_for a r) ≡ (temperature_for a r).value +ℤ pos zero_celsius
  kelvin_exact = kelvin_is (temperature_for s.core.settings r).value (t_within s.core.settings (whole_sound s w).core.fit r)

  -- the factor that the code works out is C of the p, T and K taken
  pub factor_exact : let a = s.core.settings in factor_planned a r ≡ factor_for a r
  unfolding factor_planned factor_for
  factor_exact =
      let a = s.core.settings in
      rw (kelvin-guarded (temperature_for a r).value (t_within a (whole_sound s w).core.fit r)) (factor-guarded _ _ _ _ _ asked_in_ranges)

  -- and up to 600 pulses its amounts are n times the pulse value, and that times the factor
  pub amounts_exact : r.n ≤ most_pulses → let a = s.core.settings in amounts_planned a r ≡ amounts_for a r
  unfolding amounts_planned amounts_for
  amounts_exact few =
      let a = s.core.settings in
      rw factor_exact (amounts-guarded r.n (natural_at a cp) (factor_for a r) few (cp_in a (whole_sound s w).core.fit).upto)

  -- the outputs gain by the choices and weights in force
  pub gained_exact : let a = s.core.settings in gained_planned a (alarms_for a r) (amounts_for a r) s.core.outputs ≡ gained_for a r s.core.outputs
  unfolding gained_planned gained_for
  gained_exact = gained_guarded s.core.settings (whole_sound s w).core.fit (any_alarm (alarms_for s.core.settings r)) (amounts_for s.core.settings r) s.core.outputs

  -- twice the gap between the factor times pb·T·K and the fraction's numerator is at most pb·T·K
  pub cycle_within_half : let a = s.core.settings in
      (2 * (factor_for a r * denominator_for a r) ≤ 2 * numerator_for a r + denominator_for a r) × (2 * numerator_for a r ≤ 2 * (factor_for a r * denominator_for a r) + denominator_for a r)
  unfolding factor_for
  cycle_within_half = within_half _ _ _ _ _ asked_in_ranges

  -- a fraction just between q and q + 1 gives q + 1
  pub cycle_half_up : let a = s.core.settings in (q : ℕ) → 2 * numerator_for a r ≡ (2 * q + 1) * denominator_for a r → factor_for a r ≡ q + 1
  unfolding factor_for
  cycle_half_up q h = half_goes_up _ _ _ _ _ q asked_in_ranges h

-- ---- settings 17 to 21

module _ (a b : List Setting) (same : (k : ℕ) → k < 16 → value_at a k ≡ value_at b k) (r : Brought) where
  temperature_same : temperature_for a r ≡ temperature_for b r
  unfolding temperature_for coefficients_in
  temperature_same = rw (same md_t (omega arith), same t_min (omega arith), same t_max (omega arith), same eq1 (omega arith), same eq2 (omega arith), same eq3 (omega arith), same t_f (omega arith))

  pressure_same : pressure_for a r ≡ pressure_for b r
  unfolding pressure_for
  pressure_same = rw (same md_p (omega arith), same p_min (omega arith), same p_max (omega arith), same p_f (omega arith))

  k_same : k_for a r ≡ k_for b r
  unfolding k_for
  k_same = rw (same md_k (omega arith), same k_f (omega arith))

  -- settings that agree in 1 to 16 give the same alarms, the same factor, the same amounts
  pub alarms_same : alarms_for a r ≡ alarms_for b r
  unfolding alarms_for
  alarms_same = rw (pressure_same, temperature_same, k_same)

  pub factor_same : factor_for a r ≡ factor_for b r
  unfolding factor_for
  factor_same = rw (pressure_same, temperature_same, k_same, same pb (omega arith), same tb (omega arith))

  pub amounts_same : amounts_for a r ≡ amounts_for b r
  unfolding amounts_for
  amounts_same = rw (factor_same, same cp (omega arith))

-- two lists of settings are the same in all but settings 17 to 21
pub record SameBut (a b : List Setting) : Type 0 where
  pub first : (k : ℕ) → k < 16 → value_at a k ≡ value_at b k
  pub outputs : (k : ℕ) → 21 ≤ k → value_at a k ≡ value_at b k

-- and those that agree in 22 to 29 as well give the outputs the same
module _ (a b : List Setting) (but : SameBut a b) (r : Brought) where
  rule_same : (k : ℕ) → rule_at a k ≡ rule_at b k
  unfolding rule_at
  rule_same k = rw (but.outputs (first_choice + k) (omega arith), but.outputs (first_weight + k) (omega arith))

  outputs_same : (disturbed : Bool) (amounts : Option Amounts) (o : List Output) → outputs_gained (rule_at a) disturbed amounts o ≡ outputs_gained (rule_at b) disturbed amounts o
  unfolding outputs_gained
  outputs_same disturbed None o = refl
  outputs_same disturbed (Some x) o = ap (λ (rules : ℕ → Rule). all_gained rules (record { disturbed = disturbed; litres = x.litres; base = x.base }) o) (λ i k. rule_same k i)

  pub gained_same : (o : List Output) → gained_for a r o ≡ gained_for b r o
  unfolding gained_for
  gained_same o = rw (alarms_same a b but.first r, amounts_same a b but.first r) (outputs_same (any_alarm (alarms_for b r)) (amounts_for b r) o)

-- a state with other settings in force, and the outcome of a command with them
abbrev pub with_settings : State → List Setting → State
with_settings s b =
    let c = s.core in
    with_core s (record { measured = c.measured; latches = c.latches; locks = c.locks; settings = b; outputs = c.outputs; stores = c.stores })

abbrev pub outcome_with : Outcome → List Setting → Outcome
outcome_with o b = with_both (record { reply = o.answer.reply; state = with_settings o.answer.state b }) o.archive o.log

-- what a refused cycle gives
abbrev refused : ℕ → State → List ArchiveLine → List LogLine → Outcome
refused number s archive log = with_both (record { reply = plain number; state = s }) archive log

module _ (s : State) (b : List Setting) (same : SameBut s.core.settings b) (r : Brought) (archive : List ArchiveLine) (log : List LogLine) where
  done_same : cycled (with_settings s b) r archive log ≡ outcome_with (cycled s r archive log) b
  unfolding cycled cycled_core with_core
  done_same = rw (alarms_same s.core.settings b same.first r, amounts_same s.core.settings b same.first r, gained_same s.core.settings b same r s.core.outputs)

  refusal_same : whole_b (with_settings s b) ≡ whole_b s → cycle_refusal (whole_b (with_settings s b)) (with_settings s b) (length archive) (length log) r ≡ cycle_refusal (whole_b s) s (length archive) (length log) r
  unfolding cycle_refusal with_core
  refusal_same w = rw (w, amounts_same s.core.settings b same.first r)

  either_same : (number : ℕ) (done : Bool) → cond {A = Outcome} done (cycled (with_settings s b) r archive log) (refused number (with_settings s b) archive log)
      ≡ outcome_with (cond {A = Outcome} done (cycled s r archive log) (refused number s archive log)) b
  unfolding with_core
  either_same number true = done_same
  either_same number false = refl

  -- with other settings 17 to 21 a cycle answers and writes the same, counts the same, gives the outputs the same, and leaves those settings in force
  pub not_in_formulas : whole_b (with_settings s b) ≡ whole_b s → cycle_of (with_settings s b) r archive log ≡ outcome_with (cycle_of s r archive log) b
  unfolding cycle_of
  not_in_formulas w = rw (refusal_same w) (either_same (cycle_refusal (whole_b s) s (length archive) (length log) r) (eqb (cycle_refusal (whole_b s) s (length archive) (length log) r) 0))
