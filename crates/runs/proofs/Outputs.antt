-- The outputs, exactly: after any run from a start each output is what the history says, and its pulses balance. By the length of the run.
-- Assumes nothing.
use mathlib.Core.Path.{◌≡◌, refl, sym, ap, ◌∙◌}
use mathlib.Core.Bool.{Bool, true, false, cond}
use mathlib.Core.Logic.{◌↔◌}
use mathlib.Core.List.{List, [], ◌∷◌, ◌++◌, append_assoc}
use Rattle.std.specs.Prelude.{Some, None, option_to_list}
use Prim.Native.Nat.{ℕ, zero, suc, ◌+◌, ◌-◌, ◌%◌, ◌≤◌, ◌<◌}
use native.Mathlib.Nat.{add-zero, mod-add-mod, add-mod-mod}
use native.Mathlib.Omega.{arith}
use lib.Dec.{eqb}
use lib.ListN.{get_or}
use borrow.Author.Tests.{eq-eqb, eqb-true, ltb-true, lt-ltb}
use Rattle.ground.specs.Below.{listed}
use Rattle.ground.proofs.Flags.{Either, is_true, is_false, either_of}
use Rattle.ground.proofs.Listed.{get_d_listed, listed_same}
use Rattle.order.specs.Order.{run}
use Rattle.units.specs.Units.{litres_of, base_of}
use Rattle.settings.specs.declared.Setting.{Setting}
use Rattle.settings.specs.Settings.{setting_count}
use Rattle.outputs.specs.declared.Rule.{Rule}
use Rattle.outputs.specs.declared.Gain.{Gain}
use Rattle.outputs.specs.declared.Output.{Output}
use Rattle.outputs.specs.Outputs.{Followed, followed, gain_by, wholes, rest_of, most_waiting, lost_rollover, account_of, credited_by, gained_by, ticked_by, same_rule, emptied, committed_by, fresh_output}
use Rattle.outputs.specs.Four.{output_count, rule_at, output_at, all_gained, all_ticked, all_committed, fresh_outputs}
use Rattle.outputs.proofs.Wholes.{rest_zero, rest_twice, wholes_zero, wholes_twice}
use Rattle.outputs.proofs.Whole.{rules_same}
use Rattle.outputs.proofs.All.{emitted_at}
use Rattle.books.specs.declared.ArchiveLine.{ArchiveLine}
use Rattle.books.specs.declared.LogLine.{LogLine}
use Rattle.books.specs.declared.AuditLine.{AuditLine}
use Rattle.notes.specs.Notes.{Note, note_of, noted}
use Rattle.state.specs.declared.Alarms.{Alarms}
use Rattle.state.specs.State.{fresh, fresh_core}
use Rattle.state.specs.Card.{first_of}
use Rattle.commands.specs.declared.Brought.{Brought}
use Rattle.commands.specs.declared.Question.TheVariants as question
use Rattle.commands.specs.declared.Given.TheVariants as given
use Rattle.cycle.specs.Cycle.{amounts_for, is_too_large, outputs_gained, gained_for, alarms_for, change_notes, loss_notes, changes, cycled_core, cycled}
use Rattle.panel.specs.Panel.{turned_core, turned, cleared, ticked, start_of, start_refusal}
use Rattle.doors.specs.Doors.{placed, with_session, committed_core, committed}
use Rattle.runs.specs.Rows.{rows_of, refused_by}
use Rattle.runs.specs.Run.{Step, Question, Act, Begin, Read, Write, Abandon, on_cycle, Cycle, Turn, Clear, Tick, Ask, Call, Commit, Given, Reply, World, giving, step, corrector, started, Body}
use Rattle.runs.specs.History.{History, history, done}
use Rattle.runs.specs.Stale.{nothing}
use Rattle.runs.specs.InForce.{setting_of, in_force, forced_by, settings_in}
use Rattle.runs.specs.Latches.{found_in}
use Rattle.runs.specs.Sums.{litres_by, base_by, disturbed_by}
use Rattle.runs.specs.Outputs.{rule_in, weight_now, gain_on, gain_for, gain_at, rule_stands, since_in, due_in, emitted_by, taken_at, emitted_in, account_in, due_for, due_at, waiting_in, lost_in, loses_for, losses_for, output_in, outputs_in, AlwaysFits, output_of, Balances}
use Rattle.runs.proofs.Effects.{same_either, after, given_by, step_is, number_is, world_is, refused_body}
use Rattle.runs.proofs.Exactly.{silent}
use Rattle.runs.proofs.InForce.{KeptByStep, step_forced, all_forced, from_start}
use Rattle.runs.proofs.Sums.{amounts_are}

-- ---- of the history alone

-- a rule is the same as itself
same_itself : (r : Rule) → same_rule r r ≡ true
unfolding same_rule
same_itself r = rw (eq-eqb r.choice r.choice refl, eq-eqb r.weight r.weight refl)

stands_by : (k : ℕ) (x : Step × Reply) (past : History) → rule_in k (x ∷ past) ≡ rule_in k past → rule_stands k x past ≡ true
stands_by k x past e = rw e (same_itself (rule_in k past))

-- a cycle changes no setting
cycle_stands : (k : ℕ) (r : Brought) (a : Reply) (past : History) → rule_in k ((Cycle r, a) ∷ past) ≡ rule_in k past
unfolding settings_in
cycle_stands k r a past =
    ap (λ (s : List Setting). rule_at s k)
    (λ i. listed (λ j. setting_of (forced_by (j + 1) (same_either (done (Cycle r, a)) nothing i) past (in_force (j + 1) past))) setting_count)

module _ (k : ℕ) where
  waits : (past : History) → waiting_in k past ≤ most_waiting
  waits [] = omega arith
  waits (x ∷ past) = omega arith

  -- where nothing is gained, nothing is due
  still_due : (x : Step × Reply) (past : History) → gain_at k x past ≡ 0 → due_at k x past ≡ 0
  still_due x past g =
      let w : ℕ = weight_now k past in
      let s : ℕ = since_in k past in
      let e : wholes w (s + 0) ≡ wholes w s + wholes w (rest_of w s + 0) = wholes_twice w s 0 in
      let z : wholes w (s + 0) ≡ wholes w s = ap (wholes w) (add-zero s) in
      ap (λ (n : ℕ). wholes w (rest_of w s + n)) g ∙ omega (arith, e, z)

  -- what a step makes due is what it adds to the sum
  due_on : (x : Step × Reply) (past : History) → rule_stands k x past ≡ true → due_in k (x ∷ past) ≡ due_in k past + due_at k x past
  due_on x past t =
      let e : rule_in k past ≡ rule_in k (x ∷ past) = rules_same (rule_in k past) (rule_in k (x ∷ past)) t in
      let w : ℕ = weight_now k past in
      let s : ℕ = since_in k past in
      rw (t, sym e) (omega (arith, wholes_twice w s (gain_at k x past)))

  due_still : (x : Step × Reply) (past : History) → gain_at k x past ≡ 0 → Either (rule_stands k x past) → due_in k (x ∷ past) ≡ due_in k past + due_at k x past
  due_still x past g (is_true t) = due_on x past t
  due_still x past g (is_false f) = rw f (omega (arith, wholes_zero (weight_now k (x ∷ past)), still_due x past g))

  due_idle : (x : Step × Reply) (past : History) → gain_at k x past ≡ 0 → due_in k (x ∷ past) ≡ due_in k past + due_at k x past
  due_idle x past g = due_still x past g (either_of (rule_stands k x past))

  pub due_adds : (x : Step) (a : Reply) (past : History) → due_in k ((x, a) ∷ past) ≡ due_in k past + due_at k (x, a) past
  due_adds (Cycle r) a past = due_on (Cycle r, a) past (stands_by k (Cycle r, a) past (cycle_stands k r a past))
  due_adds (Turn turn) a past = due_idle (Turn turn, a) past refl
  due_adds Clear a past = due_idle (Clear, a) past refl
  due_adds (Tick named) a past = due_idle (Tick named, a) past refl
  due_adds (Ask question) a past = due_idle (Ask question, a) past refl
  due_adds (Call door act) a past = due_idle (Call door act, a) past refl
  due_adds (Commit door) a past = due_idle (Commit door, a) past refl

  -- so where no step takes more than waits, the pulses balance to the last one
  balances : (x : Step) (a : Reply) (past : History) → taken_at k (x, a) ≤ waiting_in k past → due_in k past ≡ emitted_in k past + waiting_in k past + lost_in k past
      → due_in k ((x, a) ∷ past) ≡ emitted_in k ((x, a) ∷ past) + waiting_in k ((x, a) ∷ past) + lost_in k ((x, a) ∷ past)
  balances x a past l e = omega (arith, due_adds x a past, waits past, l, e)

  -- ---- an output after a step

  account_on : (x : Step × Reply) (past : History) → rule_in k (x ∷ past) ≡ rule_in k past → account_in k (x ∷ past) ≡ rest_of (weight_now k past) (account_in k past + gain_at k x past)
  account_on x past e = rw (stands_by k x past e, e) (sym (rest_twice (weight_now k past) (since_in k past) (gain_at k x past)))

  account_still : (x : Step × Reply) (past : History) → rule_in k (x ∷ past) ≡ rule_in k past → gain_at k x past ≡ 0 → account_in k (x ∷ past) ≡ account_in k past
  account_still x past e g =
      rw (stands_by k x past e, e) (ap (λ (n : ℕ). rest_of (weight_now k past) (since_in k past + n)) g ∙ ap (rest_of (weight_now k past)) (add-zero (since_in k past)))

  output_is : {a b v w l m : ℕ} → a ≡ b → v ≡ w → l ≡ m → ◌≡◌ {A = Output} (record { account = account_of a; waiting = v; lost = l }) (record { account = account_of b; waiting = w; lost = m })
  output_is e f g = cc

  waiting_still : (x : Step × Reply) (past : History) → gain_at k x past ≡ 0 → waiting_in k (x ∷ past) ≡ waiting_in k past - taken_at k x
  waiting_still x past g = omega (arith, still_due x past g, waits past)

  lost_still : (x : Step × Reply) (past : History) → gain_at k x past ≡ 0 → lost_in k (x ∷ past) ≡ lost_in k past
  lost_still x past g = omega (arith, still_due x past g, waits past)

  lost_kept : (x : Step × Reply) (past : History) → gain_at k x past ≡ 0 → lost_in k (x ∷ past) % lost_rollover ≡ lost_in k past % lost_rollover
  lost_kept x past g = ap (λ (n : ℕ). n % lost_rollover) (lost_still x past g)

  -- one that gives it nothing and takes nothing
  idle : (x : Step × Reply) (past : History) → rule_in k (x ∷ past) ≡ rule_in k past → gain_at k x past ≡ 0 → taken_at k x ≡ 0 → output_in k past ≡ output_in k (x ∷ past)
  idle x past e g t =
      sym (output_is (account_still x past e g) (omega (arith, waiting_still x past g, t)) (lost_kept x past g))

  -- a tick
  ticks : (x : Step × Reply) (past : History) (n : ℕ) → rule_in k (x ∷ past) ≡ rule_in k past → gain_at k x past ≡ 0 → taken_at k x ≡ (ticked_by n (output_in k past)).emitted
      → (ticked_by n (output_in k past)).output ≡ output_in k (x ∷ past)
  unfolding ticked_by
  ticks x past n e g t =
      sym (output_is (account_still x past e g) (waiting_still x past g ∙ ap (λ (m : ℕ). waiting_in k past - m) t) (lost_kept x past g))

  -- a commit
  commits_by : (x : Step × Reply) (past : History) → gain_at k x past ≡ 0 → taken_at k x ≡ 0 → Either (rule_stands k x past)
      → committed_by (rule_in k past) (rule_in k (x ∷ past)) (output_in k past) ≡ output_in k (x ∷ past)
  unfolding committed_by
  commits_by x past g t (is_true s) =
      let e : rule_in k (x ∷ past) ≡ rule_in k past = sym (rules_same (rule_in k past) (rule_in k (x ∷ past)) s) in
      ap (λ (b : Bool). cond b (output_in k past) (emptied (output_in k past))) s ∙ idle x past e g t
  commits_by x past g t (is_false s) =
      let none : account_in k (x ∷ past) ≡ 0 = rw s (rest_zero (weight_now k (x ∷ past))) in
      ap (λ (b : Bool). cond b (output_in k past) (emptied (output_in k past))) s
      ∙ sym (output_is none (omega (arith, waiting_still x past g, t)) (lost_kept x past g))

  commits_on : (x : Step × Reply) (past : History) → gain_at k x past ≡ 0 → taken_at k x ≡ 0
      → committed_by (rule_in k past) (rule_in k (x ∷ past)) (output_in k past) ≡ output_in k (x ∷ past)
  commits_on x past g t = commits_by x past g t (either_of (rule_stands k x past))

  -- a cycle
  gains_on : (x : Step × Reply) (past : History) (g : ℕ) → rule_in k (x ∷ past) ≡ rule_in k past → gain_at k x past ≡ g → taken_at k x ≡ 0
      → (credited_by (weight_now k past) g (output_in k past)).output ≡ output_in k (x ∷ past)
  unfolding credited_by
  gains_on x past g e h t =
      let w : ℕ = weight_now k past in
      let due : due_at k x past ≡ wholes w (account_in k past + g) = ap (λ (n : ℕ). wholes w (account_in k past + n)) h in
      sym
      (output_is
      (account_on x past e ∙ ap (λ (n : ℕ). rest_of w (account_in k past + n)) h)
      (omega (arith, due, t))
      (ap (λ (n : ℕ). (lost_in k past + (waiting_in k past + n - most_waiting)) % lost_rollover) due
      ∙ sym (mod-add-mod (lost_in k past) lost_rollover (waiting_in k past + wholes w (account_in k past + g) - most_waiting))))

-- what is no accepted cycle gives nothing
gain_none : (k : ℕ) (past : History) (x : Step) (a : Reply) → on_cycle (λ r. done (x, a)) false x ≡ false → gain_at k (x, a) past ≡ 0
gain_none k past (Cycle r) a n = rw n
gain_none k past (Turn turn) a n = refl
gain_none k past Clear a n = refl
gain_none k past (Tick named) a n = refl
gain_none k past (Ask question) a n = refl
gain_none k past (Call door act) a n = refl
gain_none k past (Commit door) a n = refl

refused_cycle : (x : Step) (a : Reply) → done (x, a) ≡ false → on_cycle (λ r. done (x, a)) false x ≡ false
refused_cycle (Cycle r) a d = d
refused_cycle (Turn turn) a d = refl
refused_cycle Clear a d = refl
refused_cycle (Tick named) a d = refl
refused_cycle (Ask question) a d = refl
refused_cycle (Call door act) a d = refl
refused_cycle (Commit door) a d = refl

-- ---- what the counter of an output gains is what the rules put on it

-- what an accepted cycle counts
abbrev gain_of : List Setting → Brought → Gain
gain_of a r = record { disturbed = disturbed_by a r; litres = litres_of (litres_by a r); base = base_of (base_by a r) }

gain_is : (f : Followed) (a : List Setting) (r : Brought) → gain_by f (gain_of a r) ≡ gain_on f a r
unfolding gain_by
gain_is None a r = refl
gain_is (Some c) a r = refl

gained_is : (a : List Setting) (r : Brought) (o : List Output) → is_too_large (amounts_for a r) ≡ false → gained_for a r o ≡ all_gained (rule_at a) (gain_of a r) o
unfolding gained_for outputs_gained
gained_is a r o h = rw (amounts_are a r h)

-- output k of those of the history
output_at_lem : (k : ℕ) (past : History) → k < output_count → output_at (outputs_in past) k ≡ output_in k past
unfolding outputs_in
output_at_lem k past l = get_d_listed (λ j. output_in j past) output_count k fresh_output l

counts : (k : ℕ) (a : List Setting) (r : Brought) (past : History) → a ≡ settings_in past → k < output_count
    → gained_by (rule_at a k) (gain_of a r) (output_at (outputs_in past) k) ≡ credited_by (weight_now k past) (gain_for k r past) (output_in k past)
unfolding gained_by
counts k a r past e l = rw (output_at_lem k past l, gain_is (followed (rule_at a k).choice) a r, e)

-- ---- what a step gives beside its number: a tick alone says what was emitted

emitted_none : (t : Bool) (v : Given) (k : ℕ) → emitted_by v ≡ [] → get_or (emitted_by (cond t v given.Nothing)) k 0 ≡ 0
emitted_none true v k e = rw e
emitted_none false v k e = refl

asked_none : (q : Question) (w : World) → emitted_by (given_by (Ask q) w) ≡ []
asked_none question.Report w = refl
asked_none question.Outputs w = refl
asked_none (question.Readout room) w = refl
asked_none (question.Archive i) w = refl
asked_none (question.Log i) w = refl
asked_none (question.Audit i) w = refl
asked_none (question.Last code) w = refl

called_none : (door : ℕ) (act : Act) (w : World) → emitted_by (given_by (Call door act) w) ≡ []
called_none door Begin w = refl
called_none door (Read setting) w = refl
called_none door (Write setting v) w = refl
called_none door Abandon w = refl

-- what is taken of output k by a step that gives v
reply_by_lem : (x : Step) (w : World) → (step x w).1 ≡ giving (first_of (rows_of x w)) (given_by x w)
reply_by_lem x w = ap (λ (o : World × Reply). o.1) (step_is x w)

taken_is : (k : ℕ) (x : Step) (w : World) → taken_at k (x, (step x w).1) ≡ get_or (emitted_by (cond (eqb (first_of (rows_of x w)) 0) (given_by x w) given.Nothing)) k 0
taken_is k x w = ap (λ (a : Reply). get_or (emitted_by a.given) k 0) (reply_by_lem x w)

taken_none : (k : ℕ) (x : Step) (w : World) → emitted_by (given_by x w) ≡ [] → taken_at k (x, (step x w).1) ≡ 0
taken_none k x w e = taken_is k x w ∙ emitted_none (eqb (first_of (rows_of x w)) 0) (given_by x w) k e

tick_taken : (k : ℕ) (named : ℕ) (w : World) → taken_at k (Tick named, (step (Tick named) w).1)
    ≡ cond (eqb (first_of (rows_of (Tick named) w)) 0) (get_or (all_ticked named w.state.core.outputs).emitted k 0) 0
unfolding all_ticked listed
tick_taken k named w = taken_is k (Tick named) w ∙ by (eqb (first_of (rows_of (Tick named) w)) 0)
  where
    by : (t : Bool) → get_or (emitted_by (cond t (given_by (Tick named) w) given.Nothing)) k 0 ≡ cond t (get_or (all_ticked named w.state.core.outputs).emitted k 0) 0
    by true = refl
    by false = refl

-- what a tick takes of an output is what waits there by the history, or what it names
emitted_told : (k named : ℕ) (w : World) (past : History) → k < output_count → w.state.core.outputs ≡ outputs_in past
    → get_or (all_ticked named w.state.core.outputs).emitted k 0 ≡ (ticked_by named (output_in k past)).emitted
emitted_told k named w past l e =
    emitted_at k l named w.state.core.outputs ∙ ap (λ (o : Output). (ticked_by named o).emitted) (ap (λ (all : List Output). output_at all k) e ∙ output_at_lem k past l)

-- ---- one step

abbrev outputs_held : Body → List Output
outputs_held b = b.core.outputs

-- the history before the step, and what is known there
module _ (w : World) (past : History) (force : w.state.core.settings ≡ settings_in past) (told : w.state.core.outputs ≡ outputs_in past) where
  -- an accepted cycle
  module _ (r : Brought) (fits : is_too_large (amounts_for w.state.core.settings r) ≡ false) where
    gained_told : gained_for w.state.core.settings r w.state.core.outputs ≡ all_gained (rule_at w.state.core.settings) (gain_of w.state.core.settings r) (outputs_in past)
    gained_told = gained_is w.state.core.settings r w.state.core.outputs fits ∙ ap (all_gained (rule_at w.state.core.settings) (gain_of w.state.core.settings r)) told

    -- WHICH OUTPUTS LOSE PULSES is what the history says
    pub losses_told : (gained_for w.state.core.settings r w.state.core.outputs).over ≡ losses_for r past
    unfolding all_gained credited_by
    losses_told =
        rw gained_told (listed_same _ _ output_count (λ k l. ap (λ g. g.over) (counts k w.state.core.settings r past force l)))

    cycle_outputs : (a : Reply) → done (Cycle r, a) ≡ true → ((k : ℕ) → taken_at k (Cycle r, a) ≡ 0)
        → (gained_for w.state.core.settings r w.state.core.outputs).outputs ≡ outputs_in ((Cycle r, a) ∷ past)
    unfolding all_gained outputs_in
    cycle_outputs a d t =
        rw gained_told
        (listed_same _ _ output_count
        (λ k l. ap (λ g. g.output) (counts k w.state.core.settings r past force l)
        ∙ gains_on k (Cycle r, a) past (gain_for k r past) (cycle_stands k r a past) (rw d) (t k)))

  -- a step that leaves the outputs and the settings
  same_outputs : (x : Step × Reply) → ((k : ℕ) → rule_in k (x ∷ past) ≡ rule_in k past) → ((k : ℕ) → gain_at k x past ≡ 0) → ((k : ℕ) → taken_at k x ≡ 0)
      → w.state.core.outputs ≡ outputs_in (x ∷ past)
  unfolding outputs_in
  same_outputs x e g t = told ∙ listed_same _ _ output_count (λ k l. idle k x past (e k) (g k) (t k))

  tick_outputs : (n : ℕ) (x : Step × Reply) → ((k : ℕ) → rule_in k (x ∷ past) ≡ rule_in k past) → ((k : ℕ) → gain_at k x past ≡ 0)
      → ((k : ℕ) → taken_at k x ≡ get_or (all_ticked n w.state.core.outputs).emitted k 0)
      → (all_ticked n w.state.core.outputs).outputs ≡ outputs_in (x ∷ past)
  unfolding all_ticked outputs_in
  tick_outputs n x e g t =
      rw told
      (listed_same _ _ output_count
      (λ k l. ap (λ (o : Output). (ticked_by n o).output) (output_at_lem k past l)
      ∙ ticks k x past n (e k) (g k) (t k ∙ emitted_told k n w past l told)))

  commit_outputs : (b : List Setting) (x : Step × Reply) → b ≡ settings_in (x ∷ past) → ((k : ℕ) → gain_at k x past ≡ 0) → ((k : ℕ) → taken_at k x ≡ 0)
      → all_committed (rule_at w.state.core.settings) (rule_at b) w.state.core.outputs ≡ outputs_in (x ∷ past)
  unfolding all_committed outputs_in
  commit_outputs b x e g t =
      rw (told, force, e)
      (listed_same _ _ output_count
      (λ k l. ap (committed_by (rule_in k past) (rule_in k (x ∷ past))) (output_at_lem k past l) ∙ commits_on k x past (g k) (t k)))

-- an accepted step, by its kind
module _ (w : World) (past : History) (force : w.state.core.settings ≡ settings_in past) (told : w.state.core.outputs ≡ outputs_in past) where
  done_outputs : (x : Step) → first_of (rows_of x w) ≡ 0 → let a = (step x w).1 in done (x, a) ≡ true
      → (after x w).state.core.settings ≡ settings_in ((x, a) ∷ past) → (after x w).state.core.outputs ≡ outputs_in ((x, a) ∷ past)
  unfolding cycled cycled_core turned turned_core cleared ticked with_session placed committed committed_core
  done_outputs (Cycle r) z d s = cycle_outputs w past force told r (silent (rows_of (Cycle r) w) refl z 14) (step (Cycle r) w).1 d (λ k. taken_none k (Cycle r) w refl)
  done_outputs (Turn turn) z d s = same_outputs w past force told (Turn turn, _) (λ k. ap (λ (a : List Setting). rule_at a k) (sym s ∙ force)) (λ k. refl) (λ k. taken_none k (Turn turn) w refl)
  done_outputs Clear z d s = same_outputs w past force told (Clear, _) (λ k. ap (λ (a : List Setting). rule_at a k) (sym s ∙ force)) (λ k. refl) (λ k. taken_none k Clear w refl)
  done_outputs (Tick named) z d s =
      tick_outputs w past force told named (Tick named, _) (λ k. ap (λ (a : List Setting). rule_at a k) (sym s ∙ force)) (λ k. refl) (λ k. tick_taken k named w ∙ rw z)
  done_outputs (Ask question) z d s = same_outputs w past force told (Ask question, _) (λ k. ap (λ (a : List Setting). rule_at a k) (sym s ∙ force)) (λ k. refl) (λ k. taken_none k (Ask question) w (asked_none question w))
  done_outputs (Call door act) z d s = same_outputs w past force told (Call door act, _) (λ k. ap (λ (a : List Setting). rule_at a k) (sym s ∙ force)) (λ k. refl) (λ k. taken_none k (Call door act) w (called_none door act w))
  done_outputs (Commit door) z d s = commit_outputs w past force told _ (Commit door, _) s (λ k. refl) (λ k. taken_none k (Commit door) w refl)

  -- a refused step gives nothing and takes nothing
  refused_taken : (k : ℕ) (x : Step) → eqb (first_of (rows_of x w)) 0 ≡ false → taken_at k (x, (step x w).1) ≡ 0
  refused_taken k x z = taken_is k x w ∙ rw z

  outputs_by_lem : (x : Step) (t : Bool) → eqb (first_of (rows_of x w)) 0 ≡ t → let a = (step x w).1 in done (x, a) ≡ t
      → (cond t (after x w) (refused_by x w (first_of (rows_of x w)))).state.core.settings ≡ settings_in ((x, a) ∷ past)
      → (cond t (after x w) (refused_by x w (first_of (rows_of x w)))).state.core.outputs ≡ outputs_in ((x, a) ∷ past)
  outputs_by_lem x true z d s = done_outputs x (eqb-true (first_of (rows_of x w)) 0 z) d s
  outputs_by_lem x false z d s =
      let b = refused_body x w (first_of (rows_of x w)) in
      let kept : w.state.core.settings ≡ settings_in ((x, (step x w).1) ∷ past) = sym (ap (λ (c : Body). c.core.settings) b) ∙ s in
      ap outputs_held b
      ∙ same_outputs w past force told (x, (step x w).1) (λ k. ap (λ (a : List Setting). rule_at a k) (sym kept ∙ force)) (λ k. gain_none k past x (step x w).1 (refused_cycle x (step x w).1 d)) (λ k. refused_taken k x z)

pub outputs_kept : KeptByStep (λ w past. w.state.core.outputs ≡ outputs_in past)
outputs_kept x w past h e =
    let s : (step x w).0.state.core.settings ≡ settings_in ((x, (step x w).1) ∷ past) = all_forced (step x w).0 ((x, (step x w).1) ∷ past) (step_forced x w past h.sessions h.force) in
    ap (λ (v : World). v.state.core.outputs) (world_is x w)
    ∙ outputs_by_lem w past (all_forced w past h.force) e x (eqb (first_of (rows_of x w)) 0) refl (ap (λ (n : ℕ). eqb n 0) (number_is x w)) (rw (world_is x w) at s)

-- ---- what a tick takes is there

taken_few : (k : ℕ) (x : Step) (w : World) (past : History) → k < output_count → w.state.core.outputs ≡ outputs_in past → taken_at k (x, (step x w).1) ≤ waiting_in k past
unfolding ticked_by
taken_few k (Tick named) w past l e = rw (tick_taken k named w, emitted_told k named w past l e) (by (eqb (first_of (rows_of (Tick named) w)) 0))
  where
    by : (t : Bool) → cond t (ticked_by named (output_in k past)).emitted 0 ≤ waiting_in k past
    by true = omega arith
    by false = omega arith
taken_few k (Cycle r) w past l e = rw (taken_none k (Cycle r) w refl) (omega arith)
taken_few k (Turn turn) w past l e = rw (taken_none k (Turn turn) w refl) (omega arith)
taken_few k Clear w past l e = rw (taken_none k Clear w refl) (omega arith)
taken_few k (Ask question) w past l e = rw (taken_none k (Ask question) w (asked_none question w)) (omega arith)
taken_few k (Call door act) w past l e = rw (taken_none k (Call door act) w (called_none door act w)) (omega arith)
taken_few k (Commit door) w past l e = rw (taken_none k (Commit door) w refl) (omega arith)

-- no step both takes and gives: where what waits and what comes due are no more than what is taken and the buffer, nothing is lost
none_over : (k : ℕ) (x : Step) (w : World) (past : History) → let y : Step × Reply = (x, (step x w).1) in waiting_in k past + due_at k y past ≤ taken_at k y + most_waiting → waiting_in k past + due_at k y past - most_waiting ≡ 0
none_over k (Tick named) w past f = omega (arith, still_due k (Tick named, (step (Tick named) w).1) past refl, waits k past)
none_over k (Cycle r) w past f = omega (arith, taken_none k (Cycle r) w refl, f)
none_over k (Turn turn) w past f = omega (arith, taken_none k (Turn turn) w refl, f)
none_over k Clear w past f = omega (arith, taken_none k Clear w refl, f)
none_over k (Ask question) w past f = omega (arith, taken_none k (Ask question) w (asked_none question w), f)
none_over k (Call door act) w past f = omega (arith, taken_none k (Call door act) w (called_none door act w), f)
none_over k (Commit door) w past f = omega (arith, taken_none k (Commit door) w refl, f)

-- the outputs are those of the history, the pulses of output k balance, and none is lost where all that was due fitted
record Balanced (k : ℕ) (w : World) (past : History) : Type 0 where
  outputs : w.state.core.outputs ≡ outputs_in past
  exact : due_in k past ≡ emitted_in k past + waiting_in k past + lost_in k past
  fitted : AlwaysFits k past → lost_in k past ≡ 0

balanced_kept : (k : ℕ) → k < output_count → KeptByStep (Balanced k)
balanced_kept k l x w past h s = record {
  outputs = outputs_kept x w past h s.outputs;
  exact = balances k x (step x w).1 past (taken_few k x w past l s.outputs) s.exact;
  fitted = λ f.
      let none : lost_in k past ≡ 0 = s.fitted (λ n. f (suc n)) in
      let more = none_over k x w past (omega (arith, f 0, due_adds k x (step x w).1 past, s.exact, none)) in
      omega (arith, none, more);
}

-- ---- a run from a start

no_due : (k : ℕ) → due_in k [] ≡ 0
no_due k = omega (arith, wholes_zero (weight_now k []))

none_yet : (k : ℕ) → fresh_output ≡ output_in k []
none_yet k = sym (output_is k (rest_zero (weight_now k [])) refl refl)

fresh_outputs_lem : (t : Bool) (time supcode custcode : ℕ) → (cond t (fresh time supcode custcode) (fresh 0 0 0)).core.outputs ≡ listed (λ k. fresh_output) output_count
unfolding fresh fresh_core fresh_outputs listed
fresh_outputs_lem true time supcode custcode = refl
fresh_outputs_lem false time supcode custcode = refl

module _ (time supcode custcode : ℕ) (archive : List ArchiveLine) (log : List LogLine) (audit : List AuditLine) where
  abbrev start : World
  start = started time supcode custcode archive log audit

  pub start_outputs : start.state.core.outputs ≡ outputs_in []
  unfolding start_of outputs_in
  start_outputs = fresh_outputs_lem (eqb (start_refusal time) 0) time supcode custcode ∙ listed_same _ _ output_count (λ k l. none_yet k)

  module _ (k : ℕ) (l : k < output_count) (xs : List Step) where
    abbrev end : World
    end = (run corrector xs start).1

    abbrev past : History
    past = history xs start

    abbrev output : Output
    output = output_of k end

    balanced : Balanced k end past
    balanced =
        from_start time supcode custcode archive log audit (Balanced k) (balanced_kept k l)
        (record { outputs = start_outputs; exact = no_due k; fitted = λ f. refl }) xs

    -- EACH OUTPUT IS WHAT THE HISTORY SAYS: in its account is what its counter gained since choice or weight last changed, less the whole weights
    pub outputs_exactly : output ≡ output_in k past
    outputs_exactly = ap (λ (o : List Output). output_at o k) balanced.outputs ∙ output_at_lem k past l

    -- THE BALANCE: pulses due are those emitted, waiting and lost, modulo 2^32
    pub balance : Balances k end past
    balance =
        rw outputs_exactly
        (ap (λ (n : ℕ). n % lost_rollover) balanced.exact
        ∙ sym (add-mod-mod (emitted_in k past + waiting_in k past) (lost_in k past) lost_rollover))

    -- and to the last pulse, where those lost are counted without a rollover
    pub balance_exactly : due_in k past ≡ emitted_in k past + output.waiting + lost_in k past
    balance_exactly = rw outputs_exactly balanced.exact

    -- NOTHING IS LOST if at every moment what was due less what was emitted fitted the buffer; then all that was due was emitted or waits
    pub nothing_lost : AlwaysFits k past → (output.lost ≡ 0) × (due_in k past ≡ emitted_in k past + output.waiting)
    nothing_lost f =
        let none : lost_in k past ≡ 0 = balanced.fitted f in
        (ap (λ (o : Output). o.lost) outputs_exactly ∙ ap (λ (n : ℕ). n % lost_rollover) none, omega (arith, balance_exactly, none))

-- ---- each loss

module _ (k : ℕ) (past : History) where
  -- AN ACCEPTED CYCLE LOSES PULSES OF OUTPUT k EXACTLY WHEN THE HISTORY SAYS SO: more would wait than 65,535
  pub loses_exactly : (r : Brought) (a : Reply) → done (Cycle r, a) ≡ true → (lost_in k past < lost_in k ((Cycle r, a) ∷ past)) ↔ (loses_for k r past ≡ true)
  loses_exactly r a d = (to, from)
    where
      due : due_at k (Cycle r, a) past ≡ due_for k r past
      due = rw d

      to : lost_in k past < lost_in k ((Cycle r, a) ∷ past) → loses_for k r past ≡ true
      to more = lt-ltb most_waiting (waiting_in k past + due_for k r past) (omega (arith, due, more))

      from : loses_for k r past ≡ true → lost_in k past < lost_in k ((Cycle r, a) ∷ past)
      from e = omega (arith, due, ltb-true most_waiting (waiting_in k past + due_for k r past) e)

  -- no other step loses any
  pub only_a_cycle_loses : (x : Step) (a : Reply) → on_cycle (λ r. done (x, a)) false x ≡ false → lost_in k ((x, a) ∷ past) ≡ lost_in k past
  only_a_cycle_loses x a n = lost_still k (x, a) past (gain_none k past x a n)

-- ---- and it then writes its line, once, after those of the alarms

-- how often a code stands in a list
abbrev count_of : ℕ → List ℕ → ℕ
count_of c [] = 0
count_of c (x ∷ xs) = cond (eqb x c) 1 0 + count_of c xs

count_noted : (c : ℕ) (t : Bool) (code : ℕ) (ns : List Note) → count_of c (noted (note_of t code ∷ ns)) ≡ cond t (cond (eqb code c) 1 0) 0 + count_of c (noted ns)
unfolding noted
count_noted c true code ns = refl
count_noted c false code ns = omega arith

count_none : (c : ℕ) → count_of c (noted []) ≡ 0
unfolding noted
count_none c = refl

noted_both : (ms ns : List Note) → noted (ms ++ ns) ≡ noted ms ++ noted ns
unfolding noted
noted_both [] ns = refl
noted_both (m ∷ ms) ns = ap (λ (l : List ℕ). option_to_list m ++ l) (noted_both ms ns) ∙ sym (append_assoc (option_to_list m) (noted ms) (noted ns))

-- THE LINES OF THE ALARMS COME FIRST
pub alarms_first : (before found : Alarms) (over : List Bool) → changes before found over ≡ noted (change_notes before found) ++ noted (loss_notes over)
unfolding changes
alarms_first before found over = noted_both (change_notes before found) (loss_notes over)

-- of ten notes with their codes, that of output k counts where the output lost pulses
once : (k : ℕ) → k < output_count → (before found : Alarms) (over : List Bool) → count_of (51 + k) (changes before found over) ≡ cond (get_or over k false) 1 0
unfolding changes change_notes loss_notes listed
once zero l before found over = simp (count_noted, count_none, same_either) (omega arith)
once (suc zero) l before found over = simp (count_noted, count_none, same_either) (omega arith)
once (suc (suc zero)) l before found over = simp (count_noted, count_none, same_either) (omega arith)
once (suc (suc (suc zero))) l before found over = simp (count_noted, count_none, same_either) (omega arith)
once (suc (suc (suc (suc k)))) l before found over = absurd (omega arith)

-- EACH LOSS HAS ITS LINE: among the codes that an accepted cycle logs, 51 to 54 stands once if its output loses pulses in it, and else not at all
pub loss_has_its_line : (k : ℕ) → k < output_count → (r : Brought) (past : History)
    → count_of (51 + k) (changes (found_in past) (alarms_for (settings_in past) r) (losses_for r past)) ≡ cond (loses_for k r past) 1 0
loss_has_its_line k l r past =
    once k l (found_in past) (alarms_for (settings_in past) r) (losses_for r past)
    ∙ ap (λ (t : Bool). cond t 1 0) (get_d_listed (λ j. loses_for j r past) output_count k false l)
