-- What each step does: its number is that of its rows; refused, it leaves the world, but that a commit refused by 10, 11 or 12 ends its
-- session; accepted, it does what stands here. A clause for each group of commands.
-- Assumes nothing.
use mathlib.Core.Path.{◌≡◌, refl, sym, ap, ◌∙◌}
use mathlib.Core.Bool.{Bool, true, false, cond, ◌&&◌}
use mathlib.Core.Logic.{◌↔◌}
use mathlib.Core.List.{[], ◌∷◌}
use Prim.Native.Nat.{ℕ, zero, suc, ◌<◌, ◌≤◌}
use native.Mathlib.Omega.{arith}
use lib.Dec.{ltb, leb, eqb}
use borrow.Author.Tests.{eqb-true, ltb-true, lt-ltb, leb-true, ne_eqb}
use Rattle.ground.proofs.Flags.{and_left, and_right}
use Rattle.outputs.specs.Four.{all_ticked}
use Rattle.ring.specs.Ring.{audit_lines}
use Rattle.ring.specs.Store.{written}
use Rattle.state.specs.declared.Measured.{Measured}
use Rattle.state.specs.declared.State.{State}
use Rattle.state.specs.State.{no_session}
use Rattle.state.specs.Card.{first_of}
use Rattle.commands.specs.declared.Brought.{Brought}
use Rattle.cycle.specs.Cycle.{cycle_refusal, cycled_core, cycled, cycle_of}
use Rattle.panel.specs.Panel.{turned_core, turned, clear_refusal, cleared, clear_by, tick_refusal, ticked, tick_by}
use Rattle.doors.specs.Doors.{session_at, placed, with_session, commit_refusal, commit_lines, committed_core, committed, ends_refused, refused_commit, commit_of}
use Rattle.commands.specs.declared.Given.TheVariants as given
use Rattle.runs.specs.Exactly.{Rows, applies, earlier, lists_number, orderly_b}
use Rattle.runs.specs.Exactly as exact
use Rattle.runs.specs.Rows.{asking, rows_of, printed_after, last_number, place_in_table, refused_by}
use Rattle.runs.specs.Run.{Step, Cycle, Turn, Clear, Tick, Ask, Call, Commit, Given, Reply, World, with_state, number_of, plain, giving, cycles, logs, audits, step, on_cycle, Body, body_of, lock_of, opens_it}
use Rattle.runs.proofs.Exactly.{exactly, done_exactly}
use Rattle.runs.proofs.Groups.{turn_is, reply_is, call_is, nothing_given, session_by, gives_at, printed_turn, printed_question, printed_call}

-- an accepted step
abbrev pub after : Step → World → World
after (Cycle r) w = (cycles w (cycled w.state r w.archive w.log)).0
after (Turn turn) w = (logs w (turned w.state (lock_of turn) (opens_it turn) w.log)).0
after Clear w = with_state w (cleared w.state)
after (Tick named) w = with_state w (ticked w.state named)
after (Ask question) w = w
after (Call door act) w = with_state w (with_session w.state door (session_by act (session_at w.state door)))
after (Commit door) w = record {
  state = committed w.state door;
  archive = w.archive;
  log = w.log;
  audit = written audit_lines w.state.core.stores.audit.ring w.audit (commit_lines w.state door);
}

-- what it gives beside its number
abbrev pub given_by : Step → World → Given
given_by (Cycle r) w = given.Nothing
given_by (Turn turn) w = given.Nothing
given_by Clear w = given.Nothing
given_by (Tick named) w = given.Emitted (all_ticked named w.state.core.outputs).emitted
given_by (Ask question) w = (asking question (body_of w)).gives
given_by (Call door act) w = gives_at door act w.state
given_by (Commit door) w = given.Nothing

-- ---- what a step comes to, by its number

through : {A B : Type 0} (f : A → B) (t : Bool) (y n : A) → f (cond t y n) ≡ cond t (f y) (f n)
through f true y n = refl
through f false y n = refl

pub same_either : {A : Type 0} (t : Bool) (y : A) → cond t y y ≡ y
same_either true y = refl
same_either false y = refl

abbrev Comes : Step → World → World × Reply → Type 0
Comes x w o = o ≡ (cond (eqb (first_of (rows_of x w)) 0) (after x w) (refused_by x w (first_of (rows_of x w))), giving (first_of (rows_of x w)) (given_by x w))

-- an answer that is chosen by its number
chosen : {A : Type 0} (f : A → World × Reply) (y n : A) (k : ℕ) (a b : World) (t : Bool) → eqb k 0 ≡ t → f y ≡ (a, plain 0) → f n ≡ (b, plain k)
    → f (cond (eqb k 0) y n) ≡ (cond (eqb k 0) a b, giving k given.Nothing)
chosen f y n k a b true e p q = rw (eqb-true k 0 e) p
chosen f y n k a b false e p q = rw e q

-- a state that is
settled : (w : World) (k : ℕ) (v : Given) (y : State) → ◌≡◌ {A = World × Reply} (with_state w (cond (eqb k 0) y w.state), giving k v) (cond (eqb k 0) (with_state w y) w, giving k v)
settled w k v y = ap (λ (u : World). (u, giving k v)) (through (with_state w) (eqb k 0) y w.state)

pub step_is : (x : Step) (w : World) → Comes x w (step x w)
unfolding cycle_of cycle_refusal cycled turned clear_by clear_refusal tick_by tick_refusal commit_of commit_refusal
step_is (Cycle r) w = let k = first_of (rows_of (Cycle r) w) in chosen (cycles w) _ _ k (after (Cycle r) w) w (eqb k 0) refl refl refl
step_is (Turn turn) w = let k = first_of (rows_of (Turn turn) w) in ap (logs w) (turn_is turn w) ∙ chosen (logs w) _ _ k (after (Turn turn) w) w (eqb k 0) refl refl refl
step_is Clear w = let k = first_of (rows_of Clear w) in rw (nothing_given k) (settled w k given.Nothing (cleared w.state))
step_is (Tick named) w = settled w (first_of (rows_of (Tick named) w)) (given_by (Tick named) w) (ticked w.state named)
step_is (Ask question) w = let k = first_of (rows_of (Ask question) w) in rw (same_either (eqb k 0) w) (ap (λ (r : Reply). (w, r)) (reply_is question w))
step_is (Call door act) w = call_is door act w ∙ settled w (first_of (rows_of (Call door act) w)) (gives_at door act w.state) _
step_is (Commit door) w =
    let k = first_of (rows_of (Commit door) w) in
    chosen (audits w) _ _ k (after (Commit door) w) (refused_by (Commit door) w k) (eqb k 0) refl refl refl

pub number_is : (x : Step) (w : World) → number_of (step x w).1 ≡ first_of (rows_of x w)
number_is x w = ap (λ (o : World × Reply). number_of o.1) (step_is x w)

pub world_is : (x : Step) (w : World)
    → (step x w).0 ≡ cond (eqb (first_of (rows_of x w)) 0) (after x w) (refused_by x w (first_of (rows_of x w)))
world_is x w = ap (λ (o : World × Reply). o.0) (step_is x w)

-- ---- only a cycle measures

pub on_cycle_lem : {A B : Type 0} (h : A → B) (f : Brought → A) (d : A) (x : Step) → h (on_cycle f d x) ≡ on_cycle (λ r. h (f r)) (h d) x
on_cycle_lem h f d (Cycle r) = refl
on_cycle_lem h f d (Turn turn) = refl
on_cycle_lem h f d Clear = refl
on_cycle_lem h f d (Tick named) = refl
on_cycle_lem h f d (Ask question) = refl
on_cycle_lem h f d (Call door act) = refl
on_cycle_lem h f d (Commit door) = refl

pub measured_by_lem : (x : Step) (w : World) → (after x w).state.core.measured ≡ on_cycle (λ r. (cycled_core w.state.core r).measured) w.state.core.measured x
unfolding cycled turned turned_core cleared ticked with_session placed committed committed_core
measured_by_lem (Cycle r) w = refl
measured_by_lem (Turn turn) w = refl
measured_by_lem Clear w = refl
measured_by_lem (Tick named) w = refl
measured_by_lem (Ask question) w = refl
measured_by_lem (Call door act) w = refl
measured_by_lem (Commit door) w = refl

-- and so of any part of what it measures
pub part_by : {A : Type 0} (h : Measured → A) (x : Step) (w : World) → h (after x w).state.core.measured ≡ on_cycle (λ r. h (cycled_core w.state.core r).measured) (h w.state.core.measured) x
part_by h x w = ap h (measured_by_lem x w) ∙ on_cycle_lem h (λ r. (cycled_core w.state.core r).measured) w.state.core.measured x

-- ---- every command, every state

-- the rows stand in the printed order, and no number twice
pub printed : (x : Step) (w : World) → printed_after 0 (rows_of x w) ≡ true
printed (Cycle r) w = refl
printed (Turn turn) w = printed_turn turn w
printed Clear w = refl
printed (Tick named) w = refl
printed (Ask question) w = printed_question question w
printed (Call door act) w = printed_call door act w.state
printed (Commit door) w = refl

-- what that says of a first row and of those after it
module _ (k : ℕ) (x : ℕ × Bool) (xs : Rows) (e : printed_after k (x ∷ xs) ≡ true) where
  its_place : k < place_in_table x.0
  its_place = ltb-true k (place_in_table x.0) (and_left (ltb k (place_in_table x.0)) _ e)

  no_later : (leb x.0 last_number && printed_after (place_in_table x.0) xs) ≡ true
  no_later = and_right (ltb k (place_in_table x.0)) _ e

  listed : x.0 ≤ last_number
  listed = leb-true x.0 last_number (and_left (leb x.0 last_number) _ no_later)

  others : printed_after (place_in_table x.0) xs ≡ true
  others = and_right (leb x.0 last_number) _ no_later

-- no number is 0
above_zero : (n k : ℕ) → k < place_in_table n → 0 < n
above_zero zero k l = absurd (omega arith)
above_zero (suc n) k l = omega arith

-- and none comes again, once its place is passed
passed : (n k : ℕ) (xs : Rows) → place_in_table n ≤ k → printed_after k xs ≡ true → lists_number n xs ≡ false
passed n k [] l e = refl
passed n k (x ∷ xs) l e =
    let place : k < place_in_table x.0 = its_place k x xs e in
    let another : x.0 ≡ n → ⊥ = λ same. let p : place_in_table x.0 ≡ place_in_table n = ap place_in_table same in omega arith in
    rw (ne_eqb x.0 n another) (passed n (place_in_table x.0) xs (omega arith) (others k x xs e))

orderly_after : (k : ℕ) (xs : Rows) → printed_after k xs ≡ true → orderly_b xs ≡ true
orderly_after k [] e = refl
orderly_after k (x ∷ xs) e =
    let place : ℕ = place_in_table x.0 in
    let some : ltb 0 x.0 ≡ true = lt-ltb 0 x.0 (above_zero x.0 k (its_place k x xs e)) in
    let plain : lists_number x.0 xs ≡ false = passed x.0 place xs (omega arith) (others k x xs e) in
    rw (some, plain) (orderly_after place xs (others k x xs e))

pub orderly : (x : Step) (w : World) → orderly_b (rows_of x w) ≡ true
orderly x w = orderly_after 0 (rows_of x w) (printed x w)

few_by : (b : Bool) (n rest : ℕ) → n ≤ last_number → rest ≤ last_number → cond b n rest ≤ last_number
few_by true n rest p q = p
few_by false n rest p q = q

few : (k : ℕ) (xs : Rows) → printed_after k xs ≡ true → first_of xs ≤ last_number
few k [] e = omega arith
few k (x ∷ xs) e = few_by x.1 x.0 (first_of xs) (listed k x xs e) (few (place_in_table x.0) xs (others k x xs e))

-- THE NUMBER IS IN THE PRINTED TABLE
pub in_table : (x : Step) (w : World) → number_of (step x w).1 ≤ last_number
in_table x w = rw (number_is x w) (few 0 (rows_of x w) (printed x w))

-- EACH REFUSAL EXACTLY WHEN ITS RULE SAYS, the first in the printed order
pub refused_exactly : (x : Step) (w : World) (n : ℕ) → 0 < n → (number_of (step x w).1 ≡ n) ↔ exact.Given n (rows_of x w)
refused_exactly x w n l = rw (number_is x w) (exactly (rows_of x w) (orderly x w) n l)

-- and its rule may be said in other words, b, that are the same where no row before it applies
pub refused_when : (x : Step) (w : World) (n : ℕ) → 0 < n → (b : Bool) → (earlier n (rows_of x w) ≡ false → applies n (rows_of x w) ≡ b)
    → (number_of (step x w).1 ≡ n) ↔ ((earlier n (rows_of x w) ≡ false) × (b ≡ true))
refused_when x w n l b same = (to, from)
  where
    to : number_of (step x w).1 ≡ n → (earlier n (rows_of x w) ≡ false) × (b ≡ true)
    to e = let g = (refused_exactly x w n l).0 e in (g.before, sym (same g.before) ∙ g.here)

    from : (earlier n (rows_of x w) ≡ false) × (b ≡ true) → number_of (step x w).1 ≡ n
    from (e, h) = (refused_exactly x w n l).1 (record { here = same e ∙ h; before = e })

-- DONE EXACTLY WHEN NO REFUSAL APPLIES
pub accepted_exactly : (x : Step) (w : World) → (number_of (step x w).1 ≡ 0) ↔ ((n : ℕ) → applies n (rows_of x w) ≡ false)
accepted_exactly x w = rw (number_is x w) (done_exactly (rows_of x w) (orderly x w))

-- A REFUSAL LEAVES ALL AS IT WAS, but that a commit refused by 10, 11 or 12 ends its session
pub refused_leaves : (x : Step) (w : World) (n : ℕ) → 0 < n → number_of (step x w).1 ≡ n → (step x w).0 ≡ refused_by x w n
refused_leaves x w n l e =
    let q : first_of (rows_of x w) ≡ n = sym (number_is x w) ∙ e in
    world_is x w ∙ rw (q, ne_eqb n 0 (λ z. omega arith))

-- and returns its number and no value
pub refused_says : (x : Step) (w : World) (n : ℕ) → 0 < n → number_of (step x w).1 ≡ n → (step x w).1 ≡ plain n
refused_says x w n l e =
    let q : first_of (rows_of x w) ≡ n = sym (number_is x w) ∙ e in
    ap (λ (o : World × Reply). o.1) (step_is x w) ∙ rw (q, ne_eqb n 0 (λ h. omega arith))

-- ---- a refusal leaves the core and the stores

ended_core : (w : World) (door : ℕ) (t : Bool) → (cond t (with_session w.state door no_session) w.state).core ≡ w.state.core
unfolding with_session placed
ended_core w door true = refl
ended_core w door false = refl

pub refused_body : (x : Step) (w : World) (n : ℕ) → body_of (refused_by x w n) ≡ body_of w
unfolding refused_commit
refused_body (Cycle r) w k = refl
refused_body (Turn turn) w k = refl
refused_body Clear w k = refl
refused_body (Tick named) w k = refl
refused_body (Ask question) w k = refl
refused_body (Call door act) w k = refl
refused_body (Commit door) w k = rw (ended_core w door (ends_refused k))

-- so that what an accepted step leaves, each step leaves
pub leaves : {A : Type 0} (f : Body → A) (x : Step) (w : World) → f (body_of (after x w)) ≡ f (body_of w) → f (body_of (step x w).0) ≡ f (body_of w)
leaves f x w e = rw (world_is x w) (by (eqb (first_of (rows_of x w)) 0))
  where
    by : (t : Bool) → f (body_of (cond t (after x w) (refused_by x w (first_of (rows_of x w))))) ≡ f (body_of w)
    by true = e
    by false = ap f (refused_body x w (first_of (rows_of x w)))
