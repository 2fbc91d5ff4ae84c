-- Locks, exactly: after any run from a start the locks stand where the history says, with the start's codes. So Open is refused by 8, Clear by 10,
-- and a turn writes its line, by what the history says. By the length of the run.
-- Assumes nothing.
use mathlib.Core.Path.{◌≡◌, refl, ap, ◌∙◌}
use mathlib.Core.Bool.{Bool, true, false, not, cond, ◌||◌, true≢false}
use mathlib.Core.Logic.{◌↔◌}
use mathlib.Core.List.{List, [], ◌∷◌}
use Prim.Native.Nat.{ℕ, zero, suc, ◌+◌}
use native.Mathlib.Omega.{arith}
use lib.Dec.{ltb, leb, eqb}
use lib.ListN.{length}
use borrow.Author.Tests.{ltb-false}
use Rattle.ground.proofs.Flags.{or_false_left, or_false_right}
use Rattle.order.specs.Order.{run}
use Rattle.calendar.specs.Calendar.{end_of_time}
use Rattle.ring.specs.Ring.{log_lines}
use Rattle.books.specs.declared.ArchiveLine.{ArchiveLine}
use Rattle.books.specs.declared.LogLine.{LogLine}
use Rattle.books.specs.declared.AuditLine.{AuditLine}
use Rattle.notes.specs.Notes.{keep, numbered, log_line}
use Rattle.state.specs.declared.Locks.{Locks}
use Rattle.state.specs.State.{fresh, fresh_core, shut_locks}
use Rattle.state.specs.Card.{first_of}
use Rattle.cycle.specs.Cycle.{cycled_core, cycled}
use Rattle.panel.specs.Panel.{no_lock, lock_in, with_lock, right_code, turn_codes, turned_core, turned, cleared, ticked, start_of, start_refusal}
use Rattle.doors.specs.Doors.{placed, with_session, committed_core, committed}
use Rattle.runs.specs.Exactly.{earlier}
use Rattle.runs.specs.Rows.{rows_of, unsound, refused_by}
use Rattle.runs.specs.Run.{Step, LockTurn, Open, Shut, Cycle, Turn, Clear, Tick, Ask, Call, Commit, Reply, World, lock_of, opens_it, number_of, step, corrector, started, Body, body_of}
use Rattle.runs.specs.Lines.{log_for}
use Rattle.runs.specs.History.{History, history, done, last_time}
use Rattle.runs.specs.Locks.{on_turn, lock_by, lock_at, locks_in, start_code, wrong_code, may_clear, moves}
use Rattle.runs.proofs.Exactly.{silent}
use Rattle.runs.proofs.Effects.{after, number_is, world_is, refused_body, refused_when}
use Rattle.runs.proofs.InForce.{from_start}

abbrev locks_of : Body → Locks
locks_of b = b.core.locks

-- ---- a step

-- the locks after an accepted step
abbrev locks_by : Step → Locks → Locks
locks_by x l = on_turn (λ turn. with_lock l (lock_of turn) (opens_it turn)) l x

accepted_locks : (x : Step) (w : World) → locks_of (body_of (after x w)) ≡ locks_by x w.state.core.locks
unfolding cycled cycled_core turned turned_core cleared ticked with_session placed committed committed_core
accepted_locks (Cycle r) w = refl
accepted_locks (Turn turn) w = refl
accepted_locks Clear w = refl
accepted_locks (Tick named) w = refl
accepted_locks (Ask question) w = refl
accepted_locks (Call door act) w = refl
accepted_locks (Commit door) w = refl

locks_by_lem : (x : Step) (w : World) (k : ℕ) (t : Bool) → locks_of (body_of (cond t (after x w) (refused_by x w k))) ≡ cond t (locks_by x w.state.core.locks) w.state.core.locks
locks_by_lem x w k true = accepted_locks x w
locks_by_lem x w k false = ap locks_of (refused_body x w k)

step_locks : (x : Step) (w : World) → (step x w).0.state.core.locks ≡ cond (eqb (number_of (step x w).1) 0) (locks_by x w.state.core.locks) w.state.core.locks
step_locks x w = let k = first_of (rows_of x w) in rw (number_is x w, world_is x w) (locks_by_lem x w k (eqb k 0))

-- what the history says after one step more
done_said : (a b : ℕ) (x : Step) (past : History) → locks_by x (locks_in a b past)
    ≡ record { cal = lock_by 1 x (lock_at 1 past); sup = lock_by 2 x (lock_at 2 past); cust = lock_by 3 x (lock_at 3 past); supcode = a; custcode = b }
unfolding with_lock
done_said a b (Cycle r) past = refl
done_said a b (Turn turn) past = refl
done_said a b Clear past = refl
done_said a b (Tick named) past = refl
done_said a b (Ask question) past = refl
done_said a b (Call door act) past = refl
done_said a b (Commit door) past = refl

step_said : (a b : ℕ) (x : Step × Reply) (past : History) (t : Bool) → done x ≡ t → cond t (locks_by x.0 (locks_in a b past)) (locks_in a b past) ≡ locks_in a b (x ∷ past)
step_said a b x past true e = rw e (done_said a b x.0 past)
step_said a b x past false e = rw e

-- ---- a run

pub locks_kept : (a b : ℕ) (x : Step) (w : World) (past : History) → w.state.core.locks ≡ locks_in a b past
    → (step x w).0.state.core.locks ≡ locks_in a b ((x, (step x w).1) ∷ past)
locks_kept a b x w past e =
    let r = (step x w).1 in
    let d = eqb (number_of r) 0 in
    step_locks x w ∙ ap (λ (l : Locks). cond d (locks_by x l) l) e ∙ step_said a b (x, r) past d refl

pub start_locks : (time supcode custcode : ℕ) (t : Bool) → leb end_of_time time ≡ t
    → (start_of time supcode custcode).state.core.locks ≡ locks_in (start_code time supcode) (start_code time custcode) []
unfolding start_of start_refusal fresh fresh_core shut_locks
start_locks time supcode custcode true e = rw e
start_locks time supcode custcode false e = rw e

-- ---- a lock from 1 to 3

each_lock : (P : ℕ → Type 0) → P 1 → P 2 → P 3 → (lock : ℕ) → no_lock lock ≡ false → P lock
each_lock P p q r zero e = absurd (true≢false e)
each_lock P p q r (suc zero) e = p
each_lock P p q r (suc (suc zero)) e = q
each_lock P p q r (suc (suc (suc zero))) e = r
each_lock P p q r (suc (suc (suc (suc n)))) e =
    absurd (omega (arith, ltb-false 3 (suc (suc (suc (suc n)))) (or_false_right (ltb (suc (suc (suc (suc n)))) 1) (ltb 3 (suc (suc (suc (suc n))))) e)))

-- where the lock stands by the history
pub said_in : (a b : ℕ) (past : History) (lock : ℕ) → no_lock lock ≡ false → lock_in (locks_in a b past) lock ≡ lock_at lock past
unfolding lock_in
said_in a b past = each_lock (λ lock. lock_in (locks_in a b past) lock ≡ lock_at lock past) refl refl refl

-- whether a code opens it
or_none : (b : Bool) → b ≡ (b || false)
or_none true = refl
or_none false = refl

code_wrong : (a b : ℕ) (past : History) (code lock : ℕ) → no_lock lock ≡ false → not (right_code (locks_in a b past) lock code) ≡ wrong_code a b lock code
unfolding right_code
code_wrong a b past code = each_lock (λ lock. not (right_code (locks_in a b past) lock code) ≡ wrong_code a b lock code) refl (or_none (not (eqb code a))) refl

-- the lock of an accepted turn is 1, 2 or 3
pub turned_lock : (turn : LockTurn) (w : World) → first_of (rows_of (Turn turn) w) ≡ 0 → no_lock (lock_of turn) ≡ false
turned_lock (Open lock code) w z = silent (rows_of (Turn (Open lock code)) w) refl z 3
turned_lock (Shut lock) w z = silent (rows_of (Turn (Shut lock)) w) refl z 3

-- ---- the line of a turn

one_line : (n time code : ℕ) (m : Bool) → length (numbered (log_line time) n (keep m code)) ≡ cond m 1 0
unfolding numbered
one_line n time code true = refl
one_line n time code false = refl

-- A LINE IN THE LOGBOOK EXACTLY WHERE A LOCK MOVED: a turn writes one line if it moves its lock, and else none
pub line_where_moved : (t n : ℕ) (turn : LockTurn) (past : History) → length (log_for t n (Turn turn) past) ≡ cond (moves turn past) 1 0
unfolding turn_codes
line_where_moved t n (Open lock code) past = one_line n (last_time t past) (30 + lock) (not (lock_at lock past))
line_where_moved t n (Shut lock) past = one_line n (last_time t past) (40 + lock) (lock_at lock past)

-- ---- a run from a start

module _ (xs : List Step) (time supcode custcode : ℕ) (archive : List ArchiveLine) (log : List LogLine) (audit : List AuditLine) where
  abbrev start : World
  start = started time supcode custcode archive log audit

  abbrev end : World
  end = (run corrector xs start).1

  abbrev past : History
  past = history xs start

  -- the codes of locks 2 and 3
  abbrev code2 : ℕ
  code2 = start_code time supcode

  abbrev code3 : ℕ
  code3 = start_code time custcode

  -- THE LOCKS STAND WHERE THE HISTORY SAYS, and their codes are the start's
  pub locks_exactly : end.state.core.locks ≡ locks_in code2 code3 past
  locks_exactly =
      from_start time supcode custcode archive log audit (λ w past. w.state.core.locks ≡ locks_in code2 code3 past)
      (λ x w past h e. locks_kept code2 code3 x w past e) (start_locks time supcode custcode (leb end_of_time time) refl) xs

  -- so each of the three is open exactly if the last accepted turn of it opened it
  pub lock_exactly : (lock : ℕ) → no_lock lock ≡ false → lock_in end.state.core.locks lock ≡ lock_at lock past
  lock_exactly lock e = rw locks_exactly (said_in code2 code3 past lock e)

  -- OPEN IS REFUSED BY 8 EXACTLY WHEN its lock is 2 or 3 and the code is not the start's, where 1 and 3 do not come first
  pub wrong_code_exactly : (lock code : ℕ)
      → (number_of (step (Turn (Open lock code)) end).1 ≡ 8) ↔ ((earlier 8 (rows_of (Turn (Open lock code)) end) ≡ false) × (wrong_code code2 code3 lock code ≡ true))
  wrong_code_exactly lock code =
      refused_when (Turn (Open lock code)) end 8 (omega arith) (wrong_code code2 code3 lock code)
      (λ e. ap (λ (l : Locks). not (right_code l lock code)) locks_exactly
      ∙ code_wrong code2 code3 past code lock
      (or_false_left (no_lock lock) false (or_false_right (unsound end (eqb (length end.log) log_lines)) (no_lock lock || false) e)))

  -- CLEAR IS REFUSED BY 10 EXACTLY WHEN neither lock 1 nor lock 2 is open by the history, where 1 does not come first
  pub clear_right_exactly : (number_of (step Clear end).1 ≡ 10) ↔ ((earlier 10 (rows_of Clear end) ≡ false) × (not (may_clear past) ≡ true))
  clear_right_exactly = refused_when Clear end 10 (omega arith) (not (may_clear past)) (λ e. ap (λ (l : Locks). not (l.cal || l.sup)) locks_exactly)
