-- The stores: after any run from a start each holds the last of the lines written, and the state tells how many that were. One law of a store,
-- by the length of the run; each of the three supplies what an accepted step does to it.
-- Assumes nothing.
use mathlib.Core.Path.{◌≡◌, refl, sym, ap, ◌∙◌}
use mathlib.Core.Bool.{Bool, true, false, cond}
use mathlib.Core.List.{List, [], ◌∷◌, ◌++◌, append-nil, reverse}
use Prim.Native.Nat.{ℕ, zero, suc, ◌+◌, ◌-◌, ◌%◌, ◌≤◌, ◌<◌}
use native.Mathlib.Nat.{add-zero, zero-add, add-mod, mod-mod}
use native.Mathlib.Omega.{arith}
use lib.Dec.{eqb}
use borrow.Author.Tests.{eqb-true}
use lib.ListN.{length, length-append, take, get_or}
use Rattle.order.specs.Order.{run}
use Rattle.ring.specs.declared.Ring.{Ring}
use Rattle.ring.specs.declared.Book.{Book}
use Rattle.calendar.specs.Calendar.{month_of}
use Rattle.settings.specs.declared.Value.{Value}
use Rattle.settings.specs.Settings.{setting_count, no_setting}
use Rattle.ring.specs.Ring.{archive_lines, log_lines, audit_lines, numbers, ring_after, book_after, advanced_book}
use Rattle.ring.specs.Store.{written}
use Rattle.ring.proofs.Fresh.{ring_advances, book_advances}
use Rattle.ring.proofs.Stores.{fresh_written, more_written}
use Rattle.state.specs.Card.{first_of}
use Rattle.state.specs.declared.Cell.{Cell}
use Rattle.state.specs.declared.Session.{Session}
use Rattle.state.specs.State.{blank_cell, fresh, fresh_core}
use Rattle.state.proofs.Card.{not_false}
use Rattle.notes.specs.Notes.{keep, numbered, log_line, logged}
use Rattle.notes.proofs.Laws.{numbered_length}
use Rattle.cycle.specs.Cycle.{month_lines, changes, gained_for, alarms_for, cycled_core, cycled}
use Rattle.panel.specs.Panel.{lock_in, turn_codes, turned_core, turned, cleared, ticked, start_of, start_refusal}
use Rattle.doors.specs.Doors.{no_door, session_at, cell_at, placed, with_session, read_after, write_after, Change, changes_among, audit_line, audited, commit_lines, committed_core, committed}
use Rattle.books.specs.declared.ArchiveLine.{ArchiveLine}
use Rattle.books.specs.declared.LogLine.{LogLine}
use Rattle.books.specs.declared.AuditLine.{AuditLine}
use Rattle.runs.specs.Run.{Step, Cycle, Turn, Clear, Tick, Ask, Call, Commit, on_cycle, World, lock_of, opens_it, number_of, step, corrector, started, Body, body_of}
use Rattle.runs.specs.Rows.{rows_of, refused_by}
use Rattle.runs.specs.History.{History, history, last_time, start_time}
use Rattle.runs.specs.Stale.{has_staged}
use Rattle.runs.specs.InForce.{in_force, settings_in, seen_at}
use Rattle.runs.specs.Locks.{lock_at}
use Rattle.runs.specs.Latches.{found_in}
use Rattle.runs.specs.Lines.{Shelf, archive_for, archive_shelf, log_for, log_shelf, changes_in, audit_for, audit_shelf, wrote_in, holds}
use Rattle.runs.proofs.Effects.{after, number_is, world_is, refused_body}
use Rattle.runs.proofs.Exactly.{silent}
use Rattle.runs.proofs.Stale.{Known, known_at, in_table}
use Rattle.runs.proofs.InForce.{Agreed, all_forced}
use Rattle.runs.proofs.Locks.{said_in, turned_lock}
use Rattle.runs.specs.Outputs.{losses_for}
use Rattle.runs.proofs.Outputs.{losses_told}
use Rattle.runs.proofs.Told.{Told, month_told, counters_told, from_start_told}

-- What a store supplies. `writes` are the lines of an accepted step, by the state before it; where the state tells of n lines, they are told after
-- it, and stand in the store. And where the state is what the history tells, they are the lines that go by the history.
pub record Kept (S : Shelf) : Type 1 where
  pub writes : Step → World → List S.Line
  pub Tells : ℕ → Body → Type 0
  pub ring_of : Body → Ring
  pub store_of : Body → List S.Line
  pub ring_is : (w : World) → S.ring w ≡ ring_of (body_of w)
  pub store_is : (w : World) → S.store w ≡ store_of (body_of w)
  pub some_line : 0 < S.size
  pub told_ring : (n : ℕ) (b : Body) → Tells n b → ring_of b ≡ ring_after S.size n
  pub tells_on : (x : Step) (w : World) (n : ℕ) → Tells n (body_of w) → Tells (n + length (writes x w)) (body_of (after x w))
  pub stores_on : (x : Step) (w : World) → store_of (body_of (after x w)) ≡ written S.size (ring_of (body_of w)) (store_of (body_of w)) (writes x w)
  pub by_history : (t a b n : ℕ) (x : Step) (w : World) (past : History) → Agreed w past → Told t a b w past → Tells n (body_of w) → first_of (rows_of x w) ≡ 0
      → writes x w ≡ S.lines t n x past

module _ (S : Shelf) (K : Kept S) where
  open K use {writes, Tells, ring_of, store_of, ring_is, store_is, some_line, told_ring, tells_on, stores_on, by_history}

  -- the state tells of the lines ys, and they stand in the store, which was l when fresh
  pub record Holding (l ys : List S.Line) (b : Body) : Type 0 where
    pub tells : Tells (length ys) b
    pub stores : store_of b ≡ written S.size (ring_after S.size 0) l ys

  holding_on : (x : Step) (w : World) (l ys : List S.Line) → Holding l ys (body_of w) → Holding l (ys ++ writes x w) (body_of (after x w))
  holding_on x w l ys h = record {
    tells = rw (length-append ys (writes x w)) (tells_on x w (length ys) h.tells);
    stores =
        stores_on x w
        ∙ rw (told_ring (length ys) (body_of w) h.tells, h.stores, ← zero-add (length ys)) (sym (more_written S.size 0 l ys (writes x w) some_line));
  }

  module _ (t a b : ℕ) (x : Step) (w : World) (past : History) (h : Agreed w past) (s : Told t a b w past) (l ys : List S.Line) where
    abbrev more : List S.Line
    more = S.lines t (length ys) x past

    holding_by : (k : ℕ) → first_of (rows_of x w) ≡ k → (u : Bool) → eqb k 0 ≡ u → Holding l ys (body_of w) → Holding l (ys ++ cond u more []) (body_of (cond u (after x w) (refused_by x w k)))
    holding_by k z true e o = rw (← by_history t a b (length ys) x w past h s o.tells (z ∙ eqb-true k 0 e)) (holding_on x w l ys o)
    holding_by k z false e o = rw (append-nil ys, refused_body x w k) o

    holding_step : Holding l ys (body_of w) → Holding l (ys ++ cond (eqb (number_of (step x w).1) 0) more []) (body_of (step x w).0)
    holding_step o = let k = first_of (rows_of x w) in rw (number_is x w, world_is x w) (holding_by k refl (eqb k 0) refl o)

-- ---- a book into which n lines were written numbers the next ones from n on

module _ {A B : Type 0} (line : ℕ → A → B) where
  numbered_mod : (n m : ℕ) (xs : List A) → n % numbers ≡ m % numbers → numbered line n xs ≡ numbered line m xs
  unfolding numbered
  numbered_mod n m [] e = refl
  numbered_mod n m (x ∷ xs) e =
      let s : (n + 1) % numbers ≡ (m + 1) % numbers = add-mod n 1 numbers ∙ ap (λ (j : ℕ). (j + 1 % numbers) % numbers) e ∙ sym (add-mod m 1 numbers) in
      rw (e, numbered_mod (n + 1) (m + 1) xs s)

  numbered_from : (size n : ℕ) (b : Book) (xs : List A) → b ≡ book_after size n → numbered line b.number xs ≡ numbered line n xs
  unfolding book_after
  numbered_from size n b xs e = rw e (numbered_mod (n % numbers) n xs (mod-mod n numbers))

-- ---- the archive

abbrev pub archive_by : Step → World → List ArchiveLine
archive_by x w = on_cycle (λ r. month_lines w.state.core.measured.counters w.state.core.measured.month (month_of r.time)) [] x

abbrev pub ArchiveTells : ℕ → Body → Type 0
ArchiveTells n b = b.core.stores.archive ≡ ring_after archive_lines n

no_more : {A : Type 0} (f : ℕ → A) (a : A) (n : ℕ) → a ≡ f n → a ≡ f (n + 0)
no_more f a n e = rw add-zero e

archive_tells : (x : Step) (w : World) (n : ℕ) → ArchiveTells n (body_of w) → ArchiveTells (n + length (archive_by x w)) (body_of (after x w))
unfolding cycled cycled_core turned turned_core cleared ticked with_session placed read_after write_after committed committed_core
archive_tells (Cycle r) w n e = rw e (ring_advances archive_lines n (length (archive_by (Cycle r) w)) (omega arith))
archive_tells (Turn turn) w n e = no_more (ring_after archive_lines) w.state.core.stores.archive n e
archive_tells Clear w n e = no_more (ring_after archive_lines) w.state.core.stores.archive n e
archive_tells (Tick named) w n e = no_more (ring_after archive_lines) w.state.core.stores.archive n e
archive_tells (Ask question) w n e = no_more (ring_after archive_lines) w.state.core.stores.archive n e
archive_tells (Call door act) w n e = no_more (ring_after archive_lines) w.state.core.stores.archive n e
archive_tells (Commit door) w n e = no_more (ring_after archive_lines) w.state.core.stores.archive n e

pub archive_stores : (x : Step) (w : World) → (after x w).archive ≡ written archive_lines w.state.core.stores.archive w.archive (archive_by x w)
unfolding written cycled turned
archive_stores (Cycle r) w = refl
archive_stores (Turn turn) w = refl
archive_stores Clear w = refl
archive_stores (Tick named) w = refl
archive_stores (Ask question) w = refl
archive_stores (Call door act) w = refl
archive_stores (Commit door) w = refl

pub archive_told : (t a b n : ℕ) (x : Step) (w : World) (past : History) → Told t a b w past → archive_by x w ≡ archive_for t n x past
archive_told t a b n x w past s = rw (counters_told t a b w past s, month_told t a b w past s)

abbrev archive_kept : Kept archive_shelf
archive_kept = record {
  writes = archive_by;
  Tells = ArchiveTells;
  ring_of = λ b. b.core.stores.archive;
  store_of = λ b. b.archive;
  ring_is = λ w. refl;
  store_is = λ w. refl;
  some_line = omega arith;
  told_ring = λ n b e. e;
  tells_on = archive_tells;
  stores_on = archive_stores;
  by_history = λ t a b n x w past h s e z. archive_told t a b n x w past s;
}

-- ---- the logbook

abbrev pub log_by : Step → World → List LogLine
log_by (Cycle r) w = logged w.state.core.stores.log r.time (changes w.state.core.measured.alarms (alarms_for w.state.core.settings r) (gained_for w.state.core.settings r w.state.core.outputs).over)
log_by (Turn turn) w = logged w.state.core.stores.log w.state.core.measured.time (turn_codes (lock_in w.state.core.locks (lock_of turn)) (lock_of turn) (opens_it turn))
log_by Clear w = []
log_by (Tick named) w = []
log_by (Ask question) w = []
log_by (Call door act) w = []
log_by (Commit door) w = []

abbrev pub LogTells : ℕ → Body → Type 0
LogTells n b = b.core.stores.log ≡ book_after log_lines n

-- a command's lines advance the book by their number
log_on : (w : World) (n time : ℕ) (codes : List ℕ) → w.state.core.stores.log ≡ book_after log_lines n
    → advanced_book log_lines (length codes) w.state.core.stores.log ≡ book_after log_lines (n + length (logged w.state.core.stores.log time codes))
unfolding logged
log_on w n time codes e =
    rw (numbered_length (log_line time) w.state.core.stores.log.number codes, e) (book_advances log_lines n (length codes) (omega arith))

pub log_tells : (x : Step) (w : World) (n : ℕ) → LogTells n (body_of w) → LogTells (n + length (log_by x w)) (body_of (after x w))
unfolding cycled cycled_core turned turned_core cleared ticked with_session placed read_after write_after committed committed_core
log_tells (Cycle r) w n e = log_on w n r.time (changes w.state.core.measured.alarms (alarms_for w.state.core.settings r) (gained_for w.state.core.settings r w.state.core.outputs).over) e
log_tells (Turn turn) w n e = log_on w n w.state.core.measured.time (turn_codes (lock_in w.state.core.locks (lock_of turn)) (lock_of turn) (opens_it turn)) e
log_tells Clear w n e = no_more (book_after log_lines) w.state.core.stores.log n e
log_tells (Tick named) w n e = no_more (book_after log_lines) w.state.core.stores.log n e
log_tells (Ask question) w n e = no_more (book_after log_lines) w.state.core.stores.log n e
log_tells (Call door act) w n e = no_more (book_after log_lines) w.state.core.stores.log n e
log_tells (Commit door) w n e = no_more (book_after log_lines) w.state.core.stores.log n e

pub log_stores : (x : Step) (w : World) → (after x w).log ≡ written log_lines w.state.core.stores.log.ring w.log (log_by x w)
unfolding written cycled turned
log_stores (Cycle r) w = refl
log_stores (Turn turn) w = refl
log_stores Clear w = refl
log_stores (Tick named) w = refl
log_stores (Ask question) w = refl
log_stores (Call door act) w = refl
log_stores (Commit door) w = refl

-- what a book tells, its ring tells
pub book_ring : (size n : ℕ) (b : Book) → b ≡ book_after size n → b.ring ≡ ring_after size n
unfolding book_after
book_ring size n b e = ap (λ (x : Book). x.ring) e

logged_from : (n time : ℕ) (b : Book) (codes : List ℕ) → b ≡ book_after log_lines n → logged b time codes ≡ numbered (log_line time) n codes
unfolding logged
logged_from n time b codes e = numbered_from (log_line time) log_lines n b codes e

log_by_history : (t a b n : ℕ) (x : Step) (w : World) (past : History) → Agreed w past → Told t a b w past → LogTells n (body_of w) → first_of (rows_of x w) ≡ 0
    → log_by x w ≡ log_for t n x past
log_by_history t a b n (Cycle r) w past h s e z =
    rw (losses_told w past (all_forced w past h.force) s.outputs r (silent (rows_of (Cycle r) w) refl z 14), s.found, all_forced w past h.force)
    (logged_from n r.time w.state.core.stores.log (changes (found_in past) (alarms_for (settings_in past) r) (losses_for r past)) e)
log_by_history t a b n (Turn turn) w past h s e z =
    let at : lock_in w.state.core.locks (lock_of turn) ≡ lock_at (lock_of turn) past = rw s.locks (said_in a b past (lock_of turn) (turned_lock turn w z)) in
    rw (at, s.time) (logged_from n (last_time t past) w.state.core.stores.log (turn_codes (lock_at (lock_of turn) past) (lock_of turn) (opens_it turn)) e)
log_by_history t a b n Clear w past h s e z = refl
log_by_history t a b n (Tick named) w past h s e z = refl
log_by_history t a b n (Ask question) w past h s e z = refl
log_by_history t a b n (Call door act) w past h s e z = refl
log_by_history t a b n (Commit door) w past h s e z = refl

abbrev log_kept : Kept log_shelf
log_kept = record {
  writes = log_by;
  Tells = LogTells;
  ring_of = λ b. b.core.stores.log.ring;
  store_of = λ b. b.log;
  ring_is = λ w. refl;
  store_is = λ w. refl;
  some_line = omega arith;
  told_ring = λ n b e. book_ring log_lines n b.core.stores.log e;
  tells_on = log_tells;
  stores_on = log_stores;
  by_history = log_by_history;
}

-- ---- the audit trail

abbrev pub audit_by : Step → World → List AuditLine
audit_by (Cycle r) w = []
audit_by (Turn turn) w = []
audit_by Clear w = []
audit_by (Tick named) w = []
audit_by (Ask question) w = []
audit_by (Call door act) w = []
audit_by (Commit door) w = commit_lines w.state door

abbrev pub AuditTells : ℕ → Body → Type 0
AuditTells n b = b.core.stores.audit ≡ book_after audit_lines n

pub audit_tells : (x : Step) (w : World) (n : ℕ) → AuditTells n (body_of w) → AuditTells (n + length (audit_by x w)) (body_of (after x w))
unfolding cycled cycled_core turned turned_core cleared ticked with_session placed read_after write_after committed committed_core
audit_tells (Cycle r) w n e = no_more (book_after audit_lines) w.state.core.stores.audit n e
audit_tells (Turn turn) w n e = no_more (book_after audit_lines) w.state.core.stores.audit n e
audit_tells Clear w n e = no_more (book_after audit_lines) w.state.core.stores.audit n e
audit_tells (Tick named) w n e = no_more (book_after audit_lines) w.state.core.stores.audit n e
audit_tells (Ask question) w n e = no_more (book_after audit_lines) w.state.core.stores.audit n e
audit_tells (Call door act) w n e = no_more (book_after audit_lines) w.state.core.stores.audit n e
audit_tells (Commit door) w n e =
    let k = length (audit_by (Commit door) w) in
    ap (advanced_book audit_lines k) e ∙ book_advances audit_lines n k (omega arith)

pub audit_stores : (x : Step) (w : World) → (after x w).audit ≡ written audit_lines w.state.core.stores.audit.ring w.audit (audit_by x w)
unfolding written cycled turned
audit_stores (Cycle r) w = refl
audit_stores (Turn turn) w = refl
audit_stores Clear w = refl
audit_stores (Tick named) w = refl
audit_stores (Ask question) w = refl
audit_stores (Call door act) w = refl
audit_stores (Commit door) w = refl

-- the settings that a commit puts in force, by the session's cells and by the history
same_change : (k : ℕ) (t : Bool) (a b u v : Value) → a ≡ b → (t ≡ true → u ≡ v)
    → keep {A = Change} t (record { setting = k; old = a; new = u }) ≡ keep t (record { setting = k; old = b; new = v })
same_change k true a b u v e f = rw (e, f refl)
same_change k false a b u v e f = refl

module _ (door : ℕ) (w : World) (past : History) (h : Agreed w past) (m : Session) (known : Known door m past) (live : m.live ≡ true) where
  one_change : (k : ℕ) → k < setting_count
      → keep {A = Change} (get_or m.cells k blank_cell).staged (record { setting = k + 1; old = (get_or w.state.core.settings k no_setting).value; new = (get_or m.cells k blank_cell).value })
      ≡ keep (has_staged door (k + 1) past) (record { setting = k + 1; old = in_force (k + 1) past; new = seen_at door (k + 1) past })
  unfolding cell_at
  one_change k l =
      let p : k + 1 - 1 ≡ k = omega arith in
      let marks = known.tells live (k + 1) (in_table k l) in
      let c : Cell = get_or m.cells k blank_cell in
      let staged : c.staged ≡ has_staged door (k + 1) past = rw p at marks.staged in
      let value : cond c.staged c.value (in_force (k + 1) past) ≡ seen_at door (k + 1) past = rw p at (marks.value (in_force (k + 1) past)) in
      rw (← staged) (same_change (k + 1) c.staged _ _ _ _ (h.force.tells k l) (λ t. (rw t at value)))

  changes_told : (n : ℕ) → n ≤ setting_count → changes_among w.state.core.settings m.cells n ≡ changes_in door past n
  unfolding changes_among changes_in
  changes_told zero l = refl
  changes_told (suc k) l = rw (changes_told k (omega arith), one_change k (omega arith))

commit_told : (t a b n : ℕ) (door : ℕ) (w : World) (past : History) → Agreed w past → Told t a b w past → AuditTells n (body_of w) → no_door door ≡ false
    → (session_at w.state door).live ≡ true → commit_lines w.state door ≡ numbered (audit_line (last_time t past) door) n (changes_in door past setting_count)
unfolding commit_lines audited
commit_told t a b n door w past h s e d live =
    rw (changes_told door w past h (session_at w.state door) (known_at w past h.sessions door d) live setting_count (omega arith), s.time)
    (numbered_from (audit_line (last_time t past) door) audit_lines n w.state.core.stores.audit (changes_in door past setting_count) e)

audit_by_history : (t a b n : ℕ) (x : Step) (w : World) (past : History) → Agreed w past → Told t a b w past → AuditTells n (body_of w) → first_of (rows_of x w) ≡ 0
    → audit_by x w ≡ audit_for t n x past
audit_by_history t a b n (Cycle r) w past h s e z = refl
audit_by_history t a b n (Turn turn) w past h s e z = refl
audit_by_history t a b n Clear w past h s e z = refl
audit_by_history t a b n (Tick named) w past h s e z = refl
audit_by_history t a b n (Ask question) w past h s e z = refl
audit_by_history t a b n (Call door act) w past h s e z = refl
audit_by_history t a b n (Commit door) w past h s e z =
    commit_told t a b n door w past h s e (silent (rows_of (Commit door) w) refl z 3) (not_false (session_at w.state door).live (silent (rows_of (Commit door) w) refl z 4))

abbrev audit_kept : Kept audit_shelf
audit_kept = record {
  writes = audit_by;
  Tells = AuditTells;
  ring_of = λ b. b.core.stores.audit.ring;
  store_of = λ b. b.audit;
  ring_is = λ w. refl;
  store_is = λ w. refl;
  some_line = omega arith;
  told_ring = λ n b e. book_ring audit_lines n b.core.stores.audit e;
  tells_on = audit_tells;
  stores_on = audit_stores;
  by_history = audit_by_history;
}

-- ---- a start writes nothing, and no line is then held

module _ (time supcode custcode : ℕ) (archive : List ArchiveLine) (log : List LogLine) (audit : List AuditLine) where
  abbrev begun : World
  begun = started time supcode custcode archive log audit

  fresh_tells : (t : Bool) → ((cond t (fresh time supcode custcode) (fresh 0 0 0)).core.stores.archive ≡ ring_after archive_lines 0)
      × ((cond t (fresh time supcode custcode) (fresh 0 0 0)).core.stores.log ≡ book_after log_lines 0)
      × ((cond t (fresh time supcode custcode) (fresh 0 0 0)).core.stores.audit ≡ book_after audit_lines 0)
  unfolding fresh fresh_core
  fresh_tells true = (refl, refl, refl)
  fresh_tells false = (refl, refl, refl)

  pub begun_tells : ArchiveTells 0 (body_of begun) × LogTells 0 (body_of begun) × AuditTells 0 (body_of begun)
  unfolding start_of
  begun_tells = fresh_tells (eqb (start_refusal time) 0)

  -- after any run a store holds the last of the lines that its history says were written, and the state tells how many these were
  module _ (S : Shelf) (K : Kept S) (xs : List Step) (t : K.Tells 0 (body_of begun)) where
    abbrev end : World
    end = (run corrector xs begun).1

    abbrev lines : List S.Line
    lines = wrote_in S (start_time time) (history xs begun)

    pub holding : Holding S K (S.store begun) lines (body_of end)
    unfolding written
    holding =
        from_start_told time supcode custcode archive log audit (λ w past. Holding S K (S.store begun) (wrote_in S (start_time time) past) (body_of w))
        (λ x w past h s o. holding_step S K _ _ _ x w past h s (S.store begun) (wrote_in S (start_time time) past) o)
        (record { tells = t; stores = sym (K.store_is begun) }) xs

    pub run_holds : length (S.store begun) ≡ S.size → holds S end ≡ take S.size (reverse lines)
    run_holds e =
        rw (K.ring_is end, K.store_is end, K.told_ring (length lines) (body_of end) holding.tells, holding.stores)
        (fresh_written S.size S.blank (S.store begun) lines K.some_line e)

  -- THE ARCHIVE HOLDS THE LAST 15 OF THE LINES WRITTEN, newest first
  pub archive_holds : (xs : List Step) → length archive ≡ archive_lines
      → holds archive_shelf (run corrector xs begun).1 ≡ take archive_lines (reverse (wrote_in archive_shelf (start_time time) (history xs begun)))
  archive_holds xs e = run_holds archive_shelf archive_kept xs begun_tells.0 e

  -- THE LOGBOOK THE LAST 250
  pub log_holds : (xs : List Step) → length log ≡ log_lines
      → holds log_shelf (run corrector xs begun).1 ≡ take log_lines (reverse (wrote_in log_shelf (start_time time) (history xs begun)))
  log_holds xs e = run_holds log_shelf log_kept xs begun_tells.1 e

  -- THE AUDIT TRAIL THE LAST 200, and they are those of the commits
  pub audit_holds : (xs : List Step) → length audit ≡ audit_lines
      → holds audit_shelf (run corrector xs begun).1 ≡ take audit_lines (reverse (wrote_in audit_shelf (start_time time) (history xs begun)))
  audit_holds xs e = run_holds audit_shelf audit_kept xs begun_tells.2 e
