-- Laws of the panel's commands, over the definitions: a whole state stays whole, Clear drops exactly the latches of alarms not
-- present, the totals of a report are main plus disturbed, and a lock turned to where it stands leaves everything as it was.
-- Assumes nothing.
use mathlib.Core.Path.{◌≡◌, refl, sym, ap, ◌∙◌}
use mathlib.Core.Bool.{Bool, true, false, not, cond, ◌&&◌, ◌||◌, true≢false, and-true, and-false}
use mathlib.Core.List.{List, []}
use Prim.Native.Nat.{ℕ, zero, suc, ◌≤◌, ◌<◌}
use native.Mathlib.Nat.{add-zero}
use native.Mathlib.Omega.{arith}
use lib.Dec.{ltb, leb, eqb}
use lib.ListN.{length, get_or}
use borrow.Author.Tests.{ltb-false, lt-leb, le-leb, leb-false}
use Rattle.ground.proofs.Flags.{or_false_right, Either, is_true, is_false, either_of}
use Rattle.units.specs.Units.{plus_litres, plus_base}
use Rattle.outputs.specs.Four.{rule_at}
use Rattle.outputs.proofs.All.{ticks_keep}
use Rattle.calendar.specs.Calendar.{end_of_time}
use Rattle.ring.specs.declared.Book.{Book}
use Rattle.ring.specs.Ring.{archive_lines, log_lines, log_step, book_after, FromFresh, advanced_book, book_b}
use Rattle.ring.specs.Store.{written, held_lines}
use Rattle.ring.proofs.Fresh.{book_advances}
use Rattle.ring.proofs.Whole.{book_from, book_stays, log_common}
use Rattle.books.specs.declared.ArchiveLine.{ArchiveLine}
use Rattle.books.specs.declared.LogLine.{LogLine}
use Rattle.books.specs.Books.{no_archive, no_log}
use Rattle.notes.specs.Notes.{numbered, logged}
use Rattle.state.specs.declared.Counters.{Counters}
use Rattle.state.specs.declared.Alarms.{Alarms}
use Rattle.state.specs.declared.Locks.{Locks}
use Rattle.state.specs.declared.State.{State}
use Rattle.state.specs.State.{fresh, latched_b, whole_b}
use Rattle.state.proofs.Sound.{Totalled, totals_sound, measured_sound, Sound, SoundCore, whole_sound, sound_whole, fresh_whole}
use Rattle.asked.specs.Asked.{line_given}
use Rattle.commands.specs.declared.Given.TheVariants as given
use Rattle.commands.specs.Answers.{plain, Outcome, with_log}
use Rattle.panel.specs.Panel.{start_refusal, start_of, no_lock, lock_in, with_lock, turn_codes, turned_core, turned, refused_turn, open_refusal, open_of, shut_refusal, shut_of, cleared_latches, cleared, clear_refusal, clear_by, clear_of, tick_refusal, ticked, tick_by, tick_of, reported, log_line_of, archive_line_of}

-- ---- start

start_by_lem : (time supcode custcode : ℕ) → Either (leb end_of_time time) → whole_b (start_of time supcode custcode).state ≡ true
unfolding start_of start_refusal
start_by_lem time supcode custcode (is_true t) = rw t (fresh_whole 0 0 0 (omega arith))
start_by_lem time supcode custcode (is_false f) = rw f (fresh_whole time supcode custcode (leb-false end_of_time time f))

pub start_whole : (time supcode custcode : ℕ) → whole_b (start_of time supcode custcode).state ≡ true
start_whole time supcode custcode = start_by_lem time supcode custcode (either_of (leb end_of_time time))

pub start_refused : (time supcode custcode : ℕ) → end_of_time ≤ time → start_of time supcode custcode ≡ record { reply = plain 6; state = fresh 0 0 0 }
unfolding start_of start_refusal
start_refused time supcode custcode h = rw (le-leb end_of_time time h)

pub start_done : (time supcode custcode : ℕ) → time < end_of_time → start_of time supcode custcode ≡ record { reply = plain 0; state = fresh time supcode custcode }
unfolding start_of start_refusal
start_done time supcode custcode h = rw (lt-leb end_of_time time h)

-- ---- lock turns

pub turned_whole : (s : State) (lock : ℕ) (to : Bool) (log : List LogLine) → whole_b s ≡ true → whole_b (turned s lock to log).answer.state ≡ true
unfolding turned turned_core
turned_whole s lock to log e =
    let p : Sound s = whole_sound s e in
    let c : SoundCore s.core = p.core in
    sound_whole (turned s lock to log).answer.state (record {
      core = record {
        measured = c.measured;
        fit = c.fit;
        ordered = c.ordered;
        latched = c.latched;
        outputs = c.outputs;
        archive_held = c.archive_held;
        log_held = book_stays log_common (length (turn_codes (lock_in s.core.locks lock) lock to)) s.core.stores.log c.log_held;
        audit_held = c.audit_held;
      };
      keypad = p.keypad;
      port = p.port;
    })

-- a turn by its refusal
turn_whole : (number : ℕ) (s : State) (lock : ℕ) (to : Bool) (log : List LogLine) (done : Bool) → whole_b s ≡ true
    → whole_b (cond {A = Outcome} done (turned s lock to log) (refused_turn number s log)).answer.state ≡ true
turn_whole number s lock to log true e = turned_whole s lock to log e
turn_whole number s lock to log false e = e

pub open_whole : (s : State) (lock code : ℕ) (log : List LogLine) → whole_b s ≡ true → whole_b (open_of s lock code log).answer.state ≡ true
unfolding open_of
open_whole s lock code log =
    turn_whole (open_refusal (whole_b s) s (length log) lock code) s lock true log (eqb (open_refusal (whole_b s) s (length log) lock code) 0)

pub shut_whole : (s : State) (lock : ℕ) (log : List LogLine) → whole_b s ≡ true → whole_b (shut_of s lock log).answer.state ≡ true
unfolding shut_of
shut_whole s lock log = turn_whole (shut_refusal (whole_b s) (length log) lock) s lock false log (eqb (shut_refusal (whole_b s) (length log) lock) 0)

-- ---- clear

clear_flag : (present latch : Bool) → (not present || latch && present) ≡ (not present || latch)
clear_flag true latch = and-true latch
clear_flag false latch = refl

cleared_latched : (present latch : Alarms) → latched_b present (cleared_latches latch present) ≡ latched_b present latch
unfolding latched_b cleared_latches
cleared_latched present latch =
    rw (clear_flag present.p latch.p, clear_flag present.t latch.t, clear_flag present.k latch.k)

pub cleared_whole : (s : State) → whole_b s ≡ true → whole_b (cleared s) ≡ true
unfolding cleared
cleared_whole s e =
    let p : Sound s = whole_sound s e in
    let c : SoundCore s.core = p.core in
    sound_whole (cleared s) (record {
      core = record {
        measured = c.measured;
        fit = c.fit;
        ordered = c.ordered;
        latched = cleared_latched s.core.measured.alarms s.core.latches ∙ c.latched;
        outputs = c.outputs;
        archive_held = c.archive_held;
        log_held = c.log_held;
        audit_held = c.audit_held;
      };
      keypad = p.keypad;
      port = p.port;
    })

clear_by_lem : (number : ℕ) (s : State) (done : Bool) → whole_b s ≡ true → whole_b (cond {A = State} done (cleared s) s) ≡ true
clear_by_lem number s true e = cleared_whole s e
clear_by_lem number s false e = e

pub clear_whole : (s : State) → whole_b s ≡ true → whole_b (clear_of s).state ≡ true
unfolding clear_by
clear_whole s = clear_by_lem (clear_refusal (whole_b s) s) s (eqb (clear_refusal (whole_b s) s) 0)

-- ---- tick

pub ticked_whole : (s : State) (n : ℕ) → whole_b s ≡ true → whole_b (ticked s n) ≡ true
unfolding ticked
ticked_whole s n e =
    let p : Sound s = whole_sound s e in
    let c : SoundCore s.core = p.core in
    sound_whole (ticked s n) (record {
      core = record {
        measured = c.measured;
        fit = c.fit;
        ordered = c.ordered;
        latched = c.latched;
        outputs = ticks_keep (rule_at s.core.settings) n s.core.outputs c.outputs;
        archive_held = c.archive_held;
        log_held = c.log_held;
        audit_held = c.audit_held;
      };
      keypad = p.keypad;
      port = p.port;
    })

tick_by_lem : (s : State) (n : ℕ) (done : Bool) → whole_b s ≡ true → whole_b (cond {A = State} done (ticked s n) s) ≡ true
tick_by_lem s n true e = ticked_whole s n e
tick_by_lem s n false e = e

pub tick_whole : (s : State) (n : ℕ) → whole_b s ≡ true → whole_b (tick_of s n).state ≡ true
unfolding tick_by
tick_whole s n = tick_by_lem s n (eqb (tick_refusal (whole_b s) n) 0)

-- ---- latches

-- of each alarm: a latch drops where the alarm is not present, and stays as it was where it is
pub record Dropped (present latch after : Bool) : Type 0 where
  pub gone : present ≡ false → after ≡ false
  pub stays : present ≡ true → after ≡ latch

drop_of : (present latch : Bool) → Dropped present latch (latch && present)
drop_of present latch = record {
  gone = λ (e : present ≡ false). rw e (and-false latch);
  stays = λ (e : present ≡ true). rw e (and-true latch);
}

pub record DroppedAll (present latch after : Alarms) : Type 0 where
  pub p : Dropped present.p latch.p after.p
  pub t : Dropped present.t latch.t after.t
  pub k : Dropped present.k latch.k after.k

pub clear_drops : (present latch : Alarms) → DroppedAll present latch (cleared_latches latch present)
unfolding cleared_latches
clear_drops present latch = record {
  p = drop_of present.p latch.p;
  t = drop_of present.t latch.t;
  k = drop_of present.k latch.k;
}

-- ---- totals

-- the totals that a report of a whole state shows are main plus disturbed under the rollover
module _ (s : State) (e : whole_b s ≡ true) where
  abbrev shown : Counters
  shown = (reported s.core).counters

  totalled : Totalled s.core.measured.counters
  totalled = totals_sound s.core.measured.counters (measured_sound s.core.measured (whole_sound s e).core.measured).totalled

  pub total_litres : shown.vmt ≡ plus_litres shown.vm shown.vmd
  unfolding reported
  total_litres = λ i. record { 0 = totalled.litres i }

  pub total_base : shown.vbt ≡ plus_base shown.vb shown.vbd
  unfolding reported
  total_base = λ i. record { 0 = totalled.base i }

-- ---- a lock's place

-- the three locks
data Which (lock : ℕ) : Type 0 where
  one : lock ≡ 1 → Which lock
  two : lock ≡ 2 → Which lock
  three : lock ≡ 3 → Which lock

which : (lock : ℕ) → no_lock lock ≡ false → Which lock
which zero h = absurd (true≢false h)
which (suc zero) h = one refl
which (suc (suc zero)) h = two refl
which (suc (suc (suc zero))) h = three refl
which (suc (suc (suc (suc n)))) h = absurd (omega (arith, ltb-false 3 (suc (suc (suc (suc n)))) (or_false_right (ltb (suc (suc (suc (suc n)))) 1) (ltb 3 (suc (suc (suc (suc n))))) h)))

stands_by : (l : Locks) (lock : ℕ) (to : Bool) → Which lock → lock_in (with_lock l lock to) lock ≡ to
unfolding lock_in with_lock
stands_by l lock to (one e) = rw e
stands_by l lock to (two e) = rw e
stands_by l lock to (three e) = rw e

-- a lock stands where it was turned to, and the others where they stood
pub lock_turned_lem : (l : Locks) (lock : ℕ) (to : Bool) → no_lock lock ≡ false → lock_in (with_lock l lock to) lock ≡ to
lock_turned_lem l lock to h = stands_by l lock to (which lock h)

other_by : (l : Locks) (lock other : ℕ) (to : Bool) → Which other → eqb lock other ≡ false → lock_in (with_lock l lock to) other ≡ lock_in l other
unfolding lock_in with_lock
other_by l lock other to (one e) h = rw e (rw (rw e at h))
other_by l lock other to (two e) h = rw e (rw (rw e at h))
other_by l lock other to (three e) h = rw e (rw (rw e at h))

pub others_stand : (l : Locks) (lock other : ℕ) (to : Bool) → no_lock other ≡ false → eqb lock other ≡ false → lock_in (with_lock l lock to) other ≡ lock_in l other
others_stand l lock other to h = other_by l lock other to (which other h)

still_by : (l : Locks) (lock : ℕ) (to : Bool) → Which lock → lock_in l lock ≡ to → with_lock l lock to ≡ l
unfolding lock_in with_lock
still_by l lock to (one e) h = rw (e, sym (rw e at h))
still_by l lock to (two e) h = rw (e, sym (rw e at h))
still_by l lock to (three e) h = rw (e, sym (rw e at h))

still_codes : (lock : ℕ) (to : Bool) → turn_codes to lock to ≡ []
unfolding turn_codes
still_codes lock true = refl
still_codes lock false = refl

no_line : (b : Book) → book_b log_lines log_step b ≡ true → advanced_book log_lines 0 b ≡ b
no_line b e =
    let f : FromFresh (book_after log_lines) b = book_from log_common b e in
    ap (advanced_book log_lines 0) f.gives ∙ book_advances log_lines f.lines 0 (omega arith) ∙ ap (book_after log_lines) (add-zero f.lines) ∙ sym f.gives

-- turned to where it already stands: accepted, not logged, and nothing changes
pub turned_still : (s : State) (lock : ℕ) (to : Bool) (log : List LogLine) → whole_b s ≡ true → no_lock lock ≡ false → lock_in s.core.locks lock ≡ to
    → turned s lock to log ≡ with_log (record { reply = plain 0; state = s }) log
unfolding turned turned_core logged numbered written
turned_still s lock to log e h at =
    rw (at, still_codes lock to, still_by s.core.locks lock to (which lock h) at, no_line s.core.stores.log (whole_sound s e).core.log_held)

-- ---- lines

-- a line that is given is line i of those held, newest first
pub log_line_held : (s : State) (i : ℕ) (log : List LogLine) → (log_line_of s i log).number ≡ 0
    → (log_line_of s i log).given ≡ given.Log (get_or (held_lines log_lines no_log s.core.stores.log.ring log) i no_log)
unfolding line_given
log_line_held s i log e = rw e

pub archive_line_held : (s : State) (i : ℕ) (archive : List ArchiveLine) → (archive_line_of s i archive).number ≡ 0
    → (archive_line_of s i archive).given ≡ given.Archive (get_or (held_lines archive_lines no_archive s.core.stores.archive archive) i no_archive)
unfolding line_given
archive_line_held s i archive e = rw e
