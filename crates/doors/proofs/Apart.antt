-- Nothing staged or read at one door changes any answer at the other before a commit: states that differ in one door's session alone give
-- the same answers at the other door, and go on doing so through any steps there.
-- Assumes nothing.
use mathlib.Core.Path.{◌≡◌, refl, sym, ◌∙◌}
use mathlib.Core.Bool.{Bool, true, false, cond}
use mathlib.Core.List.{List}
use Prim.Native.Nat.{ℕ}
use lib.Dec.{eqb}
use lib.ListN.{length}
use borrow.Author.Tests.{eqb-true}
use Rattle.ground.proofs.Flags.{Either, is_true, is_false, either_of}
use Rattle.settings.specs.declared.Value.{Value}
use Rattle.books.specs.declared.AuditLine.{AuditLine}
use Rattle.state.specs.declared.Session.{Session}
use Rattle.state.specs.declared.State.{State}
use Rattle.state.specs.State.{no_session, whole_b}
use Rattle.doors.specs.Doors.{session_at, other_at, with_session, cell_at, with_cell, marked_read, staged_cell, begun, begin_refusal, begin_by, begin_of, abandon_refusal, abandon_by, abandon_of, read_refusal, value_read, read_after, read_by, read_of, write_refusal, write_after, write_by, write_of, commit_refusal, commit_lines, committed, ends_refused, refused_commit, commit_of, audit_line_of}
use Rattle.state.proofs.Sound.{no_session_lem}
use Rattle.doors.proofs.Stays.{with_session_whole, begun_sound, read_after_whole, write_after_whole, committed_whole}
use Rattle.doors.proofs.Laws.{Beside, with_mine, with_core_lem, placed_mine, commit_number, placed_core, begin_knows, abandon_knows, ended_knows}

-- the other door
abbrev pub other_door : ℕ → ℕ
other_door door = cond (eqb door 1) 2 1

session_by_lem : (s : State) (door : ℕ) → Either (eqb door 1) → session_at s (other_door door) ≡ other_at s door
unfolding session_at other_at
session_by_lem s door (is_true t) = rw t
session_by_lem s door (is_false f) = rw f

pub session_other : (s : State) (door : ℕ) → session_at s (other_door door) ≡ other_at s door
session_other s door = session_by_lem s door (either_of (eqb door 1))

module _ {door : ℕ} {s t : State} (p : Beside door s t) where
  same_session : session_at t (other_door door) ≡ session_at s (other_door door)
  same_session = session_other t door ∙ p.other ∙ sym (session_other s door)

  -- ---- the same answers

  pub same_begin : (begin_of t (other_door door)).reply.number ≡ (begin_of s (other_door door)).reply.number
  unfolding begin_by begin_refusal
  same_begin = simp (p.whole, same_session)

  pub same_abandon : (abandon_of t (other_door door)).reply.number ≡ (abandon_of s (other_door door)).reply.number
  unfolding abandon_by abandon_refusal
  same_abandon = simp (p.whole, same_session)

  same_reading : (setting : ℕ) → read_refusal (whole_b t) t (other_door door) setting ≡ read_refusal (whole_b s) s (other_door door) setting
  unfolding read_refusal
  same_reading setting = simp (p.whole, same_session)

  pub same_read : (setting : ℕ) → (read_of t (other_door door) setting).reply.number ≡ (read_of s (other_door door) setting).reply.number
  unfolding read_by
  same_read setting = same_reading setting

  pub same_value : (setting : ℕ) → (read_of t (other_door door) setting).reply.given ≡ (read_of s (other_door door) setting).reply.given
  unfolding read_by value_read
  same_value setting = simp (same_reading setting, same_session, p.core)

  pub same_write : (setting : ℕ) (v : Value) → (write_of t (other_door door) setting v).reply.number ≡ (write_of s (other_door door) setting v).reply.number
  unfolding write_by write_refusal
  same_write setting v = simp (p.whole, same_session)

  same_committing : (n : ℕ) → commit_refusal (whole_b t) t (other_door door) n ≡ commit_refusal (whole_b s) s (other_door door) n
  unfolding commit_refusal
  same_committing n = simp (p.whole, same_session, p.core)

  same_lines : commit_lines t (other_door door) ≡ commit_lines s (other_door door)
  unfolding commit_lines
  same_lines = simp (same_session, p.core)

  pub same_audit_line : (i : ℕ) (l : List AuditLine) → audit_line_of t i l ≡ audit_line_of s i l
  same_audit_line i l = simp (p.whole, p.core)

  pub same_commit : (l : List AuditLine) → (commit_of t (other_door door) l).answer.reply.number ≡ (commit_of s (other_door door) l).answer.reply.number
  same_commit l = commit_number t (other_door door) l ∙ same_committing (length l) ∙ sym (commit_number s (other_door door) l)

  trail_by : (l : List AuditLine) → Either (eqb (commit_refusal (whole_b s) s (other_door door) (length l)) 0) → (commit_of t (other_door door) l).audit ≡ (commit_of s (other_door door) l).audit
  unfolding commit_of
  trail_by l (is_true b) = simp (same_committing (length l), b, same_lines, p.core)
  trail_by l (is_false b) = simp (same_committing (length l), b)

  pub same_trail : (l : List AuditLine) → (commit_of t (other_door door) l).audit ≡ (commit_of s (other_door door) l).audit
  same_trail l = trail_by l (either_of (eqb (commit_refusal (whole_b s) s (other_door door) (length l)) 0))

  -- ---- and so on: after the same step at the other door they still differ in this door's session alone

  placed_on : (u w : State) → w.core ≡ u.core → session_at w (other_door door) ≡ session_at u (other_door door) → whole_b u ≡ true → whole_b w ≡ true → Beside door u w
  placed_on u w c e a b = record { core = c; other = sym (session_other w door) ∙ e ∙ session_other u door; whole = b ∙ sym a }

  chosen_on : (b : Bool) (x y : Session) → y ≡ x → (b ≡ true → whole_b (with_session s (other_door door) x) ≡ true) → (b ≡ true → whole_b (with_session t (other_door door) y) ≡ true) →
      Beside door (cond b (with_session s (other_door door) x) s) (cond b (with_session t (other_door door) y) t)
  chosen_on true x y e f g =
      placed_on (with_session s (other_door door) x) (with_session t (other_door door) y)
      (with_core_lem t (other_door door) y ∙ p.core ∙ sym (with_core_lem s (other_door door) x))
      (with_mine t (other_door door) y ∙ e ∙ sym (with_mine s (other_door door) x))
      (f refl)
      (g refl)
  chosen_on false x y e f g = p

  pub begin_on : Beside door (begin_of s (other_door door)).state (begin_of t (other_door door)).state
  unfolding begin_by
  begin_on =
      rw same_begin
      (chosen_on (eqb (begin_refusal (whole_b s) s (other_door door)) 0) begun begun refl
      (λ b. with_session_whole s (other_door door) begun (begin_knows s (other_door door) (eqb-true (begin_refusal (whole_b s) s (other_door door)) 0 b)) begun_sound)
      (λ b. with_session_whole t (other_door door) begun (p.whole ∙ begin_knows s (other_door door) (eqb-true (begin_refusal (whole_b s) s (other_door door)) 0 b)) begun_sound))

  pub abandon_on : Beside door (abandon_of s (other_door door)).state (abandon_of t (other_door door)).state
  unfolding abandon_by
  abandon_on =
      rw same_abandon
      (chosen_on (eqb (abandon_refusal (whole_b s) s (other_door door)) 0) no_session no_session refl
      (λ b. with_session_whole s (other_door door) no_session (abandon_knows s (other_door door) (eqb-true (abandon_refusal (whole_b s) s (other_door door)) 0 b)) no_session_lem)
      (λ b. with_session_whole t (other_door door) no_session (p.whole ∙ abandon_knows s (other_door door) (eqb-true (abandon_refusal (whole_b s) s (other_door door)) 0 b)) no_session_lem))

  pub read_on : (setting : ℕ) → Beside door (read_of s (other_door door) setting).state (read_of t (other_door door) setting).state
  unfolding read_by read_after
  read_on setting =
      rw (same_reading setting)
      (chosen_on (eqb (read_refusal (whole_b s) s (other_door door) setting) 0)
      (with_cell (session_at s (other_door door)) setting (marked_read (cell_at (session_at s (other_door door)) setting)))
      (with_cell (session_at t (other_door door)) setting (marked_read (cell_at (session_at t (other_door door)) setting)))
      (rw same_session)
      (λ b. read_after_whole s (other_door door) setting (eqb-true (read_refusal (whole_b s) s (other_door door) setting) 0 b))
      (λ b. read_after_whole t (other_door door) setting (same_reading setting ∙ eqb-true (read_refusal (whole_b s) s (other_door door) setting) 0 b)))

  pub write_on : (setting : ℕ) (v : Value) → Beside door (write_of s (other_door door) setting v).state (write_of t (other_door door) setting v).state
  unfolding write_by write_after
  write_on setting v =
      rw (same_write setting v)
      (chosen_on (eqb (write_refusal (whole_b s) s (other_door door) setting v) 0)
      (with_cell (session_at s (other_door door)) setting (staged_cell (cell_at (session_at s (other_door door)) setting) v))
      (with_cell (session_at t (other_door door)) setting (staged_cell (cell_at (session_at t (other_door door)) setting) v))
      (rw same_session)
      (λ b. write_after_whole s (other_door door) setting v (eqb-true (write_refusal (whole_b s) s (other_door door) setting v) 0 b))
      (λ b. write_after_whole t (other_door door) setting v (same_write setting v ∙ eqb-true (write_refusal (whole_b s) s (other_door door) setting v) 0 b)))

  committed_on : (n : ℕ) → commit_refusal (whole_b s) s (other_door door) n ≡ 0 → Beside door (committed s (other_door door)) (committed t (other_door door))
  unfolding committed
  committed_on n z =
      placed_on (committed s (other_door door)) (committed t (other_door door))
      (simp (placed_core, same_session, same_lines, p.core))
      (simp placed_mine)
      (committed_whole s (other_door door) n z)
      (committed_whole t (other_door door) n (same_committing n ∙ z))

  refused_on : (n : ℕ) → Beside door (refused_commit s (other_door door) (commit_refusal (whole_b s) s (other_door door) n)) (refused_commit t (other_door door) (commit_refusal (whole_b s) s (other_door door) n))
  unfolding refused_commit
  refused_on n =
      chosen_on (ends_refused (commit_refusal (whole_b s) s (other_door door) n)) no_session no_session refl
      (λ b. with_session_whole s (other_door door) no_session (ended_knows s (other_door door) n b) no_session_lem)
      (λ b. with_session_whole t (other_door door) no_session (p.whole ∙ ended_knows s (other_door door) n b) no_session_lem)

  commit_by : (l : List AuditLine) → Either (eqb (commit_refusal (whole_b s) s (other_door door) (length l)) 0) →
      Beside door (commit_of s (other_door door) l).answer.state (commit_of t (other_door door) l).answer.state
  unfolding commit_of
  commit_by l (is_true b) = simp (same_committing (length l), b) (committed_on (length l) (eqb-true (commit_refusal (whole_b s) s (other_door door) (length l)) 0 b))
  commit_by l (is_false b) = simp (same_committing (length l), b) (refused_on (length l))

  pub commit_on : (l : List AuditLine) → Beside door (commit_of s (other_door door) l).answer.state (commit_of t (other_door door) l).answer.state
  commit_on l = commit_by l (either_of (eqb (commit_refusal (whole_b s) s (other_door door) (length l)) 0))
