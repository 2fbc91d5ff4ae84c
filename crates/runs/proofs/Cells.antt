-- The cells of a session, place by place: what a new cell and the other door's commit leave of them. By the length of the lists.
-- Assumes nothing.
use mathlib.Core.Path.{◌≡◌, refl, sym, ap, ◌∙◌}
use mathlib.Core.Bool.{Bool, true, false, ◌&&◌, false≢true}
use mathlib.Core.List.{List, [], ◌∷◌}
use Prim.Native.Nat.{ℕ, zero, suc, ◌-◌, ◌≤◌, ◌<◌}
use native.Mathlib.Omega.{arith}
use lib.Dec.{ltb}
use borrow.Author.Tests.{ltb-true, ltb-false}
use lib.ListN.{length, get_or, set, replicate, length-set, get_or-eq_default}
use lib.Seq.{ext_get_or}
use Rattle.ground.specs.Below.{any_below}
use Rattle.ground.proofs.Flags.{or_false_left, or_false_right, Either, is_true, is_false, either_of}
use Rattle.ground.proofs.Every.{none_each}
use Rattle.settings.specs.Settings.{setting_count}
use Rattle.state.specs.declared.Cell.{Cell}
use Rattle.state.specs.declared.Session.{Session}
use Rattle.state.specs.State.{blank_cell, session_b}
use Rattle.doors.specs.Doors.{with_cell, begun, overtaken_at, stale_b, marked_by, overtaken_by, overtaken_session}
use Rattle.staging.proofs.Force.{marks_at}
use Rattle.doors.proofs.Stays.{SoundCell, begun_sound, with_cell_sound, overtaken_sound}

-- ---- one cell set

-- what the new cell has in common with the old, each place has in common with what stood there
pub at_set : {B : Type 0} (f : Cell → B) (l : List Cell) (i : ℕ) (x : Cell) → f x ≡ f (get_or l i blank_cell)
    → (j : ℕ) → f (get_or (set l i x) j blank_cell) ≡ f (get_or l j blank_cell)
at_set f [] i x e j = refl
at_set f (c ∷ l) zero x e zero = e
at_set f (c ∷ l) zero x e (suc j) = refl
at_set f (c ∷ l) (suc i) x e zero = refl
at_set f (c ∷ l) (suc i) x e (suc j) = at_set f l i x e j

-- what holds of each place, and of the new cell at its place, holds of each place
pub each_set : (P : ℕ → Cell → Type 0) (l : List Cell) (i : ℕ) (x : Cell) → P i x → ((k : ℕ) → P k (get_or l k blank_cell))
    → (k : ℕ) → P k (get_or (set l i x) k blank_cell)
each_set P [] i x p h k = h k
each_set P (c ∷ l) zero x p h zero = p
each_set P (c ∷ l) zero x p h (suc k) = h (suc k)
each_set P (c ∷ l) (suc i) x p h zero = h zero
each_set P (c ∷ l) (suc i) x p h (suc k) = each_set (λ n. P (suc n)) l i x p (λ n. h (suc n)) k

same_any : (f g : ℕ → Bool) (n : ℕ) → ((k : ℕ) → f k ≡ g k) → any_below f n ≡ any_below g n
unfolding any_below
same_any f g zero h = refl
same_any f g (suc n) h = rw (h n, same_any f g n h)

pub stale_set : (l : List Cell) (i : ℕ) (x : Cell) → x.overtaken ≡ (get_or l i blank_cell).overtaken → stale_b (set l i x) ≡ stale_b l
unfolding stale_b overtaken_at
stale_set l i x e =
    same_any (λ k. (get_or (set l i x) k blank_cell).overtaken) (λ k. (get_or l k blank_cell).overtaken) setting_count
    (at_set (λ (c : Cell). c.overtaken) l i x e)

-- ---- the other door's commit

pub overtaken_length : (s t : List Cell) → length (overtaken_by s t) ≡ length t
unfolding overtaken_by
overtaken_length [] t = refl
overtaken_length (c ∷ s) [] = refl
overtaken_length (c ∷ s) (d ∷ t) = ap suc (overtaken_length s t)

-- a door with no session has nothing to mark
pub overtaken_blank : (s : List Cell) (n : ℕ) → overtaken_by s (replicate n blank_cell) ≡ replicate n blank_cell
unfolding overtaken_by marked_by
overtaken_blank [] n = refl
overtaken_blank (c ∷ s) zero = refl
overtaken_blank (c ∷ s) (suc n) = ap (λ (l : List Cell). blank_cell ∷ l) (overtaken_blank s n)

module _ (s t : List Cell) (quiet : stale_b (overtaken_by s t) ≡ false) (size : length t ≡ setting_count) where
  -- where a session is not stale after the other's commit, no place is marked
  unmarked : (k : ℕ) → k < setting_count → (marked_by (get_or s k blank_cell) (get_or t k blank_cell)).overtaken ≡ false
  unfolding stale_b overtaken_at
  unmarked k h = rw (marks_at s t k) at (none_each (λ j. (get_or (overtaken_by s t) j blank_cell).overtaken) setting_count quiet k h)

  -- so it is as it was
  quiet_cell : (k : ℕ) → k < length (overtaken_by s t) → get_or (overtaken_by s t) k blank_cell ≡ get_or t k blank_cell
  unfolding marked_by
  quiet_cell k h =
      let d : Cell = get_or t k blank_cell in
      let m : Cell = marked_by (get_or s k blank_cell) d in
      let l : k < setting_count = omega (arith, overtaken_length s t) in
      let e : m.overtaken ≡ d.overtaken = unmarked k l ∙ sym (or_false_left d.overtaken (d.read && (get_or s k blank_cell).staged) (unmarked k l)) in
      marks_at s t k ∙ (λ i. record { staged = d.staged; value = d.value; read = d.read; overtaken = e i })

  pub quiet_same : overtaken_by s t ≡ t
  quiet_same = ext_get_or blank_cell (overtaken_by s t) t (overtaken_length s t) quiet_cell

  -- and what it had read was not put in force
  quiet_read_by : (k : ℕ) → (get_or t k blank_cell).read ≡ true → Either (ltb k setting_count) → (get_or s k blank_cell).staged ≡ false
  unfolding marked_by
  quiet_read_by k r (is_true h) =
      let d : Cell = get_or t k blank_cell in
      rw r at (or_false_right d.overtaken (d.read && (get_or s k blank_cell).staged) (unmarked k (ltb-true k setting_count h)))
  quiet_read_by k r (is_false h) =
      let p : length t ≤ k = rw size (ltb-false k setting_count h) in
      absurd (false≢true (rw (get_or-eq_default t blank_cell {n = k} p) at r))

  pub quiet_read : (k : ℕ) → (get_or t k blank_cell).read ≡ true → (get_or s k blank_cell).staged ≡ false
  quiet_read k r = quiet_read_by k r (either_of (ltb k setting_count))

-- ---- an open session, as it comes about

pub record OpenSession (s : Session) : Type 0 where
  pub live : s.live ≡ true
  pub sized : length s.cells ≡ setting_count
  pub whole : session_b s ≡ true

pub open_begun : OpenSession begun
unfolding begun
open_begun = record { live = refl; sized = refl; whole = begun_sound }

pub open_with : (s : Session) (setting : ℕ) (c : Cell) → OpenSession s → SoundCell s.live (setting - 1) c → OpenSession (with_cell s setting c)
unfolding with_cell
open_with s setting c f p = record {
  live = f.live;
  sized = length-set s.cells (setting - 1) c ∙ f.sized;
  whole = with_cell_sound s setting c p f.whole;
}

pub open_overtaken : (s t : Session) → OpenSession t → OpenSession (overtaken_session s t)
unfolding overtaken_session
open_overtaken s t f = record {
  live = f.live;
  sized = overtaken_length s.cells t.cells ∙ f.sized;
  whole = overtaken_sound s t f.whole;
}
