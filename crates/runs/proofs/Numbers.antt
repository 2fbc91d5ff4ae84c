-- The lines' numbers: the logbook and the audit trail number their lines 0, 1, 2, .. modulo 65,536 in the order in which they were written. By the
-- length of the history.
-- Assumes nothing.
use mathlib.Core.Path.{◌≡◌, refl, sym, ap, ◌∙◌}
use mathlib.Core.Bool.{Bool, true, false, cond}
use mathlib.Core.List.{List, [], ◌∷◌, ◌++◌, append-nil, map}
use Prim.Native.Nat.{ℕ, zero, suc, ◌+◌, ◌%◌}
use native.Mathlib.Nat.{add-zero, zero-add}
use native.Mathlib.Omega.{arith}
use lib.ListN.{length, length-append}
use Rattle.ring.specs.Ring.{numbers}
use Rattle.notes.specs.Notes.{numbered, log_line}
use Rattle.notes.proofs.Laws.{numbered_length}
use Rattle.books.specs.declared.LogLine.{LogLine}
use Rattle.books.specs.declared.AuditLine.{AuditLine}
use Rattle.doors.specs.Doors.{audit_line}
use Rattle.runs.specs.Run.{Step, Cycle, Turn, Clear, Tick, Ask, Call, Commit}
use Rattle.runs.specs.History.{History, done, last_time}
use Rattle.runs.specs.Lines.{Shelf, log_for, log_shelf, audit_for, audit_shelf, wrote_in, numbers_from}

-- ---- numbers one after another

pub map_join : {A B : Type 0} (f : A → B) (s t : List A) → map f (s ++ t) ≡ map f s ++ map f t
map_join f [] t = refl
map_join f (x ∷ s) t = ap (λ l. f x ∷ l) (map_join f s t)

numbers_join : (n a b : ℕ) → numbers_from n a ++ numbers_from (n + a) b ≡ numbers_from n (a + b)
numbers_join n zero b = rw (add-zero, zero-add)
numbers_join n (suc a) b =
    let p : n + suc a ≡ n + 1 + a = omega arith in
    let q : suc a + b ≡ suc (a + b) = omega arith in
    rw (p, q) (ap (λ l. n % numbers ∷ l) (numbers_join (n + 1) a b))

-- ---- of a book, over a history

module _ (S : Shelf) (number : S.Line → ℕ)
    (on : (t n : ℕ) (x : Step) (past : History) → map number (S.lines t n x past) ≡ numbers_from n (length (S.lines t n x past))) where
  more_numbers : (t : ℕ) (x : Step) (past : History) (d : Bool) (ys : List S.Line) → map number ys ≡ numbers_from 0 (length ys)
      → map number (ys ++ cond d (S.lines t (length ys) x past) []) ≡ numbers_from 0 (length (ys ++ cond d (S.lines t (length ys) x past) []))
  more_numbers t x past true ys e =
      let more = S.lines t (length ys) x past in
      map_join number ys more ∙ rw (e, on t (length ys) x past, length-append ys more) (rw zero-add at (numbers_join 0 (length ys) (length more)))
  more_numbers t x past false ys e = rw (append-nil ys) e

  numbers_in : (t : ℕ) (past : History) → map number (wrote_in S t past) ≡ numbers_from 0 (length (wrote_in S t past))
  numbers_in t [] = refl
  numbers_in t (x ∷ past) = more_numbers t x.0 past (done x) (wrote_in S t past) (numbers_in t past)

-- ---- the lines of a command: each carries the number that it is given

module _ {A B : Type 0} (line : ℕ → A → B) (number : B → ℕ) (carries : (n : ℕ) (x : A) → number (line n x) ≡ n) where
  line_numbers : (n : ℕ) (xs : List A) → map number (numbered line n xs) ≡ numbers_from n (length xs)
  unfolding numbered
  line_numbers n [] = refl
  line_numbers n (x ∷ xs) = rw (carries (n % numbers) x) (ap (λ (l : List ℕ). n % numbers ∷ l) (line_numbers (n + 1) xs))

  numbers_on : (n : ℕ) (xs : List A) → map number (numbered line n xs) ≡ numbers_from n (length (numbered line n xs))
  numbers_on n xs = line_numbers n xs ∙ ap (numbers_from n) (sym (numbered_length line n xs))

log_numbers : (t n : ℕ) (x : Step) (past : History) → map (λ (l : LogLine). l.number) (log_for t n x past) ≡ numbers_from n (length (log_for t n x past))
log_numbers t n (Cycle r) past = numbers_on (log_line r.time) (λ (l : LogLine). l.number) (λ k c. refl) n _
log_numbers t n (Turn turn) past = numbers_on (log_line (last_time t past)) (λ (l : LogLine). l.number) (λ k c. refl) n _
log_numbers t n Clear past = refl
log_numbers t n (Tick named) past = refl
log_numbers t n (Ask question) past = refl
log_numbers t n (Call door act) past = refl
log_numbers t n (Commit door) past = refl

audit_numbers : (t n : ℕ) (x : Step) (past : History) → map (λ (l : AuditLine). l.number) (audit_for t n x past) ≡ numbers_from n (length (audit_for t n x past))
audit_numbers t n (Cycle r) past = refl
audit_numbers t n (Turn turn) past = refl
audit_numbers t n Clear past = refl
audit_numbers t n (Tick named) past = refl
audit_numbers t n (Ask question) past = refl
audit_numbers t n (Call door act) past = refl
audit_numbers t n (Commit door) past = numbers_on (audit_line (last_time t past) door) (λ (l : AuditLine). l.number) (λ k c. refl) n _

-- ---- whatever the history

-- THE LOGBOOK NUMBERS ITS LINES 0, 1, 2, .. in the order in which they were written
pub log_numbered : (t : ℕ) (past : History) → map (λ (l : LogLine). l.number) (wrote_in log_shelf t past) ≡ numbers_from 0 (length (wrote_in log_shelf t past))
log_numbered = numbers_in log_shelf (λ (l : LogLine). l.number) log_numbers

-- AND SO DOES THE AUDIT TRAIL
pub audit_numbered : (t : ℕ) (past : History) → map (λ (l : AuditLine). l.number) (wrote_in audit_shelf t past) ≡ numbers_from 0 (length (wrote_in audit_shelf t past))
audit_numbered = numbers_in audit_shelf (λ (l : AuditLine). l.number) audit_numbers
