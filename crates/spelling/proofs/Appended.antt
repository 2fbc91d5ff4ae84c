-- What was put at the place of a cursor.
-- Assumes nothing.
use mathlib.Core.Path.{◌≡◌, refl, ◌∙◌}
use mathlib.Core.List.{List, [], ◌++◌}
use Prim.Native.Nat.{ℕ, ◌+◌, ◌≤◌}
use Rattle.spelling.specs.declared.cursor.Cursor.{Cursor}
use Rattle.spelling.specs.Cursor.{Appends}
use Rattle.spelling.proofs.Puts as puts

-- one text after another
pub two : {old mid new : Cursor} {s t : List ℕ} {m n : ℕ} (k : ℕ) → m + n ≤ k → Appends m old mid s → Appends n mid new t → Appends k old new (s ++ t)
two k h p q = record { same = q.same ∙ p.same; put = puts.two k h p.put q.put }

pub looser : {old new : Cursor} {n : ℕ} {s : List ℕ} (k : ℕ) → n ≤ k → Appends n old new s → Appends k old new s
looser k h p = record { same = p.same; put = puts.looser k h p.put }

pub retext : {old new : Cursor} {n : ℕ} {s t : List ℕ} → s ≡ t → Appends n old new s → Appends n old new t
retext e p = record { same = p.same; put = puts.retext e p.put }

pub nothing_put : (n : ℕ) (c : Cursor) → Appends n c c []
nothing_put n c = record { same = refl; put = puts.nothing_put n c.out.now c.at }
