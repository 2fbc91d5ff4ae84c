-- The whole message in a buffer: STX, the body and the check, one after another.
-- Assumes nothing.
use mathlib.Core.Path.{◌≡◌, ap, ◌∙◌}
use mathlib.Core.List.{List, [], ◌∷◌}
use Prim.Native.Nat.{ℕ, ◌+◌, ◌-◌, ◌≤◌, ◌<◌}
use native.Mathlib.Omega.{arith}
use borrow.Author.Tests.{le-ltb, lt-ltb}
use lib.ListN.{length, take, drop}
use Rattle.spelling.specs.Spelling.{Put}
use Rattle.spelling.specs.declared.cursor.Cursor.{Cursor}
use Rattle.spelling.specs.Cursor.{Appends}
use Rattle.spelling.proofs.Puts.{at_front, next_is, behind_it}
use Rattle.spelling.proofs.Appended.{two}
use Rattle.message.specs.declared.Values.{Values}
use Rattle.message.specs.Message.{stx, body, xor_of, check, message, size, written}
use Rattle.message.proofs.Laws.{length_body, length_message}

-- what is checked is the body
module _ (v : Values) (old front held new : Cursor) (p : Appends 1 old front (stx ∷ [])) (q : Appends 154 front held (body v)) (h : front.at ≤ length front.out.now) where
  checked : take (held.at - front.at) (drop front.at held.out.now) ≡ body v
  checked =
      let end : held.at ≡ front.at + 154 = next_is q.put (length_body v) in
      let long : held.at - front.at ≡ 154 = omega arith in
      rw long (behind_it 154 (rw end at q.put) (length_body v) h)

  pub whole : (c : ℕ) → c ≡ xor_of (take (held.at - front.at) (drop front.at held.out.now)) → Appends 1 held new (c ∷ []) → Appends 156 old new (message v)
  unfolding message check
  whole c e r =
      let is : c ≡ xor_of (body v) = e ∙ ap xor_of checked in
      two 156 (omega arith) p (two 155 (omega arith) q (rw is at r))

pub in_buffer : (v : Values) (old new : List ℕ) (next : ℕ) → size ≤ length old → Put 156 old new 0 next (message v) → new ≡ written v old
unfolding written
in_buffer v old new next h p = let n : next ≡ 156 = next_is p (length_message v) in rw (le-ltb (length old) size h) (rw n at (at_front p))

pub too_short : (v : Values) (old : List ℕ) → length old < size → old ≡ written v old
unfolding written
too_short v old h = rw (lt-ltb (length old) size h)
