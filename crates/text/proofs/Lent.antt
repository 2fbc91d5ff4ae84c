-- The buffer that the bench lends for a readout, before and after.
-- Assumes nothing.
use mathlib.Core.Path.{◌≡◌, sym, ap, ◌∙◌}
use mathlib.Core.List.{List, ◌++◌}
use Prim.Native.Nat.{ℕ, ◌+◌, ◌-◌, ◌≤◌, min}
use native.Mathlib.Nat.{min-le_right}
use native.Mathlib.Omega.{arith}
use lib.ListN.{length, take, drop, replicate, length-replicate, replicate-append-replicate, length-append}
use lib.Seq.{take_at}
use Rattle.message.specs.declared.Values.{Values}
use Rattle.message.specs.Message.{written}
use Rattle.message.proofs.Laws.{length_written}
use Rattle.text.specs.Echoes.{unwritten, most_lent}

take_replicate : (n m a : ℕ) → n ≤ m → take n (replicate m a) ≡ replicate n a
take_replicate n m a h =
    let s : n + (m - n) ≡ m = omega arith in
    let e : replicate n a ++ replicate (m - n) a ≡ replicate m a = rw s at (replicate-append-replicate n (m - n) a) in
    ap (take n) (sym e) ∙ take_at (replicate n a) (replicate (m - n) a) n (length-replicate n a)

-- n bytes of the buffer l are lent, and m comes back
module _ (room n : ℕ) (v : Values) (l m : List ℕ) (en : n ≡ min room most_lent) (el : l ≡ replicate most_lent unwritten) (em : m ≡ written v (take n l)) where
  pub few : n ≤ most_lent
  few = rw en (min-le_right room most_lent)

  blank : take n l ≡ replicate n unwritten
  blank = rw el (take_replicate n most_lent unwritten few)

  pub lent_length : n ≡ length (take n l)
  lent_length = sym (rw blank (length-replicate n unwritten))

  back_length : length m ≡ n
  back_length = rw em (length_written v (take n l)) ∙ sym lent_length

  pub front : take n (m ++ drop n l) ≡ m
  front = take_at m (drop n l) n back_length

  pub within : n ≤ length (m ++ drop n l)
  within = omega (arith, length-append m (drop n l), back_length)

  pub front_length : n ≡ length (take n (m ++ drop n l))
  front_length = sym (ap (λ (x : List ℕ). length x) front ∙ back_length)

  -- what is shown is the whole buffer, with the message in it
  pub shown : take n (m ++ drop n l) ≡ written v (replicate (min room most_lent) unwritten)
  shown = front ∙ em ∙ ap (written v) (blank ∙ ap (λ (k : ℕ). replicate k unwritten) en)
