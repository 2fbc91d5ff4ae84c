-- The bench's line for a readout shows the whole buffer as `panel::readout` leaves it, where each byte was aa before.
-- Assumes nothing.
use mathlib.Core.Path.{◌≡◌}
use mathlib.Core.Bool.{true}
use mathlib.Core.List.{◌++◌, append-nil}
use Prim.Native.Nat.{ℕ, ◌≤◌}
use native.Mathlib.Nat.{min-eq_left}
use borrow.Author.Tests.{le-ltb}
use lib.ListN.{drop, replicate, length-replicate}
use Rattle.spelling.specs.Spelling.{bytes, glyph, digits}
use Rattle.message.specs.Message.{message, size, written}
use Rattle.state.specs.declared.State.{State}
use Rattle.state.specs.State.{whole_b}
use Rattle.panel.specs.Panel.{values_of, readout_refusal, readout_by, readout_of, readout_leaves}
use Rattle.text.specs.Echoes.{places_up_to, places, decimal, joined, hexed, unwritten, most_lent, readout_words, given_words, said_text}

-- THE LINE IS THE BUFFER: `0`, and two digits for each of its bytes
pub readout_line : (s : State) (n : ℕ) → whole_b s ≡ true → size ≤ n → n ≤ most_lent
    → said_text (readout_of s n) ≡ bytes "0 " ++ (hexed (readout_leaves s (replicate n unwritten)) ++ bytes "\n")
unfolding said_text decimal places places_up_to digits glyph joined given_words readout_words written readout_by readout_refusal readout_leaves
readout_line s n whole long few =
    let left = message (values_of s.core.measured.counters) ++ drop size (replicate n unwritten) in
    rw (whole, le-ltb n size long, min-eq_left few, length-replicate n unwritten, le-ltb n size long, append-nil (hexed left))
