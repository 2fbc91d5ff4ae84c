-- What the code works out. Its numbers have 64 bits, so it works the paper's formulas out up to 600 pulses and cp code 4 only, and gives a
-- stand-in beyond. No whole device asks beyond. The law that both are the same up to there is `guarded` in proofs/Counted.antt.
-- Assumes nothing.
use Rattle.std.specs.Prelude.{cond, ◌&&◌, Option, None, ℕ, leb}
use Rattle.units.specs.declared.Amounts.{Amounts}
use Rattle.ground.specs.Ranges.{most_code}
use Rattle.units.specs.Units.{most_pulses, pulse_litres, amounts_of}

unfoldable pub pulse_guarded : ℕ → ℕ
pulse_guarded c = cond (leb c most_code) (pulse_litres c) 0

unfoldable pub amounts_guarded : ℕ → ℕ → ℕ → Option Amounts
amounts_guarded n c f = cond (leb n most_pulses && leb c most_code) (amounts_of n c f) None
