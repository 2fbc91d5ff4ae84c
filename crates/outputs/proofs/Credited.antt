-- What the code does with a gain is the paper's rule: its pulses go to the buffer, and the rest stays. An output without a weight gains nothing, and so does one that is off.
-- Assumes nothing.
use Rattle.std.proofs.Common.{◌≡◌, ℕ, zero, suc, ◌+◌, ◌<◌, ◌≤◌, sym, refl, ap, ◌∙◌, arith, None}
use native.Mathlib.Nat.{div-zero}
use Rattle.outputs.specs.declared.Rule.{Rule}
use Rattle.outputs.specs.declared.Gain.{Gain}
use Rattle.outputs.specs.declared.Output.{Output}
use Rattle.outputs.specs.Outputs.{followed, gain_in, wholes, rest_of, most_waiting, lost_rollover, credited_by, gained_by}
use Rattle.outputs.specs.Plan.{pushed, buffer_of, gained_of}
use Rattle.outputs.proofs.Choices.{none_weighs}
use Rattle.outputs.proofs.Buffers.{push_none}

pub credited : (w x : ℕ) (o : Output) → gained_of (rest_of w (o.account.0 + x)) (pushed (wholes w (o.account.0 + x)) (buffer_of o)) ≡ credited_by w x o
unfolding gained_of pushed buffer_of credited_by
credited w x o = refl

module _ (o : Output) (held : o.waiting ≤ most_waiting) (low : o.lost < lost_rollover) where
  no_pulse : buffer_of o ≡ pushed 0 (buffer_of o)
  unfolding buffer_of
  no_pulse = push_none (buffer_of o) held low

  pub none_credited : (w x : ℕ) → w < 1 → gained_of 0 (buffer_of o) ≡ credited_by w x o
  unfolding rest_of
  none_credited zero x h =
      ap (gained_of 0) no_pulse
      ∙ ap (λ (n : ℕ). gained_of 0 (pushed n (buffer_of o))) (sym (div-zero (o.account.0 + x)))
      ∙ credited 0 x o
  none_credited (suc w) x h = absurd (omega arith)

  -- an output that is off, or whose choice is none
  pub off_gained : (r : Rule) (g : Gain) → followed r.choice ≡ None → gained_of 0 (buffer_of o) ≡ gained_by r g o
  unfolding gained_by
  off_gained r g e =
      none_credited 0 (gain_in r.choice g) (omega arith)
      ∙ ap (λ (w : ℕ). credited_by w (gain_in r.choice g) o) (sym (none_weighs r e))
