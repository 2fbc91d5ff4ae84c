-- Pulses that go to the buffer one number after another are as their sum: in what waits, in what is lost and in whether some is lost.
-- Assumes nothing.
use Rattle.std.proofs.Common.{◌≡◌, ℕ, ◌+◌, ◌-◌, ◌%◌, ◌<◌, ◌≤◌, min, Bool, ◌||◌, ltb, sym, refl, ap, ◌∙◌, add_assoc, mod-eq_of_lt, arith, ltb-false, ltb-true, le-ltb, lt-ltb}
use mathlib.Core.Bool.{or_assoc, or-false}
use native.Mathlib.Nat.{mod-add-mod, add-mod-mod}
use Rattle.ground.proofs.Flags.{Either, is_true, is_false, either_of}
use Rattle.outputs.specs.declared.Buffer.{Buffer}
use Rattle.outputs.specs.Outputs.{most_waiting, lost_rollover}
use Rattle.outputs.specs.Plan.{pushed}

buffer_is : {v w l m : ℕ} {s t : Bool} → v ≡ w → l ≡ m → s ≡ t → ◌≡◌ {A = Buffer} (record { waiting = v; lost = l; over = s }) (record { waiting = w; lost = m; over = t })
buffer_is e f g = cc

-- ---- x pulses and then y, to a buffer in which h wait

module _ (h x y : ℕ) where
  waiting_twice : min (min (h + x) most_waiting + y) most_waiting ≡ min (h + (x + y)) most_waiting
  waiting_twice = omega arith

  -- what the first loses and what the second loses
  excess_twice : (h + x - most_waiting) + (min (h + x) most_waiting + y - most_waiting) ≡ h + (x + y) - most_waiting
  excess_twice = omega arith

  lost_twice : (l : ℕ) → ((l + (h + x - most_waiting)) % lost_rollover + (min (h + x) most_waiting + y - most_waiting)) % lost_rollover ≡ (l + (h + (x + y) - most_waiting)) % lost_rollover
  lost_twice l =
      mod-add-mod (l + (h + x - most_waiting)) lost_rollover (min (h + x) most_waiting + y - most_waiting)
      ∙ ap (λ (n : ℕ). n % lost_rollover) (add_assoc l (h + x - most_waiting) (min (h + x) most_waiting + y - most_waiting) ∙ ap (λ (n : ℕ). l + n) excess_twice)

  over_twice : (ltb most_waiting (h + x) || ltb most_waiting (min (h + x) most_waiting + y)) ≡ ltb most_waiting (h + (x + y))
  over_twice = by (either_of (ltb most_waiting (h + x)))
    where
      by : Either (ltb most_waiting (h + x)) → (ltb most_waiting (h + x) || ltb most_waiting (min (h + x) most_waiting + y)) ≡ ltb most_waiting (h + (x + y))
      by (is_true e) =
          let l : most_waiting < h + x = ltb-true most_waiting (h + x) e in
          rw e (sym (lt-ltb most_waiting (h + (x + y)) (omega arith)))
      by (is_false e) =
          let l : h + x ≤ most_waiting = ltb-false most_waiting (h + x) e in
          let m : min (h + x) most_waiting + y ≡ h + (x + y) = omega arith in
          rw e (ap (ltb most_waiting) m)

pub push_twice : (x y : ℕ) (b : Buffer) → pushed y (pushed x b) ≡ pushed (x + y) b
unfolding pushed
push_twice x y b =
    buffer_is
    (waiting_twice b.waiting x y)
    (lost_twice b.waiting x y b.lost)
    (or_assoc b.over (ltb most_waiting (b.waiting + x)) (ltb most_waiting (min (b.waiting + x) most_waiting + y)) ∙ ap (λ (t : Bool). b.over || t) (over_twice b.waiting x y))

-- ---- the buffer by the room that it has, as the code asks it

module _ (due : ℕ) (b : Buffer) (held : b.waiting ≤ most_waiting) where
  pub push_fits : b.lost < lost_rollover → due ≤ most_waiting - b.waiting → ◌≡◌ {A = Buffer} (record { waiting = b.waiting + due; lost = b.lost; over = b.over }) (pushed due b)
  unfolding pushed
  push_fits l h =
      let e : b.lost + (b.waiting + due - most_waiting) ≡ b.lost = omega arith in
      buffer_is
      (omega arith)
      (sym (ap (λ (n : ℕ). n % lost_rollover) e ∙ mod-eq_of_lt l))
      (sym (ap (λ (t : Bool). b.over || t) (le-ltb most_waiting (b.waiting + due) (omega arith)) ∙ or-false b.over))

  -- what is past the room is lost
  pub push_is : ◌≡◌ {A = Buffer}
      (record { waiting = b.waiting + min due (most_waiting - b.waiting); lost = (b.lost + (due - (most_waiting - b.waiting)) % lost_rollover) % lost_rollover; over = b.over || ltb 0 (due - (most_waiting - b.waiting)) })
      (pushed due b)
  unfolding pushed
  push_is =
      let e : due - (most_waiting - b.waiting) ≡ b.waiting + due - most_waiting = omega arith in
      let t : ltb 0 (due - (most_waiting - b.waiting)) ≡ ltb most_waiting (b.waiting + due) = same_test (either_of (ltb most_waiting (b.waiting + due))) in
      buffer_is
      (omega arith)
      (add-mod-mod b.lost (due - (most_waiting - b.waiting)) lost_rollover ∙ ap (λ (n : ℕ). (b.lost + n) % lost_rollover) e)
      (ap (λ (t : Bool). b.over || t) t)
    where
      same_test : Either (ltb most_waiting (b.waiting + due)) → ltb 0 (due - (most_waiting - b.waiting)) ≡ ltb most_waiting (b.waiting + due)
      same_test (is_true h) = let l = ltb-true most_waiting (b.waiting + due) h in lt-ltb 0 (due - (most_waiting - b.waiting)) (omega arith) ∙ sym h
      same_test (is_false h) = let l = ltb-false most_waiting (b.waiting + due) h in le-ltb 0 (due - (most_waiting - b.waiting)) (omega arith) ∙ sym h

-- no pulse leaves the buffer as it is
pub push_none : (b : Buffer) → b.waiting ≤ most_waiting → b.lost < lost_rollover → b ≡ pushed 0 b
push_none b held low = buffer_is (omega arith) refl refl ∙ push_fits 0 b held low (omega arith)
