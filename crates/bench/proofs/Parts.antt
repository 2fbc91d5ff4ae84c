-- The parts of the input that the bench works on.
-- Assumes nothing.
use mathlib.Core.Path.{◌≡◌, sym, ap, ◌∙◌}
use mathlib.Core.Bool.{Bool, true, false}
use Rattle.std.specs.Prelude.{Result, Ok}
use mathlib.Core.List.{List, [], ◌∷◌, ◌++◌}
use Prim.Native.Nat.{ℕ, ◌+◌, ◌-◌, ◌≤◌, ◌<◌}
use native.Mathlib.Numerals.{add-one}
use native.Mathlib.Omega.{arith}
use lib.Dec.{ltb}
use lib.ListN.{length, take, drop, set, length-drop}
use lib.Seq.{length-take-le, take-suc-set}
use borrow.Author.Tests.{lt-ltb, le-ltb}
use Rattle.text.specs.Words.{Kept}
use Rattle.desk.specs.declared.Desk.{Desk}
use Rattle.lines.specs.declared.Answers.{Answers}
use Rattle.lines.specs.Lines.{line_feed, answers_of, answer_text}
use Rattle.bench.specs.declared.window.Failure.{Failure}
use Rattle.bench.specs.declared.window.Window.{Window}
use Rattle.bench.specs.Bench.{Within, kept, Refilled, part, there, Next, Stepped}

pub part_length : (l : List ℕ) (from to : ℕ) → from ≤ to → to ≤ length l → length (part l from to) ≡ to - from
part_length l from to h k = length-take-le (to - from) (drop from l) (omega (arith, length-drop from l))

-- what was kept still stands at the front
pub refilled : (old new : Window) (mid : List ℕ) (n : ℕ) (r : Result Bool Failure) → Kept old.bytes mid old.from old.have n → take n new.bytes ≡ take n mid
    → new.from ≡ 0 → n ≤ new.have → new.have ≤ length new.bytes
    → (r ≡ Ok true → new.more ≡ false → take new.have new.bytes ≡ take n mid ++ (line_feed ∷ [])) → Refilled old new r
refilled old new mid n r k e z l m f =
    let size : length (kept old) ≡ n = ap length (sym k.front) ∙ length-take-le n mid k.most in
    record {
      front = ap (λ (j : ℕ). take j new.bytes) size ∙ e ∙ k.front;
      start = z;
      least = omega arith;
      most = m;
      ended = λ on more. f on more ∙ ap (λ (t : List ℕ). t ++ (line_feed ∷ [])) k.front;
    }

-- a line feed put behind them
pub feed_behind : (mid read : List ℕ) (n : ℕ) → n < length read → take n read ≡ take n mid → take (n + 1) (set read n line_feed) ≡ take n mid ++ (line_feed ∷ [])
feed_behind mid read n h e =
    ap (λ (j : ℕ). take j (set read n line_feed)) (add-one n) ∙ take-suc-set read n line_feed h ∙ ap (λ (t : List ℕ). t ++ (line_feed ∷ [])) e

module _ (d : Desk) (old : Window) (out said : List ℕ) (answers : Answers) (e : answers ≡ answers_of d (there old) out)
    (f : said ≡ answer_text d (there old) out ++ drop answers.used out) where
  pub stepped : (new : Window) (r : Result Bool Failure) → Within new → (r ≡ Ok true → Next (ltb 0 answers.at) old new answers.at r)
      → Stepped d answers.desk old new out said r
  stepped new r w n = record { desk = rw e; text = rw e at f; within = w; next = rw e at n }

-- behind the lines that were answered
pub behind : (old new : Window) (at : ℕ) (r : Result Bool Failure) → 0 < at → new.bytes ≡ old.bytes → new.from ≡ old.from + at → new.have ≡ old.have
    → new.more ≡ old.more → Next (ltb 0 at) old new at r
unfolding Next
behind old new at r h b e f g = rw (lt-ltb 0 at h) (b, e, f, g)

-- where no line was there
pub refilled_next : (old new : Window) (at : ℕ) (r : Result Bool Failure) → at ≤ 0 → old.more ≡ true → Refilled old new r → Next (ltb 0 at) old new at r
unfolding Next
refilled_next old new at r h e f = rw (le-ltb 0 at h) (e, f)
