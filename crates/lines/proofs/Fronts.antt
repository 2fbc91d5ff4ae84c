-- Lines put one after another at the front of a store.
-- Assumes nothing.
use Prim.Native.Nat.{ℕ, ◌+◌, ◌*◌, ◌≤◌, ◌<◌, zero-le}
use native.Mathlib.Omega.{arith}
use mathlib.Core.Path.{◌≡◌, refl, sym, ap, ◌∙◌}
use mathlib.Core.List.{List, [], ◌∷◌, ◌++◌, append_assoc, append-nil}
use mathlib.Core.Bool.{Bool, true, false, cond}
use lib.Dec.{ltb}
use borrow.Author.Tests.{lt-ltb, le-ltb}
use lib.ListN.{length, get_or, take, drop, length-append, take-append-drop}
use lib.Seq.{take-suc, take_all, length-take-le}
use native.Mathlib.Numerals.{add-one}
use Rattle.spelling.specs.Spelling.{Put}
use Rattle.text.specs.Echoes.{echo_text, enough, text_for}
use Rattle.spelling.proofs.Puts.{behind}
use Rattle.text.proofs.Puts.{room_for}
use Rattle.desk.specs.declared.Desk.{Desk}
use Rattle.commands.specs.declared.Echo.{Echo}
use Rattle.desk.specs.declared.Served.{Served}
use Rattle.desk.specs.Desk.{block, served}
use Rattle.lines.specs.declared.Inputs.{Inputs}
use Rattle.lines.specs.declared.Answers.{Answers}
use Rattle.lines.specs.Lines.{inputs_in, echo_lines, room, Fronted, served_lines, said_lines, answers_of, answer_text}
use Rattle.lines.proofs.Cuts.{inputs_within}

lines_both : (a b : List Echo) → echo_lines (a ++ b) ≡ echo_lines a ++ echo_lines b
unfolding echo_lines
lines_both [] b = refl
lines_both (x ∷ a) b = ap (λ (l : List ℕ). echo_text x ++ l) (lines_both a b) ∙ sym (append_assoc (echo_text x) (echo_lines a) (echo_lines b))

-- the lines of the first k echoes stand at the front, and behind them what stood there
pub record Echoed (old : List ℕ) (responses : List Echo) (out : List ℕ) (used k : ℕ) : Type 0 where
  pub few : used ≤ k * enough
  pub same : length out ≡ length old
  pub stands : take used out ≡ echo_lines (take k responses)
  pub past : drop used out ≡ drop used old

pub none_echoed : (old : List ℕ) (responses : List Echo) → Echoed old responses old 0 0
unfolding echo_lines
none_echoed old responses = record { few = zero-le; same = refl; stands = refl; past = refl }

-- one line more; each has its room, since none is longer than its share
pub echo_more : (old : List ℕ) (responses : List Echo) (out new : List ℕ) (used next k : ℕ) (blank : Echo)
    → room ≤ length old → length responses ≤ block → Echoed old responses out used k → k < length responses
    → Put enough out new used next (text_for out used (get_or responses k blank)) → Echoed old responses new next (k + 1)
unfolding echo_lines
echo_more old responses out new used next k blank roomy q r h p =
    let x = get_or responses k blank in
    let fits : used + enough ≤ length out = omega (arith, r.few, r.same) in
    let text : text_for out used x ≡ echo_text x = sym (room_for out used x x fits refl) in
    let more : take (k + 1) responses ≡ take k responses ++ (x ∷ []) = ap (λ (j : ℕ). take j responses) (add-one k) ∙ take-suc responses k blank h in
    record {
      few = omega (arith, p.most, r.few);
      same = p.room ∙ r.same;
      stands =
          p.holds
          ∙ ap (λ (a : List ℕ). a ++ text_for out used x) r.stands
          ∙ ap (λ (t : List ℕ). echo_lines (take k responses) ++ t) (text ∙ sym (append-nil (echo_text x)))
          ∙ sym (lines_both (take k responses) (x ∷ []))
          ∙ ap echo_lines (sym more);
      past = p.past ∙ behind used next out old (omega (arith, p.ends)) r.past;
    }

pub all_echoed : (old : List ℕ) (responses : List Echo) (out : List ℕ) (used k : ℕ) → room ≤ length old → length responses ≤ block
    → Echoed old responses out used k → k ≡ length responses → Fronted old out (echo_lines responses) used
all_echoed old responses out used k roomy q r e =
    let text : echo_lines (take k responses) ≡ echo_lines responses = ap echo_lines (take_all k responses (omega arith)) in
    let size : length (take used out) ≡ used = length-take-le used out (omega (arith, r.few, r.same)) in
    record {
      many = sym size ∙ ap length (r.stands ∙ text);
      stands =
          sym (take-append-drop used out)
          ∙ ap (λ (a : List ℕ). a ++ drop used out) (r.stands ∙ text)
          ∙ ap (λ (a : List ℕ). echo_lines responses ++ a) r.past;
    }

-- what was put at the front lies within
pub fronted_within : {old new text : List ℕ} {used : ℕ} → Fronted old new text used → used ≤ length new
fronted_within {old} {new} {text} {used} f = omega (arith, f.many, ap length f.stands, length-append text (drop used old))

-- ---- lines answered

pub none_served : (d : Desk) (input out : List ℕ) → length out < room
    → (record { desk = d; at = 0; used = 0 } ≡ answers_of d input out) × (out ≡ answer_text d input out ++ drop 0 out)
unfolding answers_of answer_text
none_served d input out h = let e = lt-ltb (length out) room h in (rw e, rw e)

-- the desk is the one after the block, and the text is that of the block's answers
pub block_served : (d : Desk) (input old new : List ℕ) (asked : Inputs) (s : Served) (used : ℕ) → room ≤ length old
    → asked ≡ inputs_in input → s ≡ served d asked.inputs asked.count → Fronted old new (echo_lines (take asked.count s.responses)) used
    → (record { desk = s.desk; at = asked.at; used = used } ≡ answers_of d input old) × (new ≡ answer_text d input old ++ drop used old)
unfolding answers_of answer_text served_lines said_lines
block_served d input old new asked s used h e f p =
    let roomy = le-ltb (length old) room h in
    let text : echo_lines (take asked.count s.responses) ≡ said_lines d input = rw (f, e) in
    let many : used ≡ length (said_lines d input) = p.many ∙ ap length text in
    (rw (roomy, f, e, many), rw roomy (rw text at p.stands))

-- ---- within the store and the input

-- where there is room
abbrev answers_in : Desk → List ℕ → Answers
answers_in d input = record { desk = (served_lines d input).desk; at = (inputs_in input).at; used = length (said_lines d input) }

-- what was put is as long as is said, and lies within the store
pub used_is : (d : Desk) (input out : List ℕ) → (answers_of d input out).used ≡ length (answer_text d input out)
unfolding answers_of answer_text
used_is d input out = by_test (ltb (length out) room)
  where
    by_test : (t : Bool) → (cond t (record { desk = d; at = 0; used = 0 }) (answers_in d input)).used ≡ length (cond t [] (said_lines d input))
    by_test true = refl
    by_test false = refl

pub answers_within : (d : Desk) (input out new : List ℕ) (r : Answers) → r ≡ answers_of d input out → new ≡ answer_text d input out ++ drop r.used out
    → r.used ≤ length new
answers_within d input out new r e f =
    omega (arith, ap (λ (x : Answers). x.used) e, used_is d input out, ap length f, length-append (answer_text d input out) (drop r.used out))

-- the lines that were answered lie within the input
pub at_within : (d : Desk) (input out : List ℕ) (r : Answers) → r ≡ answers_of d input out → r.at ≤ length input
unfolding answers_of
at_within d input out r e = rw e (by_test (ltb (length out) room))
  where
    by_test : (t : Bool) → (cond t (record { desk = d; at = 0; used = 0 }) (answers_in d input)).at ≤ length input
    by_test true = zero-le
    by_test false = inputs_within input (inputs_in input) refl
