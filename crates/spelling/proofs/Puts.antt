-- A text put at a place: one byte, a part that was lent, one text after another.
-- Assumes nothing.
use mathlib.Core.Path.{◌≡◌, refl, sym, ap, ◌∙◌, subst}
use mathlib.Core.List.{List, [], ◌∷◌, ◌++◌, append_assoc, append-nil}
use Prim.Native.Nat.{ℕ, ◌+◌, ◌-◌, ◌≤◌, ◌<◌}
use native.Mathlib.Nat.{le_refl}
use native.Mathlib.Numerals.{add-one}
use native.Mathlib.Omega.{arith}
use borrow.Rule.Slice.PartMut.{put_mid, post_of, mid_len, same_len_mid, drop_put}
use lib.ListN.{length, take, drop, set, length-set, length-append, take-append-drop}
use lib.Seq.{take-suc-set, take-add, take_at, length-take-le, drop_at, drop-set-lt, drop-drop}
use Rattle.spelling.specs.Spelling.{Put}

pub byte : (l : List ℕ) (at b : ℕ) → at < length l → Put 1 l (set l at b) at (at + 1) (b ∷ [])
byte l at b h =
    record {
      holds = rw (add-one at) (take-suc-set l at b h);
      least = omega arith;
      ends = refl;
      most = le_refl (at + 1);
      past = drop-set-lt (at + 1) l at b (omega arith);
      room = length-set l at b;
    }

-- a part was lent, and came back with other bytes, as many as it had
pub part : (l text : List ℕ) (at next : ℕ) → at ≤ next → next ≤ length l → length text ≡ next - at → Put (next - at) l (put_mid at (next - at) l text) at next text
part l text at next h k e =
    let front : length (take at l ++ text) ≡ next = length-append (take at l) text ∙ rw (length-take-le at l (omega arith), e) (omega arith) in
    record {
      holds = ap (take next) (sym (append_assoc (take at l) text (post_of at (next - at) l))) ∙ take_at (take at l ++ text) (post_of at (next - at) l) next front;
      least = h;
      ends = omega arith;
      most = omega arith;
      past = drop_put at next l text h k e;
      room = same_len_mid at (next - at) l text (e ∙ sym (mid_len at next l k));
    }

-- what is the same from a place on is so from a later one on
pub behind : (at next : ℕ) (a b : List ℕ) → at ≤ next → drop at a ≡ drop at b → drop next a ≡ drop next b
behind at next a b h e =
    let on : next ≡ at + (next - at) = omega arith in
    rw on (sym (drop-drop (next - at) at a) ∙ ap (drop (next - at)) e ∙ drop-drop (next - at) at b)

-- one text after another
pub two : {old mid new : List ℕ} {at a b : ℕ} {s t : List ℕ} {m n : ℕ} (k : ℕ) → m + n ≤ k → Put m old mid at a s → Put n mid new a b t → Put k old new at b (s ++ t)
two {old} {mid} {new} {at} {a} {b} {s} {t} k h p q =
    record {
      holds = q.holds ∙ ap (λ (l : List ℕ). l ++ t) p.holds ∙ append_assoc (take at old) s t;
      least = omega (arith, p.least, q.least);
      ends = rw (length-append s t) (omega (arith, p.ends, q.ends));
      most = omega (arith, p.most, q.most);
      past = q.past ∙ behind a b mid old q.least p.past;
      room = q.room ∙ p.room;
    }

pub looser : {old new : List ℕ} {at next n : ℕ} {s : List ℕ} (k : ℕ) → n ≤ k → Put n old new at next s → Put k old new at next s
looser k h p = record { holds = p.holds; least = p.least; ends = p.ends; most = omega (arith, p.most); past = p.past; room = p.room }

pub retext : {old new : List ℕ} {at next n : ℕ} {s t : List ℕ} → s ≡ t → Put n old new at next s → Put n old new at next t
retext {old} {new} {at} {next} {n} e p = subst (λ (x : List ℕ). Put n old new at next x) e p

pub nothing_put : (n : ℕ) (old : List ℕ) (at : ℕ) → Put n old old at at []
nothing_put n old at = record { holds = sym (append-nil (take at old)); least = le_refl at; ends = omega arith; most = omega arith; past = refl; room = refl }

-- the next place is right behind the text
pub next_is : {old new : List ℕ} {at next n : ℕ} {s : List ℕ} → Put n old new at next s → length s ≡ n → next ≡ at + n
next_is {at = at} p e = p.ends ∙ ap (λ (k : ℕ). at + k) e

-- and there the text stands
pub behind_it : {old new : List ℕ} {at n : ℕ} {s : List ℕ} (k : ℕ) → Put n old new at (at + k) s → length s ≡ k → at ≤ length old → take k (drop at new) ≡ s
behind_it {old} {new} {at} {n} {s} k p e h =
    let both : take at new ++ take k (drop at new) ≡ take at old ++ s = sym (take-add at k new) ∙ p.holds in
    sym (drop_at (take at new) (take k (drop at new)) at (length-take-le at new (omega (arith, p.room)))) ∙ ap (drop at) both ∙ drop_at (take at old) s at (length-take-le at old h)

-- a text put at the front, and what is past it
pub at_front : {old new : List ℕ} {n next : ℕ} {s : List ℕ} → Put n old new 0 next s → new ≡ s ++ drop next old
at_front {old} {new} {n} {next} {s} p = sym (take-append-drop next new) ∙ rw (p.holds, p.past)

-- no freedom: a text is put at a place in one way
pub put_fixed : {old new other : List ℕ} {at next after n : ℕ} {s : List ℕ} → Put n old new at next s → Put n old other at after s → (next ≡ after) × (new ≡ other)
put_fixed {old} {new} {other} {at} {next} {after} {n} {s} p q =
    let same : next ≡ after = p.ends ∙ sym q.ends in
    let front : take next new ≡ take next other = p.holds ∙ sym q.holds ∙ ap (λ (k : ℕ). take k other) (sym same) in
    let back : drop next new ≡ drop next other = p.past ∙ ap (λ (k : ℕ). drop k old) same ∙ sym q.past ∙ ap (λ (k : ℕ). drop k other) (sym same) in
    (same, sym (take-append-drop next new) ∙ ap (λ (l : List ℕ). l ++ drop next new) front ∙ ap (λ (l : List ℕ). take next other ++ l) back ∙ take-append-drop next other)
