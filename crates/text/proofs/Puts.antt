-- How many digits a number has; words and lines put at a place.
-- Assumes nothing.
use mathlib.Core.Path.{◌≡◌, refl, sym, ap, ◌∙◌}
use mathlib.Core.Bool.{Bool, true, false, cond}
use mathlib.Core.List.{List, [], ◌∷◌, ◌++◌, append_assoc, append-nil}
use Prim.Native.Nat.{ℕ, zero, suc, ◌+◌, ◌-◌, ◌*◌, ◌/◌, ◌^◌, ◌≤◌, ◌<◌, suc-le-suc}
use native.Mathlib.Nat.{le_refl, pow-suc}
use native.Mathlib.Numerals.{add-one}
use native.Mathlib.Omega.{arith}
use borrow.Author.Tests.{lt-ltb, le-ltb}
use lib.Dec.{ltb}
use lib.ListN.{length, get_or, take}
use lib.Seq.{take-suc, take_all}
use lib.IntN.{ℤ, pos, nat_abs}
use lib.Signed.{lt_z}
use Rattle.spelling.specs.declared.cursor.Cursor.{Cursor}
use Rattle.spelling.specs.Spelling.{Put, bytes, digits}
use Rattle.spelling.specs.Cursor.{Appends}
use Rattle.spelling.proofs.Puts as puts
use Rattle.spelling.proofs.Appended.{two, retext, nothing_put}
use Rattle.std.specs.List.{flat_map}
use Rattle.text.specs.Echoes.{places_up_to, places, decimal, spaced, signed, bits_of, joined, value_words, hexed, given_words, separated, litres_words, other_words, parsed_text, office_text, office_for, echo_text, enough, text_for}
use Rattle.message.specs.declared.Values.{Values}
use Rattle.std.specs.Prelude.{Result, Ok, Err}
use Rattle.commands.specs.declared.Given.{Given}
use Rattle.commands.specs.declared.Echo.{Echo}
use lib.Ieee.{Float}
use Rattle.settings.specs.declared.Value.{Value}
use Rattle.settings.specs.declared.Value.TheVariants.{Whole, Coefficient}

pub places_stop : (m n : ℕ) → n < 10 → places_up_to m n ≡ 1
unfolding places_up_to
places_stop zero n h = refl
places_stop (suc m) n h = rw (lt-ltb n 10 h)

pub places_on : (m n : ℕ) → 10 ≤ n → places_up_to (suc m) n ≡ suc (places_up_to m (n / 10))
unfolding places_up_to
places_on m n h = rw (le-ltb n 10 h)

by_test : (b : Bool) (m x : ℕ) → x ≤ suc m → cond b 1 (suc x) ≤ suc (suc m)
by_test true m x h = omega arith
by_test false m x h = suc-le-suc h

places_up_to_lem : (m n : ℕ) → places_up_to m n ≤ suc m
unfolding places_up_to
places_up_to_lem zero n = le_refl 1
places_up_to_lem (suc m) n = by_test (ltb n 10) m (places_up_to m (n / 10)) (places_up_to_lem m (n / 10))

pub places_most : (n : ℕ) → places n ≤ 20
unfolding places
places_most n = places_up_to_lem 19 n

pub below_zero_lem : (n : ℤ) (k : ℕ) → k ≡ nat_abs n → lt_z n (pos 0) ≡ true → spaced (45 ∷ decimal k) ≡ spaced (signed n)
unfolding signed
below_zero_lem n k e t = rw (e, t)

pub not_below : (n : ℤ) (k : ℕ) → k ≡ nat_abs n → lt_z n (pos 0) ≡ false → spaced (decimal k) ≡ spaced (signed n)
unfolding signed
not_below n k e t = rw (e, t)

-- ---- words

-- a row of one word
pub word : {old new : Cursor} {n : ℕ} {w : List ℕ} → Appends n old new (spaced w) → Appends n old new (joined (w ∷ []))
unfolding joined
word {w = w} p = retext (sym (append-nil (spaced w))) p

pub joined_both : (ws vs : List (List ℕ)) → joined (ws ++ vs) ≡ joined ws ++ joined vs
unfolding joined
joined_both [] vs = refl
joined_both (w ∷ ws) vs = ap (λ (l : List ℕ). spaced w ++ l) (joined_both ws vs) ∙ sym (append_assoc (spaced w) (joined ws) (joined vs))

-- one row after another
pub rows : {old mid new : Cursor} {m n : ℕ} (ws vs : List (List ℕ)) (k : ℕ) → m + n ≤ k
    → Appends m old mid (joined ws) → Appends n mid new (joined vs) → Appends k old new (joined (ws ++ vs))
rows ws vs k h p q = retext (sym (joined_both ws vs)) (two k h p q)

-- one item more, in its words
flat_more : {A : Type 0} (f : A → List (List ℕ)) (xs ys : List A) → flat_map f (xs ++ ys) ≡ flat_map f xs ++ flat_map f ys
flat_more f [] ys = refl
flat_more f (x ∷ xs) ys = ap (λ (l : List (List ℕ)). f x ++ l) (flat_more f xs ys) ∙ sym (append_assoc (f x) (flat_map f xs) (flat_map f ys))

pub none_put : (n : ℕ) (c : Cursor) → Appends n c c (joined [])
unfolding joined
none_put n c = nothing_put n c

pub item_more : {A : Type 0} {old mid new : Cursor} (f : A → List (List ℕ)) (most : ℕ) (xs : List A) (i : ℕ) (x d : A) → i < length xs → x ≡ get_or xs i d
    → Appends (i * most) old mid (joined (flat_map f (take i xs))) → Appends most mid new (joined (f x)) → Appends ((i + 1) * most) old new (joined (flat_map f (take (i + 1) xs)))
item_more f most xs i x d h e p q =
    let more : flat_map f (take (i + 1) xs) ≡ flat_map f (take i xs) ++ f x = rw (add-one i, take-suc xs i d h, ← e) (flat_more f (take i xs) (x ∷ []) ∙ ap (λ (l : List (List ℕ)). flat_map f (take i xs) ++ l) (append-nil (f x))) in
    retext (sym (ap joined more)) (rows (flat_map f (take i xs)) (f x) ((i + 1) * most) (omega arith) p q)

pub all_put : {A : Type 0} {old new : Cursor} (f : A → List (List ℕ)) (most : ℕ) (xs : List A) (n : ℕ) → n ≡ length xs
    → Appends (n * most) old new (joined (flat_map f (take n xs))) → Appends (length xs * most) old new (joined (flat_map f xs))
all_put f most xs n e p = rw e at (rw (take_all n xs (omega arith)) at p)

pub whole_text : (n : ℤ) (v : Value) → v ≡ Whole n → (32 ∷ 119 ∷ []) ++ spaced (signed n) ≡ joined (value_words v)
unfolding joined value_words
whole_text n v e = rw (e, append-nil)

pub coefficient_text : (f : Float) (v : Value) → v ≡ Coefficient f → (32 ∷ 99 ∷ 32 ∷ []) ++ digits 16 16 (bits_of f) ≡ joined (value_words v)
unfolding joined value_words
coefficient_text f v e = rw (e, append-nil)

-- ---- bytes in hexadecimal

hexed_both : (a b : List ℕ) → hexed (a ++ b) ≡ hexed a ++ hexed b
unfolding hexed
hexed_both [] b = refl
hexed_both (x ∷ a) b = ap (λ (l : List ℕ). digits 16 2 x ++ l) (hexed_both a b) ∙ sym (append_assoc (digits 16 2 x) (hexed a) (hexed b))

hexed_more : (l : List ℕ) (i : ℕ) → i < length l → hexed (take i l) ++ digits 16 2 (get_or l i 0) ≡ hexed (take (i + 1) l)
unfolding hexed
hexed_more l i h =
    let more : take (i + 1) l ≡ take i l ++ (get_or l i 0 ∷ []) = rw (add-one i) (take-suc l i 0 h) in
    sym (ap hexed more ∙ hexed_both (take i l) (get_or l i 0 ∷ []) ∙ ap (λ (r : List ℕ). hexed (take i l) ++ r) (append-nil (digits 16 2 (get_or l i 0))))

pub no_byte : (old l : List ℕ) (at : ℕ) → Put 0 old old at at (hexed (take 0 l))
unfolding hexed
no_byte old l at = puts.nothing_put 0 old at

-- one byte more
pub byte_more : {old mid new : List ℕ} {at next last : ℕ} (l : List ℕ) (i : ℕ) → i < length l → Put (i * 2) old mid at next (hexed (take i l)) → Put 2 mid new next last (digits 16 2 (get_or l i 0))
    → Put ((i + 1) * 2) old new at last (hexed (take (i + 1) l))
byte_more l i h p q = puts.retext (hexed_more l i h) (puts.two ((i + 1) * 2) (omega arith) p q)

pub all_bytes : {old new : List ℕ} {at next : ℕ} (l : List ℕ) → Put (length l * 2) old new at next (hexed (take (length l) l)) → Put (length l * 2) old new at next (hexed l)
all_bytes l p = puts.retext (ap hexed (take_all (length l) l (le_refl (length l)))) p

-- ---- lines

pub given_text : (g x : Given) → g ≡ x → joined (given_words x) ≡ joined (given_words g)
given_text g x e = rw e

pub little_room : (old : List ℕ) (at : ℕ) (e : Echo) → length old < at + enough → [] ≡ text_for old at e
unfolding text_for
little_room old at e h = rw (lt-ltb (length old) (at + enough) h)

pub room_for : (old : List ℕ) (at : ℕ) (e x : Echo) → at + enough ≤ length old → e ≡ x → echo_text x ≡ text_for old at e
unfolding text_for
room_for old at e x h q = rw (le-ltb (length old) (at + enough) h, q)

pub echo_kept : (old : List ℕ) (at : ℕ) (e : Echo) → length old - at < enough → Put 422 old old at at (text_for old at e)
echo_kept old at e h = puts.retext (little_room old at e (omega arith)) (puts.nothing_put 422 old at)

-- ---- a message that was read

pub accepted_line : (p : Result Values ℕ) (v : Values) → p ≡ Ok v → (48 ∷ []) ++ (joined (decimal v.vb ∷ []) ++ (joined (other_words v) ++ (10 ∷ []))) ≡ parsed_text p
unfolding parsed_text separated litres_words joined
accepted_line p v e = rw (e, append-nil (decimal v.vb)) (ap (λ (l : List ℕ). 48 ∷ l) (sym (append_assoc (spaced (decimal v.vb)) (joined (other_words v)) (10 ∷ []))))

pub refused_line : (p : Result Values ℕ) (n : ℕ) → p ≡ Err n → decimal n ++ (10 ∷ []) ≡ parsed_text p
unfolding parsed_text
refused_line p n e = rw e

pub accepted_office : (p : Result Values ℕ) (v : Values) → p ≡ Ok v → decimal v.vb ++ (joined (other_words v) ++ (10 ∷ [])) ≡ office_text p
unfolding office_text separated litres_words
accepted_office p v e = rw e (sym (append_assoc (decimal v.vb) (joined (other_words v)) (10 ∷ [])))

pub refused_office : (p : Result Values ℕ) (n : ℕ) → p ≡ Err n → bytes "refused" ++ (joined (decimal n ∷ []) ++ (10 ∷ [])) ≡ office_text p
unfolding office_text separated
refused_office p n e = rw e

pub little_office : (old : List ℕ) (p : Result Values ℕ) → length old < enough → [] ≡ office_for old p
unfolding office_for
little_office old p h = rw (lt-ltb (length old) enough h)

pub office_for_lem : (old : List ℕ) (p : Result Values ℕ) → enough ≤ length old → office_text p ≡ office_for old p
unfolding office_for
office_for_lem old p h = rw (le-ltb (length old) enough h)

pub office_put : (old new : List ℕ) (next : ℕ) (p : Result Values ℕ) → enough ≤ length old → Put 422 old new 0 next (office_text p) → Put 422 old new 0 next (office_for old p)
office_put old new next p h q = puts.retext (office_for_lem old p h) q

pub office_kept : (old : List ℕ) (p : Result Values ℕ) → length old < enough → Put 422 old old 0 0 (office_for old p)
office_kept old p h = puts.retext (little_office old p h) (puts.nothing_put 422 old 0)

-- ---- digits by the power of ten

places_at : (m k n : ℕ) → k ≤ m → 10 ^ k ≤ n → n < 10 * 10 ^ k → places_up_to m n ≡ suc k
places_at m zero n h l u = places_stop m n (omega (arith, u))
places_at zero (suc k) n h l u = absurd (omega arith)
places_at (suc m) (suc k) n h l u =
    let p = pow-suc 10 k in
    places_on m n (omega (arith, p, pow-pos k)) ∙ ap suc (places_at m k (n / 10) (omega arith) (omega (arith, p)) (omega (arith, p)))
  where
    pow-pos : (j : ℕ) → 1 ≤ 10 ^ j
    pow-pos zero = omega arith
    pow-pos (suc j) = omega (arith, pow-pos j, pow-suc 10 j)

pub places_none : 1 ≡ places 0
unfolding places
places_none = sym (places_stop 19 0 (omega arith))

pub places_some : (k n : ℕ) → k < 20 → 10 ^ k ≤ n → n < 10 * 10 ^ k → k + 1 ≡ places n
unfolding places
places_some k n h l u = add-one k ∙ sym (places_at 19 k n (omega arith) l u)
