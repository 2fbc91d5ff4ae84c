-- What holds of every message: its length, its characters, and that it says its six values and no others.
-- Assumes nothing.
use Prim.Native.Nat.{ℕ, zero, suc, ◌+◌, ◌/◌, ◌%◌, ◌^◌, ◌≤◌, ◌<◌}
use native.Mathlib.Nat.{pow-suc, mod-lt, mod-one}
use native.Mathlib.Omega.{arith}
use mathlib.Core.Path.{◌≡◌, refl, sym, ap, ◌∙◌}
use mathlib.Core.Bool.{Bool, true, false, ◌&&◌}
use mathlib.Core.List.{List, [], ◌∷◌, ◌++◌, head-eq_of_cons-eq, tail-eq_of_cons-eq}
use lib.Arith.{mod-mul}
use lib.Dec.{ltb}
use lib.ListN.{length, take, drop, length-append, length-drop}
use lib.Seq.{take_at, drop_at}
use borrow.Author.Tests.{lt-ltb, ltb-false, le-leb}
use Rattle.spelling.specs.Spelling.{bytes, glyph, digits}
use Rattle.spelling.proofs.Lent.{length_digits}
use Rattle.message.specs.declared.Values.{Values}
use Rattle.message.specs.Message.{stx, crlf, etx, cubic_metres, line, body, check, message, size, written, sayable, Fits, plain_b, all_plain}

-- ---- how long

pub length_body : (v : Values) → length (body v) ≡ 154
unfolding body line cubic_metres digits
length_body v = refl

-- THE MESSAGE HAS 156 BYTES, whatever the values
pub length_message : (v : Values) → length (message v) ≡ size
unfolding message body line cubic_metres digits
length_message v = refl

-- ---- which characters

plain_both : (a b : List ℕ) → all_plain a ≡ true → all_plain b ≡ true → all_plain (a ++ b) ≡ true
unfolding all_plain
plain_both [] b p q = q
plain_both (x ∷ a) b p q = by_first (plain_b x) p (λ e. plain_both a b e q)
  where
    by_first : (t : Bool) → (t && all_plain a) ≡ true → (all_plain a ≡ true → all_plain (a ++ b) ≡ true) → (t && all_plain (a ++ b)) ≡ true
    by_first true e f = f e
    by_first false e f = e

plain_digit : (d : ℕ) → d < 10 → plain_b (glyph d) ≡ true
unfolding glyph
plain_digit d h = rw (lt-ltb d 10 h, le-leb 32 (48 + d) (omega arith), le-leb (48 + d) 126 (omega arith))

plain_digits : (k n : ℕ) → all_plain (digits 10 k n) ≡ true
unfolding digits all_plain
plain_digits zero n = refl
plain_digits (suc k) n = plain_both (digits 10 k (n / 10)) (glyph (n % 10) ∷ []) (plain_digits k (n / 10)) (rw (plain_digit (n % 10) (mod-lt n (omega arith))))

plain_cubic : (litres : ℕ) → all_plain (cubic_metres litres) ≡ true
unfolding cubic_metres all_plain
plain_cubic litres =
    plain_both (digits 10 9 (litres / 1000)) (bytes "." ++ digits 10 3 litres) (plain_digits 9 (litres / 1000)) (plain_both (bytes ".") (digits 10 3 litres) refl (plain_digits 3 litres))

plain_line_lem : (address : List ℕ) (litres : ℕ) → all_plain address ≡ true → all_plain (line address litres) ≡ true
unfolding line all_plain
plain_line_lem address litres h =
    let rest : List ℕ = bytes "*m3)" ++ crlf in
    plain_both address (bytes "(" ++ (cubic_metres litres ++ rest)) h
    (plain_both (bytes "(") (cubic_metres litres ++ rest) refl (plain_both (cubic_metres litres) rest (plain_cubic litres) refl))

plain_next : (address : List ℕ) (litres : ℕ) (rest : List ℕ) → all_plain address ≡ true → all_plain rest ≡ true → all_plain (line address litres ++ rest) ≡ true
plain_next address litres rest h k = plain_both (line address litres) rest (plain_line_lem address litres h) k

plain_body : (v : Values) → all_plain (body v) ≡ true
unfolding body all_plain
plain_body v =
    plain_next (bytes "2:300") v.vb _ refl
    (plain_next (bytes "2:301") v.vbd _ refl
    (plain_next (bytes "2:302") v.vbt _ refl
    (plain_next (bytes "4:300") v.vm _ refl
    (plain_next (bytes "4:301") v.vmd _ refl
    (plain_next (bytes "4:302") v.vmt (bytes "!" ++ (crlf ++ (etx ∷ []))) refl refl)))))

plain_stx : all_plain (stx ∷ []) ≡ true
unfolding all_plain
plain_stx = refl

-- EVERY BYTE BUT THE LAST is a 7-bit character that is printed, or STX, CR, LF, ETX
pub plain_but_last : (v : Values) → all_plain (take 155 (message v)) ≡ true
unfolding message
plain_but_last v = rw (take_at (body v) (check v ∷ []) 154 (length_body v)) (plain_both (stx ∷ []) (body v) plain_stx (plain_body v))

-- ---- what it says

-- two texts of one length, and what follows them
apart : (a b c d : List ℕ) → length a ≡ length b → a ++ c ≡ b ++ d → (a ≡ b) × (c ≡ d)
apart a b c d e s =
    (sym (take_at a c (length a) refl) ∙ ap (take (length a)) s ∙ take_at b d (length a) (sym e), sym (drop_at a c (length a) refl) ∙ ap (drop (length a)) s ∙ drop_at b d (length a) (sym e))

glyph_one : (d e : ℕ) → d < 10 → e < 10 → glyph d ≡ glyph e → d ≡ e
unfolding glyph
glyph_one d e h k q = let s : 48 + d ≡ 48 + e = rw (lt-ltb d 10 h, lt-ltb e 10 k) at q in omega arith

-- the last k digits tell the number, as far as they go
digits_one : (k n m : ℕ) → digits 10 k n ≡ digits 10 k m → n % 10 ^ k ≡ m % 10 ^ k
unfolding digits
digits_one zero n m e = mod-one n ∙ sym (mod-one m)
digits_one (suc k) n m e =
    let ten : 0 < 10 = omega arith in
    let both = apart (digits 10 k (n / 10)) (digits 10 k (m / 10)) (glyph (n % 10) ∷ []) (glyph (m % 10) ∷ []) (length_digits 10 k (n / 10) ∙ sym (length_digits 10 k (m / 10))) e in
    let last : n % 10 ≡ m % 10 = glyph_one (n % 10) (m % 10) (mod-lt n ten) (mod-lt m ten) (head-eq_of_cons-eq both.1) in
    rw (pow-suc 10 k, mod-mul n {m = 10 ^ k} {c = 10} (some k) ten, mod-mul m {m = 10 ^ k} {c = 10} (some k) ten, digits_one k (n / 10) (m / 10) both.0, last)
  where
    some : (j : ℕ) → 0 < 10 ^ j
    some zero = omega arith
    some (suc j) = omega (arith, some j, pow-suc 10 j)

cubic_one : (n m : ℕ) → sayable n → sayable m → cubic_metres n ≡ cubic_metres m → n ≡ m
unfolding cubic_metres
cubic_one n m h k e =
    let both = apart (digits 10 9 (n / 1000)) (digits 10 9 (m / 1000)) (bytes "." ++ digits 10 3 n) (bytes "." ++ digits 10 3 m) (length_digits 10 9 (n / 1000) ∙ sym (length_digits 10 9 (m / 1000))) e in
    let whole : n / 1000 % 1000000000 ≡ m / 1000 % 1000000000 = digits_one 9 (n / 1000) (m / 1000) both.0 in
    let decimals : n % 1000 ≡ m % 1000 = digits_one 3 n m (tail-eq_of_cons-eq both.1) in
    omega arith

length_line : (address : List ℕ) (litres : ℕ) → length (line address litres) ≡ length address + 20
unfolding line cubic_metres digits
length_line address litres = length-append address _

length_cubic : (litres : ℕ) → length (cubic_metres litres) ≡ 13
unfolding cubic_metres digits
length_cubic litres = refl

-- a line tells its value, and where it ends
line_one : (address : List ℕ) (n m : ℕ) (x y : List ℕ) → sayable n → sayable m → line address n ++ x ≡ line address m ++ y → (n ≡ m) × (x ≡ y)
unfolding line
line_one address n m x y h k e =
    let both = apart (line address n) (line address m) x y (length_line address n ∙ sym (length_line address m)) e in
    let value = (apart address address _ _ refl both.0).1 in
    let digits = (apart (cubic_metres n) (cubic_metres m) _ _ (length_cubic n ∙ sym (length_cubic m)) (tail-eq_of_cons-eq value)).0 in
    (cubic_one n m h k digits, both.1)

-- TWO MESSAGES ARE EQUAL only if their six values are
pub message_one : (v w : Values) → Fits v → Fits w → message v ≡ message w → v ≡ w
unfolding message body
message_one v w f g e =
    let bodies = (apart (body v) (body w) (check v ∷ []) (check w ∷ []) (length_body v ∙ sym (length_body w)) (tail-eq_of_cons-eq e)).0 in
    let one = line_one (bytes "2:300") v.vb w.vb _ _ f.vb g.vb bodies in
    let two = line_one (bytes "2:301") v.vbd w.vbd _ _ f.vbd g.vbd one.1 in
    let three = line_one (bytes "2:302") v.vbt w.vbt _ _ f.vbt g.vbt two.1 in
    let four = line_one (bytes "4:300") v.vm w.vm _ _ f.vm g.vm three.1 in
    let five = line_one (bytes "4:301") v.vmd w.vmd _ _ f.vmd g.vmd four.1 in
    let six = line_one (bytes "4:302") v.vmt w.vmt _ _ f.vmt g.vmt five.1 in
    rw (one.0, two.0, three.0, four.0, five.0, six.0)

-- ---- the buffer

pub length_written : (v : Values) (old : List ℕ) → length (written v old) ≡ length old
unfolding written
length_written v old = by_test (ltb (length old) size) refl
  where
    by_test : (t : Bool) → ltb (length old) size ≡ t → length (written v old) ≡ length old
    by_test true e = rw e
    by_test false e =
        let h : size ≤ length old = ltb-false (length old) size e in
        rw e (length-append (message v) (drop size old) ∙ omega (arith, length_message v, length-drop size old))
