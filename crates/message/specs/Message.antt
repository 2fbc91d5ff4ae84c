-- The IEC 62056-21 data message of six values. Document 02, Five. It is a list of bytes, put together from named pieces.
-- Assumes nothing.
use Rattle.std.specs.Prelude.{ℕ, ◌/◌, ◌^◌, ◌<◌, Bool, true, cond, ◌&&◌, ◌||◌, List, [], ◌∷◌, ◌++◌, ltb, leb, eqb, length, drop}
use Rattle.std.specs.Int.Bits.{bit_xor}
use Rattle.spelling.specs.Spelling.{bytes, digits}
use Rattle.message.specs.declared.Values.{Values}

-- ---- the characters that are not printed

abbrev pub stx : ℕ
stx = 2

abbrev pub etx : ℕ
etx = 3

abbrev pub cr : ℕ
cr = 13

abbrev pub lf : ℕ
lf = 10

abbrev pub crlf : List ℕ
crlf = cr ∷ lf ∷ []

-- ---- the lines

-- "cubic metres in nine digits with leading zeros, a point and three decimals": litres are the third decimal
unfoldable pub cubic_metres : ℕ → List ℕ
cubic_metres litres = digits 10 9 (litres / 1000) ++ (bytes "." ++ digits 10 3 litres)

-- "each `address(value*m3)` with CR LF"
unfoldable pub line : List ℕ → ℕ → List ℕ
line address litres = address ++ (bytes "(" ++ (cubic_metres litres ++ (bytes "*m3)" ++ crlf)))

-- "six lines for addresses 2:300, 2:301, 2:302, 4:300, 4:301, 4:302 (Vb, VbD, VbT, Vm, VmD, VmT)", "then `!`, CR LF, ETX": all bytes after STX, up to and with ETX
unfoldable pub body : Values → List ℕ
body v =
    line (bytes "2:300") v.vb
    ++ (line (bytes "2:301") v.vbd
    ++ (line (bytes "2:302") v.vbt
    ++ (line (bytes "4:300") v.vm
    ++ (line (bytes "4:301") v.vmd
    ++ (line (bytes "4:302") v.vmt
    ++ (bytes "!" ++ (crlf ++ (etx ∷ []))))))))

-- ---- the check

-- the exclusive-or of all bytes of a list
unfoldable pub xor_of : List ℕ → ℕ
xor_of [] = 0
xor_of (b ∷ l) = bit_xor b (xor_of l)

-- "the block check character, the exclusive-or of all bytes after STX up to and with ETX"
unfoldable pub check : Values → ℕ
check v = xor_of (body v)

-- ---- the message

unfoldable pub message : Values → List ℕ
message v = stx ∷ (body v ++ (check v ∷ []))

-- "The message is 156 bytes"
abbrev pub size : ℕ
size = 156

-- What a buffer holds in which the message was written: the message at its front, and "the bytes past the message stay as they were". A buffer that is shorter than
-- the message stays as it is.
unfoldable pub written : Values → List ℕ → List ℕ
written v old = cond (ltb (length old) size) old (message v ++ drop size old)

-- ---- what the laws speak of

-- a value that nine digits and three decimals can say
abbrev pub sayable : ℕ → Type 0
sayable litres = litres < 10 ^ 12

pub record Fits (v : Values) : Type 0 where
  pub vb : sayable v.vb
  pub vbd : sayable v.vbd
  pub vbt : sayable v.vbt
  pub vm : sayable v.vm
  pub vmd : sayable v.vmd
  pub vmt : sayable v.vmt

-- a 7-bit character that is printed, or one of the four that are not
abbrev pub plain_b : ℕ → Bool
plain_b b = (leb 32 b && leb b 126) || (eqb b stx || (eqb b etx || (eqb b cr || eqb b lf)))

unfoldable pub all_plain : List ℕ → Bool
all_plain [] = true
all_plain (b ∷ l) = plain_b b && all_plain l
