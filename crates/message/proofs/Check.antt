-- The exclusive-or of a list, taken byte after byte from its front.
-- Assumes nothing.
use Prim.Native.Nat.{ℕ, zero, suc, ◌/◌, ◌%◌, ◌<◌}
use native.Mathlib.Nat.{mod-lt}
use native.Mathlib.Omega.{arith}
use mathlib.Core.Path.{◌≡◌, refl, sym, ◌∙◌}
use mathlib.Core.List.{List, [], ◌∷◌}
use lib.Arith.{bin_ind}
use lib.Bits.{bit_xor, differ, xor_step, xor_shr, xor_mod, xor_zero_r}
use Rattle.std.specs.List.{fold}
use Rattle.message.specs.Message.{xor_of}

-- ---- exclusive-or is associative

bit_by_bit : (x y z : ℕ) → x < 2 → y < 2 → z < 2 → differ (bit_xor x y) z ≡ differ x (bit_xor y z)
bit_by_bit zero zero z a b c = refl
bit_by_bit zero (suc zero) zero a b c = refl
bit_by_bit zero (suc zero) (suc zero) a b c = refl
bit_by_bit (suc zero) zero z a b c = refl
bit_by_bit (suc zero) (suc zero) zero a b c = refl
bit_by_bit (suc zero) (suc zero) (suc zero) a b c = refl
bit_by_bit (suc (suc x)) y z a b c = absurd (omega arith)
bit_by_bit zero (suc (suc y)) z a b c = absurd (omega arith)
bit_by_bit (suc zero) (suc (suc y)) z a b c = absurd (omega arith)
bit_by_bit zero (suc zero) (suc (suc z)) a b c = absurd (omega arith)
bit_by_bit (suc zero) (suc zero) (suc (suc z)) a b c = absurd (omega arith)

half : (a b : ℕ) → bit_xor a b / 2 ≡ bit_xor (a / 2) (b / 2)
half a b = xor_shr a b 1

odd : (a b : ℕ) → bit_xor a b % 2 ≡ bit_xor (a % 2) (b % 2)
odd a b = xor_mod a b 1

pub xor_assoc : (a b c : ℕ) → bit_xor (bit_xor a b) c ≡ bit_xor a (bit_xor b c)
xor_assoc = bin_ind (λ (n : ℕ). (b c : ℕ) → bit_xor (bit_xor n b) c ≡ bit_xor n (bit_xor b c)) (λ b c. refl) (λ n ih b c. more n b c (ih (b / 2) (c / 2)))
  where
    more : (n b c : ℕ) → bit_xor (bit_xor (n / 2) (b / 2)) (c / 2) ≡ bit_xor (n / 2) (bit_xor (b / 2) (c / 2)) → bit_xor (bit_xor n b) c ≡ bit_xor n (bit_xor b c)
    more n b c ih =
        let two : 0 < 2 = omega arith in
        rw (xor_step (bit_xor n b) c, xor_step n (bit_xor b c), half n b, half b c, odd n b, odd b c, ih, bit_by_bit (n % 2) (b % 2) (c % 2) (mod-lt n two) (mod-lt b two) (mod-lt c two))

-- ---- one byte after another

folded : (l : List ℕ) (sum : ℕ) → fold (λ a b. bit_xor a b) sum l ≡ bit_xor sum (xor_of l)
unfolding xor_of
folded [] sum = sym (xor_zero_r sum)
folded (b ∷ l) sum = folded l (bit_xor sum b) ∙ xor_assoc sum b (xor_of l)

pub xor_folded : (l : List ℕ) → fold (λ a b. bit_xor a b) 0 l ≡ xor_of l
xor_folded l = folded l 0
