-- What the definitions of the settings give: the rows are numbered and named as they are read, the factory settings fit and are in order, the rights are those of the paper,
-- and of settings that fit each number that the formulas take is in its row's range.
-- Assumes nothing.
use mathlib.Core.Path.{◌≡◌, refl, sym}
use mathlib.Core.Bool.{Bool, true, false, not, ◌&&◌, ◌||◌, true≢false}
use mathlib.Core.List.{List, [], ◌∷◌, map}
use Rattle.std.proofs.Common.{Some}
use Prim.Native.Nat.{ℕ, zero, suc, ◌+◌, ◌≤◌, ◌<◌}
use native.Mathlib.Omega.{arith}
use lib.Dec.{ltb, leb, eqb, eqb→eq}
use lib.IntN.{ℤ, pos, negsuc}
use lib.ListN.{length}
use lib.Signed.{lt_z}
use borrow.Author.Tests.{ltb-false, not-true}
use Rattle.ground.specs.Below.{all_below}
use Rattle.ground.specs.Ranges.{most_code, least_k, most_k, least_p, most_p, least_pb, most_pb, least_tb, most_tb, least_weight, most_weight, coldest, hottest}
use Rattle.ground.proofs.Every.{all_each}
use Rattle.ground.proofs.Flags.{and_left, and_right, of_T}
use Rattle.ground.proofs.Table.{at}
use Rattle.settings.specs.declared.Value.{Value}
use Rattle.settings.specs.declared.Value.TheVariants.{Whole, Coefficient}
use Rattle.settings.specs.declared.Setting.{Setting}
use Rattle.settings.specs.declared.table.Range.{Range}
use Rattle.settings.specs.Texts.{bytes_of}
use Rattle.settings.specs.Settings.{setting_count, lock_count, cal, sup, cust, locks, lock_row_of, PrintedRow, from_to, rows, no_row, row_of, is_finite, within_b, fits_range, fits_row, fits_b, factory_of, factory_settings, value_at, whole_of, natural_of, fits_at, settings_fit_b, pairs, pair_of, in_order, pair_in_order, opens_b, ordered_at, ordered_b, cp, pb, tb, md_p, md_t, md_k, p_min, p_max, t_min, t_max, eq1, eq2, eq3, p_f, t_f, k_f, most_choice, first_choice, first_weight}

-- ---- the table and the factory settings

pub rows_length : length rows ≡ setting_count
unfolding rows
rows_length = refl

-- one test over the table: each factory value fits its row
fits_its_row : ℕ → PrintedRow → Bool
fits_its_row k r = fits_b k r.factory

pub factory_fits_row : (k : ℕ) → k < setting_count → fits_b k (row_of k).factory ≡ true
unfolding fits_its_row fits_b fits_row fits_range row_of rows within_b is_finite
factory_fits_row k l = of_T (fits_its_row k (row_of k)) (at fits_its_row no_row rows tt k l)

pub factory_fits : settings_fit_b factory_settings ≡ true
unfolding settings_fit_b all_below fits_at fits_b fits_row fits_range row_of rows within_b is_finite factory_settings factory_of
factory_fits = refl

pub factory_ordered : ordered_b factory_settings ≡ true
unfolding ordered_b ordered_at pair_of pairs pair_in_order all_below in_order factory_settings factory_of rows
factory_ordered = refl

-- the rows are numbered from 1 on, and each has one of the three locks
right_number : ℕ → PrintedRow → Bool
right_number k r = eqb r.number (k + 1)

pub numbered : (k : ℕ) → k < setting_count → (row_of k).number ≡ k + 1
unfolding row_of rows right_number
numbered k l = eqb→eq (row_of k).number (k + 1) (at right_number no_row rows tt k l)

known_lock : ℕ → PrintedRow → Bool
known_lock k r = ltb 0 r.lock && leb r.lock lock_count

pub locked : (k : ℕ) → k < setting_count → (ltb 0 (row_of k).lock && leb (row_of k).lock lock_count) ≡ true
unfolding row_of rows known_lock
locked k l = of_T (known_lock k (row_of k)) (at known_lock no_row rows tt k l)

-- at each place that the corrector reads stands the row of that name
pub places_named : map (λ k. (row_of k).name) (cp ∷ pb ∷ tb ∷ md_p ∷ md_t ∷ md_k ∷ p_min ∷ p_max ∷ t_min ∷ t_max ∷ eq1 ∷ eq2 ∷ eq3 ∷ p_f ∷ t_f ∷ k_f ∷ [])
    ≡ map bytes_of ("cp code c" ∷ "pb" ∷ "Tb" ∷ "Md.p" ∷ "Md.T" ∷ "Md.K" ∷ "pMin" ∷ "pMax" ∷ "TMin" ∷ "TMax" ∷ "Eq1.T" ∷ "Eq2.T" ∷ "Eq3.T" ∷ "p.F" ∷ "T.F" ∷ "K.F" ∷ [])
unfolding row_of rows
places_named = refl

pub choices_named : map (λ k. (row_of (first_choice + k)).name) (0 ∷ 1 ∷ 2 ∷ 3 ∷ [])
    ≡ map bytes_of ("choice of output 1" ∷ "choice of output 2" ∷ "choice of output 3" ∷ "choice of output 4" ∷ [])
unfolding row_of rows
choices_named = refl

pub weights_named : map (λ k. (row_of (first_weight + k)).name) (0 ∷ 1 ∷ 2 ∷ 3 ∷ [])
    ≡ map bytes_of ("weight of output 1" ∷ "weight of output 2" ∷ "weight of output 3" ∷ "weight of output 4" ∷ [])
unfolding row_of rows
weights_named = refl

-- ---- the rule of rights, and the pairs, in the paper's words

pub cal_needs : (one two three : Bool) → opens_b cal one two three ≡ one
unfolding opens_b lock_row_of locks
cal_needs true two three = refl
cal_needs false two three = refl

pub sup_needs : (one two three : Bool) → opens_b sup one two three ≡ (one || two)
unfolding opens_b lock_row_of locks
sup_needs true two three = refl
sup_needs false true three = refl
sup_needs false false three = refl

pub cust_needs : (one two three : Bool) → opens_b cust one two three ≡ (one || (two || three))
unfolding opens_b lock_row_of locks
cust_needs one two three = refl

-- there is no lock 0, and none above 3
pub no_such_lock : (lock : ℕ) (one two three : Bool) → (ltb lock 1 || ltb lock_count lock) ≡ true → opens_b lock one two three ≡ false
unfolding opens_b lock_row_of locks
no_such_lock zero one two three e = refl
no_such_lock (suc zero) one two three e = absurd (true≢false (sym e))
no_such_lock (suc (suc zero)) one two three e = absurd (true≢false (sym e))
no_such_lock (suc (suc (suc zero))) one two three e = absurd (true≢false (sym e))
no_such_lock (suc (suc (suc (suc n)))) one two three e = refl

in_turn_lem : (x y : Bool) → (y && (x && true)) ≡ (x && y)
in_turn_lem true true = refl
in_turn_lem true false = refl
in_turn_lem false true = refl
in_turn_lem false false = refl

-- pMin ≤ pMax and TMin ≤ TMax
pub pairs_say : (a : List Setting) → ordered_b a ≡ (in_order a p_min p_max && in_order a t_min t_max)
unfolding ordered_b ordered_at pair_of pairs pair_in_order all_below
pairs_say a = in_turn_lem (in_order a p_min p_max) (in_order a t_min t_max)

-- ---- settings that fit

pub fits_at_lem : (a : List Setting) → settings_fit_b a ≡ true → (k : ℕ) → k < setting_count → fits_b k (value_at a k) ≡ true
unfolding settings_fit_b fits_at
fits_at_lem a e k l = all_each (fits_at a) setting_count e k l

-- a whole number in the range of its row
pub record WholeIn (low high : ℤ) (v : Value) : Type 0 where
  pub is : v ≡ Whole (whole_of v)
  pub from : lt_z (whole_of v) low ≡ false
  pub upto : lt_z high (whole_of v) ≡ false

-- the same of a range from 0 on, in natural numbers
pub record NaturalIn (low high : ℕ) (v : Value) : Type 0 where
  pub is : v ≡ Whole (pos (natural_of v))
  pub from : low ≤ natural_of v
  pub upto : natural_of v ≤ high

whole_row_lem : (r : Range) (v : Value) → fits_range (Some r) v ≡ true → WholeIn r.lowest r.highest v
unfolding fits_range within_b
whole_row_lem r (Whole n) e = record {
  is = refl;
  from = not-true (lt_z n r.lowest) (and_left (not (lt_z n r.lowest)) (not (lt_z r.highest n)) e);
  upto = not-true (lt_z r.highest n) (and_right (not (lt_z n r.lowest)) (not (lt_z r.highest n)) e);
}
whole_row_lem r (Coefficient f) e = absurd (true≢false (sym e))

-- at a place whose row has this range
pub whole_in : (k : ℕ) (v : Value) (low high : ℤ) → (row_of k).range ≡ from_to low high → fits_b k v ≡ true → WholeIn low high v
unfolding fits_b fits_row
whole_in k v low high c e =
    whole_row_lem record { lowest = low; highest = high } v (rw c at (and_right (ltb k setting_count) (fits_row (row_of k) v) e))

pub natural_in : (low high : ℕ) (v : Value) → WholeIn (pos low) (pos high) v → NaturalIn low high v
natural_in low high (Whole (pos n)) w = record { is = refl; from = ltb-false n low w.from; upto = ltb-false high n w.upto }
natural_in low high (Whole (negsuc n)) w = absurd (true≢false w.from)
natural_in low high (Coefficient f) w = record { is = w.is; from = ltb-false 0 low w.from; upto = ltb-false high 0 w.upto }

-- ---- what the corrector reads, of settings that fit: the numbers are those of the table
module _ (a : List Setting) (e : settings_fit_b a ≡ true) where
  pub whole_at_lem : (k : ℕ) (low high : ℤ) → k < setting_count → (row_of k).range ≡ from_to low high → WholeIn low high (value_at a k)
  whole_at_lem k low high l c = whole_in k (value_at a k) low high c (fits_at_lem a e k l)

  pub natural_at_lem : (k low high : ℕ) → k < setting_count → (row_of k).range ≡ from_to (pos low) (pos high) → NaturalIn low high (value_at a k)
  natural_at_lem k low high l c = natural_in low high (value_at a k) (whole_at_lem k (pos low) (pos high) l c)

  pub cp_in : NaturalIn 0 most_code (value_at a cp)
  unfolding row_of rows
  cp_in = natural_at_lem cp 0 most_code (omega arith) refl

  pub pb_in : NaturalIn least_pb most_pb (value_at a pb)
  unfolding row_of rows
  pb_in = natural_at_lem pb least_pb most_pb (omega arith) refl

  pub tb_in : NaturalIn least_tb most_tb (value_at a tb)
  unfolding row_of rows
  tb_in = natural_at_lem tb least_tb most_tb (omega arith) refl

  pub p_min_in : NaturalIn least_p most_p (value_at a p_min)
  unfolding row_of rows
  p_min_in = natural_at_lem p_min least_p most_p (omega arith) refl

  pub p_max_in : NaturalIn least_p most_p (value_at a p_max)
  unfolding row_of rows
  p_max_in = natural_at_lem p_max least_p most_p (omega arith) refl

  pub p_f_in : NaturalIn least_p most_p (value_at a p_f)
  unfolding row_of rows
  p_f_in = natural_at_lem p_f least_p most_p (omega arith) refl

  pub t_f_in : WholeIn coldest hottest (value_at a t_f)
  unfolding row_of rows
  t_f_in = whole_at_lem t_f coldest hottest (omega arith) refl

  pub k_f_in : NaturalIn least_k most_k (value_at a k_f)
  unfolding row_of rows
  k_f_in = natural_at_lem k_f least_k most_k (omega arith) refl

  -- the choices of the outputs, and their weights
  pub choice_in : (k : ℕ) → k < 4 → NaturalIn 0 most_choice (value_at a (first_choice + k))
  unfolding row_of rows
  choice_in zero l = natural_at_lem (first_choice + 0) 0 most_choice (omega arith) refl
  choice_in (suc zero) l = natural_at_lem (first_choice + 1) 0 most_choice (omega arith) refl
  choice_in (suc (suc zero)) l = natural_at_lem (first_choice + 2) 0 most_choice (omega arith) refl
  choice_in (suc (suc (suc zero))) l = natural_at_lem (first_choice + 3) 0 most_choice (omega arith) refl
  choice_in (suc (suc (suc (suc k)))) l = absurd (omega arith)

  pub weight_in_lem : (k : ℕ) → k < 4 → NaturalIn least_weight most_weight (value_at a (first_weight + k))
  unfolding row_of rows
  weight_in_lem zero l = natural_at_lem (first_weight + 0) least_weight most_weight (omega arith) refl
  weight_in_lem (suc zero) l = natural_at_lem (first_weight + 1) least_weight most_weight (omega arith) refl
  weight_in_lem (suc (suc zero)) l = natural_at_lem (first_weight + 2) least_weight most_weight (omega arith) refl
  weight_in_lem (suc (suc (suc zero))) l = natural_at_lem (first_weight + 3) least_weight most_weight (omega arith) refl
  weight_in_lem (suc (suc (suc (suc k)))) l = absurd (omega arith)
