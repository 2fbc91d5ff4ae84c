-- The settings of the corrector, document 01, "Quantities" and "Doors, sessions, locks", and document 02, Three and Four: range, factory value and lock of a setting stand
-- in its row, and which locks give a right in the lock's row. A setting is named by its place in the table, from 0: its number less one.
-- Assumes nothing.
use Rattle.std.specs.Prelude.{ℕ, List, [], ◌∷◌, map, Bool, true, false, not, ◌&&◌, ◌||◌, ltb, get_or, ℤ, pos, negsuc, neg_ℤ, Float, Option, Some, None}
use Prim.Native.String.{String}
use Rattle.std.specs.Int.Signed.{lt_z}
use Rattle.std.specs.Float.{nan, inf, fin}
use Rattle.ground.specs.Below.{all_below}
use Rattle.ground.specs.Ranges.{most_code, k_scale, least_k, most_k, least_p, most_p, least_pb, most_pb, least_tb, most_tb, least_weight, most_weight, coldest, hottest}
use Rattle.settings.specs.declared.Value.{Value}
use Rattle.settings.specs.declared.Value.TheVariants.{Whole, Coefficient}
use Rattle.settings.specs.declared.Setting.{Setting}
use Rattle.settings.specs.declared.table.Range.{Range}
use Rattle.settings.specs.declared.table.Row.{Row}
use Rattle.settings.specs.declared.table.Lock.{Lock}
use Rattle.settings.specs.declared.table.Pair.{Pair}
use Rattle.settings.specs.Texts.{bytes_of}

-- how many settings there are
abbrev pub setting_count : ℕ
setting_count = 29

-- ---- the locks: a row each

-- how many locks there are
abbrev pub lock_count : ℕ
lock_count = 3

abbrev pub cal : ℕ
cal = 1

abbrev pub sup : ℕ
sup = 2

abbrev pub cust : ℕ
cust = 3

-- a lock's row, with its name by its bytes
pub record PrintedLock : Type 0 where
  pub number : ℕ
  pub name : List ℕ
  pub cal : Bool
  pub sup : Bool
  pub cust : Bool

abbrev pub lock_with : ℕ → List ℕ → Bool → Bool → Bool → PrintedLock
lock_with number name one two three = record { number = number; name = name; cal = one; sup = two; cust = three }

abbrev pub printed_lock : Lock → PrintedLock
printed_lock l = lock_with l.number l.name.now l.cal l.sup l.cust

-- number and name; then which of the locks 1, 2 and 3 give the right, each by itself
abbrev pub lock_row : ℕ → String → Bool → Bool → Bool → PrintedLock
lock_row number name one two three = lock_with number (bytes_of name) one two three

-- no lock gives this right
abbrev pub no_lock_row : PrintedLock
no_lock_row = lock_row 0 "-" false false false

-- "cal" needs lock 1 open; "sup" lock 1 or 2; "cust" at least one of the three. There is no lock 0
unfoldable pub locks : List PrintedLock
locks =
    no_lock_row
    ∷ lock_row cal "calibration" true false false
    ∷ lock_row sup "supplier's" true true false
    ∷ lock_row cust "customer's" true true true
    ∷ []

unfoldable pub lock_row_of : ℕ → PrintedLock
lock_row_of lock = get_or locks lock no_lock_row

-- ---- the table: a row for each setting

-- a row, with its texts by their bytes; a setting without a range is a coefficient
pub record PrintedRow : Type 0 where
  pub number : ℕ
  pub name : List ℕ
  pub unit : List ℕ
  pub range : Option Range
  pub factory : Value
  pub lock : ℕ

abbrev pub row_with : ℕ → List ℕ → List ℕ → Option Range → Value → ℕ → PrintedRow
row_with number name unit range first lock = record { number = number; name = name; unit = unit; range = range; factory = first; lock = lock }

abbrev pub printed_row : Row → PrintedRow
printed_row r = row_with r.number r.name.now r.unit.now r.range r.factory r.lock

-- from the lowest to the highest, both included
abbrev pub from_to : ℤ → ℤ → Option Range
from_to low high = Some (record { lowest = low; highest = high })

-- number, name, unit; a whole number from the lowest to the highest; the factory value; the lock
abbrev pub whole_row : ℕ → String → String → ℤ → ℤ → ℤ → ℕ → PrintedRow
whole_row number name unit low high first lock = row_with number (bytes_of name) (bytes_of unit) (from_to low high) (Whole first) lock

-- number, name, unit; any finite float; the factory value; the lock
abbrev pub float_row : ℕ → String → String → Float → ℕ → PrintedRow
float_row number name unit first lock = row_with number (bytes_of name) (bytes_of unit) None (Coefficient first) lock

-- document 02, Three: choices 0..6, factory 0; weights, factory 100
abbrev pub most_choice : ℕ
most_choice = 6

abbrev pub factory_weight : ℕ
factory_weight = 100

abbrev pub choice_row : ℕ → String → PrintedRow
choice_row number name = whole_row number name "0 off, 1 Vm, 2 VmD, 3 VmT, 4 Vb, 5 VbD, 6 VbT" (pos 0) (pos most_choice) (pos 0) sup

abbrev pub weight_row : ℕ → String → PrintedRow
weight_row number name = whole_row number name "litres a pulse" (pos least_weight) (pos most_weight) (pos factory_weight) sup

unfoldable pub rows : List PrintedRow
rows =
    whole_row 1 "cp code c" "one pulse is 10^(c+1) litres" (pos 0) (pos most_code) (pos 1) cal
    ∷ whole_row 2 "pb" "Pa" (pos least_pb) (pos most_pb) (pos 101325) cal
    ∷ whole_row 3 "Tb" "0.01 K" (pos least_tb) (pos most_tb) (pos 27315) cal
    ∷ whole_row 4 "Md.p" "0 p.F, 1 measured" (pos 0) (pos 1) (pos 1) cal
    ∷ whole_row 5 "Md.T" "0 T.F, 1 measured" (pos 0) (pos 1) (pos 1) cal
    ∷ whole_row 6 "Md.K" "0 K.F, 1 computed" (pos 0) (pos 1) (pos 0) cal
    ∷ whole_row 7 "pMin" "Pa" (pos least_p) (pos most_p) (pos 90000) cal
    ∷ whole_row 8 "pMax" "Pa" (pos least_p) (pos most_p) (pos 700000) cal
    ∷ whole_row 9 "TMin" "0.01 °C" coldest hottest (neg_ℤ (pos 2000)) cal
    ∷ whole_row 10 "TMax" "0.01 °C" coldest hottest (pos 6000) cal
    ∷ float_row 11 "Eq1.T" "-" (fin true 5 (pos 3)) cal  -- -40 is -5 * 2 ^ 3
    ∷ float_row 12 "Eq2.T" "-" (fin false 1 (neg_ℤ (pos 7))) cal  -- 0.0078125 is 2 ^ -7
    ∷ float_row 13 "Eq3.T" "-" (fin false 0 (pos 0)) cal  -- 0
    ∷ whole_row 14 "p.F" "Pa" (pos least_p) (pos most_p) (pos 101325) sup
    ∷ whole_row 15 "T.F" "0.01 °C" coldest hottest (pos 1500) sup
    ∷ whole_row 16 "K.F" "0.0001" (pos least_k) (pos most_k) (pos k_scale) sup
    ∷ whole_row 17 "Ho.b" "0.001 kWh/m³" (pos 5000) (pos 14000) (pos 11000) sup
    ∷ whole_row 18 "CO2" "0.01 %" (pos 0) (pos 3000) (pos 100) sup
    ∷ whole_row 19 "H2" "0.01 %" (pos 0) (pos 1000) (pos 0) sup
    ∷ whole_row 20 "Rhob" "0.0001 kg/m³" (pos 6000) (pos 12000) (pos 8000) sup
    ∷ whole_row 21 "customer's number" "-" (pos 0) (pos 999999999) (pos 0) cust
    ∷ choice_row 22 "choice of output 1"
    ∷ choice_row 23 "choice of output 2"
    ∷ choice_row 24 "choice of output 3"
    ∷ choice_row 25 "choice of output 4"
    ∷ weight_row 26 "weight of output 1"
    ∷ weight_row 27 "weight of output 2"
    ∷ weight_row 28 "weight of output 3"
    ∷ weight_row 29 "weight of output 4"
    ∷ []

-- past the table's end: no setting, and no lock opens it
abbrev pub no_row : PrintedRow
no_row = whole_row 0 "-" "-" (pos 0) (pos 0) (pos 0) 0

unfoldable pub row_of : ℕ → PrintedRow
row_of k = get_or rows k no_row

-- the places of the settings that the corrector itself reads
abbrev pub cp : ℕ
cp = 0

abbrev pub pb : ℕ
pb = 1

abbrev pub tb : ℕ
tb = 2

abbrev pub md_p : ℕ
md_p = 3

abbrev pub md_t : ℕ
md_t = 4

abbrev pub md_k : ℕ
md_k = 5

abbrev pub p_min : ℕ
p_min = 6

abbrev pub p_max : ℕ
p_max = 7

abbrev pub t_min : ℕ
t_min = 8

abbrev pub t_max : ℕ
t_max = 9

abbrev pub eq1 : ℕ
eq1 = 10

abbrev pub eq2 : ℕ
eq2 = 11

abbrev pub eq3 : ℕ
eq3 = 12

abbrev pub p_f : ℕ
p_f = 13

abbrev pub t_f : ℕ
t_f = 14

abbrev pub k_f : ℕ
k_f = 15

-- the choice of the first of the four outputs, and its weight; those of the others follow, output by output
abbrev pub first_choice : ℕ
first_choice = 21

abbrev pub first_weight : ℕ
first_weight = 25

-- ---- which values fit: refusal 9 is given exactly when they do not

unfoldable pub is_finite : Float → Bool
is_finite nan = false
is_finite (inf s) = false
is_finite (fin s m e) = true

-- not below the lowest, nor above the highest
unfoldable pub within_b : ℤ → ℤ → ℤ → Bool
within_b low high n = not (lt_z n low) && not (lt_z high n)

-- of the row's kind, and in its range
unfoldable pub fits_range : Option Range → Value → Bool
fits_range (Some r) (Whole n) = within_b r.lowest r.highest n
fits_range (Some r) (Coefficient f) = false
fits_range None (Whole n) = false
fits_range None (Coefficient f) = is_finite f

unfoldable pub fits_row : PrintedRow → Value → Bool
fits_row r v = fits_range r.range v

unfoldable pub fits_b : ℕ → Value → Bool
fits_b k v = ltb k setting_count && fits_row (row_of k) v

-- ---- the settings in force: one value for each row

abbrev pub no_setting : Setting
no_setting = record { value = Whole (pos 0) }

-- the value in force of the setting at a place
abbrev pub value_at : List Setting → ℕ → Value
value_at a k = (get_or a k no_setting).value

unfoldable pub factory_of : PrintedRow → Setting
factory_of r = record { value = r.factory }

unfoldable pub factory_settings : List Setting
factory_settings = map factory_of rows

-- ---- a value as a plain number

abbrev pub whole_of : Value → ℤ
whole_of (Whole n) = n
whole_of (Coefficient f) = pos 0

abbrev pub clipped : ℤ → ℕ
clipped (pos n) = n
clipped (negsuc n) = 0

abbrev pub natural_of : Value → ℕ
natural_of v = clipped (whole_of v)

-- the value in force of the setting at a place, as a plain number
abbrev pub natural_at : List Setting → ℕ → ℕ
natural_at a setting = natural_of (value_at a setting)

abbrev pub coefficient_of : Value → Float
coefficient_of (Whole n) = fin false 0 (pos 0)
coefficient_of (Coefficient f) = f

-- ---- rights: one of the locks that the lock's row names is open

unfoldable pub opens_b : ℕ → Bool → Bool → Bool → Bool
opens_b lock one two three = ((lock_row_of lock).cal && one) || (((lock_row_of lock).sup && two) || ((lock_row_of lock).cust && three))

unfoldable pub right_b : ℕ → Bool → Bool → Bool → Bool
right_b k one two three = opens_b (row_of k).lock one two three

-- ---- all settings together

unfoldable pub fits_at : List Setting → ℕ → Bool
fits_at a k = fits_b k (value_at a k)

unfoldable pub settings_fit_b : List Setting → Bool
settings_fit_b a = all_below (fits_at a) setting_count

-- the value at the first place is not above that at the second
unfoldable pub in_order : List Setting → ℕ → ℕ → Bool
in_order a low high = not (lt_z (whole_of (value_at a high)) (whole_of (value_at a low)))

-- the pairs: a row each, with the places of its two settings
abbrev pub pair_with : ℕ → ℕ → Pair
pair_with low high = record { low = low; high = high }

unfoldable pub pairs : List Pair
pairs = pair_with p_min p_max ∷ pair_with t_min t_max ∷ []

abbrev pub no_pair : Pair
no_pair = pair_with 0 0

abbrev pub pair_count : ℕ
pair_count = 2

unfoldable pub pair_of : ℕ → Pair
pair_of i = get_or pairs i no_pair

unfoldable pub pair_in_order : List Setting → Pair → Bool
pair_in_order a p = in_order a p.low p.high

unfoldable pub ordered_at : List Setting → ℕ → Bool
ordered_at a i = pair_in_order a (pair_of i)

-- "Always pMin ≤ pMax and TMin ≤ TMax"
unfoldable pub ordered_b : List Setting → Bool
ordered_b a = all_below (ordered_at a) pair_count
