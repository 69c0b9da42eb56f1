-- Texts of digits.
use Rattle.std.proofs.Common.{◌≡◌, ◌≢◌, ◌↔◌, ◌≤◌, ℕ, zero, suc, ◌<◌, Bool, true, false, List, [], ◌∷◌, length, get_or, Some, None, Result, Ok, Err, IfOk, OnOk, ◌==◌, ◌-◌, ◌+◌, ◌^◌, take, refl, sym, ap, arith, nat_lt}
use native.Mathlib.Numerals.{unary_clauses}
use Rattle.std.proofs.lemmas.Grind.{common_steps}
use Rattle.std.proofs.Math.Nat.{pow-le-pow_right}
use Rattle.std.proofs.lemmas.Int.Digits.{digits_value-lt}
use Rattle.std.proofs.lemmas.Bool.{eqb-true}
use Rattle.std.proofs.Math.Facts.{eqb_no}
use Rattle.std.specs.List.{list_all}
use Rattle.std.specs.Result.{result_ok}
use Rattle.std.specs.Char.{digit_value, is_ascii_digit}
use Rattle.std.proofs.lemmas.Str.{IsUtf8-from_ascii}
use Rattle.std.specs.Str.{all_ascii_digits, IsAscii, IsUtf8}
use Rattle.std.specs.Str.Parse.{AllDigits, digits_value}
use Rattle.chord_ident.specs.Hex.{IsFirstBadDigit}
use Rattle.chord_ident.specs.declared.id.Id.{Id}
use Rattle.chord_ident.specs.declared.hex.HexFault.{HexFault}
use Rattle.chord_ident.specs.declared.hex.HexFault.TheVariants.{BadLength, BadDigit}
use Rattle.chord_app_operator.specs.Queries.{id_of}

-- one byte that is no digit
pub no_digit : (text : List ℕ) (place : ℕ) → place < length text → is_ascii_digit (get_or text place 0) ≡ false → all_ascii_digits text ≡ false
no_digit [] place within bad = absurd (omega arith)
no_digit (c ∷ text) zero within bad = rw bad refl
no_digit (c ∷ text) (suc place) within bad = rw (no_digit text place (omega arith) bad) (grind arith)

-- all hexadecimal digits, and one byte that is none
all_hex : (text : List ℕ) → AllDigits 16 text → list_all (λ c. nat_lt (digit_value c) 16) text ≡ true
all_hex [] all = refl
all_hex (c ∷ text) all = grind (arith, all.0, all_hex text all.1)

no_hex : (text : List ℕ) (place : ℕ) → place < length text → 16 ≤ digit_value (get_or text place 0) → list_all (λ c. nat_lt (digit_value c) 16) text ≡ false
no_hex [] place within bad = absurd (omega arith)
no_hex (c ∷ text) zero within bad = grind arith
no_hex (c ∷ text) (suc place) within bad = rw (no_hex text place (omega arith) bad) (grind arith)

abbrev read : Result Id HexFault → Result Id HexFault
read r = r

good_id : (text : List ℕ) → length text ≡ 32 → AllDigits 16 text → id_of text ≡ Some (record { number = digits_value 16 text })
good_id text count all = rw (all_hex text all) (grind (arith, count))

short_id : (text : List ℕ) → length text ≢ 32 → id_of text ≡ None
short_id text count = grind (arith, count)

bad_id : (text : List ℕ) (place : ℕ) → IsFirstBadDigit text place → id_of text ≡ None
bad_id text place first = rw (no_hex text place first.within first.bad) (grind arith)

same_id : (id : Id) (number : ℕ) → id.number ≡ number → id ≡ record { number = number }
same_id id number e = rw (sym e) refl

read_id : (text : List ℕ) (id : Id) (b : Bool) → (length text == 32) ≡ b → id.number ≡ digits_value 16 text → AllDigits 16 text
    → (length text ≢ 32 → read (Ok id) ≡ Err BadLength) → Some id ≡ id_of text
read_id text id true e value digits long = rw (good_id text (eqb-true (length text) 32 e) digits) (ap Some (same_id id _ value))
read_id text id false e value digits long = let h = long (eqb_no (rw e tt)) in absurd cc

-- what reading an identifier tells is the identifier of the text
pub hex_is : (text : List ℕ) (r : Result Id HexFault) → IfOk r (λ id. id.number ≡ digits_value 16 text) → OnOk r (AllDigits 16 text)
    → (r ≡ Err BadLength) ↔ (length text ≢ 32) → ((place : ℕ) → r ≡ Err (BadDigit place) → IsFirstBadDigit text place) → result_ok r ≡ id_of text
hex_is text (Ok id) value digits length_is first =
    read_id text id (length text == 32) refl value digits length_is.1
hex_is text (Err BadLength) value digits length_is first = sym (short_id text (length_is.0 refl))
hex_is text (Err (BadDigit place)) value digits length_is first = sym (bad_id text place (first place refl))

-- hexadecimal digits are ASCII
hex_ascii : (text : List ℕ) → list_all (λ c. nat_lt (digit_value c) 16) text ≡ true → IsAscii text
hex_ascii [] all i = omega arith
hex_ascii (c ∷ text) all zero = grind (arith, all)
hex_ascii (c ∷ text) all (suc i) = hex_ascii text (grind (arith, all)) i

no_id_if : (text : List ℕ) (b : Bool) → list_all (λ c. nat_lt (digit_value c) 16) text ≡ b → ¬ (IsUtf8 text) → id_of text ≡ None
no_id_if text true e bad = absurd (bad (IsUtf8-from_ascii text (hex_ascii text e)))
no_id_if text false e bad = rw e (grind arith)

pub not_utf8_no_id : (text : List ℕ) → ¬ (IsUtf8 text) → id_of text ≡ None
not_utf8_no_id text bad = no_id_if text (list_all (λ c. nat_lt (digit_value c) 16) text) refl bad

-- at most 18 decimal digits, and one more
pub short_number : (text : List ℕ) (place : ℕ) → place < 19 → AllDigits 10 (take place text) → digits_value 10 (take place text) < 1000000000000000000
short_number text place few all =
    let below = digits_value-lt 10 (take place text) all in
    let len : length (take place text) ≤ place = grind (arith, common_steps) in
    let most : length (take place text) ≤ 18 = omega (arith, few, len) in
    let power : 10 ^ length (take place text) ≤ 10 ^ 18 = pow-le-pow_right (omega arith) most in
    omega (arith, below, power)

pub digit_is : (c : ℕ) → 48 ≤ c → c ≤ 57 → digit_value c ≡ c - 48
digit_is c low high = grind (arith, low, high)

ascii_suc : (text : List ℕ) (place : ℕ) → place < length text → all_ascii_digits (take place text) ≡ true → is_ascii_digit (get_or text place 0) ≡ true → all_ascii_digits (take (suc place) text) ≡ true
ascii_suc [] place within all one = absurd (omega arith)
ascii_suc (c ∷ text) zero within all one = rw one refl
ascii_suc (c ∷ text) (suc place) within all one = let h = ascii_suc text place (omega arith) in grind (arith, all, one, h)

pub ascii_more : (text : List ℕ) (place : ℕ) → place < length text → all_ascii_digits (take place text) ≡ true → is_ascii_digit (get_or text place 0) ≡ true → all_ascii_digits (take (place + 1) text) ≡ true
ascii_more text place within all one = simp unary_clauses (ascii_suc text place within all one)
