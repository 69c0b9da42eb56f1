-- A text of 32 hexadecimal digits is an identifier.
use Rattle.std.proofs.Common.{◌≡◌, ◌≢◌, ◌↔◌, ℕ, zero, suc, ◌<◌, List, [], ◌∷◌, length, get_or, Option, Some, Result, Err, refl, arith}
use Rattle.std.specs.Char.{digit_value}
use Rattle.std.specs.Str.Parse.{AllDigits}
use Rattle.chord_ident.specs.Hex.{IsFirstBadDigit}
use Rattle.chord_ident.specs.declared.id.Id.{Id}
use Rattle.chord_ident.specs.declared.hex.HexFault.{HexFault}
use Rattle.chord_ident.specs.declared.hex.HexFault.TheVariants.{BadLength, BadDigit}

digits_below : (text : List ℕ) (place : ℕ) → AllDigits 16 text → place < length text → digit_value (get_or text place 0) < 16
digits_below [] place all lt = absurd (omega arith)
digits_below (c ∷ text) zero all lt = all.0
digits_below (c ∷ text) (suc place) all lt = digits_below text place all.1 (omega arith)

abbrev failed : HexFault → Result Id HexFault
failed fault = Err fault

pub digits_fail_not : (text : List ℕ) (fault : HexFault) → length text ≡ 32 → AllDigits 16 text → (failed fault ≡ Err BadLength) ↔ (length text ≢ 32)
    → ((place : ℕ) → failed fault ≡ Err (BadDigit place) → IsFirstBadDigit text place) → ⊥
digits_fail_not text BadLength count all length_is first = length_is.0 refl count
digits_fail_not text (BadDigit place) count all length_is first =
    let bad = first place refl in
    let good = digits_below text place all bad.within in
    omega (arith, bad.bad, good)

abbrev given : List ℕ → Option (List ℕ)
given text = Some text

pub same_text : (a b : List ℕ) → given a ≡ given b → a ≡ b
same_text a b e = cc
