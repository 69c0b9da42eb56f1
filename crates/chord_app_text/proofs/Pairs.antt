-- Which words write bytes as digits, and how many.
use Rattle.std.proofs.Common.{◌≡◌, ◌≢◌, ℕ, ◌*◌, ◌%◌, ◌/◌, ◌<◌, Bool, true, false, ◌⊎◌, inl, inr, List, [], ◌∷◌, length, get_or, Option, Some, None, Result, Ok, Err, refl, sym, ap, ◌∙◌, arith}
use Rattle.std.specs.Prelude.{IsSome, unwrap_or, bytes_eq, codes}
use Rattle.std.specs.Char.{is_ascii_hexdigit}
use Rattle.std.specs.List.{AllPass}
use Rattle.std.specs.Result.{result_ok}
use Rattle.hex.specs.Hex.{decode_of, decode_pairs, is_hex_digit}
use Rattle.hex.proofs.HexLemmas.{decode_of-even, decode_of-ok, decode_pairs-digits}
use Rattle.chord_app_text.specs.Digits.{ArePairs, bytes_in}

-- the two tests of a digit
same_digit : (c : ℕ) → is_ascii_hexdigit c ≡ is_hex_digit c
same_digit c = grind arith

to_hex_digits : (word : List ℕ) → AllPass is_ascii_hexdigit word → AllPass is_hex_digit word
to_hex_digits word h i d lt = sym (same_digit (get_or word i d)) ∙ h i d lt

from_hex_digits : (word : List ℕ) → AllPass is_hex_digit word → AllPass is_ascii_hexdigit word
from_hex_digits word h i d lt = same_digit (get_or word i d) ∙ h i d lt

ok_from_some : {E : Type 0} (r : Result (List ℕ) E) (bytes : List ℕ) → result_ok r ≡ Some bytes → r ≡ Ok bytes
ok_from_some (Ok x) bytes h = cc h
ok_from_some (Err e) bytes h = cc h

-- what a word other than `-` that writes bytes is
pub written : (word bytes : List ℕ) → bytes_eq word (codes "-") ≡ false → bytes_in word ≡ Some bytes
    → (0 < length word) × (decode_of word ≡ Ok bytes)
written [] bytes other h = cc h
written (byte ∷ word) bytes other h =
    (omega arith, ok_from_some (decode_of (byte ∷ word)) bytes (rw other at h))

-- it has two digits for each byte
pub twice : (word bytes : List ℕ) → bytes_eq word (codes "-") ≡ false → bytes_in word ≡ Some bytes
    → (0 < length word) × (length word ≡ 2 * length bytes) × ArePairs word
twice word bytes other h =
    let (some, is) = written word bytes other h in
    let (even, digits, len, _) = decode_of-ok word bytes is in
    (some, len, record { some = some; even = even; digits = from_hex_digits word digits })

two_no_dash : (byte more : ℕ) (word : List ℕ) → bytes_eq (byte ∷ more ∷ word) (codes "-") ≡ false
two_no_dash byte more word = grind arith

-- pairs of digits write bytes
pub pairs_write : (word : List ℕ) → ArePairs word → (bytes : List ℕ) × (bytes_in word ≡ Some bytes)
pairs_write [] pairs = absurd (let s = pairs.some in omega (arith, s))
pairs_write (byte ∷ []) pairs = absurd (let s = pairs.even in omega (arith, s))
pairs_write (byte ∷ more ∷ word) pairs =
    let (bytes, is) = decode_pairs-digits 0 (byte ∷ more ∷ word) pairs.even (to_hex_digits (byte ∷ more ∷ word) pairs.digits) in
    let e = decode_of-even (byte ∷ more ∷ word) pairs.even ∙ is in
    (bytes, rw (two_no_dash byte more word) (ap result_ok e))

count_at : (word now : List ℕ) (o : Option (List ℕ)) → bytes_in word ≡ o → bytes_eq word (codes "-") ≡ false
    → IsSome o → now ≡ unwrap_or o [] → (length word / 2 ≡ length now) × (now ≢ [])
count_at word now (Some bytes) e other some is =
    let (more, len, _) = twice word bytes other e in
    let same : length now ≡ length bytes = ap length is in
    (omega (arith, len, same), λ none. let z : length now ≡ 0 = ap length none in omega (arith, len, same, z, more))
count_at word now None e other some is = cc some

-- how many bytes a word other than `-` writes
pub count_is : (word now : List ℕ) → bytes_eq word (codes "-") ≡ false → IsSome (bytes_in word)
    → now ≡ unwrap_or (bytes_in word) [] → (length word / 2 ≡ length now) × (now ≢ [])
count_is word now other some is = count_at word now (bytes_in word) refl other some is

write_at : (word : List ℕ) (o : Option (List ℕ)) → bytes_in word ≡ o → ArePairs word → IsSome o
write_at word (Some bytes) e pairs = refl
write_at word None e pairs = let (bytes, is) = pairs_write word pairs in cc (sym e ∙ is)

pub some_written : (word : List ℕ) → ArePairs word → IsSome (bytes_in word)
some_written word pairs = write_at word (bytes_in word) refl pairs

pub shown_written : (word : List ℕ) → ArePairs word → Some (unwrap_or (bytes_in word) []) ≡ bytes_in word
shown_written word pairs = let (bytes, is) = pairs_write word pairs in rw is refl

none_at : (word : List ℕ) (o : Option (List ℕ)) → bytes_in word ≡ o → bytes_eq word (codes "-") ≡ false
    → (ArePairs word → ⊥) → None ≡ o
none_at word (Some bytes) e other bad = let (_, _, pairs) = twice word bytes other e in absurd (bad pairs)
none_at word None e other bad = refl

pub none_written : (word : List ℕ) → bytes_eq word (codes "-") ≡ false → (ArePairs word → ⊥) → None ≡ bytes_in word
none_written word other bad = none_at word (bytes_in word) refl other bad
