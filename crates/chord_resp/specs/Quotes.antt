-- The words of an inline command, with quotes. Source: sdssplitargs of Redis 7.
use Rattle.std.specs.Prelude.{◌≡◌, ℕ, ◌+◌, ◌-◌, ◌*◌, Bool, ◌&&◌, ◌||◌, not, List, [], ◌∷◌, ◌++◌, nat_le, ◌==◌, if◌then◌else◌, Option, Some, None, Result, Ok, Err}
use Rattle.chord_resp.specs.declared.reading.place.Place.{Place}
use Rattle.chord_resp.specs.declared.reading.place.Place.TheVariants as place
use Rattle.chord_resp.specs.declared.reading.protocol_error.ProtocolError.TheVariants.{Unbalanced}
use Rattle.chord_resp.specs.declared.reading.read_error.ReadError.{ReadError}
use Rattle.chord_resp.specs.declared.reading.read_error.ReadError.TheVariants as error

-- what has come of the words of a line: those that are whole, and the bytes of the one that is not
pub record Split : Type 0 where
  pub place : Place
  pub words : List (List ℕ)
  pub word : List ℕ

-- before the first word
abbrev pub unsplit : Split
unsplit = record { place = place.Gap; words = []; word = [] }

-- a byte that may stand between words: a space, or a tab or line end of any kind
abbrev pub is_space : ℕ → Bool
is_space byte = byte == 32 || (nat_le 9 byte && nat_le byte 13)

-- a byte that ends a word; vertical tabs and form feeds do not
abbrev pub ends_word : ℕ → Bool
ends_word byte = is_space byte && not (byte == 11 || byte == 12)

-- the same in another place
abbrev pub moved : Split → Place → Split
moved s place = record { place = place; words = s.words; word = s.word }

-- these bytes come to the word
abbrev pub with_bytes : Split → Place → List ℕ → Split
with_bytes s place bytes = record { place = place; words = s.words; word = s.word ++ bytes }

-- the word has ended
abbrev pub with_word : Split → Place → Split
with_word s place = record { place = place; words = s.words ++ s.word ∷ []; word = [] }

-- ---- hexadecimal digits

abbrev pub is_figure : ℕ → Bool
is_figure byte = nat_le 48 byte && nat_le byte 57

abbrev pub is_upper : ℕ → Bool
is_upper byte = nat_le 65 byte && nat_le byte 70

abbrev pub is_lower : ℕ → Bool
is_lower byte = nat_le 97 byte && nat_le byte 102

abbrev pub is_hex : ℕ → Bool
is_hex byte = is_figure byte || (is_upper byte || is_lower byte)

-- the value of a digit; 0 for another byte
abbrev pub hex_value : ℕ → ℕ
hex_value byte = if is_figure byte then byte - 48
    else (if is_upper byte then byte - 55
    else (if is_lower byte then byte - 87 else 0))

-- ---- a byte of a line

-- outside of quotes
abbrev pub bare_step : Split → ℕ → Split
bare_step s byte =
    if ends_word byte then with_word s place.Gap
    else (if byte == 34 then moved s place.Double
    else (if byte == 39 then moved s place.Single
    else with_bytes s place.Bare (byte ∷ [])))

-- in double quotes
abbrev pub double_step : Split → ℕ → Split
double_step s byte =
    if byte == 34 then with_word s place.Closed
    else (if byte == 92 then moved s place.Escape
    else with_bytes s place.Double (byte ∷ []))

-- the byte that `\` and this one stand for
abbrev pub meant : ℕ → ℕ
meant byte =
    if byte == 110 then 10
    else (if byte == 114 then 13
    else (if byte == 116 then 9
    else (if byte == 98 then 8
    else (if byte == 97 then 7 else byte))))

-- behind a `\` in double quotes
abbrev pub escape_step : Split → ℕ → Split
escape_step s byte = if byte == 120 then moved s place.Hex else with_bytes s place.Double (meant byte ∷ [])

-- behind `\x`, which is `x` unless two digits follow
abbrev pub hex_step : Split → ℕ → Split
hex_step s byte = if is_hex byte then moved s (place.HexDigit byte) else double_step (with_bytes s place.Double (120 ∷ [])) byte

-- behind `\x` and a digit
abbrev pub digit_step : Split → ℕ → ℕ → Split
digit_step s first byte = if is_hex byte then with_bytes s place.Double ((hex_value first * 16 + hex_value byte) ∷ [])
    else double_step (with_bytes s place.Double (120 ∷ first ∷ [])) byte

-- in single quotes
abbrev pub single_step : Split → ℕ → Split
single_step s byte =
    if byte == 39 then with_word s place.Closed
    else (if byte == 92 then moved s place.SingleEscape
    else with_bytes s place.Single (byte ∷ []))

-- behind a `\` in single quotes, which is a byte like others unless `'` follows
abbrev pub single_escape_step : Split → ℕ → Split
single_escape_step s byte = if byte == 39 then with_bytes s place.Single (39 ∷ []) else single_step (with_bytes s place.Single (92 ∷ [])) byte

-- in this place; behind a closing quote only a space may stand
abbrev pub split_in : Place → Split → ℕ → Option Split
split_in place.Gap s byte = Some (if is_space byte then s else bare_step s byte)
split_in place.Bare s byte = Some (bare_step s byte)
split_in place.Double s byte = Some (double_step s byte)
split_in place.Escape s byte = Some (escape_step s byte)
split_in place.Hex s byte = Some (hex_step s byte)
split_in (place.HexDigit first) s byte = Some (digit_step s first byte)
split_in place.Single s byte = Some (single_step s byte)
split_in place.SingleEscape s byte = Some (single_escape_step s byte)
split_in place.Closed s byte = if is_space byte then Some (moved s place.Gap) else None

-- what a byte does
unfoldable pub split_step : Split → ℕ → Option Split
split_step s byte = split_in s.place s byte

-- ---- a line

-- the words of a line that ends in this place; none if a quote is not closed
abbrev pub ended_in : Place → Split → Option (List (List ℕ))
ended_in place.Gap s = Some s.words
ended_in place.Closed s = Some s.words
ended_in place.Bare s = Some (s.words ++ s.word ∷ [])
ended_in _ s = None

abbrev pub split_on : Option Split → (Split → Option (List (List ℕ))) → Option (List (List ℕ))
split_on None more = None
split_on (Some s) more = more s

-- the words, with what comes behind
unfoldable pub split_from : Split → List ℕ → Option (List (List ℕ))
split_from s [] = ended_in s.place s
split_from s (byte ∷ line) = split_on (split_step s byte) (λ t. split_from t line)

-- the words of a line; none if a quote is not closed, or something stands behind one that is
abbrev pub words_in : List ℕ → Option (List (List ℕ))
words_in line = split_from unsplit line

-- what a call answered, seen by `view`, unless memory ran out; where it is none the quotes are unbalanced
abbrev pub Splits : {X Y : Type 0} → (X → Y) → Result X ReadError → Option Y → Type 0
Splits view (Ok x) answer = answer ≡ Some (view x)
Splits view (Err (error.Protocol e)) answer = (answer ≡ None) × (e ≡ Unbalanced)
Splits view (Err error.Memory) answer = Unit {0}

-- the same of a call that goes on to the answer
abbrev pub SplitsTo : Result (Unit {0}) ReadError → Option Split → Split → Type 0
SplitsTo (Ok done) answer new = answer ≡ Some new
SplitsTo (Err (error.Protocol e)) answer new = (answer ≡ None) × (e ≡ Unbalanced)
SplitsTo (Err error.Memory) answer new = Unit {0}
