-- Reading a client's bytes, one at a time. Source: the published RESP specification, version 2; the
-- limits are our own.
use Rattle.std.specs.Prelude.{ℕ, ◌+◌, ◌-◌, ◌*◌, Bool, ◌||◌, List, [], ◌∷◌, ◌++◌, map, length, take, slice_index, nat_lt, nat_le, ◌==◌, if◌then◌else◌, Option, Some, None, Result, Ok, Err}
use Rattle.chord_resp.specs.declared.reading.left.Left.{Left}
use Rattle.chord_resp.specs.declared.reading.phase.Phase.{Phase}
use Rattle.chord_resp.specs.declared.reading.phase.Phase.TheVariants as phase
use Rattle.chord_resp.specs.declared.reading.protocol_error.ProtocolError.{ProtocolError}
use Rattle.chord_resp.specs.declared.reading.protocol_error.ProtocolError.TheVariants.{BadCount, NoDollar, BadLength, TooLong, Unbalanced, Foreign}
use Rattle.chord_resp.specs.declared.reading.word.Word.{Word}
use Rattle.chord_resp.specs.declared.reading.word.Word.TheVariants.{Whole, Long}
use Rattle.chord_resp.specs.Foreign.{is_foreign}
use Rattle.chord_resp.specs.Quotes.{words_in}

-- what has come of a command: what is left of it, the words that are kept, and the bytes of the word
-- that is not whole
pub record State : Type 0 where
  pub phase : Phase
  pub left : Left
  pub words : List Word
  pub partial : List ℕ

-- nothing is left of a command
abbrev pub nothing : Left
nothing = record { words = 0; bytes = 0 }

-- before a command
abbrev pub start : State
start = record { phase = phase.Start; left = nothing; words = []; partial = [] }

-- what a byte does: reading goes on, or the byte ends a command, or it is an error
pub data Outcome : Type 0 where
  Goes : (state : State) → Outcome
  Gives : (words : List Word) → Outcome
  Fails : (error : ProtocolError) → Outcome

-- the bytes as a word; they are kept up to 4,096
abbrev pub word_of : List ℕ → Word
word_of bytes = if nat_lt 4096 (length bytes) then Long (length bytes) else Whole bytes

-- ---- inline commands

-- the bytes without a `\r` at their end
abbrev pub without_return : List ℕ → List ℕ
without_return bytes = if slice_index bytes (length bytes - 1) == 13 then take (length bytes - 1) bytes else bytes

-- a line without a word is no command
abbrev pub line_given : List Word → Outcome
line_given [] = Goes start
line_given (word ∷ words) = Gives (word ∷ words)

-- a line of these words is a command, unless it is one of HTTP or has too many words; a line
-- without words has a quote that is not closed
abbrev pub line_of : Option (List (List ℕ)) → Outcome
line_of None = Fails Unbalanced
line_of (Some words) = if is_foreign words then Fails Foreign
    else (if nat_lt 1024 (length words) then Fails TooLong else line_given (map word_of words))

-- a byte of a line; a byte 0 is none of Redis's protocol
abbrev pub line_step : State → ℕ → Outcome
line_step s byte =
    if byte == 10 then line_of (words_in (without_return s.partial))
    else (if byte == 0 then Fails Foreign
    else (if nat_le 65536 (length s.partial) then Fails TooLong
    else Goes (record s { phase = phase.Line; partial = s.partial ++ byte ∷ [] })))

-- ---- numbers

-- the number with one more decimal digit, if it is not above the most
abbrev pub longer : ℕ → ℕ → ℕ → Option ℕ
longer most number byte =
    if nat_lt byte 48 then None
    else (if nat_lt 57 byte then None
    else (if nat_lt most (number * 10 + (byte - 48)) then None
    else Some (number * 10 + (byte - 48))))

abbrev pub count_on : ℕ → Option ℕ → Result Phase ProtocolError
count_on digits None = Err BadCount
count_on digits (Some number) = Ok (phase.Count (digits + 1) number)

-- a byte of the count of words
abbrev pub count_step : ℕ → ℕ → ℕ → Result Phase ProtocolError
count_step digits number byte =
    if byte == 13 then (if digits == 0 then Err BadCount else Ok (phase.CountEnd number))
    else (if nat_le 32 digits then Err TooLong else count_on digits (longer 1048576 number byte))

-- the first byte of a word
abbrev pub mark_step : ℕ → Result Phase ProtocolError
mark_step byte = if byte == 36 then Ok (phase.Size 0 0) else Err (NoDollar byte)

abbrev pub size_on : ℕ → Option ℕ → Result Phase ProtocolError
size_on digits None = Err BadLength
size_on digits (Some number) = Ok (phase.Size (digits + 1) number)

-- a byte of the length of a word
abbrev pub size_step : ℕ → ℕ → ℕ → Result Phase ProtocolError
size_step digits number byte =
    if byte == 13 then (if digits == 0 then Err BadLength else Ok (phase.SizeEnd number))
    else (if nat_le 32 digits then Err TooLong else size_on digits (longer 1048576 number byte))

-- ---- commands of words

-- the state in another phase
abbrev pub went : State → Result Phase ProtocolError → Outcome
went s (Ok phase) = Goes (record s { phase = phase })
went s (Err error) = Fails error

-- how many bytes the words of a command may have: with more than 1,024 words 512 MiB together, else
-- 1,048,576 each
abbrev pub room_for : ℕ → ℕ
room_for count = if nat_le count 1024 then 1073741824 else 536870912

-- the end of the line of a count; a count of 0 is no command
abbrev pub count_end_step : State → ℕ → ℕ → Outcome
count_end_step s number byte =
    if byte == 10 then (if number == 0 then Goes start
    else Goes (record { phase = phase.Mark; left = record { words = number; bytes = room_for number }; words = []; partial = [] }))
    else Fails BadCount

-- fewer bytes are left
abbrev pub less : Left → ℕ → Left
less left count = record left { bytes = left.bytes - count }

-- the end of the line of a length; a word for which no room is left is an error of the count
abbrev pub size_end_step : State → ℕ → ℕ → Outcome
size_end_step s number byte =
    if byte == 10 then (if nat_lt s.left.bytes number then Fails BadCount
    else Goes (record s { phase = phase.Body number number; left = less s.left number }))
    else Fails BadLength

-- a word of this length behind these words is left out: it has more than 4,096 bytes, or it is not
-- among the first 1,024
abbrev pub is_left_out : List Word → ℕ → Bool
is_left_out words count = nat_lt 4096 count || nat_le 1024 (length words)

-- the bytes of a word that are kept
abbrev pub kept : List Word → ℕ → List ℕ → List ℕ → List ℕ
kept words count partial bytes = if is_left_out words count then partial else partial ++ bytes

-- a word that is left out is known by its length
abbrev pub word_behind : List Word → ℕ → List ℕ → Word
word_behind words count bytes = if is_left_out words count then Long count else Whole bytes

-- something is known of a word behind these
abbrev pub is_known_behind : List Word → Bool
is_known_behind words = nat_le (length words) 1024

-- the words with one more; of those that are not among the first 1,024 only the first is known
abbrev pub words_with : List Word → ℕ → List ℕ → List Word
words_with words count bytes = if is_known_behind words then words ++ word_behind words count bytes ∷ [] else words

-- a byte of a word, or the `\r` behind it
abbrev pub body_step : State → ℕ → ℕ → ℕ → Outcome
body_step s count left byte =
    if left == 0 then went s (if byte == 13 then Ok (phase.End count) else Err BadLength)
    else Goes (record s { phase = phase.Body count (left - 1); partial = kept s.words count s.partial (byte ∷ []) })

-- these words have come, and more words come
abbrev pub word_kept : Left → List Word → State
word_kept left words = record { phase = phase.Mark; left = record left { words = left.words - 1 }; words = words; partial = [] }

-- the words are all of a command, or more words come
abbrev pub word_ended : Left → List Word → Outcome
word_ended left words = if nat_le left.words 1 then Gives words else Goes (word_kept left words)

-- the `\n` behind a word
abbrev pub end_step : State → ℕ → ℕ → Outcome
end_step s count byte = if byte == 10 then word_ended s.left (words_with s.words count s.partial) else Fails BadLength

-- a byte in this phase
abbrev pub step_in : Phase → State → ℕ → Outcome
step_in phase.Start s byte = if byte == 42 then went s (Ok (phase.Count 0 0)) else line_step s byte
step_in phase.Line s byte = line_step s byte
step_in (phase.Count digits number) s byte = went s (count_step digits number byte)
step_in (phase.CountEnd number) s byte = count_end_step s number byte
step_in phase.Mark s byte = went s (mark_step byte)
step_in (phase.Size digits number) s byte = went s (size_step digits number byte)
step_in (phase.SizeEnd number) s byte = size_end_step s number byte
step_in (phase.Body count left) s byte = body_step s count left byte
step_in (phase.End count) s byte = end_step s count byte

-- what a byte does
unfoldable pub step : State → ℕ → Outcome
step s byte = step_in s.phase s byte
