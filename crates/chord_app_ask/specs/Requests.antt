-- Requests as words. Source: our own.
use Rattle.std.specs.Prelude.{◌≡◌, ◌⊎◌, ℕ, ◌<◌, ◌≤◌, ◌&&◌, ◌||◌, nat_le, nat_lt, if◌then◌else◌}
use Rattle.std.specs.Prelude.{Bool, true, false, bytes_eq, codes, List, [], ◌∷◌, length, map, take}
use Rattle.std.specs.Prelude.{drop, option_copied, Option, Some, None, unwrap_or, Result, Ok, Err}
use Rattle.std.specs.Prelude.{IsOk}
use Rattle.std.specs.Borrow.{Bor}
use Rattle.std.specs.List.{slice_get}
use Rattle.std.specs.Str.{is_utf8}
use Rattle.chord_map.specs.declared.pair.Pair.{Pair}
use Rattle.chord_map.specs.declared.request.Request.{Request}
use Rattle.chord_map.specs.declared.request.Request.TheVariants.{Insert, Retrieve, Remove}
use Rattle.chord_app_text.specs.Digits.{bytes_in}
use Rattle.chord_app_text.specs.Words.{words_of}
use Rattle.chord_app_text.specs.declared.word_fault.WordFault.{WordFault}
use Rattle.chord_app_text.specs.declared.word_fault.WordFault.TheVariants as fault

-- the word begins with x:
abbrev pub is_marked : List ℕ → Bool
is_marked word = bytes_eq (take 2 word) (codes "x:")

-- the bytes that a word stands for: those that digits write behind x:, or its own
abbrev pub bytes_of : List ℕ → Option (List ℕ)
bytes_of word = if is_marked word then bytes_in (drop 2 word) else Some word

-- a key has 1 to 255 bytes, and a value at most 4,096; the key is looked at first
abbrev pub fault_of_counts : ℕ → ℕ → Option WordFault
fault_of_counts key value =
    if nat_lt key 1 || nat_lt 255 key then Some fault.KeyLength
    else if nat_lt 4096 value then Some fault.ValueLength
    else None

-- the value, unless there is a fault
abbrev pub unless : {T : Type 0} → Option WordFault → T → Result T WordFault
unless (Some why) value = Err why
unless None value = Ok value

-- the answer with its value turned into another
abbrev pub mapped : {T U : Type 0} → (T → U) → Result T WordFault → Result U WordFault
mapped f (Ok value) = Ok (f value)
mapped f (Err why) = Err why

-- the key of a retrieve that is written so
abbrev pub key_within : Option (List ℕ) → Result (List ℕ) WordFault
key_within None = Err fault.KeyDigits
key_within (Some key) = unless (fault_of_counts (length key) 0) key

-- the key and the value of an insert or a remove that are written so
abbrev pub pair_within : (key value : Option (List ℕ)) → Result Pair WordFault
pair_within None value = Err fault.KeyDigits
pair_within (Some key) None = Err fault.ValueDigits
pair_within (Some key) (Some value) =
    unless (fault_of_counts (length key) (length value)) (record { key = key; value = value })

-- the key of a retrieve with these words behind it: a key alone
abbrev pub key_from : (key value : Option (List ℕ)) → Result (List ℕ) WordFault
key_from None value = Err fault.NoKey
key_from (Some key) None = key_within (bytes_of key)
key_from (Some key) (Some value) = Err fault.ValueOfRetrieve

-- the key and the value of an insert or a remove with these words behind it, and maybe more
abbrev pub pair_from : (key value : Option (List ℕ)) → Bool → Result Pair WordFault
pair_from None value more = Err fault.NoKey
pair_from (Some key) None more = Err fault.NoValue
pair_from (Some key) (Some value) true = Err fault.FourthWord
pair_from (Some key) (Some value) false = pair_within (bytes_of key) (bytes_of value)

abbrev pub insert_of : Pair → Request
insert_of pair = Insert pair.key pair.value

abbrev pub remove_of : Pair → Request
remove_of pair = Remove pair.key pair.value

-- the request of an operation and the words behind it
abbrev pub request_from : List ℕ → (key value : Option (List ℕ)) → Bool → Result Request WordFault
request_from operation key value more =
    if bytes_eq operation (codes "insert") then mapped insert_of (pair_from key value more)
    else if bytes_eq operation (codes "retrieve") then mapped Retrieve (key_from key value)
    else if bytes_eq operation (codes "remove") then mapped remove_of (pair_from key value more)
    else Err fault.NoOperation

-- the request in words: its operation, its key and its value
abbrev pub request_in : List (List ℕ) → Result Request WordFault
request_in words =
    request_from (unwrap_or (slice_get words 0) []) (slice_get words 1) (slice_get words 2)
    (nat_lt 3 (length words))

-- memory is asked for a word of more than 24 bytes, and for any that digits write
abbrev pub takes_memory : List ℕ → Bool
takes_memory word =
    nat_lt (if is_marked word then 0 else 24) (length (unwrap_or (bytes_of word) []))

-- the same of a word that may be missing
abbrev pub some_takes_memory : Option (List ℕ) → Bool
some_takes_memory None = false
some_takes_memory (Some word) = takes_memory word

-- whether memory is asked for the key or the value among words
abbrev pub memory_for : List (List ℕ) → Bool
memory_for words =
    some_takes_memory (slice_get words 1) || some_takes_memory (slice_get words 2)

-- The result is the answer, or out of memory in place of a request for which memory is asked.
abbrev pub IsRead : Result Request WordFault → Bool → Result Request WordFault → Type 0
IsRead answer memory result =
    (result ≡ answer)
    ⊎ ((result ≡ Err fault.OutOfMemory) × IsOk answer × (memory ≡ true))

-- the request on a line, which has to be text
abbrev pub request_on : List ℕ → Result Request WordFault
request_on line = if is_utf8 line then request_in (words_of line) else Err fault.NoText

-- the words of a command line
abbrev pub texts_of : List (Bor (List ℕ)) → List (List ℕ)
texts_of words = map (λ word. word.now) words
