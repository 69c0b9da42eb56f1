-- The words of a line. Source: our own.
use Rattle.std.specs.Prelude.{◌≡◌, ◌≢◌, ◌⊎◌, ℕ, ◌+◌, ◌-◌, ◌^◌, min, ◌==◌, Bool, true, false, if◌then◌else◌, List, [], ◌∷◌, Option, Some, None, Result, Ok, Err}
use Rattle.std.specs.Borrow.{Bor}
use Rattle.std.specs.List.{slice_split}
use Rattle.chord_app_text.specs.Digits.{bytes_in}
use Rattle.chord_app_text.specs.declared.grammar_fault.GrammarFault.TheVariants as fault
use Rattle.chord_app_text.specs.declared.words.LineFault.{LineFault}
use Rattle.chord_app_text.specs.declared.words.LineFault.TheVariants.{Grammar, OutOfMemory}
use Rattle.chord_app_text.specs.declared.words.Words.{Words}

-- the words of a line, with one space between words
abbrev pub words_of : List ℕ → List (List ℕ)
words_of line = slice_split (λ byte. byte == 32) line

-- the words of what is left of a line, if there is any
abbrev pub words_in : Option (Bor (List ℕ)) → List (List ℕ)
words_in None = []
words_in (Some rest) = words_of rest.now

-- the words that are still to be read
abbrev pub words_left : Words → List (List ℕ)
words_left words = words_in words.rest

-- one more, at most 2^64 - 1
abbrev pub one_more : ℕ → ℕ
one_more count = min (count + 1) (2 ^ 64 - 1)

-- The next word comes off the front, or it is missing. It counts as read.
abbrev pub WordIs : Words → Result (Bor (List ℕ)) LineFault → Words → Type 0
WordIs old (Ok word) new =
    (words_left old ≡ word.now ∷ words_left new) × (new.read ≡ one_more old.read)
WordIs old (Err why) new =
    (words_left old ≡ []) × (words_left new ≡ []) × (new.read ≡ one_more old.read)
    × (why ≡ Grammar (fault.Missing new.read))

-- whether there is no word
abbrev pub is_none_of : List (List ℕ) → Bool
is_none_of [] = true
is_none_of (word ∷ words) = false

-- how a line ends with these words left: one that is left is too many
abbrev pub end_of : Words → Result (Unit {0}) LineFault
end_of words =
    if is_none_of (words_left words) then Ok tt
    else Err (Grammar (fault.TooMany (one_more words.read)))

-- The next word is read as bytes. Memory is refused only to a word that writes some.
abbrev pub BytesAre : Words → Result (List ℕ) LineFault → Words → Type 0
BytesAre old (Ok bytes) new =
    (word : List ℕ) × (words_left old ≡ word ∷ words_left new) × (bytes_in word ≡ Some bytes)
BytesAre old (Err (Grammar why)) new =
    ((words_left old ≡ []) × (why ≡ fault.Missing new.read))
    ⊎ ((word : List ℕ) × (words_left old ≡ word ∷ words_left new) × (bytes_in word ≡ None)
    × (why ≡ fault.NoBytes new.read))
BytesAre old (Err OutOfMemory) new =
    (word : List ℕ) × (bytes : List ℕ) × (words_left old ≡ word ∷ words_left new)
    × (bytes_in word ≡ Some bytes) × (bytes ≢ [])
