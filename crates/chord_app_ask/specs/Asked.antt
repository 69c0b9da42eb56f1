-- Requests whose keys and values are not copied yet. Source: our own.
use Rattle.std.specs.Prelude.{ℕ, ◌||◌, nat_lt, Bool, List, length, option_copied, Result}
use Rattle.chord_map.specs.declared.pair.Pair.{Pair}
use Rattle.chord_map.specs.declared.request.Request.{Request}
use Rattle.chord_map.specs.declared.request.Request.TheVariants as request
use Rattle.chord_app_text.specs.declared.word_fault.WordFault.{WordFault}
use Rattle.chord_app_ask.specs.declared.ask.line.Word.{Word}
use Rattle.chord_app_ask.specs.declared.ask.line.Word.TheVariants as word
use Rattle.chord_app_ask.specs.declared.ask.line.PairWords.{PairWords}
use Rattle.chord_app_ask.specs.declared.ask.line.Asked.{Asked}
use Rattle.chord_app_ask.specs.declared.ask.line.Asked.TheVariants as asked
use Rattle.chord_app_ask.specs.declared.ask.line.RequestWords.{RequestWords}
use Rattle.chord_app_ask.specs.Requests.{key_from, pair_from, request_from, some_takes_memory}

-- the bytes that a word stands for
abbrev pub written : Word → List ℕ
written (word.Text text) = text.now
written (word.Digits bytes) = bytes

-- whether a copy of them asks for memory
abbrev pub takes : Word → Bool
takes (word.Text text) = nat_lt 24 (length text.now)
takes (word.Digits bytes) = nat_lt 0 (length bytes)

abbrev pub pair_written : PairWords → Pair
pair_written words = record { key = written words.key; value = written words.value }

abbrev pub pair_takes : PairWords → Bool
pair_takes words = takes words.key || takes words.value

-- the request that is asked
abbrev pub request_of : Asked → Request
request_of (asked.Insert pair) = request.Insert (written pair.key) (written pair.value)
request_of (asked.Retrieve key) = request.Retrieve (written key)
request_of (asked.Remove pair) = request.Remove (written pair.key) (written pair.value)

-- whether a copy of its key and its value asks for memory
abbrev pub asked_takes : Asked → Bool
asked_takes (asked.Insert pair) = pair_takes pair
asked_takes (asked.Retrieve key) = takes key
asked_takes (asked.Remove pair) = pair_takes pair

-- what these words ask for
abbrev pub key_of_words : RequestWords → Result (List ℕ) WordFault
key_of_words words = key_from (option_copied words.key) (option_copied words.value)

abbrev pub pair_of_words : RequestWords → Result Pair WordFault
pair_of_words words =
    pair_from (option_copied words.key) (option_copied words.value) words.has_more

abbrev pub request_of_words : RequestWords → Result Request WordFault
request_of_words words =
    request_from words.operation.now (option_copied words.key) (option_copied words.value)
    words.has_more

-- whether memory is asked for it
abbrev pub words_take : RequestWords → Bool
words_take words =
    some_takes_memory (option_copied words.key) || some_takes_memory (option_copied words.value)
