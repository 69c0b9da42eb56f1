-- What a stream of bytes spells. Source: our own.
use Rattle.std.specs.Prelude.{◌≡◌, ◌≤◌, ◌+◌, ◌-◌, ◌^◌, ℕ, fold, min, List, [], ◌∷◌, ◌++◌, length, drop, Bool, true, false, not, ◌&&◌, ◌==◌, nat_lt, Option, Some, None, Result, Ok, Err}
use Rattle.std.specs.List.{AllByRecursion}
use Rattle.chord_resp.specs.declared.reading.phase.Phase.{Phase}
use Rattle.chord_resp.specs.declared.reading.phase.Phase.TheVariants as phase
use Rattle.chord_resp.specs.declared.reading.protocol_error.ProtocolError.{ProtocolError}
use Rattle.chord_resp.specs.declared.reading.read_error.ReadError.{ReadError}
use Rattle.chord_resp.specs.declared.reading.read_error.ReadError.TheVariants as error
use Rattle.chord_resp.specs.declared.reading.word.Word.{Word}
use Rattle.chord_resp.specs.declared.reading.word.Word.TheVariants.{Whole, Long}
use Rattle.chord_resp.specs.Machine.{State, Outcome, Goes, Gives, Fails, is_known_behind, is_left_out, start, step}

-- how a stream ends so far: with what has come of the next command, or with an error
pub data Ending : Type 0 where
  Open : (state : State) → Ending
  Broken : (error : ProtocolError) → Ending

-- the commands that a stream spells, each as its words, and how it ends
pub record Reading : Type 0 where
  pub commands : List (List Word)
  pub ending : Ending

-- the reading with these commands before its own
abbrev pub with_commands : List (List Word) → Reading → Reading
with_commands commands r = record { commands = commands ++ r.commands; ending = r.ending }

-- the reading after what a byte does
abbrev pub after : Outcome → (State → Reading) → Reading
after (Goes state) more = more state
after (Gives words) more = with_commands (words ∷ []) (more start)
after (Fails error) more = record { commands = []; ending = Broken error }

-- what the bytes spell from this state on
unfoldable pub reading : State → List ℕ → Reading
reading s [] = record { commands = []; ending = Open s }
reading s (byte ∷ bytes) = after (step s byte) (λ t. reading t bytes)

-- an ending, and how it goes on with more bytes
abbrev pub goes_on : Ending → List ℕ → Reading
goes_on (Open state) more = reading state more
goes_on (Broken error) more = record { commands = []; ending = Broken error }

-- the same reading with more bytes after it
abbrev pub with_more : Reading → List ℕ → Reading
with_more r more = with_commands r.commands (goes_on r.ending more)

-- a reader: what has come of the next command, and the bytes that were fed and not read yet
pub record Reader : Type 0 where
  pub state : State
  pub bytes : List ℕ

-- the bytes of a reader, read from its state on
abbrev pub reading_of : Reader → Reading
reading_of r = reading r.state r.bytes

-- how many bytes of a word are kept
abbrev pub word_bytes : Word → ℕ
word_bytes (Whole bytes) = length bytes
word_bytes (Long _) = 0

-- how many bytes are kept of a command that has not come whole, with these before them; 2^64 - 1
-- stands for more
abbrev pub kept_behind : ℕ → State → ℕ
kept_behind bytes s = fold (λ (sum : ℕ) (word : Word). min (sum + word_bytes word) (2 ^ 64 - 1))
    (min (bytes + length s.partial) (2 ^ 64 - 1)) s.words

-- the same, with the bytes that are not read
abbrev pub partial_bytes : Reader → ℕ
partial_bytes r = kept_behind (length r.bytes) r.state

-- little is kept of a command that has not come whole: at most 1,024 words and the length of one
-- more, each of at most 4,096 bytes, and 65,536 bytes of the word or line that has not ended
pub record KeepsLittle (s : State) : Type 0 where
  pub words : length s.words ≤ 1025
  pub each : AllByRecursion (λ (word : Word). word_bytes word ≤ 4096) s.words
  pub partial : length s.partial ≤ 65536

-- no command has begun
abbrev pub is_at_start : Phase → Bool
is_at_start phase.Start = true
is_at_start _ = false

-- no command has begun, and no byte is left
abbrev pub is_between : Reader → Bool
is_between r = (length r.bytes == 0) && is_at_start r.state.phase

-- bytes are kept of a word that has this length, of which this many are still to come
abbrev pub keeps_bytes : List Word → ℕ → ℕ → Bool
keeps_bytes words count left = nat_lt 0 left && not (is_left_out words count)

-- bytes or words are kept in this phase
abbrev pub keeps_in : Phase → List Word → ℕ → Bool
keeps_in phase.Start words byte = not (byte == 42)
keeps_in phase.Line words byte = true
keeps_in (phase.Count digits number) words byte = false
keeps_in (phase.CountEnd number) words byte = false
keeps_in phase.Mark words byte = false
keeps_in (phase.Size digits number) words byte = false
keeps_in (phase.SizeEnd number) words byte = false
keeps_in (phase.Body count left) words byte = keeps_bytes words count left
keeps_in (phase.End count) words byte = is_known_behind words

abbrev pub keeps : State → ℕ → Bool
keeps s byte = keeps_in s.phase s.words byte

-- What a byte's step answers, and the state after it. An error changes nothing; memory can be
-- refused only if something is to be kept.
abbrev pub StepIs : Outcome → Bool → State → Result (Option (List Word)) ReadError → State → Type 0
StepIs outcome kept old (Ok None) new = outcome ≡ Goes new
StepIs outcome kept old (Ok (Some words)) new = (outcome ≡ Gives words) × (new ≡ start)
StepIs outcome kept old (Err (error.Protocol e)) new = (outcome ≡ Fails e) × (new ≡ old)
StepIs outcome kept old (Err error.Memory) new = (kept ≡ true) × (new ≡ old)

-- the next byte is to be kept
abbrev pub KeepsNext : Reader → Type 0
KeepsNext r = (byte : ℕ) × (bytes : List ℕ) × (r.bytes ≡ byte ∷ bytes) × (keeps r.state byte ≡ true)

-- the machine has read this number of the bytes, and no command has ended
abbrev pub Skims : State → List ℕ → ℕ → State → Type 0
Skims old bytes count new = (count ≤ length bytes) × (reading old bytes ≡ reading new (drop count bytes))

-- A call takes the next command. If none is whole it reads all bytes. An error takes nothing, so
-- that the same call answers it again, or goes on once there is memory.
abbrev pub TakesNext : Reader → Result (Option (List Word)) ReadError → Reader → Type 0
TakesNext old (Ok (Some words)) new = (reading_of old ≡ with_commands (words ∷ []) (reading_of new)) × (new.state ≡ start)
TakesNext old (Ok None) new = (reading_of old ≡ reading_of new) × (new.bytes ≡ [])
TakesNext old (Err (error.Protocol e)) new = (reading_of old ≡ record { commands = []; ending = Broken e }) × (reading_of new ≡ reading_of old)
TakesNext old (Err error.Memory) new = KeepsNext new × (reading_of new ≡ reading_of old)
