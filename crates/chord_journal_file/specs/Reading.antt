-- What a reader of a file finds. Source: our own.
use Rattle.std.specs.Prelude.{◌≡◌, ◌⊎◌, ◌<◌, ℕ, Bool, true, false, List, [], ◌∷◌, ◌++◌, ◌==◌, decimal, Option, Some, None, Result, Ok, Err}
use Rattle.std.specs.List.{AllByRecursion}
use Rattle.chord_resp.specs.Spelling.{newline}
use Rattle.chord_resp.specs.Reading.{Reading, is_at_start, reading, with_commands}
use Rattle.chord_resp.specs.Table.{command_of}
use Rattle.chord_resp.specs.declared.reading.word.Word.{Word}
use Rattle.chord_resp.specs.declared.reading.word.Word.TheVariants.{Whole, Long as LongWord}
use Rattle.chord_resp.specs.declared.table.command.Command.{Command}
use Rattle.chord_resp.specs.declared.table.command.Command.TheVariants as command
use Rattle.chord_journal_file.specs.Loader.{Loader}
use Rattle.chord_journal_file.specs.declared.reader.Found.{Found as FoundOf}
use Rattle.chord_journal_file.specs.declared.reader.Found.TheVariants.{Change, Long}
use Rattle.chord_journal_file.specs.declared.reader.Stepped.{Stepped}
use Rattle.chord_journal_file.specs.declared.reader.Stepped.TheVariants.{Found, Nothing, More}

-- the first line of a command of this many words
abbrev pub head_line : ℕ → List ℕ
head_line words = (42 ∷ decimal words) ++ newline

-- what the bytes of a file spell from here on
abbrev pub reading_of : Loader → Reading
reading_of r = reading r.state r.bytes

-- ---- commands that change nothing

-- the first byte is `#`
abbrev pub has_mark : List ℕ → Bool
has_mark [] = false
has_mark (byte ∷ bytes) = byte == 35

abbrev pub begins_note : Word → Bool
begins_note (Whole bytes) = has_mark bytes
begins_note (LongWord count) = false

-- a command whose name begins with `#`
unfoldable pub is_note : List Word → Bool
is_note [] = false
is_note (word ∷ words) = begins_note word

-- a note, or a command that is accepted and changes nothing, as SELECT 0
abbrev pub ChangesNothing : List Word → Type 0
ChangesNothing words = (is_note words ≡ true) ⊎ (command_of words ≡ Ok command.Accept)

-- ---- what is found

-- a reader went over commands that change nothing
pub record Passes (old new : Loader) : Type 0 where
  pub skipped : List (List Word)
  pub nothing : AllByRecursion ChangesNothing skipped
  pub same : reading_of old ≡ with_commands skipped (reading_of new)

-- the same, and then it took the next command, which calls for this
pub record Takes (old new : Loader) (command : Command) : Type 0 where
  pub skipped : List (List Word)
  pub words : List Word
  pub nothing : AllByRecursion ChangesNothing skipped
  pub same : reading_of old ≡ with_commands (skipped ++ words ∷ []) (reading_of new)
  pub called : command_of words ≡ Ok command

-- the next command has more words than a client may write
pub record IsAtLong (r : Loader) : Type 0 where
  pub count : ℕ
  pub rest : List ℕ
  pub start : is_at_start r.state.phase ≡ true
  pub many : 1024 < count
  pub bytes : r.bytes ≡ head_line count ++ rest

-- it went over commands that change nothing, up to such a command
pub record MeetsLong (old : Loader) : Type 0 where
  pub at : Loader
  pub passes : Passes old at
  pub long : IsAtLong at

abbrev pub IsFound : Loader → FoundOf → Loader → Type 0
IsFound old (Change change) new = Takes old new change
IsFound old Long new = MeetsLong old

-- what a command changes
abbrev pub TakeIs : {E : Type 0} → List Word → Result Stepped E → Type 0
TakeIs words (Ok (Found (Change change))) = command_of words ≡ Ok change
TakeIs words (Ok (Found Long)) = ⊥
TakeIs words (Ok Nothing) = ChangesNothing words
TakeIs words (Ok More) = ⊥
TakeIs words (Err fault) = Unit {0}

-- what a step found
abbrev pub StepIs : {E : Type 0} → Loader → Result Stepped E → Loader → Type 0
StepIs old (Ok (Found found)) new = IsFound old found new
StepIs old (Ok Nothing) new = (new.is_long ≡ false) × Passes old new
StepIs old (Ok More) new = Passes old new
StepIs old (Err fault) new = Unit {0}

-- what a line did
abbrev pub LineIs : {E : Type 0} → Loader → Result Stepped E → Loader → Type 0
LineIs old (Ok (Found (Change change))) new = ⊥
LineIs old (Ok (Found Long)) new = MeetsLong old
LineIs old (Ok Nothing) new = (new.is_long ≡ false) × (reading_of old ≡ reading_of new)
LineIs old (Ok More) new = reading_of old ≡ reading_of new
LineIs old (Err fault) new = Unit {0}

-- what a search for the next command found
abbrev pub FoundIs : {E : Type 0} → Loader → Result (Option FoundOf) E → Loader → Type 0
FoundIs old (Ok (Some found)) new = IsFound old found new
FoundIs old (Ok None) new = Passes old new
FoundIs old (Err fault) new = Unit {0}

abbrev pub NextIs : {E : Type 0} → Loader → Result (Option Command) E → Loader → Type 0
NextIs old (Ok (Some change)) new = Takes old new change
NextIs old (Ok None) new = Passes old new
NextIs old (Err fault) new = Unit {0}

-- what a call of `next` found, where it was within no command of many words
abbrev pub Nexts : {E : Type 0} → Loader → Result (Option Command) E → Loader → Type 0
Nexts old result new = old.is_long ≡ false → NextIs old result new ⊎ MeetsLong old
