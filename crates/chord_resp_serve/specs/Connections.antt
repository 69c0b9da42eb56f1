-- What a connection answered for the bytes that it read. Source: our own.
use Rattle.std.specs.Prelude.{◌≡◌, ◌⊎◌, ℕ, Bool, true, false, List, [], ◌∷◌, ◌++◌, None, Result, Ok, Err}
use Rattle.std.specs.declared.alloc.AllocError.{AllocError}
use Rattle.chord_serve.specs.declared.asker.Asked.{Asked}
use Rattle.chord_serve.specs.declared.served.Served.{Served}
use Rattle.chord_serve.specs.declared.served.Served.TheVariants as served
use Rattle.chord_serve.specs.Question.{Question}
use Rattle.chord_resp.specs.declared.reading.protocol_error.ProtocolError.{ProtocolError}
use Rattle.chord_resp.specs.declared.reading.protocol_error.ProtocolError.TheVariants as protocol
use Rattle.chord_resp.specs.declared.reading.word.Word.{Word}
use Rattle.chord_resp.specs.declared.table.refusal.Refusal.TheVariants as refusal
use Rattle.chord_resp.specs.Machine.{State}
use Rattle.chord_resp.specs.Reading.{Reading, Open, Broken, reading, with_commands, is_at_start}
use Rattle.chord_resp.specs.Answers.{error}
use Rattle.chord_resp.specs.Refusals.{refusal_text}
use Rattle.chord_resp_serve.specs.declared.about.About.{About}
use Rattle.chord_resp_serve.specs.declared.flow.Flow.{Flow}
use Rattle.chord_resp_serve.specs.declared.flow.Flow.TheVariants as flow
use Rattle.chord_resp_serve.specs.declared.standing.Standing.{Standing}
use Rattle.chord_resp_serve.specs.News.{News, NewsIs, subject_of}
use Rattle.chord_resp_serve.specs.Words.{AnswersWords}

-- a connection before its first request
abbrev pub first_standing : Standing
first_standing = record { asked = 0; is_in_transaction = false; shuts_down = false }

-- nothing more was read: the next command has come so far
abbrev pub open_at : State → Reading
open_at s = record { commands = []; ending = Open s }

-- the next bytes are no command
abbrev pub broken_by : ProtocolError → Reading
broken_by e = record { commands = []; ending = Broken e }

-- the answer to such bytes; those of another protocol get none
abbrev pub protocol_answer : ProtocolError → List ℕ
protocol_answer protocol.Foreign = []
protocol_answer e = error (refusal_text (refusal.Protocol e))

-- how such bytes end the connection
abbrev pub end_at : ProtocolError → Served
end_at protocol.Foreign = served.Foreign
end_at e = served.Protocol

module _ {A : Type 0} (answers : A → Question → Asked → A → Type 0) (tells : News → Type 0) (number : ℕ) where
  -- what a command knows of its server: the number of the connection, and INFO and TIME also what the
  -- server tells
  pub record Knows (words : List Word) (about : About) : Type 0 where
    pub numbered : about.number ≡ number
    pub informed : NewsIs tells (subject_of words) about.info.now

  -- the words of a command are answered with these bytes, behind what was due before
  pub record AnswersOne (words : List Word) (flow : Result Flow AllocError) (n : Standing) (a : A) (bytes : List ℕ) (n' : Standing) (a' : A) : Type 0 where
    pub about : About
    pub knows : Knows words about
    pub due : List ℕ
    pub answered : AnswersWords answers about words n a flow due (due ++ bytes) n' a'

  -- the commands are answered one after another
  abbrev pub AnswersEach : List (List Word) → Standing → A → List ℕ → Standing → A → Type 0
  AnswersEach [] n a output n' a' = (output ≡ []) × (n' ≡ n) × (a' ≡ a)
  AnswersEach (words ∷ more) n a output n' a' = (bytes : List ℕ) × (rest : List ℕ) × (m : Standing) × (b : A)
      × AnswersOne words (Ok flow.GoesOn) n a bytes m b × AnswersEach more m b rest n' a' × (output ≡ bytes ++ rest)

  -- the next command may have asked its questions, and is not answered
  pub record AsksNext (next : Reading) (n : Standing) (a : A) (a' : A) : Type 0 where
    pub words : List Word
    pub rest : Reading
    pub next_is : next ≡ with_commands (words ∷ []) rest
    pub refused : AllocError
    pub standing : Standing
    pub asked : AnswersOne words (Err refused) n a [] standing a'

-- from this state of the reader on
module _ {A : Type 0} (answers : A → Question → Asked → A → Type 0) (tells : News → Type 0) (number : ℕ) (from : State) where
  -- the first commands of the bytes are answered, and this is still to be read
  pub record AnswersSome (n : Standing) (a : A) (input output : List ℕ) (next : Reading) (n' : Standing) (a' : A) : Type 0 where
    pub commands : List (List Word)
    pub spelled : reading from input ≡ with_commands commands next
    pub answered : AnswersEach answers tells number commands n a output n' a'

  -- all commands of the bytes are answered; the next one has come so far
  pub record AnswersWhole (n : Standing) (a : A) (input output : List ℕ) (state : State) (a' : A) : Type 0 where
    pub standing : Standing
    pub some : AnswersSome n a input output (open_at state) standing a'

  -- bytes that are no command are told, behind the answers to the commands before them
  pub record RefusesBytes (end : Served) (n : Standing) (a : A) (input output : List ℕ) (a' : A) : Type 0 where
    pub error : ProtocolError
    pub end_is : end ≡ end_at error
    pub said : List ℕ
    pub standing : Standing
    pub some : AnswersSome n a input said (broken_by error) standing a'
    pub output_is : output ≡ said ++ protocol_answer error

  -- the client asked for the end
  pub record Quits (n : Standing) (a : A) (input output : List ℕ) (a' : A) : Type 0 where
    pub words : List Word
    pub next : Reading
    pub said : List ℕ
    pub bytes : List ℕ
    pub between : Standing
    pub asker : A
    pub some : AnswersSome n a input said (with_commands (words ∷ []) next) between asker
    pub standing : Standing
    pub last : AnswersOne answers tells number words (Ok flow.Quits) between asker bytes standing a'
    pub output_is : output ≡ said ++ bytes

  -- memory ran out
  pub record RunsOut (n : Standing) (a : A) (input output : List ℕ) (a' : A) : Type 0 where
    pub next : Reading
    pub between : Standing
    pub asker : A
    pub some : AnswersSome n a input output next between asker
    pub last : (a' ≡ asker) ⊎ AsksNext answers tells number next between asker a'

  -- a command, or bytes that are none, ended the connection
  abbrev pub IsEnded : Served → Standing → A → List ℕ → List ℕ → A → Type 0
  IsEnded served.Protocol n a input output a' = RefusesBytes served.Protocol n a input output a'
  IsEnded served.Foreign n a input output a' = RefusesBytes served.Foreign n a input output a'
  IsEnded served.Quit n a input output a' = Quits n a input output a'
  IsEnded served.Memory n a input output a' = RunsOut n a input output a'
  IsEnded end n a input output a' = ⊥

  -- only a prefix of the output was written
  pub record WritesPart (n : Standing) (a : A) (input output : List ℕ) (a' : A) : Type 0 where
    pub whole : List ℕ
    pub rest : List ℕ
    pub parts : whole ≡ output ++ rest
    pub done : ((next : Reading) × (standing : Standing) × AnswersSome n a input whole next standing a')
        ⊎ ((end : Served) × IsEnded end n a input whole a')

  -- What a connection read and wrote from this state on, when it ended in this way: the answers to
  -- the commands that its input spells, each question asked once and in order. At Write it wrote a
  -- prefix of its output.
  abbrev pub IsAnswered : Served → Standing → A → List ℕ → List ℕ → A → Type 0
  IsAnswered served.Ended n a input output a' = (state : State) × (is_at_start state.phase ≡ true) × AnswersWhole n a input output state a'
  IsAnswered served.Truncated n a input output a' = (state : State) × (is_at_start state.phase ≡ false) × AnswersWhole n a input output state a'
  IsAnswered served.Read n a input output a' = (state : State) × AnswersWhole n a input output state a'
  IsAnswered served.TurnsSpent n a input output a' = (state : State) × AnswersWhole n a input output state a'
  IsAnswered served.Write n a input output a' = WritesPart n a input output a'
  IsAnswered end n a input output a' = IsEnded end n a input output a'

-- ---- one step

-- how a command, or bytes that are none, end a connection: with what is still to be read before and
-- after, and with these bytes
module _ {A : Type 0} (answers : A → Question → Asked → A → Type 0) (tells : News → Type 0) (number : ℕ) where
  -- the error is told
  pub record TellsError (end : Served) (next : Reading) (a : A) (bytes : List ℕ) (a' : A) : Type 0 where
    pub error : ProtocolError
    pub end_is : end ≡ end_at error
    pub next_is : next ≡ broken_by error
    pub asker : a' ≡ a
    pub bytes_are : bytes ≡ protocol_answer error

  -- QUIT is answered
  pub record AnswersQuit (next : Reading) (n : Standing) (a : A) (bytes : List ℕ) (a' : A) : Type 0 where
    pub words : List Word
    pub rest : Reading
    pub next_is : next ≡ with_commands (words ∷ []) rest
    pub standing : Standing
    pub answered : AnswersOne answers tells number words (Ok flow.Quits) n a bytes standing a'

  -- nothing is told, and the next command may have asked its questions
  pub record TellsNothing (next : Reading) (n : Standing) (a : A) (bytes : List ℕ) (a' : A) : Type 0 where
    pub bytes_are : bytes ≡ []
    pub last : (a' ≡ a) ⊎ AsksNext answers tells number next n a a'

  abbrev pub StopsSo : Served → Reading → Standing → A → List ℕ → A → Type 0
  StopsSo served.Protocol next n a bytes a' = TellsError served.Protocol next a bytes a'
  StopsSo served.Foreign next n a bytes a' = TellsError served.Foreign next a bytes a'
  StopsSo served.Quit next n a bytes a' = AnswersQuit next n a bytes a'
  StopsSo served.Memory next n a bytes a' = TellsNothing next n a bytes a'
  StopsSo end next n a bytes a' = ⊥

-- the error was added to what is due, or there was no memory for it
abbrev pub TellsProtocol : ProtocolError → Served → List ℕ → List ℕ → Type 0
TellsProtocol e served.Protocol old new = (served.Protocol ≡ end_at e) × (new ≡ old ++ protocol_answer e)
TellsProtocol e served.Foreign old new = (served.Foreign ≡ end_at e) × (new ≡ old)
TellsProtocol e served.Memory old new = (served.Protocol ≡ end_at e) × (new ≡ old)
TellsProtocol e end old new = ⊥
