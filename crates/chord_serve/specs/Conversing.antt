-- What a dialogue took in and wrote, in any protocol. Source: our own.
use Rattle.std.specs.Prelude.{◌≡◌, ◌≢◌, ◌⊎◌, ℕ, List, [], ◌++◌, Bool, true, false, Option, Result, Ok, Err}
use Rattle.std.specs.Io.KnownBytes.{Appends, Consumes}
use Rattle.chord_serve.specs.declared.served.Served.{Served}
use Rattle.chord_serve.specs.declared.served.Served.TheVariants as served

-- the steps of a dialogue, with all bytes that it took in and all that it wrote
pub data Talks {D : Type 0} (hears says : D → List ℕ → D → Type 0) (first : D) : List ℕ → List ℕ → D → Type 0 where
  -- no step yet
  Begins : Talks hears says first [] [] first
  -- a piece of the input came
  Hears : (input output piece : List ℕ) (before after : D)
      → Talks hears says first input output before → hears before piece after
      → Talks hears says first (input ++ piece) output after
  -- one request was answered
  Says : (input output bytes : List ℕ) (before after : D)
      → Talks hears says first input output before → says before bytes after
      → Talks hears says first input (output ++ bytes) after

module _ {D : Type 0} (hears says : D → List ℕ → D → Type 0) (stops : Served → D → List ℕ → D → Type 0) (waits : D → Type 0) where
  -- after some steps the next request ended the dialogue
  pub record IsStopped (end : Served) (first : D) (input output : List ℕ) (last : D) : Type 0 where
    pub before : D
    pub said : List ℕ
    pub bytes : List ℕ
    pub talked : Talks hears says first input said before
    pub stopped : stops end before bytes last
    pub output_is : output ≡ said ++ bytes

  -- all whole requests are answered
  pub record Waits (first : D) (input output : List ℕ) (last : D) : Type 0 where
    pub talked : Talks hears says first input output last
    pub quiet : waits last

  -- the last piece of the input, which has some bytes, was not taken in
  pub record LosesPiece (first : D) (input output : List ℕ) (last : D) : Type 0 where
    pub heard : List ℕ
    pub piece : List ℕ
    pub some : piece ≢ []
    pub input_is : input ≡ heard ++ piece
    pub talked : Talks hears says first heard output last

  -- only a prefix of the output was written
  pub record WritesPart (first : D) (input output : List ℕ) (last : D) : Type 0 where
    pub whole : List ℕ
    pub rest : List ℕ
    pub parts : whole ≡ output ++ rest
    pub done : Talks hears says first input whole last ⊎ ((end : Served) × IsStopped end first input whole last)

  -- what a dialogue took in and wrote when it ended in this way
  abbrev pub Conversed : (D → Bool) → Served → D → List ℕ → List ℕ → D → Type 0
  Conversed is_between served.Ended first input output last = Waits first input output last × (is_between last ≡ true)
  Conversed is_between served.Truncated first input output last = Waits first input output last × (is_between last ≡ false)
  Conversed is_between served.Read first input output last = Waits first input output last
  Conversed is_between served.TurnsSpent first input output last = Waits first input output last
  Conversed is_between served.Write first input output last = WritesPart first input output last
  Conversed is_between served.Memory first input output last = IsStopped served.Memory first input output last ⊎ LosesPiece first input output last
  Conversed is_between end first input output last = IsStopped end first input output last

  -- there was no buffer for the first read, so nothing was read; what had come before is answered
  pub record LacksBuffer (first : D) (input output : List ℕ) (last : D) : Type 0 where
    pub unread : input ≡ []
    pub answered : Waits first input output last

  -- what a dialogue took in and wrote when it ended in this way, be it before its first read
  abbrev pub Converses : (D → Bool) → Served → D → List ℕ → List ℕ → D → Type 0
  Converses is_between end first input output last =
      Conversed is_between end first input output last ⊎ ((end ≡ served.Memory) × LacksBuffer first input output last)

  -- ---- some requests

  -- some requests are answered, all whole ones if no more are left; or one ended the dialogue
  abbrev pub AnswersPart : Result Bool Served → (before : D) (output : List ℕ) (after : D) → Type 0
  AnswersPart (Ok more) before output after = Talks hears says before [] output after × (more ≡ false → waits after)
  AnswersPart (Err end) before output after = IsStopped end before [] output after

  -- the dialogue ended at a request, or its output could not be written
  abbrev pub EndsWritten : Served → (before : D) (input output : List ℕ) (after : D) → Type 0
  EndsWritten served.Write before input output after = WritesPart before input output after
  EndsWritten end before input output after = IsStopped end before input output after

  -- AnswersPart, and the output was written
  abbrev pub SendsPart : Result Bool Served → (before : D) (old new : Option (List ℕ)) (after : D) → Type 0
  SendsPart (Ok more) before old new after = (output : List ℕ) × Talks hears says before [] output after × (more ≡ false → waits after) × Appends old new output
  SendsPart (Err end) before old new after = (output : List ℕ) × EndsWritten end before [] output after × Appends old new output

  -- all whole requests are answered, or the dialogue ended
  abbrev pub AnswersAll : Result (Unit {0}) Served → (before : D) (old new : Option (List ℕ)) (after : D) → Type 0
  AnswersAll (Ok done) before old new after = (output : List ℕ) × Waits before [] output after × Appends old new output
  AnswersAll (Err end) before old new after = (output : List ℕ) × EndsWritten end before [] output after × Appends old new output

  -- the requests of a piece of the input are answered, or the dialogue ended
  abbrev pub AnswersPiece : (D → Bool) → Result (Unit {0}) Served → (before : D) (piece : List ℕ) (old new : Option (List ℕ)) (after : D) → Type 0
  AnswersPiece is_between (Ok done) before piece old new after = (output : List ℕ) × Waits before piece output after × Appends old new output
  AnswersPiece is_between (Err end) before piece old new after = (output : List ℕ) × Conversed is_between end before piece output after × Appends old new output

  -- one read, and the answers to it; or the dialogue ended
  abbrev pub TakesTurn : (D → Bool) → Result (Unit {0}) Served → (before : D) (left left' old new : Option (List ℕ)) (after : D) → Type 0
  TakesTurn is_between (Ok done) before left left' old new after =
      (input : List ℕ) × (output : List ℕ) × Consumes left left' input × Waits before input output after × Appends old new output
  TakesTurn is_between (Err end) before left left' old new after =
      (input : List ℕ) × (output : List ℕ) × Consumes left left' input × Conversed is_between end before input output after × Appends old new output
