-- One step of a connection.
use Rattle.std.proofs.Common.{◌≡◌, ℕ, List, [], ◌∷◌, ◌++◌, Result, Ok, Err, sym, ap, subst, ◌∙◌}
use Rattle.std.proofs.lemmas.List.{append-nil}
use Rattle.std.specs.declared.alloc.AllocError.{AllocError}
use Rattle.chord_serve.specs.declared.asker.Asked.{Asked}
use Rattle.chord_serve.specs.declared.served.Served.{Served}
use Rattle.chord_serve.specs.Question.{Question}
use Rattle.chord_resp.specs.declared.reading.word.Word.{Word}
use Rattle.chord_resp.specs.Machine.{State}
use Rattle.chord_resp.specs.Reading.{Reading, Reader, Ending, Open, Broken, reading, reading_of, with_commands, with_more}
use Rattle.chord_resp.proofs.ReadingLaws.{cut, nothing_read}
use Rattle.chord_resp_serve.specs.News.{News}
use Rattle.chord_resp_serve.specs.declared.about.About.{About}
use Rattle.chord_resp_serve.specs.declared.flow.Flow.{Flow}
use Rattle.chord_resp_serve.specs.declared.flow.Flow.TheVariants as flow
use Rattle.chord_resp_serve.specs.declared.standing.Standing.{Standing}
use Rattle.chord_resp_serve.specs.Words.{AnswersWords}
use Rattle.chord_resp_serve.specs.Connections.{Knows, AnswersOne, StopsSo}
use Rattle.chord_resp_serve.proofs.Outputs.{words_extend, words_same}

-- a piece is read behind what was fed before
pub fed : (old new : Reader) (piece : List ℕ) → new.state ≡ old.state → new.bytes ≡ old.bytes ++ piece → reading_of new ≡ with_more (reading_of old) piece
fed old new piece state bytes = ap (λ (s : State). reading s new.bytes) state ∙ ap (reading old.state) bytes ∙ cut old.state old.bytes piece

ending_nothing : (commands : List (List Word)) (e : Ending) → with_more (record { commands = commands; ending = e }) [] ≡ record { commands = commands; ending = e }
ending_nothing commands (Open s) = ap (with_commands commands) (nothing_read s) ∙ ap (λ (cs : List (List Word)). record { commands = cs; ending = Open s }) (append-nil commands)
ending_nothing commands (Broken e) = ap (λ (cs : List (List Word)). record { commands = cs; ending = Broken e }) (append-nil commands)

-- no bytes change no reading
pub more_nothing : (r : Reading) → with_more r [] ≡ r
more_nothing r = ending_nothing r.commands r.ending

module _ {A : Type 0} (answers : A → Question → Asked → A → Type 0) (tells : News → Type 0) (number : ℕ) (words : List Word) (about : About) (knows : Knows answers tells number words about) where
  -- an answer behind what is due
  pub answered : (f : Result Flow AllocError) (n n' : Standing) (a a' : A) (old new : List ℕ) → AnswersWords answers about words n a f old new n' a'
      → (bytes : List ℕ) × AnswersOne answers tells number words f n a bytes n' a' × (new ≡ old ++ bytes)
  answered f n n' a a' old new p =
      let e = words_extend answers about words n n' a a' f old new p in
      (e.0, record { about = about; knows = knows; due = old; answered = subst (λ (x : List ℕ). AnswersWords answers about words n a f old x n' a') e.1 p }, e.1)

  -- there was no memory for it
  pub lacks : (refused : AllocError) (n n' : Standing) (a a' : A) (old new : List ℕ) → AnswersWords answers about words n a (Err refused) old new n' a'
      → (new ≡ old) × AnswersOne answers tells number words (Err refused) n a [] n' a'
  lacks refused n n' a a' old new p =
      let same = words_same answers about words n n' a a' refused old new p in
      let behind : new ≡ old ++ [] = same ∙ sym (append-nil old) in
      (same, record { about = about; knows = knows; due = old; answered = subst (λ (x : List ℕ). AnswersWords answers about words n a (Err refused) old x n' a') behind p })

module _ {A D H : Type 0} (answers : A → Question → Asked → A → Type 0) (tells : H → News → Type 0) (number : H → ℕ)
    (host : D → H) (reader : D → Reader) (standing : D → Standing) (asker : D → A) where
  abbrev pub Fed : D → List ℕ → D → Type 0
  Fed c piece d = (reading_of (reader d) ≡ with_more (reading_of (reader c)) piece) × (standing d ≡ standing c) × (asker d ≡ asker c) × (host d ≡ host c)

  abbrev pub One : D → List ℕ → D → Type 0
  One c bytes d = (words : List Word) × (reading_of (reader c) ≡ with_commands (words ∷ []) (reading_of (reader d)))
      × AnswersOne answers (tells (host c)) (number (host c)) words (Ok flow.GoesOn) (standing c) (asker c) bytes (standing d) (asker d) × (host d ≡ host c)

  abbrev pub Stop : Served → D → List ℕ → D → Type 0
  Stop end c bytes d = StopsSo answers (tells (host c)) (number (host c)) end (reading_of (reader c)) (standing c) (asker c) bytes (asker d)

  abbrev pub Quiet : D → Type 0
  Quiet c = (reader c).bytes ≡ []
