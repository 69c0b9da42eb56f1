-- What a server tells of itself. Source: the published pages of INFO and TIME.
use Rattle.std.specs.Prelude.{◌≡◌, ℕ, List, [], ◌∷◌, ◌++◌, if◌then◌else◌, codes, decimal}
use Rattle.chord_resp.specs.declared.reading.word.Word.{Word}
use Rattle.chord_resp.specs.declared.table.verb.Verb.TheVariants as verb
use Rattle.chord_resp.specs.Spelling.{bulk}
use Rattle.chord_resp.specs.Table.{is_text, verb_text}
use Rattle.chord_resp_serve.specs.declared.moment.Moment.{Moment}
use Rattle.chord_resp_serve.specs.declared.subject.Subject.{Subject}
use Rattle.chord_resp_serve.specs.declared.subject.Subject.TheVariants as subject

-- the text of INFO, or the moment by the server's clock
pub data News : Type 0 where
  Info : (text : List ℕ) → News
  Time : (moment : Moment) → News

-- what the words of a command ask the server for
abbrev pub subject_of : List Word → Subject
subject_of [] = subject.Nothing
subject_of (name ∷ words) = if is_text name (verb_text verb.Info) then subject.Info
    else (if is_text name (verb_text verb.Time) then subject.Time else subject.Nothing)

-- the answer to TIME: seconds and microseconds, as decimal digits
abbrev pub moment_text : Moment → List ℕ
moment_text m = codes "*2\r\n" ++ (bulk (decimal m.seconds) ++ bulk (decimal m.micros))

-- the text is what the server tells of this
abbrev pub NewsIs : (News → Type 0) → Subject → List ℕ → Type 0
NewsIs tells subject.Nothing text = Unit {0}
NewsIs tells subject.Info text = tells (Info text)
NewsIs tells subject.Time text = (moment : Moment) × (text ≡ moment_text moment) × tells (Time moment)
