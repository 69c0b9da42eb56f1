-- What a reader reads one after another.
use Rattle.std.proofs.Common.{◌≡◌, ℕ, ◌≤◌, ◌<◌, ◌&&◌, Bool, eqb, false, true, List, [], ◌∷◌, ◌++◌, take, drop, length, refl, sym, ap, subst, ◌∙◌, append_assoc}
use Rattle.std.specs.Prelude.{Result, Ok, Err}
use Rattle.std.specs.List.{AllByRecursion}
use Rattle.std.proofs.lemmas.Bool.{eqb-true}
use Rattle.std.proofs.lemmas.List.{nil_from_length, take-append-drop}
use Rattle.chord_resp.specs.declared.reading.word.Word.{Word}
use Rattle.chord_resp.specs.declared.table.command.Command.{Command}
use Rattle.chord_resp.specs.Machine.{State}
use Rattle.chord_resp.specs.Reading.{Reader, Reading, is_at_start, is_between, reading, with_commands, with_more}
use Rattle.chord_resp.specs.Table.{command_of}
use Rattle.chord_resp.proofs.ReadingLaws.{cut}
use Rattle.chord_journal_file.specs.Loader.{Loader}
use Rattle.chord_journal_file.specs.Reading.{ChangesNothing, IsFound, LineIs, MeetsLong, Passes, StepIs, TakeIs, Takes, head_line, reading_of}
use Rattle.chord_journal_file.specs.declared.reader.Found.{Found as FoundOf}
use Rattle.chord_journal_file.specs.declared.reader.Found.TheVariants.{Change, Long}
use Rattle.chord_journal_file.specs.declared.reader.Stepped.{Stepped}
use Rattle.chord_journal_file.specs.declared.reader.Stepped.TheVariants.{Found, Nothing, More}

-- a command that was taken is taken with more bytes behind it
pub taken_more : (s t : State) (a b more : List ℕ) (words : List Word) → reading s a ≡ with_commands (words ∷ []) (reading t b)
    → reading s (a ++ more) ≡ with_commands (words ∷ []) (reading t (b ++ more))
taken_more s t a b more words e =
    cut s a more ∙ ap (λ (r : Reading). with_more r more) e ∙ ap (with_commands (words ∷ [])) (sym (cut t b more))

-- bytes that were read are read with more bytes behind them
pub read_more : (s t : State) (a b more : List ℕ) → reading s a ≡ reading t b → reading s (a ++ more) ≡ reading t (b ++ more)
read_more s t a b more e = cut s a more ∙ ap (λ (r : Reading). with_more r more) e ∙ sym (cut t b more)

joined : (a b : List (List Word)) (r : Reading) → with_commands a (with_commands b r) ≡ with_commands (a ++ b) r
joined a b r = ap (λ (c : List (List Word)). record { commands = c; ending = r.ending }) (sym (append_assoc a b r.commands))

both : (a b : List (List Word)) → AllByRecursion ChangesNothing a → AllByRecursion ChangesNothing b → AllByRecursion ChangesNothing (a ++ b)
both [] b fa fb = fb
both (words ∷ a) b fa fb = (fa.0, both a b fa.1 fb)

pub passes_none : (a b : Loader) → reading_of a ≡ reading_of b → Passes a b
passes_none a b e = record { skipped = []; nothing = tt; same = e }

pub passes_one : (a b : Loader) (words : List Word) → ChangesNothing words → reading_of a ≡ with_commands (words ∷ []) (reading_of b) → Passes a b
passes_one a b words is e = record { skipped = words ∷ []; nothing = (is, tt); same = e }

pub passes_on : (a b c : Loader) → Passes a b → Passes b c → Passes a c
passes_on a b c p q = record {
  skipped = p.skipped ++ q.skipped;
  nothing = both p.skipped q.skipped p.nothing q.nothing;
  same = p.same ∙ ap (with_commands p.skipped) q.same ∙ joined p.skipped q.skipped (reading_of c);
}

pub takes_one : (a b : Loader) (words : List Word) (change : Command) → command_of words ≡ Ok change → reading_of a ≡ with_commands (words ∷ []) (reading_of b) → Takes a b change
takes_one a b words change is e = record { skipped = []; words = words; nothing = tt; same = e; called = is }

pub takes_on : (a b c : Loader) (change : Command) → Passes a b → Takes b c change → Takes a c change
takes_on a b c change p q = record {
  skipped = p.skipped ++ q.skipped;
  words = q.words;
  nothing = both p.skipped q.skipped p.nothing q.nothing;
  same = p.same ∙ ap (with_commands p.skipped) q.same ∙ joined p.skipped (q.skipped ++ q.words ∷ []) (reading_of c)
      ∙ ap (λ (t : List (List Word)). with_commands t (reading_of c)) (sym (append_assoc p.skipped q.skipped (q.words ∷ [])));
  called = q.called;
}

pub meets_on : (a b : Loader) → Passes a b → MeetsLong b → MeetsLong a
meets_on a b p q = record { at = q.at; passes = passes_on a b q.at p q.passes; long = q.long }

-- a line that is given to the reader of commands stands before what is left
pub moved : (a window : List ℕ) (n : ℕ) → (a ++ take n window) ++ drop n window ≡ a ++ window
moved a window n = append_assoc a (take n window) (drop n window) ∙ ap (λ (t : List ℕ). a ++ t) (take-append-drop n window)

both_true : (a b : Bool) → (a && b) ≡ true → (a ≡ true) × (b ≡ true)
both_true true b e = (refl, e)
both_true false b e = absurd cc

-- no command has begun, and the first line of what is left is the head of a long one
here : (reader : Reader) (window : List ℕ) (count n : ℕ) (is_long : Bool) → is_between reader ≡ true → 1024 < count → take n window ≡ head_line count
    → MeetsLong (record { state = reader.state; bytes = reader.bytes ++ window; is_long = is_long })
here reader window count n is_long between many same =
    let r : Loader = record { state = reader.state; bytes = reader.bytes ++ window; is_long = is_long } in
    let both = both_true (eqb (length reader.bytes) 0) (is_at_start reader.state.phase) between in
    let none : reader.bytes ≡ [] = nil_from_length reader.bytes (eqb-true (length reader.bytes) 0 both.0) in
    record {
      at = r;
      passes = passes_none r r refl;
      long = record {
        count = count;
        rest = drop n window;
        start = both.1;
        many = many;
        bytes = ap (λ (t : List ℕ). t ++ window) none ∙ sym (take-append-drop n window) ∙ ap (λ (t : List ℕ). t ++ drop n window) same;
      };
    }

pub meets_here : (r : Loader) (reader : Reader) (window shown : List ℕ) (count n most : ℕ) (is_long : Bool)
    → record { state = reader.state; bytes = reader.bytes ++ window; is_long = is_long } ≡ r → is_between reader ≡ true → shown ≡ window
    → (1024 < count) × (count ≤ most) × (take n shown ≡ head_line count) → MeetsLong r
meets_here r reader window shown count n most is_long view between is facts =
    subst MeetsLong view (here reader window count n is_long between facts.0 (ap (take n) (sym is) ∙ facts.2))

pub found_on : (a b c : Loader) (found : FoundOf) → Passes a b → IsFound b found c → IsFound a found c
found_on a b c (Change change) p q = takes_on a b c change p q
found_on a b c Long p q = meets_on a b p q

-- ---- a step

step_on : {E : Type 0} (a b c : Loader) (result : Result Stepped E) → reading_of a ≡ reading_of b → LineIs b result c → StepIs a result c
step_on a b c (Ok (Found (Change change))) e line = absurd line
step_on a b c (Ok (Found Long)) e line = meets_on a b (passes_none a b e) line
step_on a b c (Ok Nothing) e line = (line.0, passes_none a c (e ∙ line.1))
step_on a b c (Ok More) e line = passes_none a c (e ∙ line)
step_on a b c (Err fault) e line = tt

-- a step that found no command goes on with a line
pub step_none : {E : Type 0} (a c : Loader) (old new : Reader) (window : List ℕ) (is_long : Bool) (result : Result Stepped E)
    → record { state = old.state; bytes = old.bytes ++ window; is_long = is_long } ≡ a
    → reading old.state old.bytes ≡ reading new.state new.bytes
    → LineIs (record { state = new.state; bytes = new.bytes ++ window; is_long = is_long }) result c → StepIs a result c
step_none a c old new window is_long result view same line =
    let before : Loader = record { state = old.state; bytes = old.bytes ++ window; is_long = is_long } in
    let behind : Loader = record { state = new.state; bytes = new.bytes ++ window; is_long = is_long } in
    let P : Loader → Type 0 = λ r. StepIs r result c in
    subst P view (step_on before behind c result (read_more old.state new.state old.bytes new.bytes window same) line)

took : (E : Type 0) (a b : Loader) (words : List Word) (taken : Stepped) → b.is_long ≡ false → reading_of a ≡ with_commands (words ∷ []) (reading_of b)
    → TakeIs {E = E} words (Ok taken) → StepIs {E = E} a (Ok taken) b
took E a b words (Found (Change change)) long same is = takes_one a b words change is same
took E a b words (Found Long) long same is = absurd is
took E a b words Nothing long same is = (long, passes_one a b words is same)
took E a b words More long same is = absurd is

-- a step that found a command
pub step_some : (E : Type 0) (a : Loader) (old new : Reader) (window : List ℕ) (is_long : Bool) (words : List Word) (taken : Stepped)
    → record { state = old.state; bytes = old.bytes ++ window; is_long = is_long } ≡ a → a.is_long ≡ false
    → reading old.state old.bytes ≡ with_commands (words ∷ []) (reading new.state new.bytes) → TakeIs {E = E} words (Ok taken)
    → StepIs {E = E} a (Ok taken) (record { state = new.state; bytes = new.bytes ++ window; is_long = is_long })
step_some E a old new window is_long words taken view short same is =
    let before : Loader = record { state = old.state; bytes = old.bytes ++ window; is_long = is_long } in
    let behind : Loader = record { state = new.state; bytes = new.bytes ++ window; is_long = is_long } in
    let long : is_long ≡ false = ap (λ (r : Loader). r.is_long) view ∙ short in
    let P : Loader → Type 0 = λ r. StepIs {E = E} r (Ok taken) behind in
    subst P view (took E before behind words taken long (taken_more old.state new.state old.bytes new.bytes window words same) is)
