-- A connection from its first byte to its end.
use Rattle.std.proofs.Common.{◌≡◌, ◌≢◌, ◌⊎◌, ℕ, List, [], ◌∷◌, ◌++◌, length, Bool, true, false, ◌==◌, ◌&&◌, Ok, refl, sym, ap, subst, ◌∙◌, append_assoc, inl, inr}
use Rattle.std.proofs.lemmas.List.{append-nil}
use Rattle.chord_serve.specs.declared.asker.Asked.{Asked}
use Rattle.chord_serve.specs.declared.served.Served.{Served}
use Rattle.chord_serve.specs.declared.served.Served.TheVariants as served
use Rattle.chord_serve.specs.Ends.{IsStop}
use Rattle.chord_serve.specs.Question.{Question}
use Rattle.chord_serve.specs.Conversing.{Talks, IsStopped, Waits, LosesPiece, LacksBuffer, Conversed, Converses}
use Rattle.chord_serve.specs.Conversing.Talks.{Begins, Hears, Says}
use Rattle.chord_resp.specs.declared.reading.word.Word.{Word}
use Rattle.chord_resp.specs.Machine.{State}
use Rattle.chord_resp.specs.Reading.{Reading, Reader, Ending, Open, Broken, reading, reading_of, with_commands, with_more, goes_on, is_at_start, is_between}
use Rattle.chord_resp.proofs.ReadingLaws.{cut, nothing_read}
use Rattle.chord_resp_serve.specs.News.{News}
use Rattle.chord_resp_serve.specs.declared.flow.Flow.TheVariants as flow
use Rattle.chord_resp_serve.specs.declared.standing.Standing.{Standing}
use Rattle.chord_resp_serve.specs.Connections.{open_at, broken_by, AnswersOne, AnswersEach, AnswersSome, AnswersWhole, AsksNext, RefusesBytes, RunsOut, TellsError, IsEnded, WritesPart, IsAnswered}
use Rattle.chord_resp_serve.proofs.Steps.{Fed, One, Stop, Quiet, more_nothing}

-- commands before commands
pub commands_then : (cs ds : List (List Word)) (r : Reading) → with_commands cs (with_commands ds r) ≡ with_commands (cs ++ ds) r
commands_then cs ds r = ap (λ (xs : List (List Word)). record { commands = xs; ending = r.ending }) (sym (append_assoc cs ds r.commands))

pub more_behind : (cs : List (List Word)) (r : Reading) (more : List ℕ) → with_more (with_commands cs r) more ≡ with_commands cs (with_more r more)
more_behind cs r more = sym (commands_then cs r.commands (goes_on r.ending more))

ending_more : (e : Ending) (first second : List ℕ) → goes_on e (first ++ second) ≡ with_more (goes_on e first) second
ending_more (Open s) first second = cut s first second
ending_more (Broken e) first second = refl

-- the same reading with one piece after another
more_then : (r : Reading) (first second : List ℕ) → with_more r (first ++ second) ≡ with_more (with_more r first) second
more_then r first second = ap (with_commands r.commands) (ending_more r.ending first second) ∙ sym (more_behind r.commands (goes_on r.ending first) second)

module _ {A : Type 0} (answers : A → Question → Asked → A → Type 0) where
  pub each_then : (t : News → Type 0) (i : ℕ) (cs ds : List (List Word)) (n m k : Standing) (a b e : A) (x y : List ℕ)
      → AnswersEach answers t i cs n a x m b → AnswersEach answers t i ds m b y k e → AnswersEach answers t i (cs ++ ds) n a (x ++ y) k e
  each_then t i [] ds n m k a b e x y p q =
      subst (λ (w : List ℕ). AnswersEach answers t i ds n a (w ++ y) k e) (sym p.0) (subst (λ (u : Standing). AnswersEach answers t i ds u a y k e) p.1 (subst (λ (c : A). AnswersEach answers t i ds m c y k e) p.2 q))
  each_then t i (words ∷ cs) ds n m k a b e x y p q =
      (p.0, p.1 ++ y, p.2, p.3, p.4, each_then t i cs ds p.2 m k p.3 b e p.1 y p.5 q, ap (λ (w : List ℕ). w ++ y) p.6 ∙ append_assoc p.0 p.1 y)

module _ {A D H : Type 0} (answers : A → Question → Asked → A → Type 0) (tells : H → News → Type 0) (number : H → ℕ)
    (host : D → H) (reader : D → Reader) (standing : D → Standing) (asker : D → A) where
  -- the commands that were answered, and what is still to be read
  record Goes (c : D) (i o : List ℕ) (d : D) : Type 0 where
    commands : List (List Word)
    spelled : with_more (reading_of (reader c)) i ≡ with_commands commands (reading_of (reader d))
    answered : AnswersEach answers (tells (host c)) (number (host c)) commands (standing c) (asker c) o (standing d) (asker d)
    same : host d ≡ host c

  abbrev Step : D → List ℕ → D → Type 0
  Step = One answers tells number host reader standing asker

  abbrev Hear : D → List ℕ → D → Type 0
  Hear = Fed answers tells number host reader standing asker

  abbrev End : Served → D → List ℕ → D → Type 0
  End = Stop answers tells number host reader standing asker

  abbrev Rest : D → Type 0
  Rest = Quiet answers tells number host reader standing asker

  hears_more : (c m d : D) (i o piece : List ℕ) → Goes c i o m → Hear m piece d → Goes c (i ++ piece) o d
  hears_more c m d i o piece p hear = record {
    commands = p.commands;
    spelled = more_then (reading_of (reader c)) i piece ∙ ap (λ (r : Reading). with_more r piece) p.spelled ∙ more_behind p.commands (reading_of (reader m)) piece ∙ ap (with_commands p.commands) (sym hear.0);
    answered = subst (λ (n : Standing). AnswersEach answers (tells (host c)) (number (host c)) p.commands (standing c) (asker c) o n (asker d)) (sym hear.1)
        (subst (λ (a : A). AnswersEach answers (tells (host c)) (number (host c)) p.commands (standing c) (asker c) o (standing m) a) (sym hear.2) p.answered);
    same = hear.3 ∙ p.same;
  }

  says_more : (c m d : D) (i o bytes : List ℕ) → Goes c i o m → Step m bytes d → Goes c i (o ++ bytes) d
  says_more c m d i o bytes p say =
      let one : AnswersOne answers (tells (host c)) (number (host c)) say.0 (Ok flow.GoesOn) (standing m) (asker m) bytes (standing d) (asker d) =
      subst (λ (h : H). AnswersOne answers (tells h) (number h) say.0 (Ok flow.GoesOn) (standing m) (asker m) bytes (standing d) (asker d)) p.same say.2 in
      record {
        commands = p.commands ++ say.0 ∷ [];
        spelled = p.spelled ∙ ap (with_commands p.commands) say.1 ∙ commands_then p.commands (say.0 ∷ []) (reading_of (reader d));
        answered = each_then answers (tells (host c)) (number (host c)) p.commands (say.0 ∷ []) (standing c) (standing m) (standing d) (asker c) (asker m) (asker d) o bytes p.answered
            (bytes, [], standing d, asker d, one, (refl, refl, refl), sym (append-nil bytes));
        same = say.3 ∙ p.same;
      }

  goes : (c d : D) (i o : List ℕ) → Talks Hear Step c i o d → Goes c i o d
  goes c d i o Begins = record { commands = []; spelled = more_nothing (reading_of (reader c)); answered = (refl, refl, refl); same = refl }
  goes c d i o (Hears input output piece m after p hear) = hears_more c m d input output piece (goes c m input output p) hear
  goes c d i o (Says input output bytes m after p say) = says_more c m d input output bytes (goes c m input output p) say

  -- ---- from a state of the reader on

  module _ (s : State) (c : D) (fresh : reader c ≡ record { state = s; bytes = [] }) where
    abbrev Told : News → Type 0
    Told = tells (host c)

    some : (d : D) (i o : List ℕ) → Talks Hear Step c i o d → AnswersSome answers Told (number (host c)) s (standing c) (asker c) i o (reading_of (reader d)) (standing d) (asker d)
    some d i o p =
        let g = goes c d i o p in
        let first : with_more (reading_of (reader c)) i ≡ reading s i = ap (λ (r : Reader). with_more (reading_of r) i) fresh ∙ ap (λ (r : Reading). with_more r i) (nothing_read s) in
        record { commands = g.commands; spelled = sym first ∙ g.spelled; answered = g.answered }

    kept : (d : D) (i o : List ℕ) → Talks Hear Step c i o d → host d ≡ host c
    kept d i o p = (goes c d i o p).same

    whole : (d : D) (i o : List ℕ) → Waits Hear Step End Rest c i o d → AnswersWhole answers Told (number (host c)) s (standing c) (asker c) i o (reader d).state (asker d)
    whole d i o p =
        let e : reading_of (reader d) ≡ open_at (reader d).state = ap (reading (reader d).state) p.quiet ∙ nothing_read (reader d).state in
        record { standing = standing d; some = subst (λ (r : Reading). AnswersSome answers Told (number (host c)) s (standing c) (asker c) i o r (standing d) (asker d)) e (some d i o p.talked) }

    refused : (end : Served) (m d : D) (i o said bytes : List ℕ) → Talks Hear Step c i said m → TellsError answers (tells (host m)) (number (host m)) end (reading_of (reader m)) (asker m) bytes (asker d) → o ≡ said ++ bytes
        → RefusesBytes answers Told (number (host c)) s end (standing c) (asker c) i o (asker d)
    refused end m d i o said bytes talked stop output_is = record {
      error = stop.error;
      end_is = stop.end_is;
      said = said;
      standing = standing m;
      some = subst (λ (a : A). AnswersSome answers Told (number (host c)) s (standing c) (asker c) i said (broken_by stop.error) (standing m) a) (sym stop.asker)
          (subst (λ (r : Reading). AnswersSome answers Told (number (host c)) s (standing c) (asker c) i said r (standing m) (asker m)) stop.next_is (some m i said talked));
      output_is = output_is ∙ ap (λ (x : List ℕ). said ++ x) stop.bytes_are;
    }

    stopped : (end : Served) (d : D) (i o : List ℕ) → IsStopped Hear Step End Rest end c i o d → IsEnded answers Told (number (host c)) s end (standing c) (asker c) i o (asker d)
    stopped served.Protocol d i o p = refused served.Protocol p.before d i o p.said p.bytes p.talked p.stopped p.output_is
    stopped served.Foreign d i o p = refused served.Foreign p.before d i o p.said p.bytes p.talked p.stopped p.output_is
    stopped served.Quit d i o p =
        let m = p.before in
        let stop = p.stopped in
        record {
          words = stop.words;
          next = stop.rest;
          said = p.said;
          bytes = p.bytes;
          between = standing m;
          asker = asker m;
          some = subst (λ (r : Reading). AnswersSome answers Told (number (host c)) s (standing c) (asker c) i p.said r (standing m) (asker m)) stop.next_is (some m i p.said p.talked);
          standing = stop.standing;
          last = subst (λ (h : H). AnswersOne answers (tells h) (number h) stop.words (Ok flow.Quits) (standing m) (asker m) p.bytes stop.standing (asker d)) (kept m i p.said p.talked) stop.answered;
          output_is = p.output_is;
        }
    stopped served.Memory d i o p =
        let m = p.before in
        let stop = p.stopped in
        record {
          next = reading_of (reader m);
          between = standing m;
          asker = asker m;
          some = subst (λ (x : List ℕ). AnswersSome answers Told (number (host c)) s (standing c) (asker c) i x (reading_of (reader m)) (standing m) (asker m))
              (sym (p.output_is ∙ ap (λ (x : List ℕ). p.said ++ x) stop.bytes_are ∙ append-nil p.said)) (some m i p.said p.talked);
          last = subst (λ (h : H). (asker d ≡ asker m) ⊎ AsksNext answers (tells h) (number h) (reading_of (reader m)) (standing m) (asker m) (asker d)) (kept m i p.said p.talked) stop.last;
        }
    stopped served.Write d i o p = p.stopped
    stopped (served.Malformed code) d i o p = p.stopped
    stopped served.Ended d i o p = p.stopped
    stopped served.Truncated d i o p = p.stopped
    stopped served.Read d i o p = p.stopped
    stopped served.TurnsSpent d i o p = p.stopped

    written : (d : D) (i o x rest : List ℕ) → x ≡ o ++ rest → Talks Hear Step c i x d ⊎ ((end : Served) × IsStopped Hear Step End Rest end c i x d)
        → WritesPart answers Told (number (host c)) s (standing c) (asker c) i o (asker d)
    written d i o x rest e (inl talked) = record { whole = x; rest = rest; parts = e; done = inl (reading_of (reader d), standing d, some d i x talked) }
    written d i o x rest e (inr stop) = record { whole = x; rest = rest; parts = e; done = inr (stop.0, stopped stop.0 d i x stop.1) }

    -- bytes that were not taken in are still to be read
    lost : (d : D) (i o : List ℕ) → LosesPiece Hear Step End Rest c i o d → RunsOut answers Told (number (host c)) s (standing c) (asker c) i o (asker d)
    lost d i o p =
        let so = some d p.heard o p.talked in
        let e : reading s i ≡ with_commands so.commands (with_more (reading_of (reader d)) p.piece) =
        ap (reading s) p.input_is ∙ cut s p.heard p.piece ∙ ap (λ (r : Reading). with_more r p.piece) so.spelled ∙ more_behind so.commands (reading_of (reader d)) p.piece in
        record { next = with_more (reading_of (reader d)) p.piece; between = standing d; asker = asker d; some = record { commands = so.commands; spelled = e; answered = so.answered }; last = inl refl }

    at_start : (d : D) (b : Bool) → Rest d → is_between (reader d) ≡ b → is_at_start (reader d).state.phase ≡ b
    at_start d b quiet e = ap (λ (xs : List ℕ). (length xs == 0) && is_at_start (reader d).state.phase) (sym quiet) ∙ e

    pub conversed : (end : Served) (d : D) (i o : List ℕ) → Conversed Hear Step End Rest (λ x. is_between (reader x)) end c i o d → IsAnswered answers Told (number (host c)) s end (standing c) (asker c) i o (asker d)
    conversed served.Ended d i o p = ((reader d).state, at_start d true p.0.quiet p.1, whole d i o p.0)
    conversed served.Truncated d i o p = ((reader d).state, at_start d false p.0.quiet p.1, whole d i o p.0)
    conversed served.Read d i o p = ((reader d).state, whole d i o p)
    conversed served.TurnsSpent d i o p = ((reader d).state, whole d i o p)
    conversed served.Write d i o p = written d i o p.whole p.rest p.parts p.done
    conversed served.Memory d i o (inl stop) = stopped served.Memory d i o stop
    conversed served.Memory d i o (inr gone) = lost d i o gone
    conversed served.Protocol d i o p = stopped served.Protocol d i o p
    conversed served.Foreign d i o p = stopped served.Foreign d i o p
    conversed served.Quit d i o p = stopped served.Quit d i o p
    conversed (served.Malformed code) d i o p = stopped (served.Malformed code) d i o p

    -- nothing was read
    unread : (d : D) (i o : List ℕ) → LacksBuffer Hear Step End Rest c i o d → RunsOut answers Told (number (host c)) s (standing c) (asker c) i o (asker d)
    unread d i o p = record { next = reading_of (reader d); between = standing d; asker = asker d; some = some d i o p.answered.talked; last = inl refl }

    pub converses : (end : Served) (d : D) (i o : List ℕ) → Converses Hear Step End Rest (λ x. is_between (reader x)) end c i o d → IsAnswered answers Told (number (host c)) s end (standing c) (asker c) i o (asker d)
    converses end d i o (inl p) = conversed end d i o p
    converses end d i o (inr (e, p)) = subst (λ (x : Served). IsAnswered answers Told (number (host c)) s x (standing c) (asker c) i o (asker d)) (sym e) (unread d i o p)
