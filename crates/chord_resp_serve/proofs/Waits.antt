-- What a link's protocol of commands does with a command.
use Rattle.std.proofs.Common.{◌≡◌, ◌≢◌, ℕ, true, List, [], ◌∷◌, ◌++◌, Option, Some, None, Result, Ok, Err, refl, sym, ap, subst, ◌∙◌, inl, inr}
use Rattle.std.proofs.lemmas.List.{append-nil}
use Rattle.std.specs.declared.alloc.AllocError.{AllocError}
use Rattle.chord_map.specs.declared.request.Request.{Request}
use Rattle.chord_serve.specs.declared.asker.Asked.{Asked}
use Rattle.chord_serve.specs.declared.asker.Asked.TheVariants as asked
use Rattle.chord_serve.specs.declared.served.Served.TheVariants as served
use Rattle.chord_serve.specs.Question.{Question, Ask}
use Rattle.chord_serve.specs.Stepping.{IsBefore}
use Rattle.chord_resp.specs.declared.reading.word.Word.{Word}
use Rattle.chord_resp.specs.declared.table.command.Command.{Command}
use Rattle.chord_resp.specs.declared.table.refusal.Refusal.{Refusal}
use Rattle.chord_resp.specs.Answers.{Joins, error}
use Rattle.chord_resp.specs.Reading.{reading_of, with_commands}
use Rattle.chord_resp.specs.Refusals.{refusal_text}
use Rattle.chord_resp.specs.Table.{command_of}
use Rattle.chord_resp_serve.specs.News.{News, NewsIs, subject_of}
use Rattle.chord_resp_serve.specs.declared.about.About.{About}
use Rattle.chord_resp_serve.specs.declared.command_protocol.CommandProtocol.{CommandProtocol}
use Rattle.chord_resp_serve.specs.declared.flow.Flow.{Flow}
use Rattle.chord_resp_serve.specs.declared.flow.Flow.TheVariants as flow
use Rattle.chord_resp_serve.specs.declared.standing.Standing.{Standing}
use Rattle.chord_resp_serve.specs.declared.tally.Tally.{Tally}
use Rattle.chord_resp_serve.specs.declared.tally.Stopped.{Stopped}
use Rattle.chord_resp_serve.specs.declared.waiting_command.WaitingCommand.{WaitingCommand}
use Rattle.chord_resp_serve.specs.Asking.{AsksFrom, empty_tally, requests_of}
use Rattle.chord_resp_serve.specs.Answering.{AnswersCommand, Tells, answer_of}
use Rattle.chord_resp_serve.specs.Connections.{Knows}
use Rattle.chord_resp_serve.specs.Transactions.{allowed, standing_behind}
use Rattle.chord_resp_serve.specs.Waiting.{CommandAsked, CommandBegun, CommandIdles, CommandSteps, TakesCommand, TakesWords, step_of}
use Rattle.chord_resp_serve.specs.Words.{AnswersTable, AnswersWords, flow_of, with_flow}
use Rattle.chord_resp_serve.proofs.Steps.{answered, lacks}

module _ {A I : Type 0} (answers : A → Question → Asked → A → Type 0) (tells : I → News → Type 0) where
  abbrev P : Type 0
  P = CommandProtocol A I

  -- what the server of a connection tells, and its number
  abbrev Told : P → News → Type 0
  Told c = tells c.server.source.now

  -- nothing waits, so this is the state before the next command
  pub fresh : (c d : P) → d.waiting ≡ None → IsBefore CommandIdles (CommandBegun answers tells) c d → c ≡ d
  fresh c d none (inl (idle, same)) = same
  fresh c d none (inr (waiting, is, asked)) = let e : None ≡ Some waiting = sym none ∙ is in absurd cc

  some_waiting : (w v : WaitingCommand) → (let o : Option WaitingCommand = Some w in o) ≡ Some v → w ≡ v
  some_waiting w v e = cc

  -- this command waits
  pub begun_asked : (c d : P) (waiting : WaitingCommand) → d.waiting ≡ Some waiting → IsBefore CommandIdles (CommandBegun answers tells) c d → CommandAsked answers tells c waiting asked.NoAnswer d
  begun_asked c d waiting some (inl (idle, same)) = let e : None ≡ Some waiting = sym idle ∙ some in absurd cc
  begun_asked c d waiting some (inr (w, is, p)) = subst (λ (x : WaitingCommand). CommandAsked answers tells c x asked.NoAnswer d) (some_waiting w waiting (sym is ∙ some)) p

  -- its request is tried once more
  pub asked_again : (c d e : P) (waiting : WaitingCommand) (answer : Asked) → e.commands ≡ d.commands → e.server ≡ d.server → e.standing ≡ d.standing → CommandAsked answers tells c waiting asked.NoAnswer d
      → ((a : A) (q : Question) → answers a q asked.NoAnswer d.asker → answers a q answer e.asker) → CommandAsked answers tells c waiting answer e
  asked_again c d e waiting answer commands server standing p again =
      let q = p.asked in
      record {
        taken = record {
          words = p.taken.words;
          taken = record { next = p.taken.taken.next ∙ ap (λ r. with_commands (p.taken.words ∷ []) (reading_of r)) (sym commands); server = server ∙ p.taken.taken.server };
          command_is = p.taken.command_is;
          informed = p.taken.informed;
        };
        asked = record {
          first = q.first;
          next = q.next;
          rest = q.rest;
          parts = q.parts;
          count = q.count;
          between = q.between;
          asker = q.asker;
          done = q.done;
          asked = again q.asker (Ask q.next q.between.asked) q.asked;
          standing = standing ∙ q.standing;
        };
      }

  -- the words that were taken off are answered
  pub told_steps : (told : Result Flow AllocError) (c d : P) (words : List Word) (about : About) (old new : List ℕ) → TakesWords c words d → d.waiting ≡ None → Knows answers (Told c) c.server.number words about
      → AnswersWords answers about words c.standing c.asker told old new d.standing d.asker → CommandSteps answers tells (step_of told) c old new d
  told_steps (Ok flow.GoesOn) c d words about old new taken idle knows p =
      let q = answered answers (Told c) c.server.number words about knows (Ok flow.GoesOn) c.standing d.standing c.asker d.asker old new p in
      (q.0, (words, taken.next, q.1, taken.server), idle, q.2)
  told_steps (Ok flow.Quits) c d words about old new taken idle knows p =
      let q = answered answers (Told c) c.server.number words about knows (Ok flow.Quits) c.standing d.standing c.asker d.asker old new p in
      (q.0, record { words = words; rest = reading_of d.commands; next_is = taken.next; standing = d.standing; answered = q.1 }, q.2)
  told_steps (Err refused) c d words about old new taken idle knows p =
      let q = lacks answers (Told c) c.server.number words about knows refused c.standing d.standing c.asker d.asker old new p in
      ([], record { bytes_are = refl; last = inr (record { words = words; rest = reading_of d.commands; next_is = taken.next; refused = refused; standing = d.standing; asked = q.1 }) }, q.0 ∙ sym (append-nil old))

  -- memory ran out before anything was asked
  pub nothing_asked : (c d : P) (old new : List ℕ) → d.asker ≡ c.asker → new ≡ old → CommandSteps answers tells (Err served.Memory) c old new d
  nothing_asked c d old new asker same = ([], record { bytes_are = refl; last = inl asker }, same ∙ sym (append-nil old))

  -- a command knows the number of its connection, and this text
  abbrev pub IsAbout : P → About → List ℕ → Type 0
  IsAbout c about info = (about.number ≡ c.server.number) × (about.info.now ≡ info)

  known : (c d : P) (command : Command) (info : List ℕ) (about : About) (p : TakesCommand tells c command info d) → IsAbout c about info → Knows answers (Told c) c.server.number p.words about
  known c d _ info about p (number, text) = record { numbered = number; informed = subst (λ (x : List ℕ). NewsIs (tells c.server.source.now) (subject_of p.words) x) (sym text) p.informed }

  -- a command is done and told
  pub command_steps : (c d e : P) (command : Command) (info : List ℕ) (about : About) (told : Result (Unit {0}) AllocError) (result : Result Flow AllocError) (old new : List ℕ)
      → (p : TakesCommand tells c command info d) → IsAbout c about info → e.commands ≡ d.commands → e.server ≡ d.server → e.waiting ≡ None
      → AnswersCommand answers about command (standing_behind c.standing (command_of p.words)) c.asker told old new e.standing e.asker → result ≡ with_flow told (flow_of command) → CommandSteps answers tells (step_of result) c old new e
  command_steps c d e command info about told result old new p knows commands server idle done flows =
      let n = standing_behind c.standing (command_of p.words) in
      let table : AnswersTable answers (Ok command) about n c.asker result old new e.standing e.asker = (told, done, flows) in
      let words : AnswersWords answers about p.words c.standing c.asker result old new e.standing e.asker =
      inr (subst (λ (t : Result Command Refusal). AnswersTable answers t about n c.asker result old new e.standing e.asker) (sym p.command_is) table) in
      let taken : TakesWords c p.words e = record { next = p.taken.next ∙ ap (λ r. with_commands (p.words ∷ []) (reading_of r)) (sym commands); server = server ∙ p.taken.server } in
      told_steps result c e p.words about old new taken idle (known c d command info about p knows) words

  -- a command that asks nothing is done
  pub asks_nothing : (about : About) (c : Command) (n : Standing) (a : A) (told : Result (Unit {0}) AllocError) (old new : List ℕ) → requests_of c ≡ [] → Joins told old new (answer_of about c empty_tally)
      → AnswersCommand answers about c n a told old new n a
  asks_nothing about c n a told old new none joins = inl (record { standing = refl; asker = refl; told = inl (none, joins) })

  pub some_asked : (xs first rest : List Request) (next : Request) → xs ≡ first ++ next ∷ rest → xs ≢ []
  some_asked xs [] rest next e none = cc
  some_asked xs (r ∷ first) rest next e none = cc

  -- one whose requests were asked is done
  pub asks_all : (about : About) (c : P) (d : P) (waiting : WaitingCommand) (answer : Asked) (outcome : Result Tally Stopped) (told : Result (Unit {0}) AllocError) (old new : List ℕ) (m : Standing) (a : A)
      → (p : CommandAsked answers tells c waiting answer d) → AsksFrom answers (standing_behind c.standing (command_of p.taken.words)) c.asker empty_tally waiting.requests outcome m a
      → Tells about waiting.command outcome told old new → AnswersCommand answers about waiting.command (standing_behind c.standing (command_of p.taken.words)) c.asker told old new m a
  asks_all about c d waiting _ outcome told old new m a p asked tells = inr (record {
    asks = rw (sym waiting.asks) (some_asked waiting.requests p.asked.first p.asked.rest p.asked.next p.asked.parts);
    outcome = outcome;
    asked = rw (sym waiting.asks) asked;
    told = tells;
  })

  -- words that are refused are told so, and nothing is asked
  pub refused_steps : (c d : P) (words : List Word) (info : List ℕ) (r : Refusal) (told : Result (Unit {0}) AllocError) (result : Result Flow AllocError) (old new : List ℕ)
      → TakesWords c words d → d.waiting ≡ None → d.standing ≡ standing_behind c.standing (command_of words) → c.asker ≡ d.asker → NewsIs (tells d.server.source.now) (subject_of words) info
      → allowed c.standing.is_in_transaction (command_of words) ≡ Err r → Joins told old new (error (refusal_text r)) → result ≡ with_flow told flow.GoesOn → CommandSteps answers tells (step_of result) c old new d
  refused_steps c d words info r told result old new taken idle standing asker informed is joins flows =
      let n = standing_behind c.standing (command_of words) in
      let about : About = record { number = c.server.number; info = record { ref_ptr = (0, 0); now = info } } in
      let knows : Knows answers (Told c) c.server.number words about = record { numbered = refl; informed = subst (λ h. NewsIs (tells h.source.now) (subject_of words) info) taken.server informed } in
      let table : AnswersTable answers (Err r) about n c.asker result old new d.standing d.asker = (told, standing, sym asker, joins, flows) in
      told_steps result c d words about old new taken idle knows (inr (subst (λ (t : Result Command Refusal). AnswersTable answers t about n c.asker result old new d.standing d.asker) (sym is) table))
