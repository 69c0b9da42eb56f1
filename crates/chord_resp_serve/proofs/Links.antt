-- What a link that speaks Redis's protocol read and answered.
use Rattle.std.proofs.Common.{◌≡◌, ◌≢◌, ℕ, List, [], ◌++◌, None, Ok, Err, refl, sym, ap, subst, ◌∙◌, append_assoc, inl, inr}
use Rattle.chord_serve.specs.declared.asker.Asked.{Asked}
use Rattle.chord_serve.specs.declared.asker.Asked.TheVariants as asked
use Rattle.chord_serve.specs.declared.link.stage.Stage.{Stage}
use Rattle.chord_serve.specs.declared.link.stage.Stage.TheVariants as stages
use Rattle.chord_serve.specs.declared.served.Served.{Served}
use Rattle.chord_serve.specs.declared.served.Served.TheVariants as served
use Rattle.chord_serve.specs.Conversing.{Talks}
use Rattle.chord_serve.specs.Conversing.Talks.{Says}
use Rattle.chord_serve.specs.Question.{Question}
use Rattle.chord_resp.specs.declared.table.command.Command.{Command}
use Rattle.chord_resp.specs.declared.table.command.Command.TheVariants as command
use Rattle.chord_resp.specs.declared.table.refusal.Refusal.TheVariants as refusal
use Rattle.chord_resp.specs.Answers.{error}
use Rattle.chord_resp.specs.Machine.{State}
use Rattle.chord_resp.specs.Refusals.{refusal_text}
use Rattle.chord_resp_serve.specs.News.{News}
use Rattle.chord_resp_serve.specs.declared.about.About.{About}
use Rattle.chord_resp_serve.specs.declared.command_protocol.CommandProtocol.{CommandProtocol}
use Rattle.chord_resp_serve.specs.declared.flow.Flow.TheVariants as flow
use Rattle.chord_resp_serve.specs.declared.standing.Standing.{Standing}
use Rattle.chord_resp_serve.specs.declared.tally.Stopped.TheVariants as stopped
use Rattle.chord_resp_serve.specs.declared.waiting_command.WaitingCommand.{WaitingCommand}
use Rattle.chord_resp_serve.specs.Asking.{requests_of}
use Rattle.chord_resp_serve.specs.Connections.{IsAnswered, WritesPart, open_at}
use Rattle.chord_resp_serve.specs.Waiting.{CommandAsked, CommandHears, CommandSays, CommandStands}
use Rattle.chord_resp.specs.Table.{command_of}
use Rattle.chord_resp_serve.specs.Transactions.{standing_behind}
use Rattle.chord_resp_serve.specs.Words.{flow_of}
use Rattle.chord_resp_serve.proofs.Asks.{has_no_answer}
use Rattle.chord_resp_serve.proofs.Sessions.{conversed}
use Rattle.chord_resp_serve.proofs.Waits.{asks_all, command_steps, some_asked}

-- a command that asks something does not end the connection
asking_goes_on : (c : Command) → requests_of c ≢ [] → flow_of c ≡ flow.GoesOn
asking_goes_on (command.Add key members) asks = refl
asking_goes_on (command.Remove key members) asks = refl
asking_goes_on (command.Members key) asks = refl
asking_goes_on (command.Count key) asks = refl
asking_goes_on (command.IsMember key member) asks = refl
asking_goes_on (command.AreMembers key members) asks = refl
asking_goes_on (command.Exist keys) asks = refl
asking_goes_on (command.Kind key) asks = refl
asking_goes_on command.Ping asks = refl
asking_goes_on (command.Echo word) asks = refl
asking_goes_on command.Accept asks = refl
asking_goes_on command.Name asks = refl
asking_goes_on command.Number asks = refl
asking_goes_on command.Hello asks = refl
asking_goes_on command.Auth asks = refl
asking_goes_on command.Nothing asks = refl
asking_goes_on command.Commands asks = refl
asking_goes_on command.Info asks = refl
asking_goes_on command.Time asks = refl
asking_goes_on command.Reset asks = refl
asking_goes_on command.Multi asks = refl
asking_goes_on command.Exec asks = refl
asking_goes_on command.Discard asks = refl
asking_goes_on command.Quit asks = absurd (asks refl)
asking_goes_on command.Shutdown asks = absurd (asks refl)

-- what was answered at an end was answered where only a part of it was written
answered_part : {A : Type 0} (answers : A → Question → Asked → A → Type 0) (tells : News → Type 0) (number : ℕ) (from : State) (end : Served) (n : Standing) (a a' : A) (i sent due : List ℕ)
    → IsAnswered answers tells number from end n a i (sent ++ due) a' → WritesPart answers tells number from n a i sent a'
answered_part answers tells number from served.Ended n a a' i sent due (state, at, q) = record { whole = sent ++ due; rest = due; parts = refl; done = inl (open_at state, q.standing, q.some) }
answered_part answers tells number from served.Truncated n a a' i sent due (state, at, q) = record { whole = sent ++ due; rest = due; parts = refl; done = inl (open_at state, q.standing, q.some) }
answered_part answers tells number from served.Read n a a' i sent due (state, q) = record { whole = sent ++ due; rest = due; parts = refl; done = inl (open_at state, q.standing, q.some) }
answered_part answers tells number from served.TurnsSpent n a a' i sent due (state, q) = record { whole = sent ++ due; rest = due; parts = refl; done = inl (open_at state, q.standing, q.some) }
answered_part answers tells number from served.Write n a a' i sent due q = record { whole = q.whole; rest = due ++ q.rest; parts = q.parts ∙ append_assoc sent due q.rest; done = q.done }
answered_part answers tells number from served.Protocol n a a' i sent due q = record { whole = sent ++ due; rest = due; parts = refl; done = inr (served.Protocol, q) }
answered_part answers tells number from served.Foreign n a a' i sent due q = record { whole = sent ++ due; rest = due; parts = refl; done = inr (served.Foreign, q) }
answered_part answers tells number from served.Quit n a a' i sent due q = record { whole = sent ++ due; rest = due; parts = refl; done = inr (served.Quit, q) }
answered_part answers tells number from served.Memory n a a' i sent due q = record { whole = sent ++ due; rest = due; parts = refl; done = inr (served.Memory, q) }
answered_part answers tells number from (served.Malformed code) n a a' i sent due q = absurd q

module _ {A I : Type 0} (answers : A → Question → Asked → A → Type 0) (tells : I → News → Type 0) where
  abbrev P : Type 0
  P = CommandProtocol A I

  -- a command that waits is answered as one whose request has no answer
  told_no_answer : (c d : P) (waiting : WaitingCommand) → CommandAsked answers tells c waiting asked.NoAnswer d → (bytes : List ℕ) × CommandSays answers tells c bytes d
  told_no_answer c d waiting p =
      let about : About = record { number = d.server.number; info = record { ref_ptr = (0, 0); now = waiting.info.items } } in
      let e : P = record d { waiting = None } in
      let bytes = error (refusal_text (refusal.NoAnswer (record { done = waiting.tally.done; of = _ }))) in
      let q = p.asked in
      let asks : requests_of waiting.command ≢ [] = subst (λ xs. xs ≢ []) waiting.asks (some_asked answers tells waiting.requests q.first q.rest q.next q.parts) in
      let done = asks_all answers tells about c d waiting asked.NoAnswer (Err (stopped.NoAnswer waiting.tally.done)) (Ok tt) [] bytes d.standing d.asker p (has_no_answer answers waiting.requests _ waiting.tally (standing_behind c.standing (command_of p.taken.words)) d.standing c.asker d.asker q) refl in
      let steps = command_steps answers tells c d e waiting.command waiting.info.items about (Ok tt) (Ok flow.GoesOn) [] bytes p.taken (ap (λ h. h.number) p.taken.taken.server, refl) refl refl refl done
      (ap (λ f. Ok f) (sym (asking_goes_on waiting.command asks))) in
      (steps.0, steps.1)

  module _ (from : State) (first : P) (fresh : first.commands ≡ record { state = from; bytes = [] }) where
    -- at its end
    pub ended_answered : (end : Served) (last : P) (input output : List ℕ) → CommandStands answers tells (stages.Over end) first input output last
        → IsAnswered answers (tells first.server.source.now) first.server.number from end first.standing first.asker input output last.asker
    ended_answered end last input output stands =
        conversed answers (λ h. tells h.source.now) (λ h. h.number) (λ d. d.server) (λ d. d.commands) (λ d. d.standing) (λ d. d.asker) from first fresh end last input output stands

    some_sent : (last : P) (input whole sent rest : List ℕ) → whole ≡ sent ++ rest → Talks CommandHears (CommandSays answers tells) first input whole last
        → IsAnswered answers (tells first.server.source.now) first.server.number from served.Write first.standing first.asker input sent last.asker
    some_sent last input whole sent rest parts talked = ended_answered served.Write last input sent (record { whole = whole; rest = rest; parts = parts; done = inl talked })

    -- where it is let go
    pub lost_answered : (stage : Stage) (last : P) (input sent due : List ℕ) → CommandStands answers tells stage first input (sent ++ due) last
        → IsAnswered answers (tells first.server.source.now) first.server.number from served.Write first.standing first.asker input sent last.asker
    lost_answered stages.Reads last input sent due (waits, idle) = some_sent last input (sent ++ due) sent due refl waits.talked
    lost_answered stages.Answers last input sent due (talked, idle) = some_sent last input (sent ++ due) sent due refl talked
    lost_answered stages.Waits last input sent due (before, talked, (waiting, is, begun)) =
        let told = told_no_answer before last waiting begun in
        some_sent last input ((sent ++ due) ++ told.0) sent (due ++ told.0) (append_assoc sent due told.0) (Says input (sent ++ due) told.0 before last talked told.1)
    lost_answered (stages.Over end) last input sent due stands =
        answered_part answers (tells first.server.source.now) first.server.number from end first.standing first.asker last.asker input sent due (ended_answered end last input (sent ++ due) stands)
