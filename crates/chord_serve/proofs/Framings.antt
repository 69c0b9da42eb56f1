-- What a link's protocol of frames does with a request whose question was asked.
use Rattle.std.proofs.Common.{◌≡◌, ◌≢◌, ℕ, List, [], ◌++◌, Bool, Option, Some, refl, sym, ap, subst, ◌∙◌, append_assoc, false, inl, inr}
use Rattle.chord_wire.specs.declared.request.WireRequest.{WireRequest}
use Rattle.chord_session.specs.declared.session.Move.{Move}
use Rattle.chord_session.specs.declared.session.Move.TheVariants.{Refuse, Again, Ask, Retry}
use Rattle.chord_session.specs.SessionState.{SessionState}
use Rattle.chord_session.specs.Session.{with_accepted, move_of}
use Rattle.chord_serve.proofs.BatchLaws.{EndsNow, EndsSo, kept_now, nothing, one_dealt, prefix_served}
use Rattle.chord_serve.proofs.Framed.{conversed_serves, written_serves}
use Rattle.chord_serve.specs.Conversing.{Talks}
use Rattle.chord_serve.specs.Conversing.Talks.{Says}
use Rattle.chord_serve.specs.Framing.{FrameAsked, FrameBegun, FrameHears, FrameIdles, FrameSays, FrameStands}
use Rattle.chord_serve.specs.Output.{frame_of, after_answer, question_of}
use Rattle.chord_serve.specs.Parting.{parted_as}
use Rattle.chord_serve.specs.Served.{Dealt, IsParted, MayAskNext, StopsAfter}
use Rattle.chord_serve.specs.declared.link.stage.Stage.{Stage}
use Rattle.chord_serve.specs.declared.link.stage.Stage.TheVariants as stages
use Rattle.chord_serve.specs.declared.served.Served.{Served}
use Rattle.chord_serve.specs.declared.served.Served.TheVariants as served
use Rattle.chord_serve.specs.declared.parted.Parted.TheVariants as parted
use Rattle.chord_serve.specs.Question.{Question}
use Rattle.chord_serve.specs.Question as question
use Rattle.chord_serve.specs.Stepping.{IsBefore}
use Rattle.chord_serve.specs.Steps.{Does, Step, MayAsk, IsAsked, entered}
use Rattle.chord_serve.specs.declared.asker.Asked.{Asked}
use Rattle.chord_serve.specs.declared.asker.Asked.TheVariants as asked
use Rattle.chord_serve.specs.declared.client_session.ClientSession.{ClientSession}
use Rattle.chord_serve.specs.declared.frame_protocol.FrameProtocol.{FrameProtocol}

abbrev asks_for : Question → Option Question
asks_for q = Some q

some_question : (q p : Question) → asks_for q ≡ asks_for p → q ≡ p
some_question q p e = cc

module _ {A : Type 0} (answers : A → Question → Asked → A → Type 0) where
  -- a question was asked: its answer makes the step
  asked_does : (m : Move) (t : SessionState) (a : A) (r : WireRequest) (q : Question) (answer : Asked) (a' : A) → question_of m t r ≡ Some q → answers a q answer a' → answer ≢ asked.Memory
      → Does answers m t a r (frame_of r.number answer) (after_answer (entered m t r) r.number answer) a'
  asked_does (Refuse code) t a r q x a' asks given ok = cc
  asked_does Again t a r q x a' asks given ok = cc
  asked_does Ask t a r q x a' asks given ok =
      record { answer = x; not_memory = ok; asks = subst (λ (p : Question). answers a p x a') (sym (some_question (question.Ask r.request t.floor) q asks)) given; bytes_are = refl; state_is = refl }
  asked_does Retry t a r q x a' asks given ok =
      record { answer = x; not_memory = ok; asks = subst (λ (p : Question). answers a p x a') (sym (some_question (question.Retry r.number t.floor) q asks)) given; bytes_are = refl; state_is = refl }

  -- the same, told as it is
  told_step : (s : SessionState) (a : A) (r : WireRequest) (answer : Asked) (before after : SessionState) (a' : A) → IsAsked answers s a r answer before a' → answer ≢ asked.Memory
      → after ≡ after_answer before r.number answer → Step answers s a r (frame_of r.number answer) after a'
  told_step s a r answer before after a' p ok t =
      subst (λ (u : SessionState). Step answers s a r (frame_of r.number answer) u a') (sym (t ∙ ap (λ (u : SessionState). after_answer u r.number answer) p.state_is))
      (asked_does (move_of s r) (with_accepted s r) a r p.question answer a' p.asks p.answered ok)

  -- the answer is told, and the session is left so
  pub told_says : (c d : FrameProtocol A) (number : ℕ) (answer : Asked) (left : ClientSession A) → FrameAsked answers c number answer d → answer ≢ asked.Memory
      → left ≡ record d.client { numbers = after_answer d.client.numbers number answer }
      → Dealt answers c.client.version c.client.numbers c.client.asker c.frames (frame_of number answer) d.frames left.version left.numbers left.asker
      × (d.is_opened ≡ c.is_opened) × (d.is_over ≡ c.is_over)
  told_says c d number answer left p ok told =
      let r = p.request in
      let state : left.numbers ≡ after_answer d.client.numbers r.number answer = ap (λ (x : ClientSession A). x.numbers) told ∙ ap (λ (n : ℕ). after_answer d.client.numbers n answer) p.number_is in
      let version : left.version ≡ Some r.version = ap (λ (x : ClientSession A). x.version) told ∙ p.version_is in
      let asker : left.asker ≡ d.client.asker = ap (λ (x : ClientSession A). x.asker) told in
      let step : Step answers c.client.numbers c.client.asker r (frame_of number answer) left.numbers left.asker =
      subst (λ (n : ℕ). Step answers c.client.numbers c.client.asker r (frame_of n answer) left.numbers left.asker) (sym p.number_is)
      (subst (λ (a : A). Step answers c.client.numbers c.client.asker r (frame_of r.number answer) left.numbers a) (sym asker)
      (told_step c.client.numbers c.client.asker r answer d.client.numbers left.numbers d.client.asker p.asked ok state)) in
      let dealt = one_dealt answers c.client.version c.client.numbers left.numbers c.client.asker left.asker r c.frames (frame_of number answer) d.frames (p.taken.fits, p.taken.frames_are) p.same_version step in
      (rw version dealt, p.taken.same.0, p.taken.same.1)

  -- there is no memory for it, and the session is over
  pub untold_stops : (c d : FrameProtocol A) (number : ℕ) (answer : Asked) (left : A) → FrameAsked answers c number answer d → left ≡ d.client.asker
      → StopsAfter answers c.is_opened c.client.version c.client.numbers c.client.asker c.frames [] (parted.Over left)
  untold_stops c d number answer left p asker =
      let may : MayAskNext answers c.client.version c.client.numbers c.client.asker c.frames left = record {
        request = p.request;
        behind = d.frames;
        next = p.taken.next;
        same_version = p.same_version;
        may_ask = subst (λ (o : Option Question). MayAsk answers o c.client.asker left) (sym p.asked.asks) (inr (answer, subst (λ (a : A). answers c.client.asker p.asked.question answer a) (sym asker) p.asked.answered));
      } in
      record { rest = c.frames; version = c.client.version; state = c.client.numbers; asker = c.client.asker; dealt = nothing answers c.client.version c.client.numbers c.client.asker c.frames; last = inl may }

  -- nothing waits, so this is the state before the next request
  pub fresh : (c d : FrameProtocol A) → ((number : ℕ) → d.waiting ≡ Some number → ⊥) → IsBefore FrameIdles (FrameBegun answers) c d → c ≡ d
  fresh c d none (inl (idle, same)) = same
  fresh c d none (inr (number, is, asked)) = absurd (none number is)

  -- the connection ends, and its session can go on
  pub ends_kept : (end : Served) (c : FrameProtocol A) (over : Bool) (left : ClientSession A) (old new : List ℕ) → over ≡ c.is_over → left ≡ c.client
      → EndsSo answers end c.is_opened c.client.version c.client.numbers c.client.asker c.frames old new (parted.Kept c.client)
      → EndsNow answers end c.is_opened c.is_over c.client c.frames old new (parted_as over left)
  ends_kept end c over left old new same is p = rw (same, is) (kept_now answers end c.is_opened c.is_over c.client c.frames old new p)

  -- what was answered of a link that ended
  pub ended_parts : (end : Served) (first last : FrameProtocol A) (input output : List ℕ) → first.is_over ≡ false → FrameStands answers (stages.Over end) first input output last
      → IsParted answers first.is_opened end first.client.version first.client.numbers first.client.asker (first.frames ++ input) output (parted_as last.is_over last.client)
  ended_parts end first last input output going stands = conversed_serves answers (λ c. c.frames) (λ c. c.client) (λ c. c.is_opened) (λ c. c.is_over) end first last input output going stands

  some_written : (first last : FrameProtocol A) (input whole sent rest : List ℕ) → first.is_over ≡ false → whole ≡ sent ++ rest → Talks FrameHears (FrameSays answers) first input whole last
      → IsParted answers first.is_opened served.Write first.client.version first.client.numbers first.client.asker (first.frames ++ input) sent (parted_as last.is_over last.client)
  some_written first last input whole sent rest going parts talked = written_serves answers (λ c. c.frames) (λ c. c.client) (λ c. c.is_opened) (λ c. c.is_over) first last input sent whole rest going parts (inl talked)

  -- and of one that is let go, wherever it stands
  pub lost_parts : (stage : Stage) (first last : FrameProtocol A) (input sent due : List ℕ) → first.is_over ≡ false → FrameStands answers stage first input (sent ++ due) last
      → IsParted answers first.is_opened served.Write first.client.version first.client.numbers first.client.asker (first.frames ++ input) sent (parted_as last.is_over last.client)
  lost_parts stages.Reads first last input sent due going (waits, idle) = some_written first last input (sent ++ due) sent due going refl waits.talked
  lost_parts stages.Answers first last input sent due going (talked, idle) = some_written first last input (sent ++ due) sent due going refl talked
  lost_parts stages.Waits first last input sent due going (before, talked, (number, is, begun)) =
      let bytes = frame_of number asked.NoAnswer in
      some_written first last input ((sent ++ due) ++ bytes) sent (due ++ bytes) going (append_assoc sent due bytes)
      (Says input (sent ++ due) bytes before last talked (told_says before last number asked.NoAnswer last.client begun (λ e. cc) refl))
  lost_parts (stages.Over end) first last input sent due going stands =
      prefix_served answers end first.is_opened first.client.version first.client.numbers first.client.asker (parted_as last.is_over last.client) (first.frames ++ input) (sent ++ due) sent due refl
      (ended_parts end first last input (sent ++ due) going stands)
