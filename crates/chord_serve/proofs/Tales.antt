-- What each call of a link leaves true of it.
use Rattle.std.proofs.Common.{◌≡◌, ◌⊎◌, ℕ, Bool, true, List, [], ◌∷◌, ◌++◌, take, drop, length, Option, Result, Ok, Err, inl, inr, refl, sym, ap, subst, ◌∙◌, append_assoc}
use Rattle.std.proofs.lemmas.List.{append-nil, take-append-drop}
use Rattle.std.specs.Prelude.{IfOk, IfErr, OnErr}
use Rattle.std.specs.Io.KnownBytes.{Appends, Consumes, Keeps}
use Rattle.std.proofs.KnownBytes.{Appends-nil, Appends-trans, Appends-kept, Consumes-nil, Consumes-trans, Consumes-kept}
use Rattle.chord_serve.specs.declared.link.machine.Machine.{Machine}
use Rattle.chord_serve.specs.declared.link.stage.Stage.{Stage}
use Rattle.chord_serve.specs.declared.link.stage.Stage.TheVariants as stages
use Rattle.chord_serve.specs.declared.link.stage.Step.{Step}
use Rattle.chord_serve.specs.declared.link.stage.Step.TheVariants as steps
use Rattle.chord_serve.specs.Stages.{stage_after}
use Rattle.chord_serve.specs.Standing.{Stands, Told}
use Rattle.chord_serve.specs.Stepping.{AnswersNext, IsBefore}
use Rattle.chord_serve.specs.Taking.{TakesIn}
use Rattle.chord_serve.proofs.Conversing.{talks_as}
use Rattle.chord_serve.specs.Conversing.{Talks, IsStopped, Conversed}
use Rattle.chord_serve.specs.Conversing.Talks.{Begins, Hears, Says}
use Rattle.chord_serve.specs.Ends.{IsStop}
use Rattle.chord_serve.specs.declared.served.Served.{Served}
use Rattle.chord_serve.specs.declared.served.Served.TheVariants as served

module _ {P : Type 0} (hears says : P → List ℕ → P → Type 0) (stops : Served → P → List ℕ → P → Type 0) (rests idle : P → Type 0) (begun : P → P → Type 0) (between : P → Bool) where
  -- a request ended the connection
  stopped_conversed : (end : Served) (a b : P) (i o : List ℕ) → IsStop end → IsStopped hears says stops rests end a i o b → Conversed hears says stops rests between end a i o b
  stopped_conversed (served.Malformed code) a b i o stop p = p
  stopped_conversed served.Protocol a b i o stop p = p
  stopped_conversed served.Foreign a b i o stop p = p
  stopped_conversed served.Quit a b i o stop p = p
  stopped_conversed served.Write a b i o stop p = record { whole = o; rest = []; parts = sym (append-nil o); done = inr (served.Write, p) }
  stopped_conversed served.Memory a b i o stop p = inl p
  stopped_conversed served.Ended a b i o stop p = absurd stop
  stopped_conversed served.Truncated a b i o stop p = absurd stop
  stopped_conversed served.Read a b i o stop p = absurd stop
  stopped_conversed served.TurnsSpent a b i o stop p = absurd stop

  -- each request is answered before the next one, which may have been begun
  abbrev Ready : P → List ℕ → List ℕ → P → Type 0
  Ready first received output now = (before : P) × Talks hears says first received output before × IsBefore idle begun before now

  -- a step, behind what was sent
  stands_then : (step : Result Step Served) (first : P) (received sent : List ℕ) (now : P) (due due' : List ℕ) (after : P)
      → Ready first received (sent ++ due) now → IfErr step IsStop
      → ((before : P) → IsBefore idle begun before now → AnswersNext hears says stops rests idle begun step before due due' after)
      → Stands hears says stops rests idle begun between (stage_after step) first received (sent ++ due') after
  stands_then (Ok steps.Answered) first received sent now due due' after (before, talked, begins) stop does =
      let (bytes, say, still, is) = does before begins in (
        talks_as hears says first after received ((sent ++ due) ++ bytes) received (sent ++ due') refl (append_assoc sent due bytes ∙ ap (λ (x : List ℕ). sent ++ x) (sym is))
            (Says received (sent ++ due) bytes before after talked say),
        still,
      )
  stands_then (Ok steps.Nothing) first received sent now due due' after (before, talked, begins) stop does =
      let (quiet, hear, still, is) = does before begins in (
        record {
          talked = talks_as hears says first after (received ++ []) (sent ++ due) received (sent ++ due') (append-nil received) (ap (λ (x : List ℕ). sent ++ x) (sym is)) (Hears received (sent ++ due) [] before after talked hear);
          quiet = quiet;
        },
        still,
      )
  stands_then (Ok steps.Later) first received sent now due due' after (before, talked, begins) stop does =
      let (further, is) = does before begins in
      (before, talks_as hears says first before received (sent ++ due) received (sent ++ due') refl (ap (λ (x : List ℕ). sent ++ x) (sym is)) talked, further)
  stands_then (Err end) first received sent now due due' after (before, talked, begins) stop does =
      let (bytes, stopped, is) = does before begins in
      stopped_conversed end first after received (sent ++ due') stop
      (record {
        before = before;
        said = sent ++ due;
        bytes = bytes;
        talked = talked;
        stopped = stopped;
        output_is = ap (λ (x : List ℕ). sent ++ x) is ∙ sym (append_assoc sent due bytes);
      })

  -- a read
  stands_read : (stage : Stage) (first : P) (received output : List ℕ) (old : P) (more : List ℕ) (new : P)
      → Stands hears says stops rests idle begun between stages.Reads first received output old → TakesIn hears idle between stage old more new
      → Stands hears says stops rests idle begun between stage first (received ++ more) output new
  stands_read stages.Answers first received output old more new (waits, still) (some, hear, kept) = (Hears received output more old new waits.talked hear, kept still)
  stands_read (stages.Over served.Ended) first received output old more new (waits, still) (none, is, same) = (
    record {
      talked = subst (λ (p : P). Talks hears says first (received ++ more) output p) (sym same) (talks_as hears says first old received output (received ++ more) output (sym (ap (λ (x : List ℕ). received ++ x) none ∙ append-nil received)) refl waits.talked);
      quiet = subst rests (sym same) waits.quiet;
    },
    ap between same ∙ is,
  )
  stands_read (stages.Over served.Truncated) first received output old more new (waits, still) (none, is, same) = (
    record {
      talked = subst (λ (p : P). Talks hears says first (received ++ more) output p) (sym same) (talks_as hears says first old received output (received ++ more) output (sym (ap (λ (x : List ℕ). received ++ x) none ∙ append-nil received)) refl waits.talked);
      quiet = subst rests (sym same) waits.quiet;
    },
    ap between same ∙ is,
  )
  stands_read (stages.Over served.Memory) first received output old more new (waits, still) (some, same) =
      inr (record {
        heard = received;
        piece = more;
        some = some;
        input_is = refl;
        talked = subst (λ (p : P). Talks hears says first received output p) (sym same) waits.talked;
      })
  stands_read (stages.Over (served.Malformed code)) first received output old more new stands takes = absurd takes
  stands_read (stages.Over served.Protocol) first received output old more new stands takes = absurd takes
  stands_read (stages.Over served.Foreign) first received output old more new stands takes = absurd takes
  stands_read (stages.Over served.Quit) first received output old more new stands takes = absurd takes
  stands_read (stages.Over served.Read) first received output old more new stands takes = absurd takes
  stands_read (stages.Over served.Write) first received output old more new stands takes = absurd takes
  stands_read (stages.Over served.TurnsSpent) first received output old more new stands takes = absurd takes
  stands_read stages.Reads first received output old more new stands takes = absurd takes
  stands_read stages.Waits first received output old more new stands takes = absurd takes

  module _ {S : Type 0} (left held : S → Option (List ℕ)) where
    abbrev pub Tale : List (S × P) → S → List ℕ → Stage → P → Type 0
    Tale = Told hears says stops rests idle begun between left held

    abbrev pub OfMachine : Machine P S → Type 0
    OfMachine m = Tale m.first.items m.stream m.due m.stage m.protocol

    -- a link that has read nothing
    pub told_new : (log : List (S × P)) (stream : S) (due : List ℕ) (protocol : P) → log ≡ (stream, protocol) ∷ [] → due ≡ [] → idle protocol → Tale log stream due stages.Answers protocol
    told_new log stream due protocol l none quiet = record {
      first = (stream, protocol);
      begins = l;
      received = [];
      sent = [];
      read = Consumes-nil (left stream);
      written = Appends-nil (held stream);
      stands = (talks_as hears says protocol protocol [] [] [] due refl (sym none) Begins, quiet);
    }

    -- it is told anew where these parts changed
    told_as : (new whole : Machine P S) → new ≡ whole → OfMachine whole → OfMachine new
    told_as new whole e t = subst OfMachine (sym e) t

    at_stage : (log : List (S × P)) (stream : S) (due : List ℕ) (stage stage' : Stage) (now : P) → stage ≡ stage' → Tale log stream due stage now → Tale log stream due stage' now
    at_stage log stream due stage stage' now e t = subst (λ (s : Stage). Tale log stream due s now) e t

    -- a step, from where it stands before a request
    step_told : (step : Result Step Served) (log : List (S × P)) (stream : S) (due due' : List ℕ) (stage stage' : Stage) (now after : P) → (t : Tale log stream due stage now)
        → Ready t.first.1 t.received (t.sent ++ due) now → IfErr step IsStop → stage' ≡ stage_after step
        → ((before : P) → IsBefore idle begun before now → AnswersNext hears says stops rests idle begun step before due due' after)
        → Tale log stream due' stage' after
    step_told step log stream due due' stage stage' now after t ready stop e does = record {
      first = t.first;
      begins = t.begins;
      received = t.received;
      sent = t.sent;
      read = t.read;
      written = t.written;
      stands = subst (λ (s : Stage). Stands hears says stops rests idle begun between s t.first.1 t.received (t.sent ++ due') after) (sym e)
          (stands_then step t.first.1 t.received t.sent now due due' after ready stop does);
    }

    module _ (old new : Machine P S) (same : new ≡ record old { protocol = new.protocol; due = new.due; stage = new.stage; tries = new.tries }) (step : Result Step Served) (stop : IfErr step IsStop) (e : new.stage ≡ stage_after step)
        (does : (before : P) → IsBefore idle begun before old.protocol → AnswersNext hears says stops rests idle begun step before old.due new.due new.protocol) where
      -- it answers
      pub step_answers : old.stage ≡ stages.Answers → OfMachine old → OfMachine new
      step_answers is t =
          let at : Tale old.first.items old.stream old.due stages.Answers old.protocol = at_stage old.first.items old.stream old.due old.stage stages.Answers old.protocol is t in
          told_as new (record old { protocol = new.protocol; due = new.due; stage = new.stage; tries = new.tries }) same
          (step_told step old.first.items old.stream old.due new.due stages.Answers new.stage old.protocol new.protocol at (old.protocol, at.stands.0, inl (at.stands.1, refl)) stop e does)

      -- it tries the request that waits
      pub step_tries : old.stage ≡ stages.Waits → OfMachine old → OfMachine new
      step_tries is t =
          let at : Tale old.first.items old.stream old.due stages.Waits old.protocol = at_stage old.first.items old.stream old.due old.stage stages.Waits old.protocol is t in
          told_as new (record old { protocol = new.protocol; due = new.due; stage = new.stage; tries = new.tries }) same
          (step_told step old.first.items old.stream old.due new.due stages.Waits new.stage old.protocol new.protocol at (at.stands.0, at.stands.1, inr at.stands.2) stop e does)

    -- a read that gave these bytes
    told_read : (log : List (S × P)) (stream stream' : S) (due : List ℕ) (stage' : Stage) (old new : P) (more : List ℕ)
        → Tale log stream due stages.Reads old → Consumes (left stream) (left stream') more → Keeps (held stream) (held stream')
        → TakesIn hears idle between stage' old more new → Tale log stream' due stage' new
    told_read log stream stream' due stage' old new more t c k q = record {
      first = t.first;
      begins = t.begins;
      received = t.received ++ more;
      sent = t.sent;
      read = Consumes-trans (left t.first.0) (left stream) (left stream') t.received more t.read c;
      written = Appends-kept (held t.first.0) (held stream) (held stream') t.sent t.written k;
      stands = stands_read stage' t.first.1 t.received (t.sent ++ due) old more new t.stands q;
    }

    -- a read that failed, and what is kept where it is to be made again
    told_unread : (log : List (S × P)) (stream stream' : S) (due : List ℕ) (stage' : Stage) (now : P)
        → Tale log stream due stages.Reads now → Keeps (left stream) (left stream') → Keeps (held stream) (held stream')
        → (stage' ≡ stages.Reads) ⊎ (stage' ≡ stages.Over served.Read) → Tale log stream' due stage' now
    told_unread log stream stream' due stage' now t l k e =
        let kept : (stage : Stage) → Stands hears says stops rests idle begun between stage t.first.1 t.received (t.sent ++ due) now → Tale log stream' due stage now =
        λ stage stands. record {
          first = t.first;
          begins = t.begins;
          received = t.received;
          sent = t.sent;
          read = Consumes-kept (left t.first.0) (left stream) (left stream') t.received t.read l;
          written = Appends-kept (held t.first.0) (held stream) (held stream') t.sent t.written k;
          stands = stands;
        } in
        elim e [
          | inl same ↦ subst (λ (s : Stage). Tale log stream' due s now) (sym same) (kept stages.Reads t.stands)
          | inr over ↦ subst (λ (s : Stage). Tale log stream' due s now) (sym over) (kept (stages.Over served.Read) t.stands.0)
        ]

    -- a read, whatever it gave
    pub machine_read : {E : Type 0} (old new : Machine P S) (result : Result ℕ E) → OfMachine old → old.stage ≡ stages.Reads → (new ≡ record old { protocol = new.protocol; stage = new.stage; stream = new.stream })
        → Keeps (held old.stream) (held new.stream)
        → IfOk result (λ n. (more : List ℕ) × (length more ≡ n) × Consumes (left old.stream) (left new.stream) more × TakesIn hears idle between new.stage old.protocol more new.protocol)
        → OnErr result (Keeps (left old.stream) (left new.stream) × (new.protocol ≡ old.protocol) × ((new.stage ≡ old.stage) ⊎ (new.stage ≡ stages.Over served.Read)))
        → OfMachine new
    machine_read old new (Ok n) t stage same other ok err =
        told_as new (record old { protocol = new.protocol; stage = new.stage; stream = new.stream }) same
        (told_read old.first.items old.stream new.stream old.due new.stage old.protocol new.protocol ok.0 (at_stage old.first.items old.stream old.due old.stage stages.Reads old.protocol stage t) ok.2 other ok.3)
    machine_read old new (Err e) t stage same other ok err =
        let now = at_stage old.first.items old.stream old.due old.stage stages.Reads old.protocol stage t in
        let how : (new.stage ≡ stages.Reads) ⊎ (new.stage ≡ stages.Over served.Read) = elim err.2 [ inl is ↦ inl (is ∙ stage) | inr is ↦ inr is ] in
        told_as new (record old { protocol = new.protocol; stage = new.stage; stream = new.stream }) same
        (subst (λ (p : P). Tale old.first.items new.stream old.due new.stage p) (sym err.1)
        (told_unread old.first.items old.stream new.stream old.due new.stage old.protocol now err.0 other how))

    -- a write
    told_written : (log : List (S × P)) (stream stream' : S) (due due' front : List ℕ) (stage : Stage) (now : P)
        → Tale log stream due stage now → Keeps (left stream) (left stream') → Appends (held stream) (held stream') front → due ≡ front ++ due' → Tale log stream' due' stage now
    told_written log stream stream' due due' front stage now t l a e = record {
      first = t.first;
      begins = t.begins;
      received = t.received;
      sent = t.sent ++ front;
      read = Consumes-kept (left t.first.0) (left stream) (left stream') t.received t.read l;
      written = Appends-trans (held t.first.0) (held stream) (held stream') t.sent front t.written a;
      stands = subst (λ (o : List ℕ). Stands hears says stops rests idle begun between stage t.first.1 t.received o now)
          (ap (λ (x : List ℕ). t.sent ++ x) e ∙ sym (append_assoc t.sent front due')) t.stands;
    }

    -- a write, whatever it wrote
    pub machine_written : {E : Type 0} (old new : Machine P S) (result : Result ℕ E) → OfMachine old → (new ≡ record old { due = new.due; stream = new.stream; is_lost = new.is_lost })
        → Keeps (left old.stream) (left new.stream)
        → IfOk result (λ n. Appends (held old.stream) (held new.stream) (take n old.due) × (new.due ≡ drop n old.due))
        → OnErr result (Keeps (held old.stream) (held new.stream) × (new.due ≡ old.due))
        → OfMachine new
    machine_written old new (Ok n) t same other ok err =
        told_as new (record old { due = new.due; stream = new.stream; is_lost = new.is_lost }) same
        (told_written old.first.items old.stream new.stream old.due new.due (take n old.due) old.stage old.protocol t other ok.0
        (sym (take-append-drop n old.due) ∙ ap (λ (x : List ℕ). take n old.due ++ x) (sym ok.1)))
    machine_written old new (Err e) t same other ok err =
        told_as new (record old { due = new.due; stream = new.stream; is_lost = new.is_lost }) same
        (told_written old.first.items old.stream new.stream old.due new.due [] old.stage old.protocol t other (Appends-kept (held old.stream) (held old.stream) (held new.stream) [] (Appends-nil (held old.stream)) err.0) (sym err.1))
