-- Steps of a dialogue one after another.
use Rattle.std.proofs.Common.{◌≢◌, ◌≡◌, ◌⊎◌, ℕ, List, [], ◌++◌, length, ◌==◌, Bool, true, false, Option, Result, Ok, Err, refl, sym, ap, subst, ◌∙◌, append_assoc, inl, inr}
use Rattle.std.specs.Prelude.{IfErr}
use Rattle.std.specs.Io.KnownBytes.{Appends, Consumes, Keeps}
use Rattle.std.proofs.KnownBytes.{Appends-nil, Appends-trans, Consumes-nil, Consumes-kept, Consumes-trans}
use Rattle.std.proofs.lemmas.List.{append-nil}
use Rattle.chord_serve.specs.declared.served.Served.{Served}
use Rattle.chord_serve.specs.declared.served.Served.TheVariants as served
use Rattle.chord_serve.specs.Ends.{IsStop, EndsInput}
use Rattle.chord_serve.specs.Writes.{WritesPrefix}
use Rattle.chord_serve.specs.Conversing.{Talks, IsStopped, Waits, LosesPiece, WritesPart, Conversed, Converses, AnswersPart, EndsWritten, SendsPart, AnswersAll, AnswersPiece, TakesTurn}
use Rattle.chord_serve.specs.Conversing.Talks.{Begins, Hears, Says}
use Rattle.chord_serve.specs.Stepping.{AnswersNext}
use Rattle.chord_serve.specs.declared.link.stage.Step.{Step}
use Rattle.chord_serve.specs.declared.link.stage.Step.TheVariants as steps
use Rattle.chord_serve.proofs.BytesRead.{empty_if}

-- an end caused by a request says nothing of the input
pub stop_ends : (left : Option (List ℕ)) (end : Served) → IsStop end → EndsInput end left
stop_ends left (served.Malformed code) stop = tt
stop_ends left served.Protocol stop = tt
stop_ends left served.Foreign stop = tt
stop_ends left served.Quit stop = tt
stop_ends left served.Write stop = tt
stop_ends left served.Memory stop = tt
stop_ends left served.Ended stop = absurd stop
stop_ends left served.Truncated stop = absurd stop
stop_ends left served.Read stop = absurd stop
stop_ends left served.TurnsSpent stop = absurd stop

module _ {D : Type 0} (hears says : D → List ℕ → D → Type 0) where
  -- the same steps, with their bytes said otherwise
  pub talks_as : (a b : D) (i o i' o' : List ℕ) → i ≡ i' → o ≡ o' → Talks hears says a i o b → Talks hears says a i' o' b
  talks_as a b i o i' o' ei eo p = subst (λ (x : List ℕ). Talks hears says a x o' b) ei (subst (λ (y : List ℕ). Talks hears says a i y b) eo p)

  -- some steps after others
  pub talks_then : (a b c : D) (i o i' o' : List ℕ) → Talks hears says a i o b → Talks hears says b i' o' c → Talks hears says a (i ++ i') (o ++ o') c
  talks_then a b c i o i' o' p Begins = talks_as a b i o (i ++ []) (o ++ []) (sym (append-nil i)) (sym (append-nil o)) p
  talks_then a b c i o i' o' p (Hears input output piece before after q hear) =
      talks_as a c ((i ++ input) ++ piece) (o ++ output) (i ++ (input ++ piece)) (o ++ output) (append_assoc i input piece) refl
      (Hears (i ++ input) (o ++ output) piece before c (talks_then a b before i o input output p q) hear)
  talks_then a b c i o i' o' p (Says input output bytes before after q say) =
      talks_as a c (i ++ input) ((o ++ output) ++ bytes) (i ++ input) (o ++ (output ++ bytes)) refl (append_assoc o output bytes)
      (Says (i ++ input) (o ++ output) bytes before c (talks_then a b before i o input output p q) say)

  -- a piece after some steps
  pub heard : (a b : D) (piece : List ℕ) → hears a piece b → Talks hears says a piece [] b
  heard a b piece hear = Hears [] [] piece a b Begins hear

module _ {D : Type 0} (hears says : D → List ℕ → D → Type 0) (stops : Served → D → List ℕ → D → Type 0) (waits : D → Type 0) where
  abbrev Said : D → List ℕ → List ℕ → D → Type 0
  Said = Talks hears says

  module _ (idle : D → Type 0) (begun : D → D → Type 0) where
    abbrev Next : Result Step Served → D → List ℕ → List ℕ → D → Type 0
    Next = AnswersNext hears says stops waits idle begun

    -- one more request
    pub said_more : (a b c : D) (output due : List ℕ) → Talks hears says a [] output b → Next (Ok steps.Answered) b output due c → Talks hears says a [] due c
    said_more a b c output due p q = talks_as hears says a c [] (output ++ q.0) [] due refl (sym q.3) (Says [] output q.0 b c p q.1)

    -- no more is whole
    pub no_more : (a b c : D) (output due : List ℕ) → Talks hears says a [] output b → Next (Ok steps.Nothing) b output due c → Talks hears says a [] due c
    no_more a b c output due p q = talks_as hears says a c [] output [] due refl (sym q.3) (Hears [] output [] b c p q.1)

    -- the next request ended the dialogue
    pub part_stops : (end : Served) (a b c : D) (output due : List ℕ) → Talks hears says a [] output b → Next (Err end) b output due c → IsStopped hears says stops waits end a [] due c
    part_stops end a b c output due p q = record { before = b; said = output; bytes = q.0; talked = p; stopped = q.1; output_is = q.2 }

  pub stopped_then : (end : Served) (a b c : D) (i o i' o' : List ℕ) → Talks hears says a i o b → IsStopped hears says stops waits end b i' o' c → IsStopped hears says stops waits end a (i ++ i') (o ++ o') c
  stopped_then end a b c i o i' o' p q = record {
    before = q.before;
    said = o ++ q.said;
    bytes = q.bytes;
    talked = talks_then hears says a b q.before i o i' q.said p q.talked;
    stopped = q.stopped;
    output_is = ap (λ (x : List ℕ). o ++ x) q.output_is ∙ sym (append_assoc o q.said q.bytes);
  }

  pub waits_then : (a b c : D) (i o i' o' : List ℕ) → Talks hears says a i o b → Waits hears says stops waits b i' o' c → Waits hears says stops waits a (i ++ i') (o ++ o') c
  waits_then a b c i o i' o' p q = record { talked = talks_then hears says a b c i o i' o' p q.talked; quiet = q.quiet }

  written_so_far : (a b c : D) (i o i' whole : List ℕ) → Talks hears says a i o b
      → Talks hears says b i' whole c ⊎ ((end : Served) × IsStopped hears says stops waits end b i' whole c)
      → Talks hears says a (i ++ i') (o ++ whole) c ⊎ ((end : Served) × IsStopped hears says stops waits end a (i ++ i') (o ++ whole) c)
  written_so_far a b c i o i' whole p (inl talked) = inl (talks_then hears says a b c i o i' whole p talked)
  written_so_far a b c i o i' whole p (inr stopped) = inr (stopped.0, stopped_then stopped.0 a b c i o i' whole p stopped.1)

  pub part_then : (a b c : D) (i o i' o' : List ℕ) → Talks hears says a i o b → WritesPart hears says stops waits b i' o' c → WritesPart hears says stops waits a (i ++ i') (o ++ o') c
  part_then a b c i o i' o' p q = record {
    whole = o ++ q.whole;
    rest = q.rest;
    parts = ap (λ (x : List ℕ). o ++ x) q.parts ∙ sym (append_assoc o o' q.rest);
    done = written_so_far a b c i o i' q.whole p q.done;
  }

  pub loses_then : (a b c : D) (i o i' o' : List ℕ) → Talks hears says a i o b → LosesPiece hears says stops waits b i' o' c → LosesPiece hears says stops waits a (i ++ i') (o ++ o') c
  loses_then a b c i o i' o' p q = record {
    heard = i ++ q.heard;
    piece = q.piece;
    some = q.some;
    input_is = ap (λ (x : List ℕ). i ++ x) q.input_is ∙ sym (append_assoc i q.heard q.piece);
    talked = talks_then hears says a b c i o q.heard o' p q.talked;
  }

  pub ends_then : (end : Served) (a b c : D) (i o i' o' : List ℕ) → Talks hears says a i o b → EndsWritten hears says stops waits end b i' o' c → EndsWritten hears says stops waits end a (i ++ i') (o ++ o') c
  ends_then served.Write a b c i o i' o' p q = part_then a b c i o i' o' p q
  ends_then (served.Malformed code) a b c i o i' o' p q = stopped_then (served.Malformed code) a b c i o i' o' p q
  ends_then served.Protocol a b c i o i' o' p q = stopped_then served.Protocol a b c i o i' o' p q
  ends_then served.Foreign a b c i o i' o' p q = stopped_then served.Foreign a b c i o i' o' p q
  ends_then served.Quit a b c i o i' o' p q = stopped_then served.Quit a b c i o i' o' p q
  ends_then served.Memory a b c i o i' o' p q = stopped_then served.Memory a b c i o i' o' p q
  ends_then served.Ended a b c i o i' o' p q = stopped_then served.Ended a b c i o i' o' p q
  ends_then served.Truncated a b c i o i' o' p q = stopped_then served.Truncated a b c i o i' o' p q
  ends_then served.Read a b c i o i' o' p q = stopped_then served.Read a b c i o i' o' p q
  ends_then served.TurnsSpent a b c i o i' o' p q = stopped_then served.TurnsSpent a b c i o i' o' p q

  pub conversed_then : (between : D → Bool) (end : Served) (a b c : D) (i o i' o' : List ℕ) → Talks hears says a i o b → Conversed hears says stops waits between end b i' o' c → Conversed hears says stops waits between end a (i ++ i') (o ++ o') c
  conversed_then between served.Ended a b c i o i' o' p q = (waits_then a b c i o i' o' p q.0, q.1)
  conversed_then between served.Truncated a b c i o i' o' p q = (waits_then a b c i o i' o' p q.0, q.1)
  conversed_then between served.Read a b c i o i' o' p q = waits_then a b c i o i' o' p q
  conversed_then between served.TurnsSpent a b c i o i' o' p q = waits_then a b c i o i' o' p q
  conversed_then between served.Write a b c i o i' o' p q = part_then a b c i o i' o' p q
  conversed_then between served.Memory a b c i o i' o' p (inl stopped) = inl (stopped_then served.Memory a b c i o i' o' p stopped)
  conversed_then between served.Memory a b c i o i' o' p (inr lost) = inr (loses_then a b c i o i' o' p lost)
  conversed_then between (served.Malformed code) a b c i o i' o' p q = stopped_then (served.Malformed code) a b c i o i' o' p q
  conversed_then between served.Protocol a b c i o i' o' p q = stopped_then served.Protocol a b c i o i' o' p q
  conversed_then between served.Foreign a b c i o i' o' p q = stopped_then served.Foreign a b c i o i' o' p q
  conversed_then between served.Quit a b c i o i' o' p q = stopped_then served.Quit a b c i o i' o' p q

  -- the requests that had come before are answered first
  pub converses_further : (between : D → Bool) (end : Served) (a b c : D) (o i' o' : List ℕ) → Talks hears says a [] o b → Converses hears says stops waits between end b i' o' c → Converses hears says stops waits between end a i' (o ++ o') c
  converses_further between end a b c o i' o' p (inl q) = inl (conversed_then between end a b c [] o i' o' p q)
  converses_further between end a b c o i' o' p (inr (e, q)) = inr (e, record { unread = q.unread; answered = waits_then a b c [] o i' o' p q.answered })

  -- an end that a request caused, as one of a dialogue
  pub written_conversed : (between : D → Bool) (end : Served) (a b : D) (i o : List ℕ) → IsStop end → EndsWritten hears says stops waits end a i o b → Conversed hears says stops waits between end a i o b
  written_conversed between (served.Malformed code) a b i o stop p = p
  written_conversed between served.Protocol a b i o stop p = p
  written_conversed between served.Foreign a b i o stop p = p
  written_conversed between served.Quit a b i o stop p = p
  written_conversed between served.Write a b i o stop p = p
  written_conversed between served.Memory a b i o stop p = inl p
  written_conversed between served.Ended a b i o stop p = absurd stop
  written_conversed between served.Truncated a b i o stop p = absurd stop
  written_conversed between served.Read a b i o stop p = absurd stop
  written_conversed between served.TurnsSpent a b i o stop p = absurd stop

  stopped_written : (end : Served) (a b : D) (i o : List ℕ) → IsStop end → IsStopped hears says stops waits end a i o b → (o' : List ℕ) × EndsWritten hears says stops waits end a i o' b × (o ≡ o')
  stopped_written (served.Malformed code) a b i o stop p = (o, p, refl)
  stopped_written served.Protocol a b i o stop p = (o, p, refl)
  stopped_written served.Foreign a b i o stop p = (o, p, refl)
  stopped_written served.Quit a b i o stop p = (o, p, refl)
  stopped_written served.Memory a b i o stop p = (o, p, refl)
  stopped_written served.Write a b i o stop p = (o, record { whole = o; rest = []; parts = sym (append-nil o); done = inr (served.Write, p) }, refl)
  stopped_written served.Ended a b i o stop p = absurd stop
  stopped_written served.Truncated a b i o stop p = absurd stop
  stopped_written served.Read a b i o stop p = absurd stop
  stopped_written served.TurnsSpent a b i o stop p = absurd stop

  -- the output of some requests was written
  pub part_sent : (result : Result Bool Served) (a b : D) (output : List ℕ) (old new : Option (List ℕ)) → IfErr result IsStop
      → AnswersPart hears says stops waits result a output b → Appends old new output → SendsPart hears says stops waits result a old new b
  part_sent (Ok more) a b output old new stop p w = (output, p.0, p.1, w)
  part_sent (Err end) a b output old new stop p w =
      let s = stopped_written end a b [] output stop p in
      (s.0, s.1, subst (λ (x : List ℕ). Appends old new x) s.2 w)

  -- only a prefix of it was
  pub part_unsent : (result : Result Bool Served) (a b : D) (output : List ℕ) (old new : Option (List ℕ)) → AnswersPart hears says stops waits result a output b → WritesPrefix old new output
      → SendsPart hears says stops waits (Err served.Write) a old new b
  part_unsent (Ok more) a b output old new p f = (f.prefix, record { whole = output; rest = f.rest; parts = f.parts; done = inl p.0 }, f.appends)
  part_unsent (Err end) a b output old new p f = (f.prefix, record { whole = output; rest = f.rest; parts = f.parts; done = inr (end, p) }, f.appends)

  -- ---- all requests

  abbrev pub Sent : D → Option (List ℕ) → Option (List ℕ) → D → Type 0
  Sent a old new b = (output : List ℕ) × Talks hears says a [] output b × Appends old new output

  pub sent_nothing : (a : D) (old : Option (List ℕ)) → Sent a old old a
  sent_nothing a old = ([], Begins, Appends-nil old)

  pub sent_then : (a b c : D) (old mid new : Option (List ℕ)) → Sent a old mid b → Sent b mid new c → Sent a old new c
  sent_then a b c old mid new p q = (p.0 ++ q.0, talks_then hears says a b c [] p.0 [] q.0 p.1 q.1, Appends-trans old mid new p.0 q.0 p.2 q.2)

  abbrev pub EndsSent : Served → D → Option (List ℕ) → Option (List ℕ) → D → Type 0
  EndsSent end a old new b = (output : List ℕ) × EndsWritten hears says stops waits end a [] output b × Appends old new output

  pub sent_ends : (end : Served) (a b c : D) (old mid new : Option (List ℕ)) → Sent a old mid b → EndsSent end b mid new c → EndsSent end a old new c
  sent_ends end a b c old mid new p q = (p.0 ++ q.0, ends_then end a b c [] p.0 [] q.0 p.1 q.1, Appends-trans old mid new p.0 q.0 p.2 q.2)

  -- ---- turns

  module _ (between : D → Bool) where
    abbrev pub Turn : Result (Unit {0}) Served → D → Option (List ℕ) → Option (List ℕ) → Option (List ℕ) → Option (List ℕ) → D → Type 0
    Turn = TakesTurn hears says stops waits between

    now : (a : D) → waits a → Waits hears says stops waits a [] [] a
    now a w = record { talked = Begins; quiet = w }

    pub read_fails : (a : D) (left left' old : Option (List ℕ)) → waits a → Keeps left left' → Turn (Err served.Read) a left left' old old a
    read_fails a left left' old w kept = ([], [], Consumes-kept left left left' [] (Consumes-nil left) kept, now a w, Appends-nil old)

    abbrev pub Piece : Result (Unit {0}) Served → D → List ℕ → Option (List ℕ) → Option (List ℕ) → D → Type 0
    Piece = AnswersPiece hears says stops waits between

    -- no bytes are the end of the input
    pub input_ends : (a : D) (piece : List ℕ) (old : Option (List ℕ)) → waits a → true ≡ (length piece == 0) → between a ≡ true → Piece (Err served.Ended) a piece old old a
    input_ends a piece old w none is = subst (λ (x : List ℕ). Piece (Err served.Ended) a x old old a) (sym (empty_if piece (sym none))) ([], (now a w, is), Appends-nil old)

    pub input_stops : (a : D) (piece : List ℕ) (old : Option (List ℕ)) → waits a → true ≡ (length piece == 0) → between a ≡ false → Piece (Err served.Truncated) a piece old old a
    input_stops a piece old w none is = subst (λ (x : List ℕ). Piece (Err served.Truncated) a x old old a) (sym (empty_if piece (sym none))) ([], (now a w, is), Appends-nil old)

    pub piece_lost : (a : D) (piece : List ℕ) (old : Option (List ℕ)) → piece ≢ [] → Piece (Err served.Memory) a piece old old a
    piece_lost a piece old some = ([], inr (record { heard = []; piece = piece; some = some; input_is = refl; talked = Begins }), Appends-nil old)

    -- there was no buffer for the first read
    pub nothing_read : (a : D) → waits a → Converses hears says stops waits between served.Memory a [] [] a
    nothing_read a w = inr (refl, record { unread = refl; answered = now a w })

    pub piece_answered : (result : Result (Unit {0}) Served) (a b c : D) (piece : List ℕ) (old new : Option (List ℕ)) → IfErr result IsStop
        → hears a piece b → AnswersAll hears says stops waits result b old new c → Piece result a piece old new c
    piece_answered (Ok done) a b c piece old new stop hear p =
        (p.0, subst (λ (x : List ℕ). Waits hears says stops waits a x p.0 c) (append-nil piece) (waits_then a b c piece [] [] p.0 (heard hears says a b piece hear) p.1), p.2)
    piece_answered (Err end) a b c piece old new stop hear p =
        let so = written_conversed between end b c [] p.0 stop p.1 in
        (p.0, subst (λ (x : List ℕ). Conversed hears says stops waits between end a x p.0 c) (append-nil piece) (conversed_then between end a b c piece [] [] p.0 (heard hears says a b piece hear) so), p.2)

    -- a read took the piece
    pub turn_of : (result : Result (Unit {0}) Served) (a b : D) (piece : List ℕ) (left left' old new : Option (List ℕ)) → Consumes left left' piece → Piece result a piece old new b → Turn result a left left' old new b
    turn_of (Ok done) a b piece left left' old new taken p = (piece, p.0, taken, p.1, p.2)
    turn_of (Err end) a b piece left left' old new taken p = (piece, p.0, taken, p.1, p.2)

    pub no_turn : (a : D) (left old : Option (List ℕ)) → waits a → Turn (Ok tt) a left left old old a
    no_turn a left old w = ([], [], Consumes-nil left, now a w, Appends-nil old)

    pub turn_then : (result : Result (Unit {0}) Served) (a b c : D) (left left' left'' old mid new : Option (List ℕ)) → Turn (Ok tt) a left left' old mid b → Turn result b left' left'' mid new c → Turn result a left left'' old new c
    turn_then (Ok done) a b c left left' left'' old mid new p q =
        (p.0 ++ q.0, p.1 ++ q.1, Consumes-trans left left' left'' p.0 q.0 p.2 q.2, waits_then a b c p.0 p.1 q.0 q.1 p.3.talked q.3, Appends-trans old mid new p.1 q.1 p.4 q.4)
    turn_then (Err end) a b c left left' left'' old mid new p q =
        (p.0 ++ q.0, p.1 ++ q.1, Consumes-trans left left' left'' p.0 q.0 p.2 q.2, conversed_then between end a b c p.0 p.1 q.0 q.1 p.3.talked q.3, Appends-trans old mid new p.1 q.1 p.4 q.4)
