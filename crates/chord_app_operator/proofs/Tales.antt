-- What each call of an operator's link leaves true of it.
use Rattle.std.proofs.Common.{◌≡◌, ℕ, List, [], ◌∷◌, ◌++◌, take, length, Option, Result, Ok, Err, refl, sym, ap, subst, ◌∙◌}
use Rattle.std.proofs.lemmas.List.{append-nil}
use Rattle.std.specs.Prelude.{IfOk, OnErr}
use Rattle.std.specs.Io.KnownBytes.{Appends, Consumes, Keeps}
use Rattle.std.proofs.KnownBytes.{Appends-nil, Appends-trans, Appends-kept, Consumes-nil, Consumes-trans, Consumes-kept}
use Rattle.http.specs.declared.request.Request.{Request}
use Rattle.http_server.specs.declared.connection.Connection.{Connection}
use Rattle.http_server.specs.declared.response.Response.{Response}
use Rattle.http_server.specs.declared.state.Config.{Config}
use Rattle.http_server.specs.Connection.{config_of, history}
use Rattle.http_server.specs.Exchange.{Call, Calls, Chain}
use Rattle.http_server.specs.History.{History, IsQuiet, new_history, after_read, after_sent}
use Rattle.http_server.proofs.StreamLemmas.{Chain-append, Calls-none}
use Rattle.http_server.proofs.Theorems.{always_served}
use Rattle.chord_app_operator.specs.declared.link.duplex.Duplex.{Duplex}
use Rattle.chord_app_operator.specs.declared.link.machine.Machine.{Machine}
use Rattle.chord_app_operator.specs.Questions.{Question, Answer}
use Rattle.chord_app_operator.specs.Told.{ServesBy, Told}

module _ {S R W : Type 0} (answers : S → Request (List ℕ) → Response → S → Type 0) (most : ℕ)
    (left : R → Option (List ℕ)) (held : W → Option (List ℕ)) where
  -- a link that has read nothing
  pub told_new : (log : List (Duplex R W × S)) (stream : Duplex R W) (connection : Connection) (service : S)
      → log ≡ (stream, service) ∷ [] → (config_of connection).max_body_len ≡ most → history connection ≡ new_history
      → Told answers most left held log stream (config_of connection) (history connection) service
  told_new log stream connection service l body begun = record {
    first = (stream, service);
    begins = l;
    received = [];
    sent = [];
    read = Consumes-nil (left stream.reader);
    written = Appends-nil (held stream.writer);
    had = record {
      config = config_of connection;
      history = history connection;
      body = body;
      read = ap (λ (h : History). h.received) begun;
      written = ap (λ (h : History). h.sent) begun;
      served = always_served connection;
      calls = subst (λ (all : List Call). Chain answers service all service) (sym (ap (λ (h : History). h.calls) begun)) refl;
    };
    config_is = refl;
    history_is = refl;
  }

  -- a call that read these bytes, wrote those, and asked for the answers between two states
  pub told_then : (log : List (Duplex R W × S)) (stream stream' : Duplex R W) (old new : Connection) (now after : S) (more wrote : List ℕ)
      → Told answers most left held log stream (config_of old) (history old) now
      → Consumes (left stream.reader) (left stream'.reader) more → Appends (held stream.writer) (held stream'.writer) wrote
      → config_of new ≡ config_of old → (history new).received ≡ (history old).received ++ more
      → (history new).sent ≡ (history old).sent ++ wrote → Calls answers now after (history old).calls (history new).calls
      → Told answers most left held log stream' (config_of new) (history new) after
  told_then log stream stream' old new now after more wrote t c a config received sent calls =
      let before : Chain answers t.first.1 (history old).calls now =
      subst (λ (h : History). Chain answers t.first.1 h.calls now) t.history_is t.had.calls in
      record {
        first = t.first;
        begins = t.begins;
        received = t.received ++ more;
        sent = t.sent ++ wrote;
        read = Consumes-trans (left t.first.0.reader) (left stream.reader) (left stream'.reader) t.received more t.read c;
        written = Appends-trans (held t.first.0.writer) (held stream.writer) (held stream'.writer) t.sent wrote t.written a;
        had = record {
          config = config_of new;
          history = history new;
          body = ap (λ (x : Config). x.max_body_len) (config ∙ sym t.config_is) ∙ t.had.body;
          read = received ∙ ap (λ (x : List ℕ). x ++ more) (ap (λ (h : History). h.received) (sym t.history_is) ∙ t.had.read);
          written = sent ∙ ap (λ (x : List ℕ). x ++ wrote) (ap (λ (h : History). h.sent) (sym t.history_is) ∙ t.had.written);
          served = always_served new;
          calls = subst (λ (all : List Call). Chain answers t.first.1 all after) (sym calls.1)
              (Chain-append answers (history old).calls calls.0 t.first.1 now after before calls.2);
        };
        config_is = refl;
        history_is = refl;
      }

module _ {O R W : Type 0} (answers : O → Question → Answer → O → Type 0) (left : R → Option (List ℕ)) (held : W → Option (List ℕ)) where
  abbrev pub OfMachine : Machine O R W → Type 0
  OfMachine m = Told (ServesBy answers) 8192 left held m.first.items m.stream (config_of m.connection) (history m.connection) m.service

  -- it is told anew where these parts changed
  told_as : (new whole : Machine O R W) → new ≡ whole → OfMachine whole → OfMachine new
  told_as new whole e t = subst OfMachine (sym e) t

  -- a call that asked for nothing
  told_quietly : (old new : Machine O R W) (more wrote : List ℕ) → OfMachine old
      → new ≡ record old { connection = new.connection; stream = new.stream; is_lost = new.is_lost }
      → Consumes (left old.stream.reader) (left new.stream.reader) more → Appends (held old.stream.writer) (held new.stream.writer) wrote
      → config_of new.connection ≡ config_of old.connection
      → (history new.connection).received ≡ (history old.connection).received ++ more
      → (history new.connection).sent ≡ (history old.connection).sent ++ wrote
      → (history new.connection).calls ≡ (history old.connection).calls → OfMachine new
  told_quietly old new more wrote t same c a config received sent calls =
      told_as new (record old { connection = new.connection; stream = new.stream; is_lost = new.is_lost }) same
      (told_then (ServesBy answers) 8192 left held old.first.items old.stream new.stream old.connection new.connection old.service old.service more wrote t c a config received sent
      (Calls-none (ServesBy answers) old.service old.service (history old.connection).calls (history new.connection).calls refl calls))

  -- a read, whatever it gave
  pub machine_read : {E : Type 0} (old new : Machine O R W) (result : Result ℕ E) → OfMachine old
      → new ≡ record old { connection = new.connection; stream = new.stream; is_lost = new.is_lost }
      → new.stream.writer ≡ old.stream.writer → config_of new.connection ≡ config_of old.connection
      → IfOk result (λ n. (more : List ℕ) × (length more ≡ n) × Consumes (left old.stream.reader) (left new.stream.reader) more
      × (history new.connection ≡ after_read (history old.connection) more))
      → OnErr result ((history new.connection ≡ history old.connection) × Keeps (left old.stream.reader) (left new.stream.reader))
      → OfMachine new
  machine_read old new (Ok n) t same writer config ok err =
      told_quietly old new ok.0 [] t same ok.2
      (subst (λ (w : W). Appends (held old.stream.writer) (held w) []) (sym writer) (Appends-nil (held old.stream.writer))) config
      (ap (λ (h : History). h.received) ok.3)
      (ap (λ (h : History). h.sent) ok.3 ∙ sym (append-nil (history old.connection).sent))
      (ap (λ (h : History). h.calls) ok.3)
  machine_read old new (Err e) t same writer config ok err =
      told_quietly old new [] [] t same
      (Consumes-kept (left old.stream.reader) (left old.stream.reader) (left new.stream.reader) [] (Consumes-nil (left old.stream.reader)) err.1)
      (subst (λ (w : W). Appends (held old.stream.writer) (held w) []) (sym writer) (Appends-nil (held old.stream.writer))) config
      (ap (λ (h : History). h.received) err.0 ∙ sym (append-nil (history old.connection).received))
      (ap (λ (h : History). h.sent) err.0 ∙ sym (append-nil (history old.connection).sent))
      (ap (λ (h : History). h.calls) err.0)

  -- a write, whatever it wrote
  pub machine_written : {E : Type 0} (old new : Machine O R W) (result : Result ℕ E) → OfMachine old
      → new ≡ record old { connection = new.connection; stream = new.stream; is_lost = new.is_lost }
      → new.stream.reader ≡ old.stream.reader → config_of new.connection ≡ config_of old.connection
      → IfOk result (λ n. (history new.connection ≡ after_sent (history old.connection) n)
      × Appends (held old.stream.writer) (held new.stream.writer) (take n (history old.connection).pending))
      → OnErr result ((history new.connection ≡ history old.connection) × Keeps (held old.stream.writer) (held new.stream.writer))
      → OfMachine new
  machine_written old new (Ok n) t same reader config ok err =
      told_quietly old new [] (take n (history old.connection).pending) t same
      (subst (λ (r : R). Consumes (left old.stream.reader) (left r) []) (sym reader) (Consumes-nil (left old.stream.reader))) ok.1 config
      (ap (λ (h : History). h.received) ok.0 ∙ sym (append-nil (history old.connection).received))
      (ap (λ (h : History). h.sent) ok.0)
      (ap (λ (h : History). h.calls) ok.0)
  machine_written old new (Err e) t same reader config ok err =
      told_quietly old new [] [] t same
      (subst (λ (r : R). Consumes (left old.stream.reader) (left r) []) (sym reader) (Consumes-nil (left old.stream.reader)))
      (Appends-kept (held old.stream.writer) (held old.stream.writer) (held new.stream.writer) [] (Appends-nil (held old.stream.writer)) err.1) config
      (ap (λ (h : History). h.received) err.0 ∙ sym (append-nil (history old.connection).received))
      (ap (λ (h : History). h.sent) err.0 ∙ sym (append-nil (history old.connection).sent))
      (ap (λ (h : History). h.calls) err.0)

  -- the service answered what came
  pub machine_answered : (old new : Machine O R W) → OfMachine old
      → new ≡ record old { connection = new.connection; service = new.service } → config_of new.connection ≡ config_of old.connection
      → Calls (ServesBy answers) old.service new.service (history old.connection).calls (history new.connection).calls
      → IsQuiet (history old.connection) (history new.connection) → OfMachine new
  machine_answered old new t same config calls quiet =
      told_as new (record old { connection = new.connection; service = new.service }) same
      (told_then (ServesBy answers) 8192 left held old.first.items old.stream old.stream old.connection new.connection old.service new.service [] [] t
      (Consumes-nil (left old.stream.reader)) (Appends-nil (held old.stream.writer)) config
      (quiet.0 ∙ sym (append-nil (history old.connection).received))
      (quiet.2 ∙ sym (append-nil (history old.connection).sent)) calls)
