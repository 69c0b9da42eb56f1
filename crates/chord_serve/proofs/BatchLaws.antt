-- Requests answered one after another, and how a session ends.
use Rattle.std.proofs.Common.{◌≡◌, ℕ, Bool, List, [], ◌∷◌, ◌++◌, false, Option, Some, None, Ok, Err, refl, sym, ap, subst, ◌∙◌, append_assoc, inl, inr}
use Rattle.std.specs.List.{flat_map, AllByRecursion}
use Rattle.std.proofs.lemmas.List.{append-nil}
use Rattle.std.proofs.lemmas.List.Concat.{flat_map-cons, flat_map-append}
use Rattle.chord_wire.specs.declared.request.WireRequest.{WireRequest}
use Rattle.chord_wire.specs.declared.fault.WireFault.{WireFault}
use Rattle.chord_wire.specs.Spelling.{IsWireRequest}
use Rattle.chord_wire.specs.Reading.{next_request, body_at}
use Rattle.chord_session.specs.SessionState.{SessionState}
use Rattle.chord_serve.specs.declared.asker.Asked.{Asked}
use Rattle.chord_serve.specs.declared.served.Served.{Served}
use Rattle.chord_serve.specs.declared.served.Served.TheVariants as served
use Rattle.std.specs.declared.alloc.AllocError.{AllocError}
use Rattle.chord_serve.specs.Question.{Question}
use Rattle.chord_serve.specs.Output.{bytes_written, state_after, questions}
use Rattle.chord_serve.specs.Steps.{Begins, Step}
use Rattle.chord_serve.proofs.Serving.{Serves, Serves-append, as_function, serves}
use Rattle.chord_wire.specs.Streams.{request_frame, Spells}
use Rattle.chord_wire.specs.SessionSpelling.{closed_frame}
use Rattle.chord_serve.specs.declared.client_session.ClientSession.{ClientSession}
use Rattle.chord_serve.specs.declared.parted.Parted.{Parted}
use Rattle.chord_serve.specs.declared.parted.Parted.TheVariants as parted
use Rattle.chord_serve.specs.Parting.{client, parted_as, KeptAs, OverAs}
use Rattle.chord_serve.specs.Served.{fault_frame, is_other, AreOfVersion, Dealt, IsRefused, Refuses, DealsWithAll, ClosesNext, Closes, StopsAfter, IsParted, TellsFault, TellsClosed}

-- nothing is decided before the first byte
pub next_of_nothing : next_request [] ≡ Ok None
unfolding next_request body_at
next_of_nothing = refl

pub AreOfVersion-append : (v w x : Option ℕ) (rs ts : List WireRequest) → AreOfVersion v rs w → AreOfVersion w ts x → AreOfVersion v (rs ++ ts) x
AreOfVersion-append v w x [] ts p q = subst (λ (u : Option ℕ). AreOfVersion u ts x) p q
AreOfVersion-append v w x (r ∷ rs) ts p q = (p.0, AreOfVersion-append (Some r.version) w x rs ts p.1 q)

each-append : (rs ts : List WireRequest) → AllByRecursion IsWireRequest rs → AllByRecursion IsWireRequest ts → AllByRecursion IsWireRequest (rs ++ ts)
each-append [] ts p q = q
each-append (r ∷ rs) ts p q = (p.0, each-append rs ts p.1 q)

module _ {A : Type 0} (answers : A → Question → Asked → A → Type 0) where
  pub nothing : (v : Option ℕ) (s : SessionState) (a : A) (bytes : List ℕ) → Dealt answers v s a bytes [] bytes v s a
  unfolding bytes_written state_after questions
  nothing v s a bytes = record { requests = []; given = []; spelled = record { each = tt; parts = refl }; versions = refl; output_is = refl; state_is = refl; answered = refl }

  -- the steps for the answered requests
  steps : (v : Option ℕ) (s : SessionState) (a : A) (bytes output rest : List ℕ) (w : Option ℕ) (t : SessionState) (b : A) (p : Dealt answers v s a bytes output rest w t b) → Serves answers s a p.requests output t b
  steps v s a bytes output rest w t b p = serves answers s a p.requests output t b (record { given = p.given; output_is = p.output_is; state_is = p.state_is; answered = p.answered })

  made_of : (v : Option ℕ) (s : SessionState) (a : A) (requests : List WireRequest) (bytes output rest : List ℕ) (w : Option ℕ) (t : SessionState) (b : A) → Spells bytes requests rest → AreOfVersion v requests w → Serves answers s a requests output t b → Dealt answers v s a bytes output rest w t b
  made_of v s a requests bytes output rest w t b spelled versions h =
      let f = as_function answers s a requests output t b h in
      record { requests = requests; given = f.given; spelled = spelled; versions = versions; output_is = f.output_is; state_is = f.state_is; answered = f.answered }

  -- some requests answered after others
  pub Dealt-then : (v w x : Option ℕ) (s t u : SessionState) (a b c : A) (bytes first rest second end : List ℕ) → Dealt answers v s a bytes first rest w t b → Dealt answers w t b rest second end x u c → Dealt answers v s a bytes (first ++ second) end x u c
  Dealt-then v w x s t u a b c bytes first rest second end p q =
      let parts : bytes ≡ flat_map request_frame (p.requests ++ q.requests) ++ end =
      p.spelled.parts ∙ ap (λ (ys : List ℕ). flat_map request_frame p.requests ++ ys) q.spelled.parts ∙ sym (append_assoc (flat_map request_frame p.requests) (flat_map request_frame q.requests) end) ∙ ap (λ (ys : List ℕ). ys ++ end) (sym (flat_map-append request_frame p.requests q.requests)) in
      made_of v s a (p.requests ++ q.requests) bytes (first ++ second) end x u c (record { each = each-append p.requests q.requests p.spelled.each q.spelled.each; parts = parts })
      (AreOfVersion-append v w x p.requests q.requests p.versions q.versions)
      (Serves-append answers s a p.requests q.requests first second t u b c (steps v s a bytes first rest w t b p) (steps w t b rest second end x u c q))

  -- more bytes came
  pub Dealt-fed : (v w : Option ℕ) (s t : SessionState) (a b : A) (bytes output rest more : List ℕ) → Dealt answers v s a bytes output rest w t b → Dealt answers v s a (bytes ++ more) output (rest ++ more) w t b
  Dealt-fed v w s t a b bytes output rest more p = record {
    requests = p.requests;
    given = p.given;
    spelled = record { each = p.spelled.each; parts = ap (λ (ys : List ℕ). ys ++ more) p.spelled.parts ∙ append_assoc (flat_map request_frame p.requests) rest more };
    versions = p.versions;
    output_is = p.output_is;
    state_is = p.state_is;
    answered = p.answered;
  }

  -- one request
  pub one_dealt : (v : Option ℕ) (s t : SessionState) (a b : A) (r : WireRequest) (bytes output rest : List ℕ) → IsWireRequest r × (bytes ≡ request_frame r ++ rest) → is_other v r.version ≡ false → Step answers s a r output t b → Dealt answers v s a bytes output rest (Some r.version) t b
  one_dealt v s t a b r bytes output rest fits same step =
      made_of v s a (r ∷ []) bytes output rest (Some r.version) t b
      (record { each = (fits.0, tt); parts = fits.1 ∙ ap (λ (ys : List ℕ). ys ++ rest) (sym (append-nil (request_frame r)) ∙ sym (flat_map-cons request_frame r [])) })
      (same, refl)
      (output, [], t, b, step, (refl, refl, refl), sym (append-nil output))

  pub stops_at_once : (o : Bool) (v : Option ℕ) (s : SessionState) (a : A) (bytes : List ℕ) → StopsAfter answers o v s a bytes [] (parted.Kept (client v s a))
  stops_at_once o v s a bytes = record { rest = bytes; version = v; state = s; asker = a; dealt = nothing v s a bytes; last = refl }

  -- an end, with the output added for it
  abbrev pub EndsSo : Served → Bool → Option ℕ → SessionState → A → List ℕ → List ℕ → List ℕ → Parted A → Type 0
  EndsSo end o v s a bytes old new left = (output : List ℕ) × IsParted answers o end v s a bytes output left × (new ≡ old ++ output)

  pub memory_ends : (o : Bool) (v : Option ℕ) (s : SessionState) (a : A) (bytes old new : List ℕ) → new ≡ old → EndsSo served.Memory o v s a bytes old new (parted.Kept (client v s a))
  memory_ends o v s a bytes old new e = ([], stops_at_once o v s a bytes, e ∙ sym (append-nil old))

  refuses_nothing : (o : Bool) (v : Option ℕ) (s : SessionState) (a : A) (bytes : List ℕ) (f : WireFault) → IsRefused answers o v bytes f → Refuses answers o v s a bytes (fault_frame f) f (client v s a)
  refuses_nothing o v s a bytes f refused = record { before = []; rest = bytes; dealt = nothing v s a bytes; refused = refused; output_is = refl }

  pub refused_ends : (end : Served) (f : WireFault) (o : Bool) (v : Option ℕ) (s : SessionState) (a : A) (bytes old new : List ℕ) → IsRefused answers o v bytes f → TellsFault end f old new → EndsSo end o v s a bytes old new (parted.Kept (client v s a))
  refused_ends (served.Malformed code) f o v s a bytes old new refused w = (fault_frame f, (f, w.0, refuses_nothing o v s a bytes f refused), w.1)
  refused_ends served.Memory f o v s a bytes old new refused w = memory_ends o v s a bytes old new w
  refused_ends served.Write f o v s a bytes old new refused w = absurd w
  refused_ends served.Ended f o v s a bytes old new refused w = absurd w
  refused_ends served.Truncated f o v s a bytes old new refused w = absurd w
  refused_ends served.Read f o v s a bytes old new refused w = absurd w
  refused_ends served.TurnsSpent f o v s a bytes old new refused w = absurd w
  refused_ends served.Protocol f o v s a bytes old new refused w = absurd w
  refused_ends served.Foreign f o v s a bytes old new refused w = absurd w
  refused_ends served.Quit f o v s a bytes old new refused w = absurd w

  pub closed_ends : (end : Served) (o : Bool) (v : Option ℕ) (s : SessionState) (a : A) (bytes old new : List ℕ) → ClosesNext o bytes → TellsClosed end old new → EndsSo end o v s a bytes old new (parted.Over a)
  closed_ends served.Quit o v s a bytes old new closed w = (closed_frame, record { before = []; rest = bytes; version = v; state = s; dealt = nothing v s a bytes; closed = closed; output_is = refl }, w)
  closed_ends served.Memory o v s a bytes old new closed w = ([], record { rest = bytes; version = v; state = s; asker = a; dealt = nothing v s a bytes; last = inr (closed, refl) }, w ∙ sym (append-nil old))
  closed_ends (served.Malformed code) o v s a bytes old new closed w = absurd w
  closed_ends served.Write o v s a bytes old new closed w = absurd w
  closed_ends served.Ended o v s a bytes old new closed w = absurd w
  closed_ends served.Truncated o v s a bytes old new closed w = absurd w
  closed_ends served.Read o v s a bytes old new closed w = absurd w
  closed_ends served.TurnsSpent o v s a bytes old new closed w = absurd w
  closed_ends served.Protocol o v s a bytes old new closed w = absurd w
  closed_ends served.Foreign o v s a bytes old new closed w = absurd w

  pub step_ends : (refused : AllocError) (o : Bool) (v : Option ℕ) (s t : SessionState) (a b : A) (r : WireRequest) (bytes rest old new : List ℕ) → next_request bytes ≡ Ok (Some (r, rest)) → is_other v r.version ≡ false → Begins answers (Err refused) s a r old new t b
      → EndsSo served.Memory o v s a bytes old new (parted.Over b)
  step_ends refused o v s t a b r bytes rest old new next same d =
      ([], record { rest = bytes; version = v; state = s; asker = a; dealt = nothing v s a bytes; last = inl (record { request = r; behind = rest; next = next; same_version = same; may_ask = d.1 }) }, d.0 ∙ sym (append-nil old))

  -- such an end of a connection that is not over before
  abbrev pub EndsNow : Served → Bool → Bool → ClientSession A → List ℕ → List ℕ → List ℕ → Parted A → Type 0
  EndsNow end o over e bytes old new left = (output : List ℕ) × (over ≡ false → IsParted answers o end e.version e.numbers e.asker bytes output left) × (new ≡ old ++ output)

  pub kept_now : (end : Served) (o over : Bool) (e : ClientSession A) (bytes old new : List ℕ) → EndsSo end o e.version e.numbers e.asker bytes old new (parted.Kept e) → EndsNow end o over e bytes old new (parted_as over e)
  kept_now end o over e bytes old new p = (p.0, λ going. subst (λ (b : Bool). IsParted answers o end e.version e.numbers e.asker bytes p.0 (parted_as b e)) (sym going) p.1, p.2)

  pub over_now : (end : Served) (o over : Bool) (e : ClientSession A) (a : A) (bytes old new : List ℕ) → EndsSo end o e.version e.numbers e.asker bytes old new (parted.Over a) → EndsNow end o over e bytes old new (parted.Over a)
  over_now end o over e a bytes old new p = (p.0, λ going. p.1, p.2)

  -- ---- what comes after some requests

  kept_map : (left : Parted A) (P Q : ClientSession A → Type 0) → ((c : ClientSession A) → P c → Q c) → KeptAs left P → KeptAs left Q
  kept_map (parted.Kept c) P Q f p = f c p
  kept_map (parted.Over a) P Q f p = absurd p

  over_map : (left : Parted A) (P Q : A → Type 0) → ((a : A) → P a → Q a) → OverAs left P → OverAs left Q
  over_map (parted.Kept c) P Q f p = absurd p
  over_map (parted.Over a) P Q f p = f a p

  all_after : (v w : Option ℕ) (s t : SessionState) (a b : A) (bytes first rest second end : List ℕ) → Dealt answers v s a bytes first rest w t b → (c : ClientSession A) → DealsWithAll answers w t b rest second end c → DealsWithAll answers v s a bytes (first ++ second) end c
  all_after v w s t a b bytes first rest second end p c q = record { dealt = Dealt-then v w c.version s t c.numbers a b c.asker bytes first rest second end p q.dealt; undecided = q.undecided }

  stops_after : (o : Bool) (v w : Option ℕ) (s t : SessionState) (a b : A) (left : Parted A) (bytes first rest second : List ℕ) → Dealt answers v s a bytes first rest w t b → StopsAfter answers o w t b rest second left → StopsAfter answers o v s a bytes (first ++ second) left
  stops_after o v w s t a b left bytes first rest second p q =
      record { rest = q.rest; version = q.version; state = q.state; asker = q.asker; dealt = Dealt-then v w q.version s t q.state a b q.asker bytes first rest second q.rest p q.dealt; last = q.last }

  refuses_after : (o : Bool) (v w : Option ℕ) (s t : SessionState) (a b : A) (bytes first rest second : List ℕ) (f : WireFault) → Dealt answers v s a bytes first rest w t b → (c : ClientSession A) → Refuses answers o w t b rest second f c → Refuses answers o v s a bytes (first ++ second) f c
  refuses_after o v w s t a b bytes first rest second f p c q = record {
    before = first ++ q.before;
    rest = q.rest;
    dealt = Dealt-then v w c.version s t c.numbers a b c.asker bytes first rest q.before q.rest p q.dealt;
    refused = q.refused;
    output_is = ap (λ (ys : List ℕ). first ++ ys) q.output_is ∙ sym (append_assoc first q.before (fault_frame f));
  }

  closes_after : (o : Bool) (v w : Option ℕ) (s t : SessionState) (a b : A) (bytes first rest second : List ℕ) → Dealt answers v s a bytes first rest w t b → (c : A) → Closes answers o w t b rest second c → Closes answers o v s a bytes (first ++ second) c
  closes_after o v w s t a b bytes first rest second p c q = record {
    before = first ++ q.before;
    rest = q.rest;
    version = q.version;
    state = q.state;
    dealt = Dealt-then v w q.version s t q.state a b c bytes first rest q.before q.rest p q.dealt;
    closed = q.closed;
    output_is = ap (λ (ys : List ℕ). first ++ ys) q.output_is ∙ sym (append_assoc first q.before closed_frame);
  }

  pub served_after : (end : Served) (o : Bool) (v w : Option ℕ) (s t : SessionState) (a b : A) (left : Parted A) (bytes first rest second : List ℕ) → Dealt answers v s a bytes first rest w t b → IsParted answers o end w t b rest second left → IsParted answers o end v s a bytes (first ++ second) left
  served_after served.Ended o v w s t a b left bytes first rest second p q = kept_map left _ _ (all_after v w s t a b bytes first rest second [] p) q
  served_after served.Truncated o v w s t a b left bytes first rest second p q = (q.0, q.1, kept_map left _ _ (all_after v w s t a b bytes first rest second q.0 p) q.2)
  served_after served.Read o v w s t a b left bytes first rest second p q = (q.0, kept_map left _ _ (all_after v w s t a b bytes first rest second q.0 p) q.1)
  served_after served.TurnsSpent o v w s t a b left bytes first rest second p q = (q.0, kept_map left _ _ (all_after v w s t a b bytes first rest second q.0 p) q.1)
  served_after (served.Malformed code) o v w s t a b left bytes first rest second p q = (q.0, q.1, kept_map left _ _ (refuses_after o v w s t a b bytes first rest second q.0 p) q.2)
  served_after served.Quit o v w s t a b left bytes first rest second p q = over_map left _ _ (closes_after o v w s t a b bytes first rest second p) q
  served_after served.Write o v w s t a b left bytes first rest second p q =
      let parts : first ++ q.0 ≡ (first ++ second) ++ q.1 = ap (λ (ys : List ℕ). first ++ ys) q.2 ∙ sym (append_assoc first second q.1) in (
        first ++ q.0,
        q.1,
        parts,
        elim q.3 [
          | inl some ↦ inl (stops_after o v w s t a b left bytes first rest q.0 p some)
          | inr (inl refused) ↦ inr (inl (refused.0, kept_map left _ _ (refuses_after o v w s t a b bytes first rest q.0 refused.0 p) refused.1))
          | inr (inr closed) ↦ inr (inr (over_map left _ _ (closes_after o v w s t a b bytes first rest q.0 p) closed))
        ],
      )
  served_after served.Memory o v w s t a b left bytes first rest second p q = stops_after o v w s t a b left bytes first rest second p q
  served_after served.Protocol o v w s t a b left bytes first rest second p q = absurd q
  served_after served.Foreign o v w s t a b left bytes first rest second p q = absurd q

  -- ---- the output is written

  -- a session that answered all requests answered some
  all_stops : (o : Bool) (v : Option ℕ) (s : SessionState) (a : A) (left : Parted A) (bytes output rest : List ℕ) → KeptAs left (DealsWithAll answers v s a bytes output rest) → StopsAfter answers o v s a bytes output left
  all_stops o v s a (parted.Kept c) bytes output rest p = record { rest = rest; version = c.version; state = c.numbers; asker = c.asker; dealt = p.dealt; last = refl }
  all_stops o v s a (parted.Over b) bytes output rest p = absurd p

  -- only a prefix of the output was written
  pub prefix_served : (end : Served) (o : Bool) (v : Option ℕ) (s : SessionState) (a : A) (left : Parted A) (bytes whole prefix rest : List ℕ) → whole ≡ prefix ++ rest → IsParted answers o end v s a bytes whole left → IsParted answers o served.Write v s a bytes prefix left
  prefix_served served.Ended o v s a left bytes whole prefix rest e p = (whole, rest, e, inl (all_stops o v s a left bytes whole [] p))
  prefix_served served.Truncated o v s a left bytes whole prefix rest e p = (whole, rest, e, inl (all_stops o v s a left bytes whole p.0 p.2))
  prefix_served served.Read o v s a left bytes whole prefix rest e p = (whole, rest, e, inl (all_stops o v s a left bytes whole p.0 p.1))
  prefix_served served.TurnsSpent o v s a left bytes whole prefix rest e p = (whole, rest, e, inl (all_stops o v s a left bytes whole p.0 p.1))
  prefix_served (served.Malformed code) o v s a left bytes whole prefix rest e p = (whole, rest, e, inr (inl (p.0, p.2)))
  prefix_served served.Quit o v s a left bytes whole prefix rest e p = (whole, rest, e, inr (inr p))
  prefix_served served.Write o v s a left bytes whole prefix rest e p = (p.0, rest ++ p.1, p.2 ∙ ap (λ (ys : List ℕ). ys ++ p.1) e ∙ append_assoc prefix rest p.1, p.3)
  prefix_served served.Memory o v s a left bytes whole prefix rest e p = (whole, rest, e, inl p)
  prefix_served served.Protocol o v s a left bytes whole prefix rest e p = absurd p
  prefix_served served.Foreign o v s a left bytes whole prefix rest e p = absurd p
