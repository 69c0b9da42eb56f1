-- One request after another, step by step; and that this is what the functions of a session say.
use Rattle.std.proofs.Common.{◌≡◌, ℕ, List, [], ◌∷◌, ◌++◌, Option, Some, refl, sym, ap, subst, ◌∙◌, append_assoc}
use Rattle.chord_wire.specs.declared.request.WireRequest.{WireRequest}
use Rattle.chord_session.specs.declared.session.Move.{Move}
use Rattle.chord_session.specs.declared.session.Move.TheVariants.{Refuse, Again, Ask, Retry}
use Rattle.chord_session.specs.SessionState.{SessionState}
use Rattle.chord_session.specs.Session.{with_accepted, with_open_request, move_of}
use Rattle.chord_serve.specs.declared.asker.Asked.{Asked}
use Rattle.chord_serve.specs.Question.{Question}
use Rattle.chord_serve.specs.Question as question
use Rattle.chord_serve.specs.Output.{Reaction, reaction, react, question_of, next_question, and_then, after_answer, bytes_written, state_after, questions, AreAnswers}
use Rattle.chord_serve.specs.Steps.{Asks, Does, Step}

module _ {A : Type 0} (answers : A → Question → Asked → A → Type 0) where
  -- one step after another, for each request in order
  abbrev pub Serves : SessionState → A → List WireRequest → List ℕ → SessionState → A → Type 0
  Serves s a [] output s' a' = (output ≡ []) × (s' ≡ s) × (a' ≡ a)
  Serves s a (r ∷ rs) output s' a' = (bytes : List ℕ) × (more : List ℕ) × (mid : SessionState) × (b : A) × Step answers s a r bytes mid b × Serves mid b rs more s' a' × (output ≡ bytes ++ more)

  pub Serves-append : (s : SessionState) (a : A) (rs ts : List WireRequest) (x y : List ℕ) (t u : SessionState) (b c : A) → Serves s a rs x t b → Serves t b ts y u c → Serves s a (rs ++ ts) (x ++ y) u c
  Serves-append s a [] ts x y t u b c p q =
      subst (λ (w : List ℕ). Serves s a ts (w ++ y) u c) (sym p.0) (subst (λ (r : SessionState). Serves r a ts y u c) p.1 (subst (λ (d : A). Serves t d ts y u c) p.2 q))
  Serves-append s a (r ∷ rs) ts x y t u b c p q =
      (p.0, p.1 ++ y, p.2, p.3, p.4, Serves-append p.2 p.3 rs ts p.1 y t u b c p.5 q, ap (λ (w : List ℕ). w ++ y) p.6 ∙ append_assoc p.0 p.1 y)

  -- ---- from steps to the functions

  abbrev made : List ℕ → SessionState → List Asked → Reaction
  made bytes s unused = record { bytes = bytes; state = s; unused = unused }

  -- answers that begin with those of this move make of it what was done
  record Reacts (m : Move) (t : SessionState) (a : A) (r : WireRequest) (bytes : List ℕ) (mid : SessionState) (b : A) (unused : List Asked) : Type 0 where
    given : List Asked
    same : react m t r given ≡ made bytes mid unused
    more : (qs : List Question) (c : A) → AreAnswers answers b qs unused c → AreAnswers answers a (and_then (question_of m t r) qs) given c

  asks_reacts : (s : SessionState) (a : A) (q : Question) (r : WireRequest) (bytes : List ℕ) (mid : SessionState) (b : A) (unused : List Asked) (m : Move) (t : SessionState)
      → ((x : Asked) → react m t r (x ∷ unused) ≡ react Retry s r (x ∷ unused)) → question_of m t r ≡ Some q
      → Asks answers s a q r.number bytes mid b → Reacts m t a r bytes mid b unused
  asks_reacts s a q r bytes mid b unused m t e qe p = record {
    given = p.answer ∷ unused;
    same = e p.answer ∙ ap (λ (x : List ℕ). made x (after_answer s r.number p.answer) unused) (sym p.bytes_are) ∙ ap (λ (x : SessionState). made bytes x unused) (sym p.state_is);
    more = λ qs c h. subst (λ (o : Option Question). AreAnswers answers a (and_then o qs) (p.answer ∷ unused) c) (sym qe) (b, p.asks, p.not_memory, h);
  }

  reacts : (m : Move) (t : SessionState) (a : A) (r : WireRequest) (bytes : List ℕ) (mid : SessionState) (b : A) (unused : List Asked) → Does answers m t a r bytes mid b → Reacts m t a r bytes mid b unused
  reacts (Refuse code) t a r bytes mid b unused p = record {
    given = unused;
    same = ap (λ (x : List ℕ). made x t unused) (sym p.0) ∙ ap (λ (x : SessionState). made bytes x unused) (sym p.1);
    more = λ qs c h. subst (λ (x : A). AreAnswers answers x qs unused c) p.2 h;
  }
  reacts Again t a r bytes mid b unused p = record {
    given = unused;
    same = ap (λ (x : List ℕ). made x t unused) (sym p.0) ∙ ap (λ (x : SessionState). made bytes x unused) (sym p.1);
    more = λ qs c h. subst (λ (x : A). AreAnswers answers x qs unused c) p.2 h;
  }
  reacts Ask t a r bytes mid b unused p = asks_reacts (with_open_request t r.request) a (question.Ask r.request t.floor) r bytes mid b unused Ask t (λ x. refl) refl p
  reacts Retry t a r bytes mid b unused p = asks_reacts t a (question.Retry r.number t.floor) r bytes mid b unused Retry t (λ x. refl) refl p

  -- the answers with which the functions say what was done
  pub record Functional (s : SessionState) (a : A) (rs : List WireRequest) (output : List ℕ) (s' : SessionState) (a' : A) : Type 0 where
    pub given : List Asked
    pub output_is : output ≡ bytes_written s rs given
    pub state_is : s' ≡ state_after s rs given
    pub answered : AreAnswers answers a (questions s rs given) given a'

  pub as_function : (s : SessionState) (a : A) (rs : List WireRequest) (output : List ℕ) (s' : SessionState) (a' : A) → Serves s a rs output s' a' → Functional s a rs output s' a'
  unfolding bytes_written state_after questions
  as_function s a [] output s' a' p = record { given = []; output_is = p.0; state_is = p.1; answered = p.2 }
  as_function s a (r ∷ rs) output s' a' p =
      let f = as_function p.2 p.3 rs p.1 s' a' p.5 in
      let one = reacts (move_of s r) (with_accepted s r) a r p.0 p.2 p.3 f.given p.4 in
      record {
        given = one.given;
        output_is = p.6 ∙ ap (λ (w : List ℕ). p.0 ++ w) f.output_is ∙ ap (λ (x : Reaction). x.bytes ++ bytes_written x.state rs x.unused) (sym one.same);
        state_is = f.state_is ∙ ap (λ (x : Reaction). state_after x.state rs x.unused) (sym one.same);
        answered = subst (λ (x : Reaction). AreAnswers answers a (and_then (next_question s r) (questions x.state rs x.unused)) one.given a') (sym one.same) (one.more (questions p.2 rs f.given) a' f.answered);
      }

  -- ---- and back

  abbrev Done : Move → SessionState → A → WireRequest → List Question → List Asked → A → Type 0
  Done m t a r qs given c = (b : A) × Does answers m t a r (react m t r given).bytes (react m t r given).state b × AreAnswers answers b qs (react m t r given).unused c

  does : (m : Move) (t : SessionState) (a : A) (r : WireRequest) (qs : List Question) (given : List Asked) (c : A) → AreAnswers answers a (and_then (question_of m t r) qs) given c → Done m t a r qs given c
  does (Refuse code) t a r qs given c h = (a, (refl, refl, refl), h)
  does Again t a r qs given c h = (a, (refl, refl, refl), h)
  does Ask t a r qs [] c h = absurd h
  does Ask t a r qs (x ∷ given) c h = (h.0, record { answer = x; not_memory = h.2; asks = h.1; bytes_are = refl; state_is = refl }, h.3)
  does Retry t a r qs [] c h = absurd h
  does Retry t a r qs (x ∷ given) c h = (h.0, record { answer = x; not_memory = h.2; asks = h.1; bytes_are = refl; state_is = refl }, h.3)

  pub as_relation : (s : SessionState) (a : A) (rs : List WireRequest) (given : List Asked) (a' : A) → AreAnswers answers a (questions s rs given) given a' → Serves s a rs (bytes_written s rs given) (state_after s rs given) a'
  unfolding bytes_written state_after questions
  as_relation s a [] [] a' h = (refl, refl, h)
  as_relation s a [] (x ∷ given) a' h = absurd h
  as_relation s a (r ∷ rs) given a' h =
      let x = reaction s r given in
      let d = does (move_of s r) (with_accepted s r) a r (questions x.state rs x.unused) given a' h in
      (x.bytes, bytes_written x.state rs x.unused, x.state, d.0, d.1, as_relation x.state d.0 rs x.unused a' d.2, refl)

  pub serves : (s : SessionState) (a : A) (rs : List WireRequest) (output : List ℕ) (s' : SessionState) (a' : A) → Functional s a rs output s' a' → Serves s a rs output s' a'
  serves s a rs output s' a' f =
      subst (λ (w : List ℕ). Serves s a rs w s' a') (sym f.output_is) (subst (λ (t : SessionState). Serves s a rs (bytes_written s rs f.given) t a') (sym f.state_is) (as_relation s a rs f.given a' f.answered))
