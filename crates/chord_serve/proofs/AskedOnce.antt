-- Each number is asked anew once.
use Rattle.std.proofs.Common.{◌≡◌, ◌≢◌, ℕ, zero, suc, ◌+◌, ◌-◌, ◌≤◌, ◌||◌, false, eqb, ltb, leb, List, [], ◌∷◌, ◌++◌, length, None, refl, sym, ap, ◌∙◌, append_assoc, arith, inl, inr}
use Rattle.std.specs.List.{AllByRecursion}
use Rattle.std.proofs.lemmas.Bool.{ltb-false, or_parts, cases_Bool}
use Rattle.std.proofs.lemmas.List.{length-append, length-drop, append-nil}
use Rattle.chord_map.specs.declared.request.Request.{Request}
use Rattle.chord_wire.specs.declared.request.WireRequest.{WireRequest}
use Rattle.chord_wire.specs.Spelling.{IsWireRequest}
use Rattle.chord_session.specs.declared.asked_request.AskedRequest.{AskedRequest}
use Rattle.chord_session.specs.declared.session.Move.{Move}
use Rattle.chord_session.specs.declared.session.Move.TheVariants.{Refuse, Again, Ask, Retry}
use Rattle.chord_session.specs.SessionState.{SessionState}
use Rattle.chord_session.specs.Session.{last_number, is_out, raised, with_accepted, move_of, with_open_request, frame_at}
use Rattle.chord_serve.specs.declared.asker.Asked.{Asked}
use Rattle.chord_serve.specs.declared.asker.Asked.TheVariants as asked
use Rattle.chord_serve.specs.Question.{Question, asked_with}
use Rattle.chord_serve.specs.Question as question
use Rattle.chord_serve.specs.Output.{after_answer, react, question_of, and_then, questions, state_after, asked_anew, AreAnswers}

-- ---- the last number

pub floor_low : (s : SessionState) (r : WireRequest) → IsWireRequest r → is_out s r ≡ false → r.floor ≤ last_number s
floor_low s r fits within =
    let parts = or_parts (eqb r.number 0 || leb r.number s.floor) (ltb (last_number s + 1) r.number) within in
    let next : r.number ≤ last_number s + 1 = ltb-false _ _ parts.1 in
    elim fits.floor [
      | inl one ↦ omega (arith, one.1, next)
      | inr two ↦ omega (arith, two.1, next)
    ]

last_raised : (s : SessionState) (floor : ℕ) → floor ≤ last_number s → last_number (raised s floor) ≡ last_number s
last_raised s floor low = omega (arith, low, length-drop (floor - s.floor) s.kept)

accepted_last : (s : SessionState) (r : WireRequest) → IsWireRequest r → last_number (with_accepted s r) ≡ last_number s
accepted_last s r fits = elim (cases_Bool (is_out s r)) [
  | inl out ↦ rw out refl
  | inr within ↦ rw within (last_raised s r.floor (floor_low s r fits within))
]

frame_length : (ks : List AskedRequest) (place : ℕ) (frame : List ℕ) → length (frame_at ks place frame) ≡ length ks
frame_length [] place frame = refl
frame_length (k ∷ ks) zero frame = refl
frame_length (k ∷ ks) (suc place) frame = ap suc (frame_length ks place frame)

after_last : (s : SessionState) (number : ℕ) (answer : Asked) → last_number (after_answer s number answer) ≡ last_number s
after_last s number (asked.Reply reply) = ap (λ (n : ℕ). s.floor + n) (frame_length s.kept _ _)
after_last s number asked.Full = refl
after_last s number asked.NoAnswer = refl
after_last s number asked.Memory = refl

opened_last : (s : SessionState) (request : Request) → last_number (with_open_request s request) ≡ last_number s + 1
opened_last s request = omega (arith, length-append s.kept (record { request = request; frame = None } ∷ []))

module _ {A : Type 0} (answers : A → Question → Asked → A → Type 0) where
  -- as many are asked anew as the last number grows
  abbrev pub Counted : List WireRequest → SessionState → List Asked → Type 0
  Counted rs s given = (a b : A) → AllByRecursion IsWireRequest rs → AreAnswers answers a (questions s rs given) given b → last_number s + length (asked_anew (questions s rs given)) ≡ last_number (state_after s rs given)

  by_move : (m : Move) (w : SessionState) (r : WireRequest) (rs : List WireRequest) (given : List Asked) (n : ℕ) → last_number w ≡ n → ((t : SessionState) (more : List Asked) → Counted rs t more) → (a b : A) → AllByRecursion IsWireRequest rs
      → AreAnswers answers a (and_then (question_of m w r) (questions (react m w r given).state rs (react m w r given).unused)) given b
      → n + length (asked_anew (and_then (question_of m w r) (questions (react m w r given).state rs (react m w r given).unused))) ≡ last_number (state_after (react m w r given).state rs (react m w r given).unused)
  by_move (Refuse code) w r rs given n e later a b each h = ap (λ (k : ℕ). k + length (asked_anew (questions w rs given))) (sym e) ∙ later w given a b each h
  by_move Again w r rs given n e later a b each h = ap (λ (k : ℕ). k + length (asked_anew (questions w rs given))) (sym e) ∙ later w given a b each h
  by_move Ask w r rs [] n e later a b each h = absurd h
  by_move Ask w r rs (x ∷ more) n e later a b each h =
      let t = after_answer (with_open_request w r.request) r.number x in
      let more_is = later t more h.0 b each h.3 in
      omega (arith, e, more_is, after_last (with_open_request w r.request) r.number x, opened_last w r.request)
  by_move Retry w r rs [] n e later a b each h = absurd h
  by_move Retry w r rs (x ∷ more) n e later a b each h =
      let t = after_answer w r.number x in
      let more_is = later t more h.0 b each h.3 in
      omega (arith, e, more_is, after_last w r.number x)

  pub numbers_asked : (rs : List WireRequest) (s : SessionState) (given : List Asked) → Counted rs s given
  unfolding questions state_after
  numbers_asked [] s given a b each h = omega arith
  numbers_asked (r ∷ rs) s given a b each h = by_move (move_of s r) (with_accepted s r) r rs given (last_number s) (accepted_last s r each.0) (λ t more. numbers_asked rs t more) a b each.1 h

  -- the asker took in what was asked anew
  module _ (noted : A → List Request) (notes : (a b : A) (q : Question) (x : Asked) → answers a q x b → x ≢ asked.Memory → noted b ≡ asked_with q (noted a)) where
    one_more : (q : Question) (qs : List Question) (a b : A) → noted b ≡ asked_with q (noted a) → noted b ++ asked_anew qs ≡ noted a ++ asked_anew (q ∷ qs)
    one_more (question.Ask request floor) qs a b e = ap (λ (rs : List Request). rs ++ asked_anew qs) e ∙ append_assoc (noted a) (request ∷ []) (asked_anew qs)
    one_more (question.Retry number floor) qs a b e = ap (λ (rs : List Request). rs ++ asked_anew qs) e

    pub requests_asked : (qs : List Question) (given : List Asked) (a b : A) → AreAnswers answers a qs given b → noted b ≡ noted a ++ asked_anew qs
    requests_asked [] [] a b h = ap noted h ∙ sym (append-nil (noted a))
    requests_asked [] (x ∷ given) a b h = absurd h
    requests_asked (q ∷ qs) [] a b h = absurd h
    requests_asked (q ∷ qs) (x ∷ given) a b h = requests_asked qs given h.0 b h.3 ∙ one_more q qs a h.0 (notes a h.0 q x h.1 h.2)
