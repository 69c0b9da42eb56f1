-- The output and the questions of a session as functions of its requests and its asker's answers.
-- Source: our own.
use Rattle.std.specs.Prelude.{◌≡◌, ◌≢◌, ℕ, List, [], ◌∷◌, ◌++◌, Option, Some, None}
use Rattle.chord_map.specs.declared.request.Request.{Request}
use Rattle.chord_wire.specs.declared.request.WireRequest.{WireRequest}
use Rattle.chord_wire.specs.declared.fault.FaultCode.TheVariants as fault
use Rattle.chord_wire.specs.Spelling.{frame}
use Rattle.chord_wire.specs.Replies.{reply_body, fault_body}
use Rattle.chord_session.specs.declared.session.Move.{Move}
use Rattle.chord_session.specs.declared.session.Move.TheVariants.{Refuse, Again, Ask, Retry}
use Rattle.chord_session.specs.SessionState.{SessionState}
use Rattle.chord_session.specs.Session.{with_accepted, with_open_request, answered_at, frame_again, move_of}
use Rattle.chord_serve.specs.declared.asker.Asked.{Asked}
use Rattle.chord_serve.specs.declared.asker.Asked.TheVariants as asked
use Rattle.chord_serve.specs.Question.{Question, IsReplyTo}
use Rattle.chord_serve.specs.Question as question

-- the frame of an asker's answer
abbrev pub frame_of : ℕ → Asked → List ℕ
frame_of number (asked.Reply reply) = frame (reply_body number reply)
frame_of number asked.Full = frame (fault_body number fault.Full)
frame_of number asked.NoAnswer = frame (fault_body number fault.NoAnswer)
frame_of number asked.Memory = []

-- the session after this answer to a number: a reply's frame is stored
abbrev pub after_answer : SessionState → ℕ → Asked → SessionState
after_answer s number (asked.Reply reply) = answered_at s number (frame (reply_body number reply))
after_answer s number asked.Full = s
after_answer s number asked.NoAnswer = s
after_answer s number asked.Memory = s

-- what a session writes for a request, the session afterwards, and the answers left for later
-- questions
pub record Reaction : Type 0 where
  pub bytes : List ℕ
  pub state : SessionState
  pub unused : List Asked

-- a question takes the next answer
abbrev pub on_answer : SessionState → ℕ → List Asked → Reaction
on_answer s number [] = record { bytes = []; state = s; unused = [] }
on_answer s number (answer ∷ more) = record { bytes = frame_of number answer; state = after_answer s number answer; unused = more }

-- the reaction to a request by this move
abbrev pub react : Move → SessionState → WireRequest → List Asked → Reaction
react (Refuse code) s r given = record { bytes = frame (fault_body r.number code); state = s; unused = given }
react Again s r given = record { bytes = frame_again s r.number; state = s; unused = given }
react Ask s r given = on_answer (with_open_request s r.request) r.number given
react Retry s r given = on_answer s r.number given

-- the reaction to a request
abbrev pub reaction : SessionState → WireRequest → List Asked → Reaction
reaction s r given = react (move_of s r) (with_accepted s r) r given

-- the question that a move asks, if any, of a session that let the request in
abbrev pub question_of : Move → SessionState → WireRequest → Option Question
question_of (Refuse code) s r = None
question_of Again s r = None
question_of Ask s r = Some (question.Ask r.request s.floor)
question_of Retry s r = Some (question.Retry r.number s.floor)

-- the question that a request asks, if any
abbrev pub next_question : SessionState → WireRequest → Option Question
next_question s r = question_of (move_of s r) (with_accepted s r) r

abbrev pub and_then : Option Question → List Question → List Question
and_then None questions = questions
and_then (Some q) questions = q ∷ questions

-- all that the session writes
unfoldable pub bytes_written : SessionState → List WireRequest → List Asked → List ℕ
bytes_written s [] given = []
bytes_written s (r ∷ requests) given = (reaction s r given).bytes ++ bytes_written (reaction s r given).state requests (reaction s r given).unused

-- the session after all requests
unfoldable pub state_after : SessionState → List WireRequest → List Asked → SessionState
state_after s [] given = s
state_after s (r ∷ requests) given = state_after (reaction s r given).state requests (reaction s r given).unused

-- all questions, in order
unfoldable pub questions : SessionState → List WireRequest → List Asked → List Question
questions s [] given = []
questions s (r ∷ requests) given = and_then (next_question s r) (questions (reaction s r given).state requests (reaction s r given).unused)

-- the requests that questions ask anew
abbrev pub asked_anew : List Question → List Request
asked_anew [] = []
asked_anew (question.Ask request floor ∷ questions) = request ∷ asked_anew questions
asked_anew (question.Retry number floor ∷ questions) = asked_anew questions

-- The asker answered each question once, in order, with these answers. Memory is no answer.
abbrev pub AreAnswers : {A : Type 0} → (A → Question → Asked → A → Type 0) → A → List Question → List Asked → A → Type 0
AreAnswers {A = A} answers a [] [] a' = a' ≡ a
AreAnswers {A = A} answers a (q ∷ questions) (x ∷ given) a' = (b : A) × answers a q x b × (x ≢ asked.Memory) × AreAnswers answers b questions given a'
AreAnswers {A = A} answers a [] (x ∷ given) a' = ⊥
AreAnswers {A = A} answers a (q ∷ questions) [] a' = ⊥

-- puts a request with its question's answer, if it has one, in prefix of the pairs
abbrev pub and_pair : Option Question → WireRequest → List Asked → List (Request × Asked) → List (Request × Asked)
and_pair None r given pairs = pairs
and_pair (Some q) r [] pairs = pairs
and_pair (Some q) r (x ∷ given) pairs = (r.request, x) ∷ pairs

-- the requests whose questions were answered, in order, each with its answer
unfoldable pub answered_requests : SessionState → List WireRequest → List Asked → List (Request × Asked)
answered_requests s [] given = []
answered_requests s (r ∷ requests) given =
    and_pair (next_question s r) r given (answered_requests (reaction s r given).state requests (reaction s r given).unused)

-- a reply is of the request's kind
abbrev pub IsPaired : (Request × Asked) → Type 0
IsPaired pair = IsReplyTo pair.1 (Some pair.0)
