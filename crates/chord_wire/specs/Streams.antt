-- What a whole stream spells. Source: our own.
use Rattle.std.specs.Prelude.{◌≡◌, ℕ, List, ◌++◌, Some, Ok}
use Rattle.std.specs.List.{flat_map, AllByRecursion}
use Rattle.chord_wire.specs.declared.request.WireRequest.{WireRequest}
use Rattle.chord_wire.specs.declared.answer.Answer.{Answer}
use Rattle.chord_wire.specs.Spelling.{IsWireRequest, frame, request_body}
use Rattle.chord_wire.specs.Replies.{IsAnswer, answer_body}
use Rattle.chord_wire.specs.Reading.{next_request}
use Rattle.chord_wire.specs.ReadingReplies.{next_answer}

-- the frame of a request
abbrev pub request_frame : WireRequest → List ℕ
request_frame r = frame (request_body r)

-- the frame of an answer
abbrev pub answer_frame : Answer → List ℕ
answer_frame a = frame (answer_body a)

-- the bytes are the frames of these requests, and then the rest
pub record Spells (bytes : List ℕ) (requests : List WireRequest) (rest : List ℕ) : Type 0 where
  pub each : AllByRecursion IsWireRequest requests
  pub parts : bytes ≡ flat_map request_frame requests ++ rest

-- the bytes are the frames of these answers, and then the rest
pub record SpellsAnswers (bytes : List ℕ) (answers : List Answer) (rest : List ℕ) : Type 0 where
  pub each : AllByRecursion IsAnswer answers
  pub parts : bytes ≡ flat_map answer_frame answers ++ rest

-- the rest begins with no whole request: it has a fault, or more bytes must come
abbrev pub HasNoNext : List ℕ → Type 0
HasNoNext rest = (r : WireRequest) (behind : List ℕ) → next_request rest ≡ Ok (Some (r, behind)) → ⊥

-- the rest begins with no whole answer: it has a fault, or more bytes must come
abbrev pub HasNoNextAnswer : List ℕ → Type 0
HasNoNextAnswer rest = (a : Answer) (behind : List ℕ) → next_answer rest ≡ Ok (Some (a, behind)) → ⊥
