-- The one spelling of the frames in a session. Source: docs/protocol.md.
use Rattle.std.specs.Prelude.{◌≡◌, ℕ, ◌<◌, ◌^◌, Bool, true, false, List, [], ◌∷◌, ◌++◌, length}
use Rattle.std.specs.Int.{w64, to_be_bytes}
use Rattle.std.specs.List.{flat_map, AllByRecursion}
use Rattle.chord_wire.specs.declared.session_frame.Opening.{Opening}
use Rattle.chord_wire.specs.declared.session_frame.SessionFrame.{SessionFrame}
use Rattle.chord_wire.specs.declared.session_frame.SessionFrame.TheVariants as frames
use Rattle.chord_wire.specs.declared.session_answer.SessionAnswer.{SessionAnswer}
use Rattle.chord_wire.specs.declared.session_answer.SessionAnswer.TheVariants as answers
use Rattle.chord_wire.specs.Spelling.{request_body, frame, IsWireRequest}
use Rattle.chord_wire.specs.Replies.{answer_body, IsAnswer}

-- the bytes are the frames of these, each of which has one, and then the rest
pub record SpellsEach {X : Type 0} (HasFrame : X → Type 0) (frame_of : X → List ℕ) (bytes : List ℕ) (xs : List X) (rest : List ℕ) : Type 0 where
  pub each : AllByRecursion HasFrame xs
  pub parts : bytes ≡ flat_map frame_of xs ++ rest

-- ---- what a client sends

-- whether a session begins or is resumed
abbrev pub flag_field : Bool → List ℕ
flag_field false = 0 ∷ []
flag_field true = 1 ∷ []

-- the token, and the flag
abbrev pub opening_field : Opening → List ℕ
opening_field o = o.token.bytes ++ flag_field o.resumes

-- version 2, the operation, number 0 and floor 0, and what is behind them
abbrev pub control_body : ℕ → List ℕ → List ℕ
control_body operation behind = 2 ∷ operation ∷ to_be_bytes w64 0 ++ (to_be_bytes w64 0 ++ behind)

-- the body of a client's frame
abbrev pub session_body : SessionFrame → List ℕ
session_body (frames.Request r) = request_body r
session_body (frames.Open o) = control_body 4 (opening_field o)
session_body frames.Close = control_body 5 []

-- frames that have a spelling
abbrev pub IsSessionFrame : SessionFrame → Type 0
IsSessionFrame (frames.Request r) = IsWireRequest r
IsSessionFrame (frames.Open o) = length o.token.bytes ≡ 16
IsSessionFrame frames.Close = Unit {0}

-- a client's frame
abbrev pub session_frame : SessionFrame → List ℕ
session_frame x = frame (session_body x)

-- ---- what a server sends

-- version 1, the kind, number 0, and what is behind them
abbrev pub told_body : ℕ → List ℕ → List ℕ
told_body kind behind = 1 ∷ kind ∷ to_be_bytes w64 0 ++ behind

-- the body of a server's frame
abbrev pub session_answer_body : SessionAnswer → List ℕ
session_answer_body (answers.Answer a) = answer_body a
session_answer_body (answers.Opened floor last) = told_body 132 (to_be_bytes w64 floor ++ to_be_bytes w64 last)
session_answer_body answers.Closed = told_body 133 []

-- frames that have a spelling
abbrev pub IsSessionAnswer : SessionAnswer → Type 0
IsSessionAnswer (answers.Answer a) = IsAnswer a
IsSessionAnswer (answers.Opened floor last) = (floor < 2 ^ 64) × (last < 2 ^ 64)
IsSessionAnswer answers.Closed = Unit {0}

-- a server's frame
abbrev pub session_answer_frame : SessionAnswer → List ℕ
session_answer_frame x = frame (session_answer_body x)

-- the frame that says that a session goes on, with its floor and its last number
abbrev pub opened_frame : ℕ → ℕ → List ℕ
opened_frame floor last = session_answer_frame (answers.Opened floor last)

-- the frame that says that a session ended
abbrev pub closed_frame : List ℕ
closed_frame = session_answer_frame answers.Closed
