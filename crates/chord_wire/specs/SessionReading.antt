-- Reading the frames in a session from left to right, up to the first fault.
-- Source: docs/protocol.md.
use Rattle.std.specs.Prelude.{◌≡◌, ℕ, Bool, true, false, ◌&&◌, ◌||◌, List, [], ◌∷◌, length, Option, Some, None, Result, Ok, Err, nat_lt, slice_index, ◌==◌, if◌then◌else◌}
use Rattle.std.specs.Int.{w64}
use Rattle.chord_wire.specs.declared.fault.FaultCode.TheVariants.{BadLength, BadFloor, BadValue, Trailing}
use Rattle.chord_wire.specs.declared.fault.WireFault.{WireFault}
use Rattle.chord_wire.specs.declared.session_frame.Opening.{Opening}
use Rattle.chord_wire.specs.declared.session_frame.SessionFrame.{SessionFrame}
use Rattle.chord_wire.specs.declared.session_frame.SessionFrame.TheVariants as frames
use Rattle.chord_wire.specs.declared.session_answer.SessionAnswer.{SessionAnswer}
use Rattle.chord_wire.specs.declared.session_answer.SessionAnswer.TheVariants as answers
use Rattle.chord_wire.specs.Fault.{fault}
use Rattle.chord_wire.specs.Reading.{◌>>=◌, number_at, bytes_at, request_in, next_of, next_request}
use Rattle.chord_wire.specs.ReadingReplies.{answer_in}

-- the frame of a whole body, or its first fault: one of a session's own, or one that is read as it
-- is without a session
abbrev pub in_session : {X Y : Type 0} → (ℕ → ℕ → Bool) → (ℕ → List ℕ → Result Y WireFault) → (List ℕ → Result X WireFault) → (X → Y) → List ℕ → Result Y WireFault
in_session is_own own_in plain_in of_plain (version ∷ kind ∷ rest) =
    if is_own version kind then own_in kind rest
    else (do
      plain ← plain_in (version ∷ kind ∷ rest)
      Ok (of_plain plain))
in_session is_own own_in plain_in of_plain _ = Err (fault BadLength 0)

-- ---- what a client sends

-- whether this is an Open or a Close
abbrev pub is_control : ℕ → ℕ → Bool
is_control version operation = version == 2 && (operation == 4 || operation == 5)

-- the number and the floor, both 0: the bytes after them
unfoldable pub zeros_at : List ℕ → Result (List ℕ) WireFault
zeros_at bytes = do
  number ← number_at w64 (fault BadLength 0) bytes
  floor ← number_at w64 (fault BadFloor number.0) number.1
  if number.0 == 0 && floor.0 == 0 then Ok floor.1 else Err (fault BadFloor number.0)

-- 0 begins, 1 resumes
unfoldable pub flag_at : List ℕ → Result (Bool × List ℕ) WireFault
flag_at [] = Err (fault BadValue 0)
flag_at (flag ∷ rest) = if flag == 0 then Ok (false, rest) else (if flag == 1 then Ok (true, rest) else Err (fault BadValue 0))

-- the 16 bytes of the token, and the flag
unfoldable pub opening_at : List ℕ → Result (Opening × List ℕ) WireFault
opening_at bytes = do
  token ← bytes_at false (fault BadValue 0) 16 bytes
  flag ← flag_at token.1
  Ok (record { token = record { bytes = token.0 }; resumes = flag.0 }, flag.1)

-- an Open has a token and a flag, a Close nothing
unfoldable pub control_at : ℕ → List ℕ → Result (SessionFrame × List ℕ) WireFault
control_at operation bytes =
    if operation == 4 then (do
      opening ← opening_at bytes
      Ok (frames.Open opening.0, opening.1))
    else Ok (frames.Close, bytes)

-- the fields after the operation
unfoldable pub control_in : ℕ → List ℕ → Result SessionFrame WireFault
control_in operation bytes = do
  behind ← zeros_at bytes
  control ← control_at operation behind
  if length control.1 == 0 then Ok control.0 else Err (fault Trailing 0)

-- a client's frame of a whole body, or its first fault
unfoldable pub session_in : List ℕ → Result SessionFrame WireFault
session_in body = in_session is_control control_in request_in (λ request. frames.Request request) body

-- the client's next frame, and the bytes after it
unfoldable pub next_session : List ℕ → Result (Option (SessionFrame × List ℕ)) WireFault
next_session bytes = next_of 12 4372 session_in bytes

-- whether the next frame is an Open; None where too few bytes are there to tell
abbrev pub begins_with_open : List ℕ → Option Bool
begins_with_open bytes = if nat_lt (length bytes) 6 then None else Some (slice_index bytes 4 == 2 && slice_index bytes 5 == 4)

-- whether this is an Open
abbrev pub is_open : SessionFrame → Bool
is_open (frames.Request r) = false
is_open (frames.Open o) = true
is_open frames.Close = false

-- a request is found, or none yet, as if all frames were requests
abbrev pub AsAlone : Result (Option SessionFrame) WireFault → List ℕ → List ℕ → Type 0
AsAlone (Ok (Some (frames.Request r))) old new = next_request old ≡ Ok (Some (r, new))
AsAlone (Ok (Some (frames.Open o))) old new = Unit {0}
AsAlone (Ok (Some frames.Close)) old new = Unit {0}
AsAlone (Ok None) old new = next_request old ≡ Ok None
AsAlone (Err e) old new = Unit {0}

-- ---- what a server sends

-- whether this is an Opened or a Closed
abbrev pub is_told : ℕ → ℕ → Bool
is_told version kind = version == 1 && (kind == 132 || kind == 133)

-- an Opened has the floor and the last number, a Closed nothing
unfoldable pub told_at : ℕ → List ℕ → Result (SessionAnswer × List ℕ) WireFault
told_at kind bytes =
    if kind == 132 then (do
      floor ← number_at w64 (fault BadValue 0) bytes
      last ← number_at w64 (fault BadValue 0) floor.1
      Ok (answers.Opened floor.0 last.0, last.1))
    else Ok (answers.Closed, bytes)

-- the number is 0
abbrev pub told_under : ℕ → ℕ → List ℕ → Result (SessionAnswer × List ℕ) WireFault
told_under kind number bytes = if number == 0 then told_at kind bytes else Err (fault BadValue number)

-- the fields after the kind
unfoldable pub told_in : ℕ → List ℕ → Result SessionAnswer WireFault
told_in kind bytes = do
  number ← number_at w64 (fault BadLength 0) bytes
  told ← told_under kind number.0 number.1
  if length told.1 == 0 then Ok told.0 else Err (fault Trailing 0)

-- what a whole body is as a server's frame, or its first fault
unfoldable pub session_answer_in : List ℕ → Result SessionAnswer WireFault
session_answer_in body = in_session is_told told_in answer_in (λ answer. answers.Answer answer) body

-- the server's next frame, and the bytes after it
unfoldable pub next_session_answer : List ℕ → Result (Option (SessionAnswer × List ℕ)) WireFault
next_session_answer bytes = next_of 10 4098014 session_answer_in bytes
