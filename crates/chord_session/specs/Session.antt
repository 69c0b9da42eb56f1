-- What a session does with a request. Source: our own.
use Rattle.std.specs.Prelude.{ℕ, zero, suc, ◌+◌, ◌-◌, ◌^◌, min, max, fold, Bool, ◌||◌, List, [], ◌∷◌, ◌++◌, length, drop, Option, Some, None, is_some, slice_get, option_and_then, nat_lt, nat_le, ◌==◌, if◌then◌else◌}
use Rattle.chord_map.specs.declared.request.Request.{Request}
use Rattle.chord_map.specs.Same.{same_request}
use Rattle.chord_wire.specs.declared.request.WireRequest.{WireRequest}
use Rattle.chord_wire.specs.declared.fault.FaultCode.TheVariants.{BadNumber, NumberReused}
use Rattle.chord_session.specs.declared.asked_request.AskedRequest.{AskedRequest}
use Rattle.chord_session.specs.declared.session.Move.{Move}
use Rattle.chord_session.specs.declared.session.Move.TheVariants as moves
use Rattle.chord_session.specs.SessionState.{SessionState}

-- a session before its first request
abbrev pub first_state : SessionState
first_state = record { floor = 0; kept = [] }

-- the last number asked
abbrev pub last_number : SessionState → ℕ
last_number s = s.floor + length s.kept

-- whether the request's number is out of line
abbrev pub is_out : SessionState → WireRequest → Bool
is_out s r = r.number == 0 || nat_le r.number s.floor || nat_lt (last_number s + 1) r.number

-- the session with its floor raised to this one; requests at or below it are dropped
abbrev pub raised : SessionState → ℕ → SessionState
raised s floor = record { floor = max s.floor floor; kept = drop (floor - s.floor) s.kept }

-- the session once it let the request in
abbrev pub with_accepted : SessionState → WireRequest → SessionState
with_accepted s r = if is_out s r then s else raised s r.floor

-- the index of a number's request
abbrev pub place_of : SessionState → ℕ → ℕ
place_of s number = number - s.floor - 1

-- a request asked before is answered again or asked again; another one under its number is refused
abbrev pub move_at : Option AskedRequest → Request → Move
move_at None request = moves.Ask
move_at (Some k) request = if same_request k.request request then (if is_some k.frame then moves.Again else moves.Retry) else moves.Refuse NumberReused

-- the move for a request
abbrev pub move_of : SessionState → WireRequest → Move
move_of s r = if is_out s r then moves.Refuse BadNumber else move_at (slice_get (raised s r.floor).kept (place_of (raised s r.floor) r.number)) r.request

-- the session with one more request, not answered yet
abbrev pub with_open_request : SessionState → Request → SessionState
with_open_request s request = record { floor = s.floor; kept = s.kept ++ record { request = request; frame = None } ∷ [] }

-- the requests with this reply frame at this index
abbrev pub frame_at : List AskedRequest → ℕ → List ℕ → List AskedRequest
frame_at [] place frame = []
frame_at (k ∷ ks) zero frame = record { request = k.request; frame = Some frame } ∷ ks
frame_at (k ∷ ks) (suc place) frame = k ∷ frame_at ks place frame

-- the session with this reply frame for a number
abbrev pub answered_at : SessionState → ℕ → List ℕ → SessionState
answered_at s number frame = record { floor = s.floor; kept = frame_at s.kept (place_of s number) frame }

-- the reply frame of a number, if it has one
abbrev pub frame_kept : SessionState → ℕ → Option (List ℕ)
frame_kept s number = option_and_then (λ (k : AskedRequest). k.frame) (slice_get s.kept (place_of s number))

abbrev pub bytes_of : Option (List ℕ) → List ℕ
bytes_of None = []
bytes_of (Some bytes) = bytes

-- the reply frame of a number, to be written again
abbrev pub frame_again : SessionState → ℕ → List ℕ
frame_again s number = bytes_of (frame_kept s number)

-- how many bytes a reply frame has, if there is one
abbrev pub length_of : Option (List ℕ) → ℕ
length_of None = 0
length_of (Some frame) = length frame

-- how many bytes the request's reply frame has, if there is one
abbrev pub frame_bytes : AskedRequest → ℕ
frame_bytes k = length_of k.frame

-- how many bytes the reply frames have together, or the greatest count
abbrev pub bytes_held : SessionState → ℕ
bytes_held s = fold (λ (sum : ℕ) (k : AskedRequest). min (sum + frame_bytes k) (2 ^ 64 - 1)) 0 s.kept
