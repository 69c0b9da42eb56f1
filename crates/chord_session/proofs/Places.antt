-- The reply frame at an index.
use Rattle.std.proofs.Common.{◌≡◌, ℕ, zero, suc, ◌<◌, List, [], ◌∷◌, length, get_or, set, Some, ap, arith}
use Rattle.chord_session.specs.declared.asked_request.AskedRequest.{AskedRequest}
use Rattle.chord_session.specs.SessionState.{SessionState}
use Rattle.chord_session.specs.Session.{frame_at}

-- with this frame
abbrev pub framed : AskedRequest → List ℕ → AskedRequest
framed k frame = record { request = k.request; frame = Some frame }

pub set_frame : (kept : List AskedRequest) (place : ℕ) (k : AskedRequest) (frame : List ℕ) → place < length kept → k ≡ get_or kept place k → set kept place (framed k frame) ≡ frame_at kept place frame
set_frame [] place k frame lt e = absurd (omega arith)
set_frame (x ∷ kept) zero k frame lt e = ap (λ (y : AskedRequest). framed y frame ∷ kept) e
set_frame (x ∷ kept) (suc place) k frame lt e = ap (λ (ys : List AskedRequest). x ∷ ys) (set_frame kept place k frame (omega arith) e)

-- a state of these parts
abbrev pub state_of : ℕ → List AskedRequest → SessionState
state_of floor kept = record { floor = floor; kept = kept }
